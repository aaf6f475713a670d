use Rattle.std.proofs.Common.{◌≡◌, ◌≤◌, ap, arith}
use Rattle.bdb_tree.proofs.of_graph.LinkedLemmas.{bucket_few}
use Rattle.bdb_buckets.proofs.TableLemmas.{table_is}
use Rattle.bdb_tree.specs.of_format.declared.metadata.Head.{Head}
use Rattle.bdb_tree.specs.of_format.Terms.{head_of}
use Rattle.bdb_buckets.proofs.table.buckets.Goals as goal

-- The greatest bucket has a page, whose number isn't less.
pub prove-unreachable-requires : goal.prove-unreachable-requires
prove-unreachable-requires c =
    let image = c.args.linked.now in
    let meta = c.args.meta.now in
    let last : c.head.result.last ≡ (head_of image).last = ap (λ (head : Head). head.last) c.head.ensures.head in
    let few : meta.max_bucket ≤ (head_of image).last =
    bucket_few image (head_of image) meta meta.max_bucket c.head.ensures.forest.formed c.head.ensures.forest.linked c.requires.meta (omega arith) in
    omega (arith, last, few)

pub returns-clause-table : goal.returns-clause-table
returns-clause-table c = table_is c.args.linked.now c.args.meta.now c.head.ensures.forest c.requires.stage c.requires.meta
