use Rattle.std.proofs.Common.{arith}
use Rattle.bdb_format.specs.Terms.{InternalItem}
use Rattle.bdb_graph_tests.specs.Sought.{is_above}
use Rattle.test_images.proofs.of_tree.DescentLemmas.{monotone_by_neighbours}
use Rattle.bdb_graph_tests.proofs.descents.stays_true.Goals as goal

pub returns : goal.returns
returns c =
    monotone_by_neighbours (λ (item : InternalItem). is_above c.args.sought.now.key.now item.key) c.args.page.now.items
    (λ k above inside. c.loop-i.invariant k above (omega (arith, inside, c.loop-i-test.false, c.entries-i-end.ensures)))
