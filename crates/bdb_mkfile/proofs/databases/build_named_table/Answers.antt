use Rattle.std.proofs.Common.{◌∙◌, sym}
use Rattle.bdb_mkfile.proofs.Common.{length-map, pairs_of, slice_seen, unlined}
use Rattle.bdb_mkfile.proofs.NamedBuildLemmas.{table_built}
use Rattle.bdb_mkfile.proofs.databases.build_named_table.Goals as goal

pub returns : goal.returns
returns c =
    table_built c.args.settings.now (pairs_of c.args.list) c.args.pages.now c.build_table.new.pages c.in_ok-meta.meta c.named_table_meta.result
    c.in_ok-elements.elements
    (record {
      kind = c.requires.kind;
      own = c.requires.own;
      both = c.requires.sorted;
      size = c.requires.size;
      order = c.requires.order;
      some = c.requires.some;
      table = c.in_ok-meta.ensures;
      meta_is = c.named_table_meta.ensures;
      counted = c.in_ok-elements.ensures.count ∙ sym (length-map (slice_seen c.args.list) unlined);
    })
