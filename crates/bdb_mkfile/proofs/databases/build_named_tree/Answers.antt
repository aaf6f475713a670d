use Rattle.bdb_text_format.specs.Terms.{pairs_of}
use Rattle.bdb_mkfile.proofs.NamedBuildLemmas.{tree_built}
use Rattle.bdb_mkfile.proofs.databases.build_named_tree.Goals as goal

pub returns : goal.returns
returns c =
    tree_built c.args.settings.now (pairs_of c.args.list) c.args.pages.now c.build_tree.new.pages c.in_ok-root.root c.named_tree_meta.result
    (record {
      fit = c.requires.fit;
      own = c.requires.own;
      size = c.requires.size;
      order = c.requires.order;
      tree = c.in_ok-root.ensures;
      meta_is = c.named_tree_meta.ensures;
    })
