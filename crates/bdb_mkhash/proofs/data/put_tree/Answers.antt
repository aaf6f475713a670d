use Rattle.std.proofs.Common.{arith}
use Rattle.bdb_mktree.specs.of_places.Places.{values_seen}
use Rattle.bdb_mkhash.proofs.StoreLemmas.{takes_tree, tree_put}
use Rattle.bdb_mkhash.proofs.data.put_tree.Goals as goal

pub append_item-requires-clause-takes : goal.append_item-requires-clause-takes
append_item-requires-clause-takes c =
    takes_tree c.args.pages.now c.build_set.new.pages c.args.page c.args.sorted (values_seen c.args.values) c.in_ok-root.root c.requires.open c.requires.form
    c.in_ok-root.ensures (omega arith) c.requires.room

pub returns : goal.returns
returns c =
    tree_put c.args.page c.args.pages.now c.build_set.new.pages c.append_item.new.pages c.args.sorted (values_seen c.args.values) c.in_ok-root.root
    c.requires.open.there c.requires.form c.in_ok-root.ensures c.append_item.ensures
