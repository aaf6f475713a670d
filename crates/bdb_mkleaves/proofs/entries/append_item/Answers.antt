use Rattle.bdb_pack.specs.of_layout.Seen.{leaf_item_seen}
use Rattle.bdb_mkleaves.proofs.EntryLemmas.{item_held, item_long, item_placed}
use Rattle.bdb_mkleaves.proofs.entries.append_item.Goals as goal

pub append_leaf-requires-clause-place : goal.append_leaf-requires-clause-place
append_leaf-requires-clause-place c = item_placed c.args.pages.now c.args.leaf (leaf_item_seen c.args.item.now) c.requires.takes

pub returns-clause-holds : goal.returns-clause-holds
returns-clause-holds c =
    item_held c.args.pages.now c.append_leaf.new.self c.args.leaf
    (leaf_item_seen c.args.item.now) c.requires.leaf c.append_leaf.ensures c.requires.takes

pub returns-clause-long : goal.returns-clause-long
returns-clause-long c =
    item_long c.args.pages.now c.append_leaf.new.self c.args.leaf
    (leaf_item_seen c.args.item.now) c.requires.leaf c.append_leaf.ensures c.requires.takes
