use Rattle.std.proofs.Common.{arith}
use Rattle.bdb_places.specs.Places.{values_seen}
use Rattle.bdb_mkleaves.proofs.SetPutLemmas.{takes_tree, tree_put}
use Rattle.bdb_mkleaves.proofs.leaves.Leaves.put_tree.Goals as goal

pub append-requires-clause-leaves : goal.append-requires-clause-leaves
append-requires-clause-leaves c =
    (takes_tree c.args.self.now c.args.pages.now c.put.new.pages c.build_set.new.pages c.args.key.now (values_seen c.args.values) c.args.sorted
    c.in_ok-root.root
    c.requires.leaves c.in_ok-put.ensures c.in_ok-root.ensures (omega arith) c.requires.many c.requires.room).0

pub append-requires-clause-takes : goal.append-requires-clause-takes
append-requires-clause-takes c =
    (takes_tree c.args.self.now c.args.pages.now c.put.new.pages c.build_set.new.pages c.args.key.now (values_seen c.args.values) c.args.sorted
    c.in_ok-root.root
    c.requires.leaves c.in_ok-put.ensures c.in_ok-root.ensures (omega arith) c.requires.many c.requires.room).1

pub returns : goal.returns
returns c =
    tree_put c.args.self.now c.args.pages.now c.put.new.pages c.build_set.new.pages c.append.new.pages c.args.key.now (values_seen c.args.values) c.args.sorted
    c.in_ok-root.root c.requires.leaves c.in_ok-put.ensures c.in_ok-root.ensures c.append.ensures.grown c.append.ensures.count c.requires.many
