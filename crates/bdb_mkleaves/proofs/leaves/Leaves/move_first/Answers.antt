use Rattle.std.proofs.Common.{arith, refl}
use Rattle.bdb_mkleaves.proofs.MovedLemmas.{first_moved, first_there, second_stands}
use Rattle.bdb_mkleaves.proofs.leaves.Leaves.move_first.Goals as goal

pub move_leaf-requires-clause-from : goal.move_leaf-requires-clause-from
move_leaf-requires-clause-from c = first_there c.args.self.now c.args.pages.now _ c.requires.leaves c.requires.several c.index-first.ensures

pub set_previous-requires-clause-leaf : goal.set_previous-requires-clause-leaf
set_previous-requires-clause-leaf c =
    (second_stands c.args.self.now c.args.pages.now c.move_leaf.new.pages _ _ c.in_ok-number.number c.requires.leaves
    c.requires.several c.index-first.ensures c.second.ensures c.in_ok-number.ensures).0

pub set_previous-requires-clause-begun : goal.set_previous-requires-clause-begun
set_previous-requires-clause-begun c =
    (second_stands c.args.self.now c.args.pages.now c.move_leaf.new.pages _ _ c.in_ok-number.number c.requires.leaves
    c.requires.several c.index-first.ensures c.second.ensures c.in_ok-number.ensures).1

pub returns-clause-moved : goal.returns-clause-moved
returns-clause-moved c =
    first_moved c.args.self.now _ c.args.pages.now c.move_leaf.new.pages c.set_previous.new.pages _ _ c.in_ok-number.number c.requires.legal
    c.requires.leaves c.requires.several (omega arith) c.index-first.ensures c.second.ensures c.in_ok-number.ensures c.set_previous.ensures.page
    refl refl refl
