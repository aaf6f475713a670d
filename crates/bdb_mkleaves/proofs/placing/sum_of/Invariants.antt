use Rattle.std.proofs.Common.{◌≡◌, take, sum_by}
use Rattle.bdb_mkleaves.specs.declared.levels.Child.{Child}
use Rattle.bdb_mkleaves.proofs.placing.sum_of.Given as goal

-- the children so far
abbrev pub invariant-loop-child : goal.invariant-loop-child
invariant-loop-child l = l.sum ≡ sum_by (λ (child : Child). child.count) (take l.child-index l.children)
