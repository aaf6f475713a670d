use Rattle.std.proofs.Common.{◌≡◌, ◌*◌, ◌≤◌, ◌^◌, take}
use Rattle.bdb_survey.specs.of_format.Terms.{RecnoInternal}
use Rattle.bdb_homes.proofs.ItemLemmas.{AreBelow, records}
use Rattle.bdb_homes.proofs.items.note_counted.Given as goal

-- The claims to the children before this one are noted, and their records are counted.
pub record AreCounted (noted : Type 0) (same : Type 0) (few : Type 0) : Type 0 where
  pub below : noted
  pub before : same
  pub small : few

abbrev pub invariant-loop-index : goal.invariant-loop-index
invariant-loop-index l =
    AreCounted (AreBelow l.faces (RecnoInternal l.view) l.fn.ups l.ups l.holder l.index) (l.before ≡ records (take l.index l.view.items))
    (l.before ≤ l.index * 2 ^ 32)
