use Rattle.bdb_survey.specs.of_format.Terms.{Internal}
use Rattle.bdb_homes.proofs.ItemLemmas.{AreBelow}
use Rattle.bdb_homes.proofs.items.note_keyed.Given as goal

-- The claims to the children before this one are noted.
abbrev pub invariant-loop-index : goal.invariant-loop-index
invariant-loop-index l = AreBelow l.faces (Internal l.view) l.fn.ups l.ups l.holder l.index
