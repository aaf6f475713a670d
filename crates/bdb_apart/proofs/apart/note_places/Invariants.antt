use Rattle.std.specs.Prelude.{ℕ, [], map, take}
use Rattle.bdb_apart.specs.Kept.{AreHeld, found_seen}
use Rattle.bdb_apart.proofs.apart.note_places.Given as goal

-- What some of the databases hold is noted.
abbrev pub invariant-loop-place : goal.invariant-loop-place
invariant-loop-place l = (count : ℕ) → AreHeld [] count l.fn.held → AreHeld (map found_seen (take l.place-index l.places)) count l.held
