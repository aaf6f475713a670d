use Rattle.std.specs.Vec.Iter.{into_iter_items}
use Rattle.bdb_onto.specs.Joining.{IsJoinedTo}
use Rattle.bdb_onto.proofs.joining.joined.Given as goal

-- The sections so far stand behind their partners, which are gone from their places.
abbrev pub invariant-loop-placed : goal.invariant-loop-placed
invariant-loop-placed l = IsJoinedTo l.fn.base l.fn.sections l.places.items l.all (into_iter_items l.placed-iterator)
