use Rattle.std.proofs.Common.{◌≡◌, ◌++◌, option_to_list, flat_map}
use Rattle.std.specs.Vec.Iter.{into_iter_items}
use Rattle.bdb_onto.proofs.joining.with_left.Given as goal

-- What stood in the places so far is there.
abbrev pub invariant-loop-place : goal.invariant-loop-place
invariant-loop-place l =
    l.fn.all ++ flat_map option_to_list l.fn.places.items ≡ l.all ++ flat_map option_to_list (into_iter_items l.place-iterator)
