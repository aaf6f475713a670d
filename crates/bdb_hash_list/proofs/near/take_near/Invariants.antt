use Rattle.std.specs.Prelude.{◌≡◌, ◌++◌}
use Rattle.std.specs.Vec.Iter.{into_iter_items}
use Rattle.bdb_hash_list.proofs.near.take_near.Given as goal

-- Those that were taken, with those that are left, are all that were left at first.
abbrev pub invariant-loop : goal.invariant-loop
invariant-loop l = l.near.items ++ into_iter_items l.rest ≡ l.initial.near.items ++ into_iter_items l.initial.rest
