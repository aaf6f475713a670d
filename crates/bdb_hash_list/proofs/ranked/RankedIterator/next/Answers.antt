use Rattle.bdb_hash_list.proofs.PlaceLemmas.{places_rest}
use Rattle.bdb_hash_list.proofs.ranked.RankedIterator.next.Goals as goal

-- The places that are left are those of pairs too.
pub invariant_of-self-2 : goal.invariant_of-self-2
invariant_of-self-2 c =
    places_rest c.self.inside.forest c.in_ok-place.place c.self.inside.rest c.next.new.self c.self.invariant
    c.in_ok-place.ensures.steps
