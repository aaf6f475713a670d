-- Pairs and data that are lent.
use Rattle.std.proofs.Common.{◌≡◌, ℕ, ◌-◌, List, Some, arith, drop, get_or, length, slice_get, take, ◌∙◌, ap, sym}
use Rattle.std.proofs.lemmas.List.{get_or-map, take_all}
use Rattle.std.proofs.lemmas.Option.{get_or_from_slice_get, slice_get_within}
use Rattle.bdb_need.specs.of_places.Places.{value_at}
use Rattle.bdb_need.specs.of_places.declared.place.Place.{Place}
use Rattle.bdb_need.specs.of_text_format.declared.pairs.TextPair.{TextPair}
use Rattle.bdb_need.specs.of_text_format.Terms.{unlined, unlined_pairs}
use Rattle.bdb_building_tests.specs.Trees.{no_pair}

pub one_at : (pairs : List TextPair) (i : ℕ) (pair : TextPair) → slice_get pairs i ≡ Some pair → unlined pair ≡ get_or (unlined_pairs pairs) i no_pair
one_at pairs i pair at =
    ap unlined (sym (get_or_from_slice_get pairs i pair pair at)) ∙ sym (get_or-map unlined pairs i pair no_pair (slice_get_within pairs i pair at))

-- a run that is one datum
pub whole_value : (bytes : List ℕ) (place : Place) → place.value.start ≡ 0 → place.value.end ≡ length bytes → value_at bytes place ≡ bytes
whole_value bytes place start end =
    ap (λ n. take (place.value.end - n) (drop n bytes)) start ∙ take_all (place.value.end - 0) bytes (omega (arith, end))
