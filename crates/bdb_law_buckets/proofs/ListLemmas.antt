-- The list of a table, and the keys that its pairs repeat.
use Rattle.std.proofs.Common.{◌≡◌, ℕ, zero, suc, ◌+◌, ◌<◌, ◌≤◌, Bool, true, false, cond, List, [], ◌∷◌, arith, refl, sym, ◌∙◌, ap, subst, inl, inr}
use Rattle.std.specs.Prelude.{◌==◌, ◌&&◌, not}
use Rattle.std.specs.List.{All, Contains, flat_map, list_any, range_with_len, take_while}
use Rattle.std.specs.Str.{bytes_eq}
use Rattle.std.proofs.lemmas.Bool.{and_right, cases_Bool, or_from}
use Rattle.std.proofs.lemmas.List.{append-nil}
use Rattle.std.proofs.lemmas.List.Elements.{All-head, All-tail}
use Rattle.std.proofs.lemmas.List.Sums.{take_while-cons}
use Rattle.std.proofs.lemmas.Slice.Eq.{bytes_eq-Decides}
use Rattle.bdb_law_grove.specs.of_format.Terms.{File, StoredPair, ascends, by_key, data_of, groups, insert_pair, is_unsorted, listed_pair, live_data, repeated}
use Rattle.bdb_law_grove.proofs.of_format.MemberLemmas.{first_member, later_member, member_cases, no_member, none_pass}
use Rattle.bdb_law_grove.proofs.of_format.RepeatLemmas.{has_key, repeated_after, repeated_is}
use Rattle.bdb_law_buckets.specs.Tables.{Keyed, listed_unit}
use Rattle.bdb_law_buckets.proofs.DealLemmas.{AreApart, IsNoKey, insert_unit, units_by_key}
use Rattle.bdb_law_buckets.proofs.StoredLemmas.{AreStored, IsStored, stored_append}

-- Pairs and their keys.

-- the key of a pair
pub stored_each : (g : File) (sorted : Bool) (pairs : List StoredPair) (units : List Keyed) (pair : StoredPair) → AreStored g sorted pairs units
    → Contains pairs pair → (unit : Keyed) × Contains units unit × IsStored g sorted pair unit
stored_each g sorted [] units pair stored at = absurd (no_member [] pair refl at)
stored_each g sorted (one ∷ pairs) [] pair stored at = absurd stored
stored_each g sorted (one ∷ pairs) (unit ∷ units) pair (first, rest) at =
    elim (member_cases one pairs pair at) [
      | inl same ↦ (unit, first_member unit units, subst (λ p. IsStored g sorted p unit) same first)
      | inr later ↦
          let found = stored_each g sorted pairs units pair rest later in (found.0, later_member unit units found.0 found.1, found.2)
    ]

-- the pairs of all buckets
pub all_stored : (g : File) (sorted : Bool) (pairs : ℕ → List StoredPair) (units : ℕ → List Keyed) (a n : ℕ)
    → ((b : ℕ) → a ≤ b → b < a + n → AreStored g sorted (pairs b) (units b))
    → AreStored g sorted (flat_map pairs (range_with_len a n)) (flat_map units (range_with_len a n))
all_stored g sorted pairs units a zero each = tt
all_stored g sorted pairs units a (suc n) each =
    stored_append g sorted (pairs a) (flat_map pairs (range_with_len (a + 1) n)) (units a) (flat_map units (range_with_len (a + 1) n))
    (each a (omega arith) (omega arith)) (all_stored g sorted pairs units (a + 1) n (λ b low high. each b (omega (arith, low)) (omega (arith, high))))

-- The order of keys.

insert_stored : (g : File) (sorted : Bool) (pair : StoredPair) (unit : Keyed) (pairs : List StoredPair) (units : List Keyed)
    → IsStored g sorted pair unit → AreStored g sorted pairs units → AreStored g sorted (insert_pair pair pairs) (insert_unit unit units)
insert_stored g sorted pair unit [] [] one rest = (one, tt)
insert_stored g sorted pair unit [] (u ∷ us) one rest = absurd rest
insert_stored g sorted pair unit (p ∷ ps) [] one rest = absurd rest
insert_stored g sorted pair unit (p ∷ ps) (u ∷ us) one (first, rest) = grind (arith, AreStored, insert_unit, insert_stored g sorted pair unit ps us one rest)

sorted_stored : (g : File) (sorted : Bool) (pairs : List StoredPair) (units : List Keyed) → AreStored g sorted pairs units
    → AreStored g sorted (by_key pairs) (units_by_key units)
sorted_stored g sorted [] [] stored = tt
sorted_stored g sorted [] (u ∷ us) stored = absurd stored
sorted_stored g sorted (p ∷ ps) [] stored = absurd stored
sorted_stored g sorted (p ∷ ps) (u ∷ us) (first, rest) =
    insert_stored g sorted p u (by_key ps) (units_by_key us) first (sorted_stored g sorted ps us rest)

-- a pair lists its key with each of its data
one_listed : (g : File) (sorted : Bool) (pair : StoredPair) (unit : Keyed) → IsStored g sorted pair unit → listed_pair g pair ≡ listed_unit unit
one_listed g sorted pair unit is = grind arith

stored_listed : (g : File) (sorted : Bool) (pairs : List StoredPair) (units : List Keyed) → AreStored g sorted pairs units
    → flat_map (listed_pair g) pairs ≡ flat_map listed_unit units
stored_listed g sorted [] [] stored = refl
stored_listed g sorted [] (u ∷ us) stored = absurd stored
stored_listed g sorted (p ∷ ps) [] stored = absurd stored
stored_listed g sorted (p ∷ ps) (u ∷ us) (first, rest) = grind (arith, one_listed, stored_listed g sorted ps us rest)

-- the list of pairs is that of their keys in order
pub list_is : (g : File) (sorted : Bool) (pairs : List StoredPair) (units : List Keyed) → AreStored g sorted pairs units
    → flat_map (listed_pair g) (by_key pairs) ≡ flat_map listed_unit (units_by_key units)
list_is g sorted pairs units stored =
    stored_listed g sorted (by_key pairs) (units_by_key units) (sorted_stored g sorted pairs units stored)

-- Keys that repeat.

other_key : (a b : List ℕ) → (a ≡ b → ⊥) → bytes_eq a b ≡ false
other_key a b other = elim (cases_Bool (bytes_eq a b)) [ inl same ↦ absurd (other ((bytes_eq-Decides a b).0 same)) | inr none ↦ none ]

none_after : (g : File) (sorted : Bool) (earlier pairs : List StoredPair) (units : List Keyed) → AreStored g sorted pairs units → AreApart units
    → ((one : StoredPair) → Contains earlier one → IsNoKey one.key units) → repeated_after earlier pairs ≡ []
none_after g sorted earlier [] units stored apart none = refl
none_after g sorted earlier (p ∷ ps) [] stored apart none = absurd stored
none_after g sorted earlier (p ∷ ps) (u ∷ us) (first, rest) (here, apart) none =
    ap (λ b. cond b (p ∷ repeated_after (p ∷ earlier) ps) (repeated_after (p ∷ earlier) ps)) test
    ∙ none_after g sorted (p ∷ earlier) ps us rest apart (λ one at. elim (member_cases p earlier one at) [
      | inl same ↦ subst (λ k. IsNoKey k us) (sym first.key ∙ ap (λ (q : StoredPair). q.key) same) here
      | inr before ↦ (none one before).1
    ])
  where
    test : has_key p.key earlier ≡ false
    test = none_pass (λ (other : StoredPair). bytes_eq other.key p.key) earlier
        (λ other at. other_key other.key p.key (λ same. (none other at).0 (sym first.key ∙ sym same)))

-- pairs of keys that are apart repeat none
pub none_repeated : (g : File) (sorted : Bool) (pairs : List StoredPair) (units : List Keyed) → AreStored g sorted pairs units → AreApart units
    → repeated pairs ≡ []
none_repeated g sorted pairs units stored apart =
    repeated_is pairs ∙ none_after g sorted [] pairs units stored apart (λ one at. absurd (no_member [] one refl at))

-- Data that ascend.

no_shares : (g : File) (sorted : Bool) (pairs : List StoredPair) (units : List Keyed) → AreStored g sorted pairs units
    → take_while (λ (other : StoredPair). other.shares) pairs ≡ []
no_shares g sorted [] units stored = refl
no_shares g sorted (p ∷ ps) [] stored = absurd stored
no_shares g sorted (p ∷ ps) (u ∷ us) (first, rest) = grind (arith, take_while-cons)

pub none_unsorted : (g : File) (sorted : Bool) (pairs : List StoredPair) (units : List Keyed) (p : ℕ) → AreStored g sorted pairs units
    → All (λ (unit : Keyed). ascends unit.values ≡ true) units
    → list_any (λ (group : StoredPair × List StoredPair). group.0.page == p && is_unsorted g group) (groups pairs) ≡ false
none_unsorted g sorted [] units p stored rise = refl
none_unsorted g sorted (pair ∷ pairs) [] p stored rise = absurd stored
none_unsorted g sorted (pair ∷ pairs) (unit ∷ units) p (first, rest) rise =
    or_from _ _
    (and_right (pair.page == p) (is_unsorted g (pair, take_while (λ (other : StoredPair). other.shares) pairs))
    (ap (λ ps. is_unsorted g (pair, ps)) (no_shares g sorted pairs units rest) ∙ ap not (ap ascends one ∙ here)))
    (none_unsorted g sorted pairs units p rest (All-tail (λ (u : Keyed). ascends u.values ≡ true) unit units rise))
  where
    here : ascends unit.values ≡ true
    here = All-head (λ (u : Keyed). ascends u.values ≡ true) unit units rise

    one : flat_map (live_data g) (pair ∷ []) ≡ unit.values
    one = append-nil (live_data g pair) ∙ (ap (λ b. cond b (data_of g pair.data_item) []) first.live ∙ first.values)
