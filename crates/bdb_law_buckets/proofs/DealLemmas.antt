-- Keys that are dealt into buckets: put back into the order of their keys they are what they were, and no two are the same.
use Rattle.std.proofs.Common.{◌≡◌, ℕ, zero, suc, ◌+◌, ◌<◌, ◌≤◌, Bool, true, cond, List, [], ◌∷◌, ◌++◌, map, append_assoc, arith, refl, sym, ◌∙◌, ap, subst, inl}
use Rattle.std.proofs.Common.{inr, ◌==◌}
use Rattle.std.specs.List.{filter, flat_map, range_with_len}
use Rattle.std.proofs.lemmas.Bool.{and_parts, cases_eq, eq-eqb, ne_eqb}
use Rattle.bdb_law_grove.specs.of_format.Terms.{Less, ascends, ascends_from, less}
use Rattle.bdb_law_grove.proofs.of_format.LessLemmas.{less_not_back, less_trans, not_less_same}
use Rattle.bdb_law_buckets.specs.Tables.{Keyed, key_of}

-- Keys above another, and keys that are apart.

abbrev pub AreAbove : List ℕ → List Keyed → Type 0
AreAbove key [] = Unit {0}
AreAbove key (unit ∷ units) = Less key unit.key × AreAbove key units

abbrev pub IsNoKey : List ℕ → List Keyed → Type 0
IsNoKey key [] = Unit {0}
IsNoKey key (unit ∷ units) = (unit.key ≡ key → ⊥) × IsNoKey key units

abbrev pub AreApart : List Keyed → Type 0
AreApart [] = Unit {0}
AreApart (unit ∷ units) = IsNoKey unit.key units × AreApart units

above_more : (low key : List ℕ) (units : List Keyed) → Less low key → AreAbove key units → AreAbove low units
above_more low key [] less_is above = tt
above_more low key (unit ∷ units) less_is (first, rest) = (less_trans low key unit.key less_is first, above_more low key units less_is rest)

above_from : (key : List ℕ) (units : List Keyed) → ascends_from key (map key_of units) ≡ true → AreAbove key units
above_from key [] rise = tt
above_from key (unit ∷ units) rise =
    let parts = and_parts (less key unit.key) (ascends_from unit.key (map key_of units)) rise in
    (parts.0, above_more key unit.key units parts.0 (above_from unit.key units parts.1))

rise_later : (key : List ℕ) (units : List Keyed) → ascends_from key (map key_of units) ≡ true → ascends (map key_of units) ≡ true
rise_later key [] rise = refl
rise_later key (unit ∷ units) rise = (and_parts (less key unit.key) (ascends_from unit.key (map key_of units)) rise).1

above_append : (key : List ℕ) (xs ys : List Keyed) → AreAbove key xs → AreAbove key ys → AreAbove key (xs ++ ys)
above_append key [] ys one two = two
above_append key (x ∷ xs) ys (first, rest) two = (first, above_append key xs ys rest two)

above_left : (key : List ℕ) (xs ys : List Keyed) → AreAbove key (xs ++ ys) → AreAbove key xs
above_left key [] ys above = tt
above_left key (x ∷ xs) ys (first, rest) = (first, above_left key xs ys rest)

above_filter : (key : List ℕ) (test : Keyed → Bool) (units : List Keyed) → AreAbove key units → AreAbove key (filter test units)
above_filter key test [] above = tt
above_filter key test (unit ∷ units) (first, rest) = grind (arith, above_filter key test units rest)

no_key_above : (key : List ℕ) (units : List Keyed) → AreAbove key units → IsNoKey key units
no_key_above key [] above = tt
no_key_above key (unit ∷ units) (first, rest) = grind (arith, not_less_same, no_key_above key units rest)

-- Dealing.

abbrev pub deal : (Keyed → ℕ) → List Keyed → ℕ → ℕ → List Keyed
deal bucket units first n = flat_map (λ b. filter (λ unit. bucket unit == b) units) (range_with_len first n)

abbrev bucket_units : (Keyed → ℕ) → ℕ → List Keyed → List Keyed
bucket_units bucket b units = filter (λ unit. bucket unit == b) units

deal_none : (bucket : Keyed → ℕ) (first n : ℕ) → deal bucket [] first n ≡ []
deal_none bucket first zero = refl
deal_none bucket first (suc n) = deal_none bucket (first + 1) n

-- a key of an earlier bucket isn't dealt
deal_other : (bucket : Keyed → ℕ) (unit : Keyed) (units : List Keyed) (first n : ℕ) → bucket unit < first
    → deal bucket (unit ∷ units) first n ≡ deal bucket units first n
deal_other bucket unit units first zero low = refl
deal_other bucket unit units first (suc n) low = grind (arith, ne_eqb, deal_other bucket unit units (first + 1) n (omega (arith, low)))

-- one key more stands somewhere among the others
record IsDealt (bucket : Keyed → ℕ) (unit : Keyed) (units : List Keyed) (first n : ℕ) : Type 0 where
  before : List Keyed
  after : List Keyed
  with : deal bucket (unit ∷ units) first n ≡ before ++ (unit ∷ after)
  without : deal bucket units first n ≡ before ++ after

dealt_one : (bucket : Keyed → ℕ) (unit : Keyed) (units : List Keyed) (first n : ℕ) → first ≤ bucket unit → bucket unit < first + n
    → IsDealt bucket unit units first n
dealt_one bucket unit units first zero low high = absurd (omega (arith, low, high))
dealt_one bucket unit units first (suc n) low high =
    elim (cases_eq (bucket unit) first) [
      | inl here ↦ record {
        before = [];
        after = bucket_units bucket first units ++ deal bucket units (first + 1) n;
        with =
            ap (λ b. cond b (unit ∷ bucket_units bucket first units) (bucket_units bucket first units) ++ deal bucket (unit ∷ units) (first + 1) n)
            (eq-eqb (bucket unit) first here)
            ∙ ap (λ us. unit ∷ (bucket_units bucket first units ++ us)) (deal_other bucket unit units (first + 1) n (omega (arith, here)));
        without = refl;
      }
      | inr other ↦
          let rest = dealt_one bucket unit units (first + 1) n (omega (arith, low, other)) (omega (arith, high)) in
          record {
            before = bucket_units bucket first units ++ rest.before;
            after = rest.after;
            with =
                ap (λ b. cond b (unit ∷ bucket_units bucket first units) (bucket_units bucket first units) ++ deal bucket (unit ∷ units) (first + 1)
                n)
                (ne_eqb (bucket unit) first other)
                ∙ (ap (λ us. bucket_units bucket first units ++ us) rest.with
                ∙ sym (append_assoc (bucket_units bucket first units) rest.before (unit ∷ rest.after)));
            without =
                ap (λ us. bucket_units bucket first units ++ us) rest.without
                ∙ sym (append_assoc (bucket_units bucket first units) rest.before rest.after);
          }
    ]

above_dealt : (bucket : Keyed → ℕ) (key : List ℕ) (units : List Keyed) (first n : ℕ) → AreAbove key units → AreAbove key (deal bucket units first n)
above_dealt bucket key units first zero above = tt
above_dealt bucket key units first (suc n) above = grind (arith, above_append, above_filter, above_dealt bucket key units (first + 1) n above)

-- The order of keys.

abbrev pub insert_unit : Keyed → List Keyed → List Keyed
insert_unit unit [] = unit ∷ []
insert_unit unit (other ∷ others) = cond (less other.key unit.key) (other ∷ insert_unit unit others) (unit ∷ other ∷ others)

abbrev pub units_by_key : List Keyed → List Keyed
units_by_key [] = []
units_by_key (unit ∷ units) = insert_unit unit (units_by_key units)

insert_low : (unit : Keyed) (units : List Keyed) → AreAbove unit.key units → insert_unit unit units ≡ unit ∷ units
insert_low unit [] above = refl
insert_low unit (other ∷ others) (first, rest) =
    ap (λ b. cond b (other ∷ insert_unit unit others) (unit ∷ other ∷ others)) (less_not_back unit.key other.key first)

-- two keys are inserted in either order
insert_both : (low high : Keyed) (units : List Keyed) → Less low.key high.key
    → insert_unit high (insert_unit low units) ≡ insert_unit low (insert_unit high units)
insert_both low high [] up = grind (arith, less_not_back)
insert_both low high (unit ∷ units) up = grind (arith, less_trans, less_not_back, insert_both low high units up)

-- a key below those before it is inserted last or first
insert_past : (unit : Keyed) (before after : List Keyed) → AreAbove unit.key before
    → units_by_key (before ++ (unit ∷ after)) ≡ insert_unit unit (units_by_key (before ++ after))
insert_past unit [] after above = refl
insert_past unit (other ∷ before) after (first, rest) =
    ap (insert_unit other) (insert_past unit before after rest) ∙ insert_both unit other (units_by_key (before ++ after)) first

-- keys that ascend are, once dealt and put into order, as before
pub dealt_back : (bucket : Keyed → ℕ) (n : ℕ) (units : List Keyed) → ((unit : Keyed) → bucket unit < n) → ascends (map key_of units) ≡ true
    → units_by_key (deal bucket units 0 n) ≡ units
dealt_back bucket n [] within rise = ap units_by_key (deal_none bucket 0 n)
dealt_back bucket n (unit ∷ units) within rise =
    let above : AreAbove unit.key units = above_from unit.key units rise in
    let one = dealt_one bucket unit units 0 n (omega arith) (let h = within unit in omega (arith, h)) in
    let before : AreAbove unit.key one.before =
    above_left unit.key one.before one.after (subst (AreAbove unit.key) one.without (above_dealt bucket unit.key units 0 n above)) in
    ap units_by_key one.with
    ∙ (insert_past unit one.before one.after before
    ∙ (ap (λ us. insert_unit unit (units_by_key us)) (sym one.without)
    ∙ (ap (insert_unit unit) (dealt_back bucket n units within (rise_later unit.key units rise)) ∙ insert_low unit units above)))

-- Keys that are apart.

no_key_with : (key : List ℕ) (unit : Keyed) (before after : List Keyed) → (unit.key ≡ key → ⊥) → IsNoKey key (before ++ after)
    → IsNoKey key (before ++ (unit ∷ after))
no_key_with key unit [] after other none = (other, none)
no_key_with key unit (one ∷ before) after other (first, rest) = (first, no_key_with key unit before after other rest)

apart_with : (unit : Keyed) (before after : List Keyed) → AreAbove unit.key (before ++ after) → AreApart (before ++ after)
    → AreApart (before ++ (unit ∷ after))
apart_with unit [] after above apart = (no_key_above unit.key after above, apart)
apart_with unit (one ∷ before) after (first, rest) (none, apart) = (
  no_key_with one.key unit before after (λ same. not_less_same unit.key (subst (Less unit.key) (sym same) first)) none,
  apart_with unit before after rest apart,
)

-- no two keys that are dealt are the same
pub dealt_apart : (bucket : Keyed → ℕ) (n : ℕ) (units : List Keyed) → ((unit : Keyed) → bucket unit < n) → ascends (map key_of units) ≡ true
    → AreApart (deal bucket units 0 n)
dealt_apart bucket n [] within rise = subst AreApart (sym (deal_none bucket 0 n)) tt
dealt_apart bucket n (unit ∷ units) within rise =
    let one = dealt_one bucket unit units 0 n (omega arith) (let h = within unit in omega (arith, h)) in
    subst AreApart (sym one.with)
    (apart_with unit one.before one.after
    (subst (AreAbove unit.key) one.without (above_dealt bucket unit.key units 0 n (above_from unit.key units rise)))
    (subst AreApart one.without (dealt_apart bucket n units within (rise_later unit.key units rise))))
