-- Separators that stand between the keys below the children.
use Rattle.std.proofs.Common.{◌≡◌, ℕ, zero, suc, ◌+◌, ◌-◌, ◌<◌, ◌≤◌, true, false, not, List, [], ◌∷◌, length, take, drop, get_or, arith, refl, sym, ◌∙◌, ap}
use Rattle.std.proofs.Common.{subst, inl, inr, true≢false, ◌&&◌, nat_le}
use Rattle.std.specs.List.{Contains, flat_map, list_any, range_with_len}
use Rattle.std.proofs.lemmas.Bool.{cases_Bool, and_right, or_from}
use Rattle.std.proofs.lemmas.List.{drop_more}
use Rattle.bdb_law_grove.specs.of_format.Terms.{Separated, breaks, less, no_separator}
use Rattle.bdb_law_grove.proofs.of_format.MemberLemmas.{later_member, member_cases, no_member, none_pass, of_flat_map, of_range}
use Rattle.bdb_law_grove.proofs.of_format.LessLemmas.{less_trans}
use Rattle.bdb_law_levels.specs.Separators.{AreInOrder, KeysRise, NoneLess, SeparatorsStand}

-- a separator is less than each later one
rises_to : (part : Separated) (parts : List Separated) (later : Separated) → KeysRise (part ∷ parts) → Contains parts later → less part.key later.key ≡ true
rises_to part [] later rise at = absurd (no_member [] later refl at)
rises_to part (next ∷ parts) later rise at =
    elim (member_cases next parts later at) [
      | inl here ↦ subst (λ (s : Separated). less part.key s.key ≡ true) here rise.0
      | inr after ↦ less_trans part.key next.key later.key rise.0 (rises_to next parts later rise.1 after)
    ]

rise_drop : (parts : List Separated) (i : ℕ) → KeysRise parts → KeysRise (drop i parts)
rise_drop parts zero rise = rise
rise_drop [] (suc i) rise = tt
rise_drop (part ∷ []) (suc i) rise = rise_drop [] i tt
rise_drop (part ∷ next ∷ parts) (suc i) rise = rise_drop (next ∷ parts) i rise.1

of_drop : {X : Type 0} (xs : List X) (i : ℕ) (x : X) → Contains (drop i xs) x → Contains xs x
of_drop xs zero x at = at
of_drop [] (suc i) x at = at
of_drop (y ∷ ys) (suc i) x at = later_member y ys x (of_drop ys i x at)

drop_at_index : (parts : List Separated) (i : ℕ) → i < length parts → drop i parts ≡ get_or parts i no_separator ∷ drop (i + 1) parts
drop_at_index parts i low = drop_more parts i no_separator low

-- no key below this child or a later one is less than the separator
none_after : (first : Separated) (others : List Separated) (j : ℕ) → j < length others → AreInOrder first others
    → NoneLess (flat_map (λ (part : Separated). part.below) (drop j others)) (get_or others j no_separator).key
none_after first others j low order k at =
    let part : Separated = get_or others j no_separator in
    let split : drop j others ≡ part ∷ drop (j + 1) others = drop_at_index others j low in
    let found = of_flat_map (λ (part : Separated). part.below) (drop j others) k at in
    let own : less k found.0.key ≡ false = order.own found.0 (of_drop others j found.0 found.1) k found.2 in
    elim (member_cases part (drop (j + 1) others) found.0 (subst (λ ps. Contains ps found.0) split found.1)) [
      | inl here ↦ subst (λ (s : Separated). less k s.key ≡ false) (sym here) own
      | inr later ↦
          let over : less part.key found.0.key ≡ true =
          rises_to part (drop (j + 1) others) found.0 (subst KeysRise split (rise_drop others j order.rise)) later in
          elim (cases_Bool (less k part.key)) [
            | inl is ↦ absurd (true≢false (sym (less_trans k part.key found.0.key is over) ∙ own))
            | inr other ↦ other
          ]
    ]

rises_at : (others : List Separated) (m : ℕ) → suc m < length others → KeysRise others
    → less (get_or others m no_separator).key (get_or others (suc m) no_separator).key ≡ true
rises_at [] m low rise = absurd (omega arith)
rises_at (part ∷ []) m low rise = absurd (omega arith)
rises_at (part ∷ next ∷ parts) zero low rise = rise.0
rises_at (part ∷ next ∷ parts) (suc m) low rise = rises_at (next ∷ parts) m (omega arith) rise.1

rise_row : (first : Separated) (others : List Separated) (j : ℕ) → j < length others → KeysRise others
    → (nat_le 2 (suc j) && not (less (get_or (first ∷ others) (suc j - 1) no_separator).key (get_or others j no_separator).key)) ≡ false
rise_row first others zero low rise = refl
rise_row first others (suc m) low rise = grind (arith, and_right, rises_at)

breaks_none : (first : Separated) (others : List Separated) (j : ℕ) → j < length others → AreInOrder first others → breaks (first ∷ others) (suc j) ≡ false
breaks_none first others j low order =
    let key : List ℕ = (get_or others j no_separator).key in
    or_from _ _
    (or_from _ _ (rise_row first others j low order.rise)
    (none_pass (λ other. less other key) (flat_map (λ (part : Separated). part.below) (drop j others)) (none_after first others j low order)))
    (none_pass (λ other. not (less other key)) (flat_map (λ (part : Separated). part.below) (first ∷ take j others)) (λ k at. ap not (order.before j low k at)))

index_none : (first : Separated) (others : List Separated) (i : ℕ) → 1 ≤ i → i < 1 + length others → AreInOrder first others → breaks (first ∷ others) i ≡ false
index_none first others zero low high order = absurd (omega arith)
index_none first others (suc j) low high order = breaks_none first others j (omega arith) order

pub separators_stand : SeparatorsStand
separators_stand g page first others is order =
    ap (λ parts. list_any (breaks parts) (range_with_len 1 (length parts - 1))) is
    ∙ none_pass (breaks (first ∷ others)) (range_with_len 1 (length (first ∷ others) - 1)) (λ i at.
    let within = of_range 1 (length (first ∷ others) - 1) i at in index_none first others i within.0 (omega (arith, within.1)) order)
