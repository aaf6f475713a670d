-- Where places turn to.
use Rattle.std.proofs.Common.{◌≡◌, ◌∙◌, ◌⊎◌, inl, inr, ℕ, suc, ◌+◌, ◌-◌, ◌*◌, ◌<◌, ◌≤◌, List, [], ◌∷◌, length, refl, sym, ap, subst, arith, true, false, Some}
use Rattle.std.proofs.Common.{None, Contains, find}
use Rattle.std.proofs.lemmas.List.FromFn.{get_or-map-range_with_len, length-map-range_with_len}
use Rattle.std.proofs.lemmas.Bool.Decides.{nat_tests}
use Rattle.bdb_graph.proofs.of_format.MemberLemmas.{first_member, later_member, member_cases, no_member}
use Rattle.bdb_graph.specs.of_format.Terms.{byte_at}
use Rattle.bdb_law_turned.specs.Fields.{Field}
use Rattle.bdb_law_turned.specs.Turning.{is_in, mirror, turned_round}
use Rattle.bdb_law_turned.specs.Apart.{AreApart, IsUntouched, LieWithin}

-- the first number that holds a place
pub record FirstIs (fields : List Field) (k : ℕ) (f : Field) : Type 0 where
  pub found : find (is_in k) fields ≡ Some f
  pub held : Contains fields f
  pub begins : f.begin ≤ k
  pub ends : k < f.begin + f.width

pub is_in_here : (k : ℕ) (f : Field) → f.begin ≤ k → k < f.begin + f.width → is_in k f ≡ true
is_in_here k f low high = grind (arith, nat_tests)

pub in_bounds : (k : ℕ) (f : Field) → is_in k f ≡ true → (f.begin ≤ k) × (k < f.begin + f.width)
in_bounds k f holds = grind (arith, nat_tests)

-- a place in a number is in a first one
pub first_of_place : (fields : List Field) (k : ℕ) (f : Field) → Contains fields f → f.begin ≤ k → k < f.begin + f.width → (g : Field) × FirstIs fields k g
first_of_place [] k f at low high = absurd (no_member [] f refl at)
first_of_place (g ∷ fields) k f at low high =
    elim (is_in k g) as (λ b. is_in k g ≡ b → (h : Field) × FirstIs (g ∷ fields) k h) [
      | true ↦ λ here.
          let bounds : (g.begin ≤ k) × (k < g.begin + g.width) = in_bounds k g here in
          (g, record { found = rw here refl; held = first_member g fields; begins = bounds.0; ends = bounds.1 })
      | false ↦ λ not_here.
          let rest : Contains fields f =
          elim (member_cases g fields f at) [
            | inl same ↦ absurd (let yes : is_in k f ≡ true = is_in_here k f low high in let fails : is_in k f ≡ false = subst (λ h. is_in k h ≡ false) same
                not_here in cc)
            | inr later ↦ later
          ] in
          let later = first_of_place fields k f rest low high in (
            later.0,
            record {
              found = rw not_here later.1.found;
              held = later_member g fields later.0 later.1.held;
              begins = later.1.begins;
              ends = later.1.ends;
            },
          )
    ] refl

-- a place in no number is found in none
pub none_of_place : (fields : List Field) (k : ℕ) → IsUntouched fields k → find (is_in k) fields ≡ None
none_of_place [] k untouched = refl
none_of_place (g ∷ fields) k untouched =
    let here : is_in k g ≡ false =
    elim (untouched g (first_member g fields)) [ inl before ↦ grind (arith, nat_tests) | inr past ↦ grind (arith, nat_tests) ] in
    rw here (none_of_place fields k (λ f at. untouched f (later_member g fields f at)))

-- a place in a number turns to the one as far from its end
pub mirror-inside : (fields : List Field) (k : ℕ) (f : Field) → AreApart fields → Contains fields f → f.begin ≤ k → k < f.begin + f.width
    → mirror fields k ≡ (2 * f.begin + f.width) - 1 - k
unfolding mirror
mirror-inside fields k f apart at low high =
    let first : (g : Field) × FirstIs fields k g = first_of_place fields k f at low high in
    let g : Field = first.0 in
    let begins : g.begin ≤ k = first.1.begins in
    let ends : k < g.begin + g.width = first.1.ends in
    elim (apart f g at first.1.held) [
      | inl same ↦ rw first.1.found (ap (λ h. (2 * h.begin + h.width) - 1 - k) (sym same))
      | inr disjoint ↦ absurd (elim disjoint [ inl before ↦ omega arith | inr past ↦ omega arith ])
    ]

pub mirror-outside : (fields : List Field) (k : ℕ) → IsUntouched fields k → mirror fields k ≡ k
unfolding mirror
mirror-outside fields k untouched = rw (none_of_place fields k untouched) refl

-- a place is in a number or in none
pub inside_or_not : (fields : List Field) (k : ℕ) → ((f : Field) × Contains fields f × (f.begin ≤ k) × (k < f.begin + f.width)) ⊎ IsUntouched fields k
inside_or_not [] k = inr (λ f at. absurd (no_member [] f refl at))
inside_or_not (g ∷ fields) k =
    elim (is_in k g) as (λ b. is_in k g ≡ b → ((f : Field) × Contains (g ∷ fields) f × (f.begin ≤ k) × (k < f.begin + f.width)) ⊎ IsUntouched (g ∷ fields) k) [
      | true ↦ λ here. let bounds : (g.begin ≤ k) × (k < g.begin + g.width) = in_bounds k g here in inl (g, first_member g fields, bounds.0, bounds.1)
      | false ↦ λ not_here.
          elim (inside_or_not fields k) [
            | inl found ↦ inl (found.0, later_member g fields found.0 found.1, found.2, found.3)
            | inr none ↦ inr (λ f at. elim (member_cases g fields f at) [
              | inl same ↦ subst (λ h. (suc k ≤ h.begin) ⊎ (h.begin + h.width ≤ k)) same (past k g not_here)
              | inr later ↦ none f later
            ])
          ]
    ] refl
  where
    past : (k : ℕ) (g : Field) → is_in k g ≡ false → (suc k ≤ g.begin) ⊎ (g.begin + g.width ≤ k)
    past k g outside = grind (arith, nat_tests)

-- the place that a place turns to turns back to it
pub places_turn_back : (fields : List Field) (k : ℕ) → AreApart fields → mirror fields (mirror fields k) ≡ k
places_turn_back fields k apart =
    elim (inside_or_not fields k) [
      | inl found ↦
          let f : Field = found.0 in
          let low : f.begin ≤ k = found.2 in
          let high : k < f.begin + f.width = found.3 in
          let there : mirror fields k ≡ (2 * f.begin + f.width) - 1 - k = mirror-inside fields k f apart found.1 low high in
          let back : mirror fields ((2 * f.begin + f.width) - 1 - k) ≡ (2 * f.begin + f.width) - 1 - ((2 * f.begin + f.width) - 1 - k) =
          mirror-inside fields ((2 * f.begin + f.width) - 1 - k) f apart found.1 (omega arith) (omega arith) in
          ap (mirror fields) there ∙ (back ∙ omega arith)
      | inr none ↦ ap (mirror fields) (mirror-outside fields k none) ∙ mirror-outside fields k none
    ]

-- Bytes with numbers byte-swapped.

pub length-turned_round : (fields : List Field) (bytes : List ℕ) → length (turned_round fields bytes) ≡ length bytes
unfolding turned_round
length-turned_round fields bytes = length-map-range_with_len (λ k. byte_at bytes (mirror fields k)) 0 (length bytes)

pub get_or-turned_round : (fields : List Field) (bytes : List ℕ) (k : ℕ) → k < length bytes → byte_at (turned_round fields bytes) k
    ≡ byte_at bytes (mirror fields k)
unfolding turned_round
get_or-turned_round fields bytes k lt = get_or-map-range_with_len (λ i. byte_at bytes (mirror fields i)) 0 (length bytes) k k 0 lt (omega arith)

pub mirror-within : (fields : List Field) (n k : ℕ) → AreApart fields → LieWithin fields n → k < n → mirror fields k < n
mirror-within fields n k apart within lt =
    elim (inside_or_not fields k) [
      | inl found ↦
          let f : Field = found.0 in
          let low : f.begin ≤ k = found.2 in
          let high : k < f.begin + f.width = found.3 in
          let there : mirror fields k ≡ (2 * f.begin + f.width) - 1 - k = mirror-inside fields k f apart found.1 low high in
          let inside : f.begin + f.width ≤ n = within f found.1 in
          omega arith
      | inr none ↦ let there : mirror fields k ≡ k = mirror-outside fields k none in omega arith
    ]
