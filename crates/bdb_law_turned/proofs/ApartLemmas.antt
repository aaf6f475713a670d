-- Numbers that share no byte.
use Rattle.std.proofs.Common.{◌≡◌, ◌∙◌, ◌⊎◌, inl, inr, ℕ, zero, suc, ◌+◌, ◌*◌, ◌<◌, ◌≤◌, List, [], ◌∷◌, ◌++◌, map, refl, sym, subst, arith}
use Rattle.std.specs.List.{Contains, flat_map, range_with_len}
use Rattle.std.proofs.lemmas.List.Elements.{Contains-append_cases}
use Rattle.bdb_graph.proofs.of_format.MemberLemmas.{member_cases, no_member, of_flat_map, in_flat_map, of_range, in_range}
use Rattle.bdb_law_turned.specs.Fields.{Field, field}
use Rattle.bdb_law_turned.specs.Apart.{AreApart, AreDisjoint, IsUntouched}

-- each of these numbers ends before the next begins, from one place up to another
abbrev pub Between : ℕ → List Field → ℕ → Type 0
Between from [] to = from ≤ to
Between from (f ∷ fields) to = (from ≤ f.begin) × Between (f.begin + f.width) fields to

pub ordered : (from : ℕ) (fields : List Field) (to : ℕ) → Between from fields to → from ≤ to
ordered from [] to between = between
ordered from (f ∷ fields) to between =
    let here : from ≤ f.begin = between.0 in
    let later : f.begin + f.width ≤ to = ordered (f.begin + f.width) fields to between.1 in
    omega arith

pub bounds : (from : ℕ) (fields : List Field) (to : ℕ) (f : Field) → Between from fields to → Contains fields f → (from ≤ f.begin) × (f.begin + f.width ≤ to)
bounds from [] to f between at = absurd (no_member [] f refl at)
bounds from (g ∷ fields) to f between at =
    let here : from ≤ g.begin = between.0 in
    elim (member_cases g fields f at) [
      | inl same ↦ subst (λ h. (from ≤ h.begin) × (h.begin + h.width ≤ to)) same (here, ordered (g.begin + g.width) fields to between.1)
      | inr later ↦
          let rest : (g.begin + g.width ≤ f.begin) × (f.begin + f.width ≤ to) = bounds (g.begin + g.width) fields to f between.1 later in
          (omega arith, rest.1)
    ]

swapped : (f g : Field) → (f ≡ g) ⊎ AreDisjoint f g → (g ≡ f) ⊎ AreDisjoint g f
swapped f g (inl same) = inl (sym same)
swapped f g (inr (inl before)) = inr (inr before)
swapped f g (inr (inr past)) = inr (inl past)

-- of two lists whose numbers are apart from each other
pub apart_append : (xs ys : List Field) → AreApart xs → AreApart ys
    → ((f g : Field) → Contains xs f → Contains ys g → (f ≡ g) ⊎ AreDisjoint f g) → AreApart (xs ++ ys)
apart_append xs ys of_xs of_ys between f g at_f at_g =
    elim (Contains-append_cases xs ys f at_f) [
      | inl f_x ↦ elim (Contains-append_cases xs ys g at_g) [ inl g_x ↦ of_xs f g f_x g_x | inr g_y ↦ between f g f_x g_y ]
      | inr f_y ↦ elim (Contains-append_cases xs ys g at_g) [ inl g_x ↦ swapped g f (between g f g_x f_y) | inr g_y ↦ of_ys f g f_y g_y ]
    ]

pub apart_between : (from : ℕ) (fields : List Field) (to : ℕ) → Between from fields to → AreApart fields
apart_between from [] to between f g at_f at_g = absurd (no_member [] f refl at_f)
apart_between from (h ∷ fields) to between f g at_f at_g =
    elim (member_cases h fields f at_f) [
      | inl f_first ↦ elim (member_cases h fields g at_g) [
        | inl g_first ↦ inl (sym f_first ∙ g_first)
        | inr g_later ↦
            let low : h.begin + h.width ≤ g.begin = (bounds (h.begin + h.width) fields to g between.1 g_later).0 in
            inr (inl (subst (λ e. e.begin + e.width ≤ g.begin) f_first low))
      ]
      | inr f_later ↦ elim (member_cases h fields g at_g) [
        | inl g_first ↦
            let low : h.begin + h.width ≤ f.begin = (bounds (h.begin + h.width) fields to f between.1 f_later).0 in
            inr (inr (subst (λ e. e.begin + e.width ≤ f.begin) g_first low))
        | inr g_later ↦ apart_between (h.begin + h.width) fields to between.1 f g f_later g_later
      ]
    ]

-- Numbers in parts, each of which lies between two places of its own.
pub record AreParts (n : ℕ) (part : ℕ → List Field) (low high : ℕ → ℕ) : Type 0 where
  pub lies : (i : ℕ) → i < n → Between (low i) (part i) (high i)
  pub apart : (i j : ℕ) → i < n → j < n → (part i ≡ part j) ⊎ ((high i ≤ low j) ⊎ (high j ≤ low i))

pub of_parts : (n : ℕ) (part : ℕ → List Field) (f : Field) → Contains (flat_map part (range_with_len 0 n)) f → (i : ℕ) × (i < n) × Contains (part i) f
of_parts n part f at =
    let found = of_flat_map part (range_with_len 0 n) f at in
    let i : ℕ = found.0 in
    let range : (0 ≤ i) × (i < 0 + n) = of_range 0 n i found.1 in
    (i, omega arith, found.2)

pub in_parts : (n : ℕ) (part : ℕ → List Field) (i : ℕ) (f : Field) → i < n → Contains (part i) f → Contains (flat_map part (range_with_len 0 n)) f
in_parts n part i f lt at = in_flat_map part (range_with_len 0 n) i f (in_range 0 n i (omega arith) (omega arith)) at

pub apart_parts : (n : ℕ) (part : ℕ → List Field) (low high : ℕ → ℕ) → AreParts n part low high → AreApart (flat_map part (range_with_len 0 n))
apart_parts n part low high are f g at_f at_g =
    let of_f = of_parts n part f at_f in
    let of_g = of_parts n part g at_g in
    let i : ℕ = of_f.0 in
    let j : ℕ = of_g.0 in
    let bounds_f : (low i ≤ f.begin) × (f.begin + f.width ≤ high i) = bounds (low i) (part i) (high i) f (are.lies i of_f.1) of_f.2 in
    let bounds_g : (low j ≤ g.begin) × (g.begin + g.width ≤ high j) = bounds (low j) (part j) (high j) g (are.lies j of_g.1) of_g.2 in
    elim (are.apart i j of_f.1 of_g.1) [
      | inl same ↦ apart_between (low j) (part j) (high j) (are.lies j of_g.1) f g (subst (λ fields. Contains fields f) same of_f.2) of_g.2
      | inr (inl before) ↦ inr (inl (omega arith))
      | inr (inr past) ↦ inr (inr (omega arith))
    ]

-- The index.

pub index_between : (from n : ℕ) → Between (26 + 2 * from) (map (λ i. field (26 + 2 * i) 2) (range_with_len from n)) (26 + 2 * (from + n))
index_between from zero = omega arith
index_between from (suc n) =
    let rest : Between (26 + 2 * (from + 1)) (map (λ i. field (26 + 2 * i) 2) (range_with_len (from + 1) n)) (26 + 2 * (from + 1 + n)) = index_between
    (from + 1) n in
    let begin : 26 + 2 * (from + 1) ≡ 26 + 2 * from + 2 = omega arith in
    let end : 26 + 2 * (from + 1 + n) ≡ 26 + 2 * (from + suc n) = omega arith in (
      omega arith,
      subst (λ to. Between (26 + 2 * from + 2) (map (λ i. field (26 + 2 * i) 2) (range_with_len (from + 1) n)) to) end
          (subst (λ at. Between at (map (λ i. field (26 + 2 * i) 2) (range_with_len (from + 1) n)) (26 + 2 * (from + 1 + n))) begin rest),
    )

-- Places that are in none of them.

pub untouched_before : (from : ℕ) (fields : List Field) (to k : ℕ) → Between from fields to → k < from → IsUntouched fields k
untouched_before from fields to k between low f at =
    let b : (from ≤ f.begin) × (f.begin + f.width ≤ to) = bounds from fields to f between at in inl (omega arith)

pub untouched_past : (from : ℕ) (fields : List Field) (to k : ℕ) → Between from fields to → to ≤ k → IsUntouched fields k
untouched_past from fields to k between high f at =
    let b : (from ≤ f.begin) × (f.begin + f.width ≤ to) = bounds from fields to f between at in inr (omega arith)

pub untouched_cons : (f : Field) (fields : List Field) (k : ℕ) → (suc k ≤ f.begin) ⊎ (f.begin + f.width ≤ k) → IsUntouched fields k → IsUntouched (f ∷ fields) k
untouched_cons g fields k here rest f at =
    elim (member_cases g fields f at) [
      | inl same ↦ subst (λ h. (suc k ≤ h.begin) ⊎ (h.begin + h.width ≤ k)) same here
      | inr later ↦ rest f later
    ]
