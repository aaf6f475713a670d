-- The references to a page come from some pages alone.
use Rattle.std.proofs.Common.{◌≡◌, ℕ, zero, suc, ◌+◌, ◌<◌, ◌≤◌, Bool, true, false, cond, List, [], ◌∷◌, arith, refl, sym, ◌∙◌, ap, subst, inl, inr, ◌==◌}
use Rattle.std.specs.List.{Contains, filter, flat_map, range_with_len}
use Rattle.std.proofs.lemmas.Bool.{cases_Bool, eqb-true, eqb-false}
use Rattle.std.proofs.lemmas.List.Elements.{filter-append}
use Rattle.bdb_format.specs.declared.references.Reference.{Reference}
use Rattle.bdb_format.specs.Terms.{File, Owner, held_by, refs}
use Rattle.bdb_format.proofs.MemberLemmas.{first_member, later_member, is_empty, of_map, of_filter, of_flat_map, of_range}
use Rattle.bdb_law_grove.specs.Part.{IsGrove, owners_among}

-- an owner that names this page
abbrev pub names_page : ℕ → Owner → Bool
names_page p owner = owner.reference.target == p

-- a page with a reference that it holds, as an owner
abbrev pub owner_of : ℕ → Reference → Owner
owner_of p r = record { holder = p; reference = r }

-- no member passes
pub filter_none : {X : Type 0} (test : X → Bool) (xs : List X) → ((x : X) → Contains xs x → test x ≡ true → ⊥) → filter test xs ≡ []
filter_none test xs none = is_empty (filter test xs) (λ x at. let found = of_filter test xs x at in none x found.0 found.1)

-- members that give nothing may be left out before a join
pub filter_first : {X Y : Type 0} (pages : X → Bool) (test : Y → Bool) (f : X → List Y) (xs : List X)
    → ((x : X) → Contains xs x → pages x ≡ false → filter test (f x) ≡ [])
    → filter test (flat_map f xs) ≡ filter test (flat_map f (filter pages xs))
filter_first pages test f [] none = refl
filter_first pages test f (x ∷ xs) none =
    grind (arith, later_member, filter-append, cases_Bool, first_member, filter_first pages test f xs (λ y at. none y (later_member x xs y at)))

-- a page of these holds no reference to this one
abbrev pub NamesNot : File → ℕ → ℕ → Type 0
NamesNot file p q = (r : Reference) → Contains (refs file q) r → r.target ≡ p → ⊥

-- none of what it holds names this one
pub held_none : (file : File) (p q : ℕ) → NamesNot file p q → filter (names_page p) (held_by file q) ≡ []
held_none file p q names =
    filter_none (names_page p) (held_by file q) (λ owner at passes.
    let held : (r : Reference) × Contains (refs file q) r × (record { holder = q; reference = r } ≡ owner) =
    of_map (λ r. record { holder = q; reference = r }) (refs file q) owner at in
    names held.0 held.1 (ap (λ (o : Owner). o.reference.target) held.2 ∙ eqb-true owner.reference.target p passes))

-- an owner among some pages is a reference of one of them
pub owner_among : (pages : ℕ → Bool) (file : File) (p : ℕ) (owner : Owner) → Contains (owners_among pages file p) owner
    → (q : ℕ) × (pages q ≡ true) × (r : Reference) × Contains (refs file q) r × (owner_of q r ≡ owner) × (r.target ≡ p)
owner_among pages file p owner at =
    let passed = of_filter (names_page p) (flat_map (held_by file) (filter pages (range_with_len 0 (file.last + 1)))) owner at in
    let page = of_flat_map (held_by file) (filter pages (range_with_len 0 (file.last + 1))) owner passed.0 in
    let held = of_map (owner_of page.0) (refs file page.0) owner page.2 in (
      page.0,
      (of_filter pages (range_with_len 0 (file.last + 1)) page.0 page.1).1,
      held.0,
      held.1,
      held.2,
      ap (λ (o : Owner). o.reference.target) held.2 ∙ eqb-true owner.reference.target p passed.1,
    )

-- an entrance has no owner
pub unowned : (file : File) (pages : ℕ → Bool) (es : List ℕ) (e : ℕ) → IsGrove file pages es → Contains es e → owners_among pages file e ≡ []
unowned file pages es e grove entrance =
    is_empty (owners_among pages file e) (λ owner at.
    let found = owner_among pages file e owner at in grove.apart found.0 found.2 found.1 found.3 (subst (Contains es) (sym found.5) entrance))

-- One page alone.

skip : (m a n : ℕ) → m < a → filter (λ q. q == m) (range_with_len a n) ≡ []
skip m a n low = filter_none (λ q. q == m) (range_with_len a n)
    (λ q at same. let within = of_range a n q at in let is : q ≡ m = eqb-true q m same in omega arith)

-- a number stands once in a range
pub one_of_range : (m a n : ℕ) → a ≤ m → m < a + n → filter (λ q. q == m) (range_with_len a n) ≡ m ∷ []
one_of_range m a zero low high = absurd (omega arith)
one_of_range m a (suc n) low high =
    elim (cases_Bool (a == m)) [
      | inl same ↦
          let is : a ≡ m = eqb-true a m same in
          ap (λ b. cond b (a ∷ filter (λ q. q == m) (range_with_len (a + 1) n)) (filter (λ q. q == m) (range_with_len (a + 1) n))) same
          ∙ (ap (λ xs. a ∷ xs) (skip m (a + 1) n (omega arith)) ∙ ap (λ x. x ∷ []) is)
      | inr other ↦
          let differs : a ≡ m → ⊥ = eqb-false a m other in
          ap (λ b. cond b (a ∷ filter (λ q. q == m) (range_with_len (a + 1) n)) (filter (λ q. q == m) (range_with_len (a + 1) n))) other
          ∙ one_of_range m (a + 1) n (omega arith) (omega arith)
    ]
