-- Several pages that stand over one grove.
use Rattle.std.proofs.Common.{◌≡◌, ℕ, ◌+◌, ◌<◌, ◌≤◌, Bool, true, false, cond, List, [], ◌∷◌, ◌++◌, map, length, arith, refl, sym, ◌∙◌, ap, subst, inl, inr}
use Rattle.std.proofs.Common.{true≢false, length-append, ◌==◌, ◌||◌, IsTrue}
use Rattle.std.specs.List.{Contains, filter, flat_map, list_any}
use Rattle.std.proofs.Math.Bool.{or-false, or_assoc}
use Rattle.std.proofs.Math.Path.{fun_ext}
use Rattle.std.proofs.lemmas.Bool.{and_parts, eqb-true, eq-eqb, ne_eqb, or_from}
use Rattle.std.proofs.lemmas.List.{append_assoc}
use Rattle.std.proofs.lemmas.List.Elements.{filter-append, Contains-append_cases, Contains-append_left, Contains-append_right}
use Rattle.bdb_format.specs.declared.references.Reference.{Reference}
use Rattle.bdb_format.specs.Terms.{File, Owner, header_in, held_by, is_head_reference, page_at, refs}
use Rattle.bdb_format.proofs.MemberLemmas.{first_member, later_member, in_filter, in_map, is_empty, no_member, of_filter, of_map}
use Rattle.bdb_law_grove.specs.Part.{IsGrove, IsOwnedBy, are_heads_alone, owners_among}
use Rattle.bdb_law_grove.specs.Standing.{IsNewPage, PagesStandOver, StandOver, StandsOver, named_by, names}
use Rattle.bdb_format.proofs.ListLemmas.{only_member}
use Rattle.bdb_law_grove.proofs.OwnerLemmas.{names_page, owner_of, unowned}
use Rattle.bdb_law_grove.proofs.StandLemmas.{names_target, page_stands_over, with_page}

-- Numbers that stand once.

-- how often a number stands in a list
abbrev pub count : ℕ → List ℕ → ℕ
count e xs = length (filter (λ other. other == e) xs)

pub some_count : (e : ℕ) (xs : List ℕ) → Contains xs e → 1 ≤ count e xs
some_count e xs at =
    let found = in_filter (λ other. other == e) xs e at (eq-eqb e e refl) in
    let lt : found.0 < count e xs = found.1 in omega arith

pub count-append : (e : ℕ) (xs ys : List ℕ) → count e (xs ++ ys) ≡ count e xs + count e ys
count-append e xs ys =
    ap length (filter-append (λ other. other == e) xs ys) ∙ length-append (filter (λ other. other == e) xs) (filter (λ other. other == e) ys)

-- a number that stands once in two lists isn't in both
pub once_apart : (e : ℕ) (xs ys : List ℕ) → count e (xs ++ ys) ≤ 1 → Contains xs e → Contains ys e → ⊥
once_apart e xs ys once one two = omega (arith, once, count-append e xs ys, some_count e xs one, some_count e ys two)

-- What a page names.

pub named_count : (p q : ℕ) (rs : List Reference)
    → length (filter (names_page q) (map (owner_of p) rs)) ≡ count q (map (λ (r : Reference). r.target) rs)
named_count p q [] = refl
named_count p q (r ∷ rs) = grind (arith, names_page, owner_of, named_count p q rs)

-- an owner among them is a reference of the page
pub named_reference : (g : File) (p q : ℕ) (owner : Owner) → Contains (named_by g p q) owner
    → (r : Reference) × Contains (refs g p) r × (owner.reference ≡ r) × (r.target ≡ q)
named_reference g p q owner at =
    let passed = of_filter (names_page q) (held_by g p) owner at in
    let held = of_map (owner_of p) (refs g p) owner passed.0 in
    let same : owner.reference ≡ held.0 = sym (ap (λ (o : Owner). o.reference) held.2) in
    (held.0, held.1, same, ap (λ (r : Reference). r.target) (sym same) ∙ eqb-true owner.reference.target q passed.1)

pub named_not : (g : File) (p e : ℕ) → (Contains (names g p) e → ⊥) → named_by g p e ≡ []
named_not g p e other =
    is_empty (named_by g p e) (λ owner at.
    let found = named_reference g p e owner at in
    other (subst (Contains (names g p)) found.3 (in_map (λ (r : Reference). r.target) (refs g p) found.0 found.1)))

pub first_head : (os : List Owner) → 0 < length os
    → (owner : Owner) × Contains os owner × (IsTrue (are_heads_alone os) → is_head_reference owner.reference.sort ≡ true)
first_head [] some = absurd (omega arith)
first_head (o ∷ os) some = (o, first_member o os, λ heads. (and_parts (is_head_reference o.reference.sort) (are_heads_alone os) heads).0)

-- an entrance that a page names once is owned by it as it must be
pub named_owned : (g : File) (pages : ℕ → Bool) (es : List ℕ) (p q : ℕ) → IsGrove g pages es → Contains es q → 0 < length (named_by g p q)
    → count q (names g p) ≤ 1
    → ((r : Reference) → Contains (refs g p) r → is_head_reference r.sort ≡ true → 1 ≤ (header_in (page_at g r.target)).entries)
    → IsOwnedBy (owners_among pages g q ++ named_by g p q) (header_in (page_at g q)).entries
named_owned g pages es p q grove entrance some once counts =
    subst (λ os. IsOwnedBy (os ++ named_by g p q) (header_in (page_at g q)).entries) (sym (unowned g pages es q grove entrance))
    (inl (
      omega (arith, once, some, named_count p q (refs g p)),
      λ heads.
          let first = first_head (named_by g p q) some in
          let found = named_reference g p q first.0 first.1 in
          subst (λ (t : ℕ). 1 ≤ (header_in (page_at g t)).entries) found.3
          (counts found.0 found.1 (subst (λ (r : Reference). is_head_reference r.sort ≡ true) found.2 (first.2 heads))),
    ))

-- Page after page.

abbrev with_pages : (ℕ → Bool) → List ℕ → ℕ → Bool
with_pages pages ps q = pages q || list_any (λ p. q == p) ps

-- the pages that are left, over the grove and the first
over_rest : (g : File) (pages : ℕ → Bool) (p : ℕ) (ps : List ℕ) → StandOver g pages (p ∷ ps) → StandOver g (with_page pages p) ps
over_rest g pages p ps over = record {
  page = λ q at. let page = over.page q (later_member p ps q at) in record {
    low = page.low;
    high = page.high;
    new = or_from (pages q) (q == p) page.new
        (ne_eqb q p (λ same. once_apart p (p ∷ []) ps (over.apart p) (first_member p []) (subst (Contains ps) same at)));
    fits = page.fits;
  };
  apart = λ q. omega (arith, over.apart q, count-append q (p ∷ []) ps);
  once = λ e. omega (arith, over.once e, count-append e (names g p) (flat_map (names g) ps));
  counts = λ q r at. over.counts q r (later_member p ps q at);
}

-- the first of them over the grove
over_first : (g : File) (pages : ℕ → Bool) (p : ℕ) (ps done : List ℕ) → StandOver g pages (p ∷ ps)
    → ((e : ℕ) → Contains done e → Contains (flat_map (names g) (p ∷ ps)) e → ⊥) → IsGrove g pages (done ++ flat_map (names g) (p ∷ ps))
    → StandsOver g pages (done ++ flat_map (names g) (p ∷ ps)) p ((done ++ (p ∷ [])) ++ flat_map (names g) ps)
over_first g pages p ps done over other grove =
    record {
      page = over.page p (first_member p ps);
      inside = λ r at. grove.entered r.target (of_own r.target (in_map (λ (s : Reference). s.target) (refs g p) r at));
      owned = λ q is some.
          let found = let first = first_head (named_by g p q) some in named_reference g p q first.0 first.1 in
          named_owned g pages es p q grove
          (subst (Contains es) found.3 (of_own found.0.target (in_map (λ (s : Reference). s.target) (refs g p) found.0 found.1)))
          some (omega (arith, over.once q, count-append q (names g p) (flat_map (names g) ps))) (λ r. over.counts p r (first_member p ps));
      entrance = Contains-append_left (done ++ (p ∷ [])) (flat_map (names g) ps) p (Contains-append_right done (p ∷ []) p (first_member p []));
      left = λ e at. elim (Contains-append_cases (done ++ (p ∷ [])) (flat_map (names g) ps) e at) [
        | inl before ↦ elim (Contains-append_cases done (p ∷ []) e before) [
          | inl old ↦ inr (
            Contains-append_left done (flat_map (names g) (p ∷ ps)) e old,
            named_not g p e (λ named. other e old
                (Contains-append_left (names g p) (flat_map (names g) ps) e named)),
          )
          | inr this ↦ inl (sym (only_member p e this))
        ]
        | inr later ↦ inr (
          Contains-append_right done (flat_map (names g) (p ∷ ps)) e (Contains-append_right (names g p) (flat_map (names g) ps) e later),
          named_not g p e (λ named. once_apart e (names g p) (flat_map (names g) ps) (over.once e) named later),
        )
      ];
      rest = λ e at none. elim (Contains-append_cases done (flat_map (names g) (p ∷ ps)) e at) [
        | inl old ↦ Contains-append_left (done ++ (p ∷ [])) (flat_map (names g) ps) e (Contains-append_left done (p ∷ []) e old)
        | inr new ↦ elim (Contains-append_cases (names g p) (flat_map (names g) ps) e new) [
          | inl named ↦
              let found = of_map (λ (s : Reference). s.target) (refs g p) e named in
              absurd (names_target g p found.0 found.1 (ap (named_by g p) found.2 ∙ none))
          | inr later ↦ Contains-append_right (done ++ (p ∷ [])) (flat_map (names g) ps) e later
        ]
      ];
    }
  where
    es : List ℕ
    es = done ++ flat_map (names g) (p ∷ ps)

    of_own : (e : ℕ) → Contains (names g p) e → Contains es e
    of_own e named = Contains-append_right done (flat_map (names g) (p ∷ ps)) e (Contains-append_left (names g p) (flat_map (names g) ps) e named)

-- pages that stand already are entrances, and none of those that are left names one
several : (g : File) (pages : ℕ → Bool) (ps done : List ℕ) → StandOver g pages ps
    → ((e : ℕ) → Contains done e → Contains (flat_map (names g) ps) e → ⊥) → IsGrove g pages (done ++ flat_map (names g) ps)
    → IsGrove g (with_pages pages ps) (done ++ ps)
several g pages [] done over other grove =
    subst (λ (qs : ℕ → Bool). IsGrove g qs (done ++ [])) (fun_ext (λ q. sym (or-false (pages q)))) grove
several g pages (p ∷ ps) done over other grove =
    subst (λ (qs : ℕ → Bool). IsGrove g qs (done ++ (p ∷ ps))) (fun_ext (λ q. or_assoc (pages q) (q == p) (list_any (λ r. q == r) ps)))
    (subst (IsGrove g (with_pages (with_page pages p) ps)) (append_assoc done (p ∷ []) ps)
    (several g (with_page pages p) ps (done ++ (p ∷ [])) (over_rest g pages p ps over) apart
    (page_stands_over g pages (done ++ flat_map (names g) (p ∷ ps)) p ((done ++ (p ∷ [])) ++ flat_map (names g) ps)
    (over_first g pages p ps done over other grove) grove)))
  where
    apart : (e : ℕ) → Contains (done ++ (p ∷ [])) e → Contains (flat_map (names g) ps) e → ⊥
    apart e at later =
        let named : Contains (flat_map (names g) (p ∷ ps)) e = Contains-append_right (names g p) (flat_map (names g) ps) e later in
        elim (Contains-append_cases done (p ∷ []) e at) [
          | inl old ↦ other e old named
          | inr this ↦
              let entered : pages e ≡ true = grove.entered e (Contains-append_right done (flat_map (names g) (p ∷ ps)) e named) in
              true≢false (sym entered ∙ (ap pages (sym (only_member p e this)) ∙ (over.page p (first_member p ps)).new))
        ]

pub pages_stand_over : PagesStandOver
pages_stand_over g pages ps over grove = several g pages ps [] over (λ e at named. no_member [] e refl at) grove

pub one_at_most : (test : ℕ → Bool) (x : ℕ) → length (filter test (x ∷ [])) ≤ 1
one_at_most test x = elim (test x) as (λ b. length (cond b (x ∷ []) []) ≤ 1) [ true ↦ omega arith | false ↦ omega arith ]

-- a page over the only entrance of a grove, by its only reference
pub page_over_one : (g : File) (pages : ℕ → Bool) (p : ℕ) (r : Reference) → IsNewPage g pages p → refs g p ≡ r ∷ []
    → (is_head_reference r.sort ≡ true → 1 ≤ (header_in (page_at g r.target)).entries) → IsGrove g pages (r.target ∷ [])
    → IsGrove g (with_page pages p) (p ∷ [])
page_over_one g pages p r page one counts grove =
    subst (λ (qs : ℕ → Bool). IsGrove g qs (p ∷ [])) (fun_ext (λ q. ap (λ b. pages q || b) (or-false (q == p))))
    (pages_stand_over g pages (p ∷ [])
    (record {
      page = λ q at. subst (IsNewPage g pages) (only_member p q at) page;
      apart = λ q. one_at_most (λ other. other == q) p;
      once = λ e. subst (λ xs. count e xs ≤ 1) (sym entered) (one_at_most (λ other. other == e) r.target);
      counts = λ q s at of head.
          let same : r ≡ s = only_member r s (subst (λ rs. Contains rs s) (ap (refs g) (sym (only_member p q at)) ∙ one) of) in
          subst (λ (t : Reference). 1 ≤ (header_in (page_at g t.target)).entries) same
          (counts (subst (λ (t : Reference). is_head_reference t.sort ≡ true) (sym same) head));
    })
    (subst (IsGrove g pages) (sym entered) grove))
  where
    entered : flat_map (names g) (p ∷ []) ≡ r.target ∷ []
    entered = ap (λ rs. map (λ (s : Reference). s.target) rs ++ []) one
