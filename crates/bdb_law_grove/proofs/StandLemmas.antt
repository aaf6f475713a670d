-- A page that stands over entrances of a grove, in one file.
use Rattle.std.proofs.Common.{◌≡◌, ◌⊎◌, ℕ, suc, ◌+◌, ◌-◌, ◌<◌, ◌≤◌, Bool, true, false, cond, List, [], ◌∷◌, ◌++◌, length, Some, None, arith, refl, sym, ◌∙◌, ap}
use Rattle.std.proofs.Common.{subst, inl, inr, true≢false, length-append, ◌==◌, ◌||◌, IsTrue}
use Rattle.std.specs.List.{Contains, filter, flat_map, range_with_len}
use Rattle.std.proofs.Math.Bool.{and_comm, or-false}
use Rattle.std.proofs.lemmas.Bool.{eqb-true, eq-eqb, ne_eqb, or_left, or_right, or_cases}
use Rattle.std.proofs.lemmas.List.{append_assoc}
use Rattle.std.proofs.lemmas.List.Elements.{filter-append}
use Rattle.std.proofs.lemmas.List.Folds.{list_all-append}
use Rattle.std.proofs.lemmas.Grind.{flat_map-append}
use Rattle.bdb_format.specs.declared.references.Reference.{Reference}
use Rattle.bdb_format.specs.Terms.{File, Owner, first_holder, fit_code, header_in, held_by, page_at, refs}
use Rattle.bdb_format.proofs.MemberLemmas.{first_member, later_member, in_filter, in_map, no_member, of_filter, of_map, of_range}
use Rattle.bdb_format.proofs.ListLemmas.{range_parts}
use Rattle.bdb_law_grove.specs.Part.{IsOwnedBy, IsWayIn, are_heads_alone, owners_among}
use Rattle.bdb_law_grove.specs.Standing.{PageStandsOver, named_by}
use Rattle.bdb_law_grove.proofs.OwnerLemmas.{names_page, owner_of, unowned}
use Rattle.bdb_law_grove.proofs.BesideLemmas.{first_inside}

-- Owners.

-- the references of a page stand somewhere among the owners
record ArePut (before after : List Owner) (new : List Owner) : Type 0 where
  front : List Owner
  back : List Owner
  old : before ≡ front ++ back
  all : after ≡ front ++ (new ++ back)

-- whether a page is owned goes by how many owners it has, and whether they are heads alone
owned_by_measure : (os ns : List Owner) (counted : ℕ) → length os ≡ length ns → are_heads_alone os ≡ are_heads_alone ns → IsOwnedBy os counted
    → IsOwnedBy ns counted
owned_by_measure os ns counted long heads (inl (one, counts)) = inl (sym long ∙ one, λ is. counts (subst IsTrue (sym heads) is))
owned_by_measure os ns counted long heads (inr (is, some, few)) = inr (subst IsTrue heads is, omega arith, omega arith)

put_heads : (front new back : List Owner) → are_heads_alone ((front ++ back) ++ new) ≡ are_heads_alone (front ++ (new ++ back))
put_heads front new back = grind (arith, append_assoc, list_all-append, and_comm)

put_owned : (before after new : List Owner) (counted : ℕ) → ArePut before after new → IsOwnedBy (before ++ new) counted → IsOwnedBy after counted
put_owned before after new counted put owned = grind (arith, owned_by_measure, length-append, put_heads)

-- the first holder is the one before, or that of the new references, and there is one where these are some
put_first : (before after new : List Owner) → ArePut before after new
    → ((first_holder after ≡ first_holder before) × (first_holder after ≡ None → new ≡ []))
    ⊎ ((owner : Owner) × Contains new owner × (first_holder after ≡ Some owner.holder))
put_first before after new put =
    elim (of put.front new put.back) [
      | inl (same, some) ↦ inl (ap first_holder put.all ∙ (same ∙ ap first_holder (sym put.old)), λ none. some (sym (ap first_holder put.all) ∙ none))
      | inr found ↦ inr (found.0, found.1, ap first_holder put.all ∙ found.2)
    ]
  where
    of : (front os back : List Owner)
        → ((first_holder (front ++ (os ++ back)) ≡ first_holder (front ++ back)) × (first_holder (front ++ (os ++ back)) ≡ None → os ≡ []))
        ⊎ ((owner : Owner) × Contains os owner × (first_holder (front ++ (os ++ back)) ≡ Some owner.holder))
    of (o ∷ front) os back = inl (refl, λ none. absurd cc)
    of [] [] back = inl (refl, λ none. refl)
    of [] (o ∷ os) back = inr (o, first_member o os, refl)

-- One page more.

-- the owners of x that are held by those of the listed pages that are in the set
abbrev held_among : (ℕ → Bool) → File → ℕ → List ℕ → List Owner
held_among pages g x qs = filter (names_page x) (flat_map (held_by g) (filter pages qs))

held_among-append : (pages : ℕ → Bool) (g : File) (x : ℕ) (xs ys : List ℕ)
    → held_among pages g x (xs ++ ys) ≡ held_among pages g x xs ++ held_among pages g x ys
held_among-append pages g x xs ys = grind (arith, names_page, filter-append, flat_map-append)

abbrev pub with_page : (ℕ → Bool) → ℕ → ℕ → Bool
with_page pages p q = pages q || (q == p)

-- among other pages the owners are those before
same_without : (pages : ℕ → Bool) (p : ℕ) (qs : List ℕ) → ((q : ℕ) → Contains qs q → q ≡ p → ⊥) → filter (with_page pages p) qs ≡ filter pages qs
same_without pages p [] other = refl
same_without pages p (q ∷ qs) other =
    let same : with_page pages p q ≡ pages q = ap (λ b. pages q || b) (ne_eqb q p (other q (first_member q qs))) ∙ or-false (pages q) in
    ap (λ b. cond b (q ∷ filter (with_page pages p) qs) (filter (with_page pages p) qs)) same
    ∙ ap (λ rs. cond (pages q) (q ∷ rs) rs) (same_without pages p qs (λ r at. other r (later_member q qs r at)))

-- the references of the page stand among the owners in the place of its number
page_put : (g : File) (pages : ℕ → Bool) (p x : ℕ) → p ≤ g.last → pages p ≡ false
    → ArePut (owners_among pages g x) (owners_among (with_page pages p) g x) (named_by g p x)
page_put g pages p x high new =
    record {
      front = held_among pages g x lower;
      back = held_among pages g x upper;
      old = ap (held_among pages g x) whole
          ∙ (held_among-append pages g x lower (p ∷ upper)
          ∙ ap (λ b. held_among pages g x lower ++ from_page pages b) new);
      all = ap (held_among (with_page pages p) g x) whole
          ∙ (held_among-append (with_page pages p) g x lower (p ∷ upper)
          ∙ (ap (λ qs. filter (names_page x) (flat_map (held_by g) qs) ++ held_among (with_page pages p) g x (p ∷ upper))
          (same_without pages p lower (λ q at same. let within = of_range 0 p q at in omega (arith, within.1)))
          ∙ ap (λ os. held_among pages g x lower ++ os)
          (ap (from_page (with_page pages p)) (or_right (pages p) (p == p) (eq-eqb p p refl))
          ∙ (filter-append (names_page x) (held_by g p) (flat_map (held_by g) (filter (with_page pages p) upper))
          ∙ ap (λ qs. named_by g p x ++ filter (names_page x) (flat_map (held_by g) qs))
          (same_without pages p upper (λ q at same. let within = of_range (p + 1) (g.last - p) q at in omega (arith, within.0)))))));
    }
  where
    lower : List ℕ
    lower = range_with_len 0 p

    upper : List ℕ
    upper = range_with_len (p + 1) (g.last - p)

    -- the owners from the page on, by whether it is one of the set
    from_page : (ℕ → Bool) → Bool → List Owner
    from_page qs b = filter (names_page x) (flat_map (held_by g) (cond b (p ∷ filter qs upper) (filter qs upper)))

    whole : range_with_len 0 (g.last + 1) ≡ lower ++ (p ∷ upper)
    whole =
        let e : g.last + 1 ≡ p + suc (g.last - p) = omega (arith, high) in
        let f : 0 + p ≡ p = omega arith in
        ap (range_with_len 0) e ∙ (range_parts 0 p (suc (g.last - p)) ∙ ap (λ a. lower ++ range_with_len a (suc (g.last - p))) f)

-- what a page names

pub names_target : (g : File) (p : ℕ) (r : Reference) → Contains (refs g p) r → named_by g p r.target ≡ [] → ⊥
names_target g p r at none =
    no_member (named_by g p r.target) (owner_of p r) none
    (in_filter (names_page r.target) (held_by g p) (owner_of p r) (in_map (owner_of p) (refs g p) r at) (eq-eqb r.target r.target refl))

named_holder : (g : File) (p x : ℕ) (owner : Owner) → Contains (named_by g p x) owner → owner.holder ≡ p
named_holder g p x owner at =
    let held = of_map (owner_of p) (refs g p) owner (of_filter (names_page x) (held_by g p) owner at).0 in
    sym (ap (λ (o : Owner). o.holder) held.2)

none_or_some : {X : Type 0} (xs : List X) → (xs ≡ []) ⊎ (0 < length xs)
none_or_some [] = inl refl
none_or_some (x ∷ xs) = inr (omega arith)

-- no new reference, no new owner
put_none : (before after new : List Owner) → ArePut before after new → new ≡ [] → after ≡ before
put_none before after new put none = put.all ∙ (ap (λ os. put.front ++ (os ++ put.back)) none ∙ sym put.old)

pub page_stands_over : PageStandsOver
page_stands_over g pages es p fewer over grove =
    record {
      low = λ q is. elim (sides q is) [ inl old ↦ grove.low q old | inr same ↦ subst (λ (x : ℕ). 1 ≤ x) (sym same) over.page.low ];
      high = λ q is. elim (sides q is) [ inl old ↦ grove.high q old | inr same ↦ subst (λ (x : ℕ). x ≤ g.last) (sym same) over.page.high ];
      fits = λ q r is at. elim (sides q is) [
        | inl old ↦ grove.fits q r old at
        | inr same ↦ subst (λ (x : ℕ). fit_code g x r ≡ None) (sym same) (over.page.fits r (own q r same at))
      ];
      closed = λ q r is at. kept r.target (target q r is at);
      entered = λ e at. elim (over.left e at) [ inl same ↦ there e same | inr (old, none) ↦ kept e (grove.entered e old) ];
      apart = λ q r is at entrance. elim (over.left r.target entrance) [
        | inl same ↦ true≢false (sym (target q r is at) ∙ (ap pages same ∙ over.page.new))
        | inr (old, none) ↦ elim (sides q is) [ inl inner ↦ grove.apart q r inner at old | inr same ↦ names_target g p r (own q r same at) none ]
      ];
      owned = λ q is inner. elim (sides q is) [
        | inl old ↦ elim (none_or_some (named_by g p q)) [
          | inl none ↦ subst (λ os. IsOwnedBy os (header_in (page_at g q)).entries) (sym (put_none _ _ _ (put q) none))
              (grove.owned q old (λ at. inner (over.rest q at none)))
          | inr some ↦ put_owned _ _ _ _ (put q) (over.owned q old some)
        ]
        | inr same ↦ absurd (inner (subst (Contains fewer) (sym same) over.entrance))
      ];
      led = λ q is. elim (sides q is) [
        | inl old ↦ let way = grove.led q old in led_on q way.0 old way.1
        | inr same ↦ ([], subst (Contains fewer) (sym same) over.entrance)
      ];
    }
  where
    both : ℕ → Bool
    both = with_page pages p

    sides : (q : ℕ) → both q ≡ true → (pages q ≡ true) ⊎ (q ≡ p)
    sides q is = elim (or_cases (pages q) (q == p) is) [ inl old ↦ inl old | inr same ↦ inr (eqb-true q p same) ]

    kept : (q : ℕ) → pages q ≡ true → both q ≡ true
    kept q is = or_left (pages q) (q == p) is

    there : (q : ℕ) → q ≡ p → both q ≡ true
    there q same = or_right (pages q) (q == p) (eq-eqb q p same)

    own : (q : ℕ) (r : Reference) → q ≡ p → Contains (refs g q) r → Contains (refs g p) r
    own q r same at = subst (λ (x : ℕ). Contains (refs g x) r) same at

    target : (q : ℕ) (r : Reference) → both q ≡ true → Contains (refs g q) r → pages r.target ≡ true
    target q r is at = elim (sides q is) [ inl old ↦ grove.closed q r old at | inr same ↦ over.inside r (own q r same at) ]

    put : (x : ℕ) → ArePut (owners_among pages g x) (owners_among both g x) (named_by g p x)
    put x = page_put g pages p x over.page.high over.page.new

    -- a page whose first holder is the new page is led up to from it
    by_page : (x : ℕ) (owner : Owner) → Contains (named_by g p x) owner → first_holder (owners_among both g x) ≡ Some owner.holder
        → (gs : List ℕ) × IsWayIn g both fewer x gs
    by_page x owner at first = (p ∷ [], (first ∙ ap Some (named_holder g p x owner at), over.entrance))

    -- else as before, and an entrance that is none now is named by the page
    led_on : (x : ℕ) (hs : List ℕ) → pages x ≡ true → IsWayIn g pages es x hs → (gs : List ℕ) × IsWayIn g both fewer x gs
    led_on x [] is way =
        elim (put_first _ _ _ (put x)) [
          | inl (same, some) ↦ ([], over.rest x way (some (same ∙ ap first_holder (unowned g pages es x grove way))))
          | inr (owner, at, first) ↦ by_page x owner at first
        ]
    led_on x (h ∷ hs) is way =
        elim (put_first _ _ _ (put x)) [
          | inl (same, some) ↦ let on = led_on h hs (first_inside pages g x h way.0) way.1 in (h ∷ on.0, (same ∙ way.0, on.1))
          | inr (owner, at, first) ↦ by_page x owner at first
        ]
