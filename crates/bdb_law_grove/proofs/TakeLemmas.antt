-- A grove takes in an entrance by one more reference.
use Rattle.std.proofs.Common.{◌≡◌, ◌⊎◌, ℕ, ◌+◌, ◌≤◌, Bool, true, false, cond, List, [], ◌∷◌, ◌++◌, map, Some, None, arith, refl, sym, ◌∙◌, ap, subst, inl, inr}
use Rattle.std.specs.Prelude.{◌==◌, ◌&&◌, IsTrue}
use Rattle.std.specs.List.{Contains, filter, flat_map, range_with_len}
use Rattle.std.proofs.lemmas.Bool.{cases_Bool, cases_eq, eqb-false, eq-eqb, ne_eqb}
use Rattle.std.proofs.lemmas.List.{map-append, append-nil}
use Rattle.std.proofs.lemmas.List.Elements.{filter-append, Contains-append_cases}
use Rattle.bdb_format.specs.declared.references.Reference.{Reference}
use Rattle.bdb_format.specs.Terms.{File, Owner, first_holder, fit_code, header_in, held_by, is_head_reference, page_at, refs}
use Rattle.bdb_format.proofs.MemberLemmas.{of_filter}
use Rattle.bdb_law_grove.specs.Part.{IsOwnedBy, IsWayIn, are_heads_alone, owners_among}
use Rattle.bdb_law_grove.specs.Growing.{KeepsFace, GroveTakesIn}
use Rattle.bdb_format.proofs.ListLemmas.{only_member}
use Rattle.bdb_law_grove.proofs.OwnerLemmas.{NamesNot, filter_first, held_none, names_page, one_of_range, owner_of, unowned}
use Rattle.bdb_law_grove.proofs.GroveLemmas.{code_kept, owners_same, refs_same, same_face}

-- references that come last
pub held_more : (f g : File) (p : ℕ) (r : Reference) → refs g p ≡ refs f p ++ (r ∷ []) → held_by g p ≡ held_by f p ++ (owner_of p r ∷ [])
held_more f g p r names = ap (λ rs. map (owner_of p) rs) names ∙ map-append (owner_of p) (refs f p) (r ∷ [])

-- a page that the new reference doesn't name
pub other_names : (f g : File) (p x : ℕ) (r : Reference) → refs g p ≡ refs f p ++ (r ∷ []) → (r.target ≡ x → ⊥)
    → filter (names_page x) (held_by g p) ≡ filter (names_page x) (held_by f p)
other_names f g p x r names other =
    ap (filter (names_page x)) (held_more f g p r names)
    ∙ (filter-append (names_page x) (held_by f p) (owner_of p r ∷ [])
    ∙ (ap (λ b. filter (names_page x) (held_by f p) ++ cond b (owner_of p r ∷ []) []) (ne_eqb r.target x other)
    ∙ append-nil (filter (names_page x) (held_by f p))))

-- the page that it names, and that had no owner
new_name : (f g : File) (p : ℕ) (r : Reference) → refs g p ≡ refs f p ++ (r ∷ []) → NamesNot f r.target p
    → filter (names_page r.target) (held_by g p) ≡ owner_of p r ∷ []
new_name f g p r names none =
    ap (filter (names_page r.target)) (held_more f g p r names)
    ∙ (filter-append (names_page r.target) (held_by f p) (owner_of p r ∷ [])
    ∙ (ap (λ b. filter (names_page r.target) (held_by f p) ++ cond b (owner_of p r ∷ []) []) (eq-eqb r.target r.target refl)
    ∙ ap (λ os. os ++ (owner_of p r ∷ [])) (held_none f r.target p none)))

-- one page of a set
pub filter_inner : (pages : ℕ → Bool) (m : ℕ) (xs : List ℕ) → pages m ≡ true → filter (λ q. q == m) (filter pages xs) ≡ filter (λ q. q == m) xs
filter_inner pages m [] is = refl
filter_inner pages m (x ∷ xs) is = grind (arith, cases_Bool, ne_eqb, filter_inner pages m xs is)

-- only one page names this one
only_holder : (pages : ℕ → Bool) (g : File) (p c : ℕ) → pages p ≡ true → p ≤ g.last → ((q : ℕ) → pages q ≡ true → (q ≡ p → ⊥) → NamesNot g c q)
    → owners_among pages g c ≡ filter (names_page c) (held_by g p)
only_holder pages g p c is high none =
    filter_first (λ q. q == p) (names_page c) (held_by g) (filter pages (range_with_len 0 (g.last + 1)))
    (λ q at other. held_none g c q (none q (of_filter pages (range_with_len 0 (g.last + 1)) q at).1 (eqb-false q p other)))
    ∙ (ap (λ qs. filter (names_page c) (flat_map (held_by g) qs))
    (filter_inner pages p (range_with_len 0 (g.last + 1)) is ∙ one_of_range p 0 (g.last + 1) (omega arith) (omega arith))
    ∙ ap (filter (names_page c)) (append-nil (held_by g p)))

-- owners stay enough where the count doesn't fall
pub owned_more : (os : List Owner) (counted more : ℕ) → counted ≤ more → IsOwnedBy os counted → IsOwnedBy os more
owned_more os counted more grows (inl (one, counts)) = inl (one, λ heads. let c : 1 ≤ counted = counts heads in omega arith)
owned_more os counted more grows (inr (heads, some, few)) = inr (heads, some, omega arith)

-- an owner among some pages is held by one of them
empty_first : (os : List Owner) (h : ℕ) → os ≡ [] → first_holder os ≡ Some h → ⊥
empty_first [] h none first = cc
empty_first (o ∷ os) h none first = cc

pub takes_in : GroveTakesIn
takes_in f g pages es fewer p r takes grove =
    record {
      low = grove.low;
      high = λ q is. let h : q ≤ f.last = grove.high q is in omega (arith, takes.grows);
      fits = λ q s is at.
          elim (cases_eq q p) [
            | inl same ↦
                elim (last_or_before (subst (λ (x : ℕ). Contains (refs g x) s) same at)) [
                  | inl before ↦ subst (λ (x : ℕ). fit_code g x s ≡ None) (sym same) (kept p s takes.inside before)
                  | inr new ↦ subst (λ (x : ℕ). fit_code g x s ≡ None) (sym same) (subst (λ (t : Reference). fit_code g p t ≡ None) new takes.fits)
                ]
            | inr other ↦ kept q s is (stays q s is other at)
          ];
      closed = λ q s is at.
          elim (cases_eq q p) [
            | inl same ↦
                elim (last_or_before (subst (λ (x : ℕ). Contains (refs g x) s) same at)) [
                  | inl before ↦ grove.closed p s takes.inside before
                  | inr new ↦ subst (λ (t : Reference). pages t.target ≡ true) new (grove.entered r.target takes.entrance)
                ]
            | inr other ↦ grove.closed q s is (stays q s is other at)
          ];
      entered = λ e at. grove.entered e (takes.left e at);
      apart = λ q s is at entrance.
          elim (cases_eq q p) [
            | inl same ↦
                elim (last_or_before (subst (λ (x : ℕ). Contains (refs g x) s) same at)) [
                  | inl before ↦ grove.apart p s takes.inside before (takes.left s.target entrance)
                  | inr new ↦ takes.gone (subst (λ (t : Reference). Contains fewer t.target) (sym new) entrance)
                ]
            | inr other ↦ grove.apart q s is (stays q s is other at) (takes.left s.target entrance)
          ];
      owned = λ x is inner.
          elim (cases_eq x r.target) [
            | inl same ↦
                subst (λ (y : ℕ). IsOwnedBy (owners_among pages g y) (header_in (page_at g y)).entries) (sym same)
                (subst (λ os. IsOwnedBy os (header_in (page_at g r.target)).entries) (sym taken) (inl (refl, one_counts)))
            | inr other ↦
                subst (λ os. IsOwnedBy os (header_in (page_at g x)).entries) (sym (owners_kept x other))
                (owned_more (owners_among pages f x) _ _ (face_of x is).entries
                (grove.owned x is (λ at. elim (takes.rest x at) [ inl same ↦ other same | inr later ↦ inner later ])))
          ];
      led = λ x is. let way = grove.led x is in led_on x way.0 way.1;
    }
  where
    last_or_before : {s : Reference} → Contains (refs g p) s → Contains (refs f p) s ⊎ (r ≡ s)
    last_or_before {s} at =
        elim (Contains-append_cases (refs f p) (r ∷ []) s (subst (λ rs. Contains rs s) takes.names at)) [
          | inl before ↦ inl before
          | inr new ↦ inr (only_member r s new)
        ]

    stays : (q : ℕ) (s : Reference) → pages q ≡ true → (q ≡ p → ⊥) → Contains (refs g q) s → Contains (refs f q) s
    stays q s is other at = subst (λ rs. Contains rs s) (refs_same f g q takes.no_queue_before takes.no_queue (takes.others q is other)) at

    face_of : (q : ℕ) → pages q ≡ true → KeepsFace (page_at f q) (page_at g q)
    face_of q is =
        elim (cases_eq q p) [
          | inl same ↦ subst (λ (x : ℕ). KeepsFace (page_at f x) (page_at g x)) (sym same) takes.face
          | inr other ↦ same_face _ _ (takes.others q is other)
        ]

    kept : (q : ℕ) (s : Reference) → pages q ≡ true → Contains (refs f q) s → fit_code g q s ≡ None
    kept q s is at = code_kept f g q s takes.grows (face_of q is) (face_of s.target (grove.closed q s is at)) (grove.fits q s is at)

    owners_kept : (x : ℕ) → (x ≡ r.target → ⊥) → owners_among pages g x ≡ owners_among pages f x
    owners_kept x other =
        owners_same pages f g x takes.grows grove.high (λ q is.
        elim (cases_eq q p) [
          | inl same ↦ subst (λ (y : ℕ). filter (names_page x) (held_by g y) ≡ filter (names_page x) (held_by f y)) (sym same)
              (other_names f g p x r takes.names (λ e. other (sym e)))
          | inr differs ↦
              ap (λ rs. filter (names_page x) (map (owner_of q) rs)) (refs_same f g q takes.no_queue_before takes.no_queue (takes.others q is differs))
        ])

    taken : owners_among pages g r.target ≡ owner_of p r ∷ []
    taken =
        only_holder pages g p r.target takes.inside (let h : p ≤ f.last = grove.high p takes.inside in omega (arith, takes.grows))
        (λ q is other s at names. grove.apart q s is (stays q s is other at) (subst (Contains es) (sym names) takes.entrance))
        ∙ new_name f g p r takes.names (λ s at names. grove.apart p s takes.inside at (subst (Contains es) (sym names) takes.entrance))

    one_counts : IsTrue (are_heads_alone (owner_of p r ∷ [])) → 1 ≤ (header_in (page_at g r.target)).entries
    one_counts heads = takes.counts (head_of_one (is_head_reference r.sort) heads)
      where
        head_of_one : (b : Bool) → IsTrue (b && true) → b ≡ true
        head_of_one true is = refl
        head_of_one false is = absurd cc

    -- an entrance has no owner, so a page with a first holder isn't one
    no_owner : (h : ℕ) → first_holder (owners_among pages f r.target) ≡ Some h → ⊥
    no_owner h first = empty_first (owners_among pages f r.target) h (unowned f pages es r.target grove takes.entrance) first

    way_kept : (x : ℕ) (hs : List ℕ) → IsWayIn f pages fewer x hs → IsWayIn g pages fewer x hs
    way_kept x [] way = way
    way_kept x (h ∷ hs) way = (
      ap first_holder (owners_kept x (λ same. no_owner h (subst (λ (y : ℕ). first_holder (owners_among pages f y) ≡ Some h) same way.0)))
          ∙ way.0,
      way_kept h hs way.1,
    )

    led_on : (x : ℕ) (hs : List ℕ) → IsWayIn f pages es x hs → (gs : List ℕ) × IsWayIn g pages fewer x gs
    led_on x [] way =
        elim (takes.rest x way) [
          | inl same ↦
              (p ∷ takes.led.0, (ap (λ (y : ℕ). first_holder (owners_among pages g y)) same ∙ ap first_holder taken, way_kept p takes.led.0 takes.led.1))
          | inr later ↦ ([], later)
        ]
    led_on x (h ∷ hs) way =
        let on = led_on h hs way.1 in (
          h ∷ on.0,
          (
            ap first_holder (owners_kept x (λ same. no_owner h (subst (λ (y : ℕ). first_holder (owners_among pages f y) ≡ Some h) same way.0)))
                ∙ way.0,
            on.1,
          ),
        )
