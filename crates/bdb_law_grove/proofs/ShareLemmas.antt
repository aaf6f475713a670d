-- A grove whose pages keep their faces, and one in which a chain is shared.
use Rattle.std.proofs.Common.{◌≡◌, ◌⊎◌, ℕ, ◌+◌, ◌-◌, ◌<◌, ◌≤◌, Bool, true, false, cond, List, [], ◌∷◌, ◌++◌, map, length, None, arith, refl, sym, ◌∙◌, ap}
use Rattle.std.proofs.Common.{subst, inl, inr, length-append, ◌&&◌}
use Rattle.std.specs.List.{Contains, filter, flat_map, range_with_len}
use Rattle.std.proofs.lemmas.Bool.{cases_eq, eq-eqb}
use Rattle.std.proofs.lemmas.List.{append-nil, append_assoc}
use Rattle.std.proofs.lemmas.List.Elements.{filter-append, Contains-append_cases}
use Rattle.std.proofs.lemmas.Grind.{flat_map-append}
use Rattle.bdb_format.specs.declared.references.Reference.{Reference}
use Rattle.bdb_format.specs.Terms.{File, Owner, first_holder, fit_code, header_in, held_by, is_head_reference, page_at, refs}
use Rattle.bdb_format.proofs.MemberLemmas.{first_member, later_member, of_filter, of_range}
use Rattle.bdb_law_grove.specs.Part.{IsOwnedBy, IsWayIn, are_heads_alone, owners_among}
use Rattle.bdb_law_grove.specs.Growing.{GroveKeepsFaces, GroveLasts, GroveShares, KeepsFace}
use Rattle.bdb_format.proofs.ListLemmas.{only_member, range_parts}
use Rattle.bdb_law_grove.proofs.OwnerLemmas.{filter_none, names_page, owner_of}
use Rattle.bdb_law_grove.proofs.GroveLemmas.{code_kept, held_same, owners_same, refs_kept, refs_same, same_face, same_page_face, way_same}
use Rattle.bdb_law_grove.proofs.TakeLemmas.{held_more, other_names, owned_more}

pub keeps_faces : GroveKeepsFaces
keeps_faces f g pages es keeps grove =
    let before : (p : ℕ) (r : Reference) → pages p ≡ true → Contains (refs g p) r → Contains (refs f p) r =
    λ p r is at. subst (λ rs. Contains rs r) (keeps.refs_same p is) at in
    let same : (x : ℕ) → owners_among pages g x ≡ owners_among pages f x =
    λ x. owners_same pages f g x keeps.grows grove.high (λ q is. ap (filter (names_page x)) (held_same f g q (keeps.refs_same q is))) in
    record {
      low = grove.low;
      high = λ p is. let h : p ≤ f.last = grove.high p is in omega (arith, keeps.grows);
      fits = λ p r is at. code_kept f g p r keeps.grows (keeps.faces p is) (keeps.faces r.target (grove.closed p r is (before p r is at)))
          (grove.fits p r is (before p r is at));
      closed = λ p r is at. grove.closed p r is (before p r is at);
      entered = grove.entered;
      apart = λ p r is at. grove.apart p r is (before p r is at);
      owned = λ p is inner.
          subst (λ os. IsOwnedBy os (header_in (page_at g p)).entries) (sym (same p))
          (owned_more (owners_among pages f p) _ _ (keeps.faces p is).entries (grove.owned p is inner));
      led = λ p is. let way = grove.led p is in (way.0, way_same f g pages es p way.0 same way.1);
    }

pub grove_lasts : GroveLasts
grove_lasts f g pages es later grove =
    keeps_faces f g pages es
    (record {
      grows = later.grows;
      refs_same = λ p is. refs_kept f g p later.no_queue_before later.no_queue (later.same p is);
      faces = λ p is. same_page_face _ _ (later.same p is);
    })
    grove

-- the pages of a set up to its greatest come before it
filter_last : (pages : ℕ → Bool) (p n : ℕ) → pages p ≡ true → p < n → ((q : ℕ) → pages q ≡ true → q ≤ p)
    → filter pages (range_with_len 0 n) ≡ filter pages (range_with_len 0 p) ++ (p ∷ [])
filter_last pages p n is low greatest =
    let e : n ≡ p + (1 + (n - (p + 1))) = omega (arith, low) in
    let rest : filter pages (range_with_len (0 + p + 1) (n - (p + 1))) ≡ [] =
    filter_none pages (range_with_len (0 + p + 1) (n - (p + 1)))
    (λ q at passes. let within = of_range (0 + p + 1) (n - (p + 1)) q at in omega (arith, within.0, greatest q passes)) in
    let f : 0 + p ≡ p = omega arith in
    ap (λ k. filter pages (range_with_len 0 k)) e
    ∙ (ap (filter pages) (range_parts 0 p (1 + (n - (p + 1))))
    ∙ (filter-append pages (range_with_len 0 p) (range_with_len (0 + p) (1 + (n - (p + 1))))
    ∙ ap (λ xs. filter pages (range_with_len 0 p) ++ xs)
    (ap (filter pages) (range_parts (0 + p) 1 (n - (p + 1)))
    ∙ (filter-append pages (range_with_len (0 + p) 1) (range_with_len (0 + p + 1) (n - (p + 1)))
    ∙ (ap (λ xs. filter pages (range_with_len (0 + p) 1) ++ xs) rest
    ∙ (append-nil (filter pages (range_with_len (0 + p) 1))
    ∙ (ap (λ k. filter pages (range_with_len k 1)) f ∙ ap (λ b. cond b (p ∷ []) []) is)))))))

first_kept : (os : List Owner) (owner : Owner) → 1 ≤ length os → first_holder (os ++ (owner ∷ [])) ≡ first_holder os
first_kept [] owner some = absurd (omega arith)
first_kept (o ∷ os) owner some = refl

heads_more : (os : List Owner) (owner : Owner) → are_heads_alone os ≡ true → is_head_reference owner.reference.sort ≡ true
    → are_heads_alone (os ++ (owner ∷ [])) ≡ true
heads_more [] owner heads is = ap (λ b. b && true) is
heads_more (o ∷ os) owner heads is =
    both (is_head_reference o.reference.sort) (are_heads_alone os) (are_heads_alone (os ++ (owner ∷ []))) heads (λ rest. heads_more os owner rest is)
  where
    both : (a b c : Bool) → (a && b) ≡ true → (b ≡ true → c ≡ true) → (a && c) ≡ true
    both true b c p more = more p
    both false b c p more = absurd cc

pub shares : GroveShares
shares f g pages es p r shared grove =
    record {
      low = grove.low;
      high = λ q is. let h : q ≤ f.last = grove.high q is in omega (arith, shared.grows);
      fits = λ q s is at.
          elim (cases_eq q p) [
            | inl same ↦
                elim (last_or_before (subst (λ (x : ℕ). Contains (refs g x) s) same at)) [
                  | inl before ↦ subst (λ (x : ℕ). fit_code g x s ≡ None) (sym same) (kept p s shared.inside before)
                  | inr new ↦ subst (λ (x : ℕ). fit_code g x s ≡ None) (sym same) (subst (λ (t : Reference). fit_code g p t ≡ None) new shared.fits)
                ]
            | inr other ↦ kept q s is (stays q s is other at)
          ];
      closed = λ q s is at.
          elim (cases_eq q p) [
            | inl same ↦
                elim (last_or_before (subst (λ (x : ℕ). Contains (refs g x) s) same at)) [
                  | inl before ↦ grove.closed p s shared.inside before
                  | inr new ↦ subst (λ (t : Reference). pages t.target ≡ true) new shared.there
                ]
            | inr other ↦ grove.closed q s is (stays q s is other at)
          ];
      entered = grove.entered;
      apart = λ q s is at entrance.
          elim (cases_eq q p) [
            | inl same ↦
                elim (last_or_before (subst (λ (x : ℕ). Contains (refs g x) s) same at)) [
                  | inl before ↦ grove.apart p s shared.inside before entrance
                  | inr new ↦ shared.no_entrance (subst (λ (t : Reference). Contains es t.target) (sym new) entrance)
                ]
            | inr other ↦ grove.apart q s is (stays q s is other at) entrance
          ];
      owned = λ x is inner.
          elim (cases_eq x r.target) [
            | inl same ↦
                subst (λ (y : ℕ). IsOwnedBy (owners_among pages g y) (header_in (page_at g y)).entries) (sym same)
                (subst (λ os. IsOwnedBy os (header_in (page_at g r.target)).entries) (sym taken)
                (inr (
                  heads_more (owners_among pages f r.target) (owner_of p r) shared.heads shared.head,
                  omega (arith, length-append (owners_among pages f r.target) (owner_of p r ∷ [])),
                  omega (arith, shared.counted, length-append (owners_among pages f r.target) (owner_of p r ∷ [])),
                )))
            | inr other ↦
                subst (λ os. IsOwnedBy os (header_in (page_at g x)).entries) (sym (owners_kept x other))
                (owned_more (owners_among pages f x) _ _ (face_of x is).entries (grove.owned x is inner))
          ];
      led = λ x is. let way = grove.led x is in (way.0, way_on x way.0 way.1);
    }
  where
    last_or_before : {s : Reference} → Contains (refs g p) s → Contains (refs f p) s ⊎ (r ≡ s)
    last_or_before {s} at =
        elim (Contains-append_cases (refs f p) (r ∷ []) s (subst (λ rs. Contains rs s) shared.names at)) [
          | inl before ↦ inl before
          | inr new ↦ inr (only_member r s new)
        ]

    stays : (q : ℕ) (s : Reference) → pages q ≡ true → (q ≡ p → ⊥) → Contains (refs g q) s → Contains (refs f q) s
    stays q s is other at = subst (λ rs. Contains rs s) (refs_same f g q shared.no_queue_before shared.no_queue (shared.others q is other)) at

    face_of : (q : ℕ) → pages q ≡ true → KeepsFace (page_at f q) (page_at g q)
    face_of q is =
        elim (cases_eq q p) [
          | inl same ↦ subst (λ (x : ℕ). KeepsFace (page_at f x) (page_at g x)) (sym same) shared.face
          | inr other ↦ same_face _ _ (shared.others q is other)
        ]

    kept : (q : ℕ) (s : Reference) → pages q ≡ true → Contains (refs f q) s → fit_code g q s ≡ None
    kept q s is at = code_kept f g q s shared.grows (face_of q is) (face_of s.target (grove.closed q s is at)) (grove.fits q s is at)

    owners_kept : (x : ℕ) → (x ≡ r.target → ⊥) → owners_among pages g x ≡ owners_among pages f x
    owners_kept x other =
        owners_same pages f g x shared.grows grove.high (λ q is.
        elim (cases_eq q p) [
          | inl same ↦ subst (λ (y : ℕ). filter (names_page x) (held_by g y) ≡ filter (names_page x) (held_by f y)) (sym same)
              (other_names f g p x r shared.names (λ e. other (sym e)))
          | inr differs ↦ ap (λ rs. filter (names_page x) (map (owner_of q) rs))
              (refs_same f g q shared.no_queue_before shared.no_queue (shared.others q is differs))
        ])

    -- all but the last page
    before : (h : File) → List Owner
    before h = flat_map (held_by h) (filter pages (range_with_len 0 p))

    split : (h : File) → p ≤ h.last → owners_among pages h r.target ≡ filter (names_page r.target) (before h) ++ filter (names_page r.target) (held_by h p)
    split h high =
        ap (λ qs. filter (names_page r.target) (flat_map (held_by h) qs)) (filter_last pages p (h.last + 1) shared.inside (omega arith) shared.greatest)
        ∙ (ap (filter (names_page r.target)) (flat_map-append (held_by h) (filter pages (range_with_len 0 p)) (p ∷ []))
        ∙ (filter-append (names_page r.target) (before h) (held_by h p ++ [])
        ∙ ap (λ xs. filter (names_page r.target) (before h) ++ filter (names_page r.target) xs) (append-nil (held_by h p))))

    earlier : (qs : List ℕ) → ((q : ℕ) → Contains qs q → (pages q ≡ true) × (q ≡ p → ⊥)) → flat_map (held_by g) qs ≡ flat_map (held_by f) qs
    earlier [] all = refl
    earlier (q ∷ qs) all =
        let this = all q (first_member q qs) in
        ap (λ os. os ++ flat_map (held_by g) qs) (held_same f g q (refs_same f g q shared.no_queue_before shared.no_queue (shared.others q this.0 this.1)))
        ∙ ap (λ os. held_by f q ++ os) (earlier qs (λ x at. all x (later_member q qs x at)))

    taken : owners_among pages g r.target ≡ owners_among pages f r.target ++ (owner_of p r ∷ [])
    taken =
        let high : p ≤ f.last = grove.high p shared.inside in
        let same : before g ≡ before f =
        earlier (filter pages (range_with_len 0 p)) (λ q at.
        let found = of_filter pages (range_with_len 0 p) q at in let within = of_range 0 p q found.0 in (found.1, λ e. omega (arith, within.1, e))) in
        let own : filter (names_page r.target) (held_by g p) ≡ filter (names_page r.target) (held_by f p) ++ (owner_of p r ∷ []) =
        ap (filter (names_page r.target)) (held_more f g p r shared.names)
        ∙ (filter-append (names_page r.target) (held_by f p) (owner_of p r ∷ [])
        ∙ ap (λ b. filter (names_page r.target) (held_by f p) ++ cond b (owner_of p r ∷ []) []) (eq-eqb r.target r.target refl)) in
        split g (omega (arith, shared.grows))
        ∙ (ap (λ os. filter (names_page r.target) os ++ filter (names_page r.target) (held_by g p)) same
        ∙ (ap (λ os. filter (names_page r.target) (before f) ++ os) own
        ∙ (sym (append_assoc (filter (names_page r.target) (before f)) (filter (names_page r.target) (held_by f p)) (owner_of p r ∷ []))
        ∙ ap (λ os. os ++ (owner_of p r ∷ [])) (sym (split f high)))))

    firsts : (x : ℕ) → first_holder (owners_among pages g x) ≡ first_holder (owners_among pages f x)
    firsts x =
        elim (cases_eq x r.target) [
          | inl same ↦
              subst (λ (y : ℕ). first_holder (owners_among pages g y) ≡ first_holder (owners_among pages f y)) (sym same)
              (ap first_holder taken ∙ first_kept (owners_among pages f r.target) (owner_of p r) shared.some)
          | inr other ↦ ap first_holder (owners_kept x other)
        ]

    way_on : (x : ℕ) (hs : List ℕ) → IsWayIn f pages es x hs → IsWayIn g pages es x hs
    way_on x [] way = way
    way_on x (h ∷ hs) way = (firsts x ∙ way.0, way_on h hs way.1)
