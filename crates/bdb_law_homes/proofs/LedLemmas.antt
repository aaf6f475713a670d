-- Homes by claims, and first owners.
use Rattle.std.proofs.Common.{◌≡◌, ◌⊎◌, ℕ, zero, suc, ◌+◌, ◌<◌, ◌≤◌, true, false, List, [], ◌∷◌, map, ap, ◌∙◌, arith, refl, sym, subst, inl, inr, true≢false}
use Rattle.std.proofs.Common.{◌==◌, ◌^◌, ◌&&◌, nat_lt, Option, Some, None, is_none, option_and_then, option_map}
use Rattle.std.specs.List.{Contains, flat_map, range_with_len}
use Rattle.std.proofs.lemmas.Option.{same_Some}
use Rattle.std.proofs.lemmas.Bool.{cases_Bool, cases_lt, eqb-true, and_parts}
use Rattle.bdb_law_whole.specs.of_format.declared.pages.RecnoItem.{RecnoItem}
use Rattle.bdb_law_whole.specs.of_format.declared.metadata.FileKind.{FileKind}
use Rattle.bdb_law_whole.specs.of_format.declared.metadata.FileKind.TheVariants.{Btree, Hash as HashFile, Queue as QueueFile}
use Rattle.bdb_law_whole.specs.of_format.declared.references.Sort.{Sort}
use Rattle.bdb_law_whole.specs.of_format.declared.references.Sort.TheVariants.{Root, Bucket, Child}
use Rattle.bdb_law_whole.specs.of_format.Terms.{File, Internal, InternalItem, Page, RecnoInternal, children_in, first_holder, fit_code, is_anchor, is_anchor_in}
use Rattle.bdb_law_whole.specs.of_format.Terms.{is_head_reference, is_meta, leaves_in, leaves_under, owners, page_at}
use Rattle.bdb_law_whole.proofs.of_format.GraphLemmas.{anchor_unowned, each_fits}
use Rattle.bdb_law_whole.proofs.of_format.MemberLemmas.{first_member, in_flat_map, in_map, in_range, later_member, member_cases, no_member, of_flat_map, of_map}
use Rattle.bdb_law_whole.proofs.of_format.MemberLemmas.{of_range}
use Rattle.bdb_homes.specs.Claims.{Below, Claim, all_claims, below_in, claim, claim_of, counted, first_claim, is_claim, is_fit}
use Rattle.bdb_homes.specs.Homes.{by_claim, claimed_in, later, numbered, own_home}
use Rattle.bdb_homes.specs.declared.home.Home.{Home}
use Rattle.bdb_law_homes.specs.Led.{HomesAreOwners, IsOwned, IsUnder, Leads, LeadsTo, LeavesAreUnder, OwnersLeadToOne}
use Rattle.bdb_law_homes.proofs.BelowLemmas.{IsReferred, below_referred, below_sort}

-- Claims.

one_of : (file : File) (p : ℕ) (claims : List Claim) (c : Claim) → first_claim file p claims ≡ Some c → Contains claims c × (is_claim file p c ≡ true)
one_of file p [] c is = absurd cc
one_of file p (one ∷ claims) c is = elim (cases_Bool (is_claim file p one)) [
  | inl does ↦ let same : one ≡ c = (let both : Some one ≡ Some c = rw does at is in cc) in
      subst (λ x. Contains (one ∷ claims) x × (is_claim file p x ≡ true)) same (first_member one claims, does)
  | inr other ↦ let found = one_of file p claims c (rw other at is) in (later_member one claims c found.0, found.1)
]

some_of : (file : File) (p : ℕ) (claims : List Claim) (c : Claim) → Contains claims c → is_claim file p c ≡ true
    → (d : Claim) × (first_claim file p claims ≡ Some d)
some_of file p [] c at is = absurd (no_member [] c refl at)
some_of file p (one ∷ claims) c at is = elim (cases_Bool (is_claim file p one)) [
  | inl does ↦ (one, rw does refl)
  | inr other ↦ elim (member_cases one claims c at) [
    | inl same ↦ absurd (true≢false (sym is ∙ (ap (is_claim file p) (sym same) ∙ other)))
    | inr later ↦ let found = some_of file p claims c later is in (found.0, rw other found.1)
  ]
]

-- what is known of the claim of a page
pub record IsOf (file : File) (p : ℕ) (c : Claim) : Type 0 where
  pub inside : c.holder < file.count
  pub below : Contains (below_in (page_at file c.holder)) c.below
  pub page : c.below.page ≡ p

pub claims_of : (file : File) (c : Claim) → Contains (all_claims file) c → (c.holder < file.count) × Contains (below_in (page_at file c.holder)) c.below
unfolding all_claims
claims_of file c at =
    let page = of_flat_map (λ h. map (claim h) (below_in (page_at file h))) (range_with_len 0 file.count) c at in
    let within = of_range 0 file.count page.0 page.1 in
    let named = of_map (claim page.0) (below_in (page_at file page.0)) c page.2 in
    let low : page.0 < file.count = omega (arith, within.1) in
    subst (λ (x : Claim). (x.holder < file.count) × Contains (below_in (page_at file x.holder)) x.below) named.2 (low, named.1)

pub claim_is : (file : File) (p : ℕ) (c : Claim) → claim_of file p ≡ Some c → IsOf file p c
unfolding claim_of
claim_is file p c is =
    let found = one_of file p (all_claims file) c is in
    let all = claims_of file c found.0 in
    record { inside = all.0; below = all.1; page = eqb-true c.below.page p (and_parts (c.below.page == p) (is_fit file c) found.1).0 }

no_head : (sort : Sort) → (sort ≡ Root) ⊎ ((sort ≡ Bucket) ⊎ (sort ≡ Child)) → is_head_reference sort ≡ false
no_head sort (inl root) = ap is_head_reference root
no_head sort (inr (inl bucket)) = ap is_head_reference bucket
no_head sort (inr (inr child)) = ap is_head_reference child

-- a page that names another below it is there
pub named_inside : (file : File) (h : ℕ) (b : Below) → IsOwned file → Contains (below_in (page_at file h)) b → h ≤ file.last
named_inside file h b is at = elim (cases_lt file.last h) [
  | inl past ↦ absurd (no_member (below_in (page_at file h)) b (ap below_in (is.past h past)) at)
  | inr low ↦ low
]

-- the page that names another below it holds the first reference to it
below_owned : (file : File) (h : ℕ) (b : Below) → IsOwned file → Contains (below_in (page_at file h)) b → first_holder (owners file b.page) ≡ Some h
below_owned file h b is at =
    let by : IsReferred file h b = below_referred file h b is.kind at in
    is.alone h b.page by.reference (named_inside file h b is at) by.held by.target
    (ap is_head_reference by.sort ∙ no_head b.sort (below_sort (page_at file h) b at))

pub claim_owner : (file : File) (p : ℕ) (c : Claim) → IsOwned file → claim_of file p ≡ Some c → first_holder (owners file p) ≡ Some c.holder
claim_owner file p c is some =
    let of : IsOf file p c = claim_is file p c some in
    subst (λ n. first_holder (owners file n) ≡ Some c.holder) of.page (below_owned file c.holder c.below is of.below)

-- a page that is named below another has a claim, and that one holds it
pub below_fits : (file : File) (h : ℕ) (b : Below) → IsOwned file → Contains (below_in (page_at file h)) b → is_fit file (claim h b) ≡ true
unfolding fit_code
below_fits file h b is at =
    let by : IsReferred file h b = below_referred file h b is.kind at in
    let fits : fit_code file h by.reference ≡ None = each_fits file h by.reference is.references (named_inside file h b is at) by.held in
    let same : fit_code file h (record { place = 0; sort = by.reference.sort; target = by.reference.target }) ≡ None = fits in
    ap is_none (ap (λ s. fit_code file h (record { place = 0; sort = s; target = b.page })) (sym by.sort)
    ∙ (ap (λ n. fit_code file h (record { place = 0; sort = by.reference.sort; target = n })) (sym by.target) ∙ same))

pub below_claimed : (file : File) (h : ℕ) (b : Below) → IsOwned file → Contains (below_in (page_at file h)) b
    → (c : Claim) × (claim_of file b.page ≡ Some c) × (c.holder ≡ h)
unfolding claim_of all_claims
below_claimed file h b is at =
    let low : h ≤ file.last = named_inside file h b is at in
    let among : Contains (flat_map (λ h. map (claim h) (below_in (page_at file h))) (range_with_len 0 file.count)) (claim h b) =
    in_flat_map (λ h. map (claim h) (below_in (page_at file h))) (range_with_len 0 file.count) h (claim h b)
    (in_range 0 file.count h (omega arith) (omega (arith, low, is.there))) (in_map (claim h) (below_in (page_at file h)) b at) in
    let does : is_claim file b.page (claim h b) ≡ true = rw (below_fits file h b is at) (same b.page) in
    let found = some_of file b.page (all_claims file) (claim h b) among does in
    let first : first_holder (owners file b.page) ≡ Some found.0.holder = claim_owner file b.page found.0 is found.1 in
    let here : first_holder (owners file b.page) ≡ Some h = below_owned file h b is at in
    (found.0, found.1, (let both : Some found.0.holder ≡ Some h = sym first ∙ here in cc))
  where
    same : (n : ℕ) → (n == n && true) ≡ true
    same n = grind arith

-- Up.

pub leads_up : (turns : ℕ) (file : File) (p : ℕ) (home : Home) → IsOwned file → claimed_in turns file p ≡ Some home → LeadsTo file p home.meta
unfolding claimed_in
leads_up zero file p home is some = absurd cc
leads_up (suc turns) file p home is some = by (λ q above. leads_up turns file q above is) (claim_of file p) refl some
  where
    onto : (c : Claim) → claim_of file p ≡ Some c → (o : Option Home) → claimed_in turns file c.holder ≡ o → option_map (later c.below.before) o ≡ Some home
        → ((above : Home) → claimed_in turns file c.holder ≡ Some above → LeadsTo file c.holder above.meta) → LeadsTo file p home.meta
    onto c first None same is' up = absurd cc
    onto c first (Some above) same is' up =
        let way : LeadsTo file c.holder above.meta = up above same in
        let meta : above.meta ≡ home.meta = (let both : Some (later c.below.before above) ≡ Some home = is' in cc) in
        record { holders = c.holder ∷ way.holders; way = (claim_owner file p c is first, subst (Leads file c.holder way.holders) meta way.way) }

    by : ((q : ℕ) (above : Home) → claimed_in turns file q ≡ Some above → LeadsTo file q above.meta) → (o : Option Claim) → claim_of file p ≡ o
        → by_claim file (claimed_in turns file) o ≡ Some home → LeadsTo file p home.meta
    by up None first is' = absurd cc
    by up (Some c) first is' = elim (cases_Bool (is_meta (page_at file c.holder))) [
      | inl meta ↦
          let top : c.holder ≡ home.meta = (let both : Some (record { meta = c.holder; start = 0 }) ≡ Some home = rw meta at is' in cc) in
          record { holders = c.holder ∷ []; way = (claim_owner file p c is first, (top, meta)) }
      | inr other ↦ onto c first (claimed_in turns file c.holder) refl (rw other at is') (up c.holder)
    ]

pub homes_are_owners : HomesAreOwners
unfolding own_home
homes_are_owners file p home is some = by (claimed_in 255 file p) refl some
  where
    same : (above : Home) → numbered above ≡ Some home → above ≡ home
    same above is' = elim (cases_Bool (nat_lt above.start (2 ^ 32))) [
      | inl low ↦ (let both : Some above ≡ Some home = rw low at is' in cc)
      | inr high ↦ absurd (let none : None ≡ Some home = rw high at is' in cc)
    ]

    by : (o : Option Home) → claimed_in 255 file p ≡ o → option_and_then numbered o ≡ Some home → LeadsTo file p home.meta
    by None first is' = absurd cc
    by (Some above) first is' = subst (λ (h : Home). LeadsTo file p h.meta) (same above is') (leads_up 255 file p above is first)

-- One alone.

no_owner : (file : File) (p h : ℕ) → IsOwned file → is_meta (page_at file p) ≡ true → first_holder (owners file p) ≡ Some h → ⊥
unfolding is_anchor
no_owner file p h is meta some =
    let none : first_holder (owners file p) ≡ None = ap first_holder (anchor_unowned file p is.references (anchor file.kind refl)) in
    let both : None ≡ Some h = sym none ∙ some in
    cc
  where
    anchor : (kind : FileKind) → file.kind ≡ kind → is_anchor_in file.kind (page_at file p) ≡ true
    anchor Btree same = ap (λ k. is_anchor_in k (page_at file p)) same ∙ meta
    anchor HashFile same = ap (λ k. is_anchor_in k (page_at file p)) same ∙ meta
    anchor QueueFile same = absurd (is.kind same)

one_end : (file : File) (p one other : ℕ) (hs gs : List ℕ) → IsOwned file → Leads file p hs one → Leads file p gs other → one ≡ other
one_end file p one other [] [] is first second = sym first.0 ∙ second.0
one_end file p one other [] (g ∷ gs) is first second = absurd (no_owner file p g is first.1 second.0)
one_end file p one other (h ∷ hs) [] is first second = absurd (no_owner file p h is second.1 first.0)
one_end file p one other (h ∷ hs) (g ∷ gs) is first second =
    let same : g ≡ h = (let both : Some g ≡ Some h = sym second.0 ∙ first.0 in cc) in
    one_end file h one other hs gs is first.1 (subst (λ n. Leads file n gs other) same second.1)

pub owners_lead_to_one : OwnersLeadToOne
owners_lead_to_one file p one other is first second = one_end file p one other first.holders second.holders is first.way second.way

-- Down.

-- a page named below metadata
top_under : (file : File) (meta turns : ℕ) (b : Below) → IsOwned file → is_meta (page_at file meta) ≡ true → Contains (below_in (page_at file meta)) b
    → IsUnder file (suc turns) b.page meta
unfolding claimed_in
top_under file meta turns b is top at =
    let found = below_claimed file meta b is at in
    let here : is_meta (page_at file found.0.holder) ≡ true = ap (λ n. is_meta (page_at file n)) found.2 ∙ top in
    record { home = record { meta = found.0.holder; start = 0 }; claimed = ap (by_claim file (claimed_in turns file)) found.1 ∙ rw here refl; same = found.2 }

-- a page named below another one that has a home
next_under : (file : File) (h meta turns : ℕ) (b : Below) → IsOwned file → is_meta (page_at file h) ≡ false → Contains (below_in (page_at file h)) b
    → IsUnder file turns h meta → IsUnder file (suc turns) b.page meta
unfolding claimed_in
next_under file h meta turns b is other at under =
    let found = below_claimed file h b is at in
    let here : is_meta (page_at file found.0.holder) ≡ false = ap (λ n. is_meta (page_at file n)) found.2 ∙ other in
    let above : claimed_in turns file found.0.holder ≡ Some under.home = ap (claimed_in turns file) found.2 ∙ under.claimed in
    record {
      home = later found.0.below.before under.home;
      claimed = ap (by_claim file (claimed_in turns file)) found.1 ∙ rw here (ap (option_map (later found.0.below.before)) above);
      same = under.same;
    }

in_counted : (before : ℕ) (items : List RecnoItem) (item : RecnoItem) → Contains items item
    → (b : Below) × Contains (counted before items) b × (b.page ≡ item.child)
in_counted before [] item at = absurd (no_member [] item refl at)
in_counted before (one ∷ items) item at = elim (member_cases one items item at) [
  | inl same ↦ (
    record { sort = Child; page = one.child; before = before },
    first_member (record { sort = Child; page = one.child; before = before }) (counted (before + one.count) items),
    ap (λ (x : RecnoItem). x.child) same,
  )
  | inr later' ↦
      let found = in_counted (before + one.count) items item later' in
      (found.0, later_member (record { sort = Child; page = one.child; before = before }) (counted (before + one.count) items) found.0 found.1, found.2)
]

-- the children of a page are named below it, and it's no metadata
child_below : (page : Page) (cs : List ℕ) (c : ℕ) → children_in page ≡ Some cs → Contains cs c
    → (is_meta page ≡ false) × ((b : Below) × Contains (below_in page) b × (b.page ≡ c))
child_below (Internal page) cs c are at =
    let same : map (λ (item : InternalItem). item.child) page.items ≡ cs = same_Some _ _ are in
    let found = of_map (λ (item : InternalItem). item.child) page.items c (subst (λ xs. Contains xs c) (sym same) at) in (
      refl,
      (
        record { sort = Child; page = found.0.child; before = 0 },
        in_map (λ (item : InternalItem). record { sort = Child; page = item.child; before = 0 }) page.items found.0 found.1,
        found.2,
      ),
    )
child_below (RecnoInternal page) cs c are at =
    let same : map (λ (item : RecnoItem). item.child) page.items ≡ cs = same_Some _ _ are in
    let found = of_map (λ (item : RecnoItem). item.child) page.items c (subst (λ xs. Contains xs c) (sym same) at) in
    let below = in_counted 0 page.items found.0 found.1 in
    (refl, (below.0, below.1, below.2 ∙ found.2))
child_below page cs c are at = absurd cc

leaves_below : (levels : ℕ) (file : File) (h meta turns leaf : ℕ) → IsOwned file → IsUnder file turns h meta → Contains (leaves_in levels file h) leaf
    → (more : ℕ) × (more ≤ turns + levels) × IsUnder file more leaf meta
unfolding leaves_in
leaves_below zero file h meta turns leaf is under at = elim (member_cases h [] leaf at) [
  | inl same ↦ (turns, omega arith, subst (λ n. IsUnder file turns n meta) same under)
  | inr later' ↦ absurd (no_member [] leaf refl later')
]
leaves_below (suc levels) file h meta turns leaf is under at =
    by (λ c below. leaves_below levels file c meta (suc turns) leaf is below) (children_in (page_at file h)) refl at
  where
    by : ((c : ℕ) → IsUnder file (suc turns) c meta → Contains (leaves_in levels file c) leaf → (more : ℕ) × (more ≤ suc turns + levels)
        × IsUnder file more leaf meta)
        → (o : Option (List ℕ)) → children_in (page_at file h) ≡ o → Contains (leaves_under (leaves_in levels file) h o) leaf
        → (more : ℕ) × (more ≤ turns + suc levels) × IsUnder file more leaf meta
    by down None are at' = elim (member_cases h [] leaf at') [
      | inl same ↦ (turns, omega arith, subst (λ n. IsUnder file turns n meta) same under)
      | inr later' ↦ absurd (no_member [] leaf refl later')
    ]
    by down (Some cs) are at' =
        let child = of_flat_map (leaves_in levels file) cs leaf at' in
        let below = child_below (page_at file h) cs child.0 are child.1 in
        let next : IsUnder file (suc turns) child.0 meta =
        subst (λ n. IsUnder file (suc turns) n meta) below.1.2 (next_under file h meta turns below.1.0 is below.0 below.1.1 under) in
        let found = down child.0 next child.2 in
        (found.0, omega (arith, found.1), found.2)

pub leaves_are_under : LeavesAreUnder
leaves_are_under file levels meta root leaf is low top at in' =
    let found = leaves_below levels file root.page meta 1 leaf is (top_under file meta 0 root is top at) in' in
    (found.0, omega (arith, found.1), found.2)
