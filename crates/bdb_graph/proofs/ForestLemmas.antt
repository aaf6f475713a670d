-- In a file that linking accepts each page leads up, and no way has a page twice: the turns that a page takes fall on the way up.
use Rattle.std.proofs.Common.{◌≡◌, ◌⊎◌, ℕ, zero, suc, ◌+◌, ◌<◌, ◌≤◌, Bool, true, false, not, ◌&&◌, ◌||◌, List, [], ◌∷◌, length, Option, Some, None, arith, refl}
use Rattle.std.proofs.Common.{sym, ◌∙◌, ap, inl, inr, true≢false, nat_lt, ◌==◌}
use Rattle.std.specs.List.{Contains, list_all, range_with_len}
use Rattle.std.proofs.lemmas.Bool.{cases_Bool, eqb-false, eq-eqb, ltb-false, or_parts, or_from}
use Rattle.bdb_image.specs.of_format.Terms.{File, Owner, all_references, asked_by, faults_in, file_of, first_holder, fit_code, fit_rows, has_heads_alone}
use Rattle.bdb_image.specs.of_format.Terms.{held_by, if_some, is_head_reference, owners, ownership_faults, ownership_rows, page_at, reach_faults, reaches_in}
use Rattle.bdb_image.specs.of_format.Terms.{reference_faults, refs, stage_faults}
use Rattle.bdb_image.specs.of_format.Verdict.{holding}
use Rattle.bdb_image.proofs.of_format.GraphLemmas.{IsOwner, anchor_unowned, is_owner, owner_fits, reserve_is, reached_of}
use Rattle.bdb_image.proofs.of_format.MemberLemmas.{first_member, in_flat_map, in_map, in_range, member_cases, no_member, in_filter}
use Rattle.bdb_image.proofs.of_format.VerdictLemmas.{AllFail, all_fail, no_codes_at, none_is_first_row, none_within}
use Rattle.bdb_graph.specs.Forest.{AllDistinct, EachPageLeadsUp, IsWayDown, IsWayUp, LeadsUp, Names, NoPageTwiceBelow, NotIn, is_top}

-- The stages.

pub record IsSoundGraph (file : File) : Type 0 where
  pub references : reference_faults file ≡ []
  pub ownership : ownership_faults file ≡ []
  pub reach : reach_faults file ≡ []

pub sound_graph : (image : List ℕ) → faults_in (3 ∷ 4 ∷ 5 ∷ []) image ≡ [] → IsSoundGraph (file_of image)
sound_graph image none =
    let each : (stage : ℕ) → 3 ≤ stage → stage < 6 → stage_faults image stage ≡ [] = λ stage. none_within 3 3 image stage none in
    record { references = each 3 (omega arith) (omega arith); ownership = each 4 (omega arith) (omega arith); reach = each 5 (omega arith) (omega arith) }

-- A page with an owner.

some_or_none : (os : List Owner) → ((owner : Owner) × Contains os owner × (first_holder os ≡ Some owner.holder)) ⊎ (os ≡ [])
some_or_none [] = inr refl
some_or_none (owner ∷ os) = inl (owner, first_member owner os, refl)

empty_holder : (os : List Owner) (h : ℕ) → length os ≡ 0 → first_holder os ≡ Some h → ⊥
empty_holder [] h none some = cc
empty_holder (owner ∷ os) h none some = omega (arith, none)

-- a page with an owner is no anchor and no reserve
pub no_top : (file : File) (p h : ℕ) → reference_faults file ≡ [] → first_holder (owners file p) ≡ Some h → is_top file p ≡ false
no_top file p h none some = grind (arith, or_from, cases_Bool, empty_holder, anchor_unowned, reserve_is)

-- an owned page is there, and isn't page 0
pub owned_inside : (file : File) (p h : ℕ) → reference_faults file ≡ [] → first_holder (owners file p) ≡ Some h → (1 ≤ p) × (p ≤ file.last)
unfolding fit_code
owned_inside file p h none some =
    elim (some_or_none (owners file p)) [
      | inr empty ↦ absurd (empty_holder (owners file p) h (ap length empty) some)
      | inl (owner, at, first) ↦
          let is : IsOwner file p owner = is_owner file p owner at in
          let rows = fit_rows file (asked_by owner.holder (page_at file owner.holder) owner.reference.sort) owner.reference.target in
          let fail : AllFail rows = none_is_first_row rows (owner_fits file p owner none at) in
          let range : ((owner.reference.target == 0) ≡ false) × (nat_lt file.last owner.reference.target ≡ false) = or_parts (owner.reference.target == 0)
          (nat_lt file.last owner.reference.target) fail.0 in
          let some : owner.reference.target ≡ 0 → ⊥ = eqb-false owner.reference.target 0 range.0 in
          let low : owner.reference.target ≤ file.last = ltb-false file.last owner.reference.target range.1 in
          (omega (arith, is.names), omega (arith, is.names))
    ]

-- Turns.

pub fewer : (t : ℕ) (file : File) (p : ℕ) → reaches_in (suc t) file p ≡ false → reaches_in t file p ≡ false
unfolding reaches_in
fewer t file p no' = (or_parts (reaches_in t file p) (if_some (first_holder (owners file p)) (reaches_in t file)) no').0

-- a page that reaches in a turn more has a holder that reaches
onward : (t : ℕ) (file : File) (p : ℕ) → reaches_in t file p ≡ false → reaches_in (suc t) file p ≡ true → (h : ℕ) × (first_holder (owners file p) ≡ Some h)
    × (reaches_in t file h ≡ true)
unfolding reaches_in
onward t file p no' does = grind (arith, Option, Some, None, or_from)

-- an owned page reaches a turn after the holder of its first reference
pub step : (t : ℕ) (file : File) (p h : ℕ) → reference_faults file ≡ [] → first_holder (owners file p) ≡ Some h
    → reaches_in (suc t) file p ≡ reaches_in t file h
unfolding reaches_in
step zero file p h none some = rw (no_top file p h none some, some) refl
step (suc t) file p h none some = grind (arith, step t file p h none some)

-- Ways up.

pub way_of : (t : ℕ) (file : File) (p : ℕ) → reaches_in t file p ≡ true → (hs : List ℕ) × IsWayUp file p hs × (length hs ≤ t)
unfolding reaches_in
way_of zero file p does = ([], does, omega arith)
way_of (suc t) file p does =
    elim (cases_Bool (reaches_in t file p)) [
      | inl sooner ↦ let way = way_of t file p sooner in (way.0, way.1, omega (arith, way.2))
      | inr later ↦
          let next = onward t file p later does in
          let way = way_of t file next.0 next.2 in
          (next.0 ∷ way.0, (next.1, way.1), omega (arith, way.2))
    ]

pub way_reaches : (file : File) (p : ℕ) (hs : List ℕ) → reference_faults file ≡ [] → IsWayUp file p hs → reaches_in (length hs) file p ≡ true
unfolding reaches_in
way_reaches file p [] none way = way
way_reaches file p (h ∷ hs) none way = step (length hs) file p h none way.0 ∙ way_reaches file h hs none way.1

-- the page below a way takes a turn more
way_exact : (file : File) (p h : ℕ) (hs : List ℕ) → reference_faults file ≡ [] → IsWayUp file p (h ∷ hs) → reaches_in (length hs) file p ≡ false
unfolding reaches_in
way_exact file p h [] none way = no_top file p h none way.0
way_exact file p h (k ∷ ks) none way = step (length ks) file p h none way.0 ∙ way_exact file h k ks none way.1

differ : (t : ℕ) (file : File) (q p : ℕ) → reaches_in t file q ≡ false → reaches_in t file p ≡ true → q ≡ p → ⊥
differ t file q p no' does same = true≢false (sym does ∙ (ap (reaches_in t file) (sym same) ∙ no'))

-- a page that takes more turns isn't on the way
not_on : (file : File) (q p : ℕ) (hs : List ℕ) → reference_faults file ≡ [] → reaches_in (length hs) file q ≡ false → IsWayUp file p hs → NotIn q (p ∷ hs)
not_on file q p [] none no' way = (differ 0 file q p no' (way_reaches file p [] none way), tt)
not_on file q p (h ∷ hs) none no' way =
    (differ (length (h ∷ hs)) file q p no' (way_reaches file p (h ∷ hs) none way), not_on file q h hs none (fewer (length hs) file q no') way.1)

pub way_distinct : (file : File) (p : ℕ) (hs : List ℕ) → reference_faults file ≡ [] → IsWayUp file p hs → AllDistinct (p ∷ hs)
way_distinct file p [] none way = (tt, tt)
way_distinct file p (h ∷ hs) none way = (not_on file p h hs none (way_exact file p h hs none way) way.1, way_distinct file h hs none way.1)

leads_up : (file : File) (p : ℕ) → IsSoundGraph file → 1 ≤ p → p ≤ file.last → LeadsUp file p
leads_up file p sound low high =
    let way = way_of file.count file p (reached_of file p sound.reach low high) in
    record { holders = way.0; way = way.1; few = way.2; distinct = way_distinct file p way.0 sound.references way.1 }

pub each_page_leads_up : EachPageLeadsUp
each_page_leads_up image p none low high = leads_up (file_of image) p (sound_graph image none) low high

-- Ways down.

-- each of these pages has the one before it as its first holder
abbrev LeadsDown : File → ℕ → List ℕ → Type 0
LeadsDown file p [] = Unit {0}
LeadsDown file p (q ∷ qs) = (first_holder (owners file q) ≡ Some p) × LeadsDown file q qs

-- a page that takes fewer turns isn't below
not_below : (t : ℕ) (file : File) (p q : ℕ) (qs : List ℕ) → reference_faults file ≡ [] → reaches_in t file p ≡ true → reaches_in t file q ≡ false
    → LeadsDown file q qs → NotIn p (q ∷ qs)
not_below t file p q [] none does no' lead = (λ same. differ t file q p no' does (sym same), tt)
not_below t file p q (r ∷ rs) none does no' lead =
    (λ same. differ t file q p no' does (sym same), not_below t file p r rs none does (fewer t file r (step t file r q none lead.0 ∙ no')) lead.1)

-- the holder of a page that reaches has a way up
holder_way : (t : ℕ) (file : File) (p q : ℕ) → reference_faults file ≡ [] → first_holder (owners file q) ≡ Some p → reaches_in t file q ≡ true
    → (hs : List ℕ) × IsWayUp file p hs
unfolding reaches_in
holder_way zero file p q none some does = absurd (true≢false (sym does ∙ no_top file q p none some))
holder_way (suc t) file p q none some does = let way = way_of t file p (sym (step t file q p none some) ∙ does) in (way.0, way.1)

down_distinct : (file : File) (p : ℕ) (qs : List ℕ) → IsSoundGraph file → LeadsDown file p qs → AllDistinct (p ∷ qs)
down_distinct file p [] sound lead = (tt, tt)
down_distinct file p (q ∷ qs) sound lead =
    let inside = owned_inside file q p sound.references lead.0 in
    let way = holder_way file.count file p q sound.references lead.0 (reached_of file q sound.reach inside.0 inside.1) in (
      not_below (length way.0) file p q qs sound.references (way_reaches file p way.0 sound.references way.1)
          (way_exact file q p way.0 sound.references (lead.0, way.1)) lead.1,
      down_distinct file q qs sound lead.1,
    )

-- One owner.

-- a reference to a page is among its owners
pub named_owner : (file : File) (p q : ℕ) (names : Names file p q) → p ≤ file.last
    → Contains (owners file q) (record { holder = p; reference = names.reference })
unfolding owners all_references
named_owner file p q names low =
    in_filter (λ (owner : Owner). owner.reference.target == q) (all_references file) (record { holder = p; reference = names.reference })
    (in_flat_map (held_by file) (range_with_len 0 (file.last + 1)) p (record { holder = p; reference = names.reference })
    (in_range 0 (file.last + 1) p (omega arith) (omega arith))
    (in_map (λ r. record { holder = p; reference = r }) (refs file p) names.reference names.held))
    (eq-eqb names.reference.target q names.target)

not_all : {X : Type 0} (test : X → Bool) (xs : List X) (x : X) → Contains xs x → test x ≡ false → list_all test xs ≡ false
not_all test [] x at fails = absurd (no_member [] x refl at)
not_all test (y ∷ ys) x at fails =
    elim (member_cases y ys x at) [
      | inl same ↦ let here : test y ≡ false = ap test same ∙ fails in rw here refl
      | inr later ↦ elim (test y) as (λ b. (b && list_all test ys) ≡ false) [ true ↦ not_all test ys x later fails | false ↦ refl ]
    ]

one_only : (os : List Owner) (owner : Owner) → Contains os owner → length os ≤ 1 → first_holder os ≡ Some owner.holder
one_only [] owner at few = absurd (no_member [] owner refl at)
one_only (o ∷ []) owner at few = grind (arith, member_cases, Some, no_member)
one_only (o ∷ (p ∷ os)) owner at few = absurd (omega (arith, few))

pub few_owners : (heads : Bool) (n counted : ℕ) → heads ≡ false → ((heads && nat_lt counted n) || (not heads && nat_lt 1 n)) ≡ false → n ≤ 1
few_owners true n counted other few = absurd cc
few_owners false n counted other few = ltb-false 1 n few

-- the holder of a reference other than to the head of a chain is the only one
pub first_names : (file : File) (p q : ℕ) → IsSoundGraph file → p ≤ file.last → Names file p q → first_holder (owners file q) ≡ Some p
unfolding ownership_faults
first_names file p q sound low names =
    let owner : Owner = record { holder = p; reference = names.reference } in
    let at : Contains (owners file q) owner = named_owner file p q names low in
    let some : (h : ℕ) × (first_holder (owners file q) ≡ Some h) =
    elim (some_or_none (owners file q)) [ inl (o, _, first) ↦ (o.holder, first) | inr empty ↦ absurd (no_member (owners file q) owner empty at) ] in
    let inside : (1 ≤ q) × (q ≤ file.last) = owned_inside file q some.0 sound.references some.1 in
    let codes : holding (ownership_rows file q) ≡ [] = no_codes_at 4 1 file.last q (λ page. holding (ownership_rows file page)) sound.ownership inside.0
    (omega (arith, inside.1)) in
    let fail : AllFail (ownership_rows file q) = all_fail (ownership_rows file q) codes in
    let other : has_heads_alone file q ≡ false = not_all (λ (o : Owner). is_head_reference o.reference.sort) (owners file q) owner at names.other in
    one_only (owners file q) owner at (few_owners (has_heads_alone file q) (length (owners file q)) _ other fail.1.0)

down_of : (file : File) (p : ℕ) (qs : List ℕ) → IsSoundGraph file → p ≤ file.last → IsWayDown file p qs → LeadsDown file p qs
down_of file p [] sound low way = tt
down_of file p (q ∷ qs) sound low way =
    let first : first_holder (owners file q) ≡ Some p = first_names file p q sound low way.0 in
    (first, down_of file q qs sound (owned_inside file q p sound.references first).1 way.1)

pub no_page_twice_below : NoPageTwiceBelow
no_page_twice_below image p qs none low way = grind (arith, sound_graph, down_distinct, down_of)
