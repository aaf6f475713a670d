-- References to a run of pages: those that are full, or aren't there, are counted no more.
use Rattle.std.proofs.Common.{◌≡◌, ℕ, zero, suc, ◌+◌, ◌-◌, ◌^◌, ◌<◌, ◌≤◌, ◌⊎◌, true, false, List, [], ◌∷◌, ◌++◌, length, map, ap, ◌∙◌, arith, refl, sym, subst}
use Rattle.std.proofs.Common.{inl, inr, append-nil, append_assoc, length-append, get_or, zero-add, min, nat_lt, ◌||◌, not, Option, None, Some}
use Rattle.std.proofs.lemmas.List.{map-append}
use Rattle.std.proofs.lemmas.List.FromFn.{get_or-range_with_len, length-range_with_len}
use Rattle.std.proofs.lemmas.Bool.{and_left, and_parts, cases_Bool, eqb-true, ltb-true, not-true}
use Rattle.std.proofs.lemmas.List.Folds.{list_all-append, list_any-append}
use Rattle.std.proofs.Math.Bool.{or-false}
use Rattle.std.specs.List.{filter, list_all, list_any, range_with_len}
use Rattle.bdb_image.specs.of_format.declared.references.Sort.TheVariants.{Bucket}
use Rattle.bdb_image.specs.of_format.Terms.{File, Owner, first_holder, first_page, is_head_reference}
use Rattle.bdb_graph.specs.declared.table.BucketPages.{BucketPages}
use Rattle.bdb_graph.specs.declared.tally.Kinds.{Kinds}
use Rattle.bdb_graph.specs.declared.tally.Tally.{Tally}
use Rattle.bdb_image.specs.declared.buckets.Buckets.{Buckets}
use Rattle.bdb_image.specs.Buckets.{refs_if_table, run_refs, table_refs}
use Rattle.bdb_graph.specs.Leaps.{AllFull, AreKnownIfAny, AreLeaps, AreOver, HasLeaps, full_at, is_full}
use Rattle.bdb_image.specs.of_slots.Slots.{placed}
use Rattle.bdb_graph.specs.Tallies.{AreTallies, IsTally, counted_to, names_page, no_tally, owner}
use Rattle.bdb_graph.specs.Walked.{AreKinds, names_head, names_set}
use Rattle.bdb_image.proofs.ApartLemmas.{more_pages}

-- Full pages.

first_stays : (os : List Owner) (o : Owner) → 0 < length os → first_holder os ≡ first_holder (os ++ o ∷ [])
first_stays [] o some = absurd (omega arith)
first_stays (one ∷ os) o some = refl

-- of a full page no more is told
full_stays : (tally : Tally) (os : List Owner) (o : Owner) → is_full tally ≡ true → IsTally tally os → IsTally tally (os ++ o ∷ [])
full_stays tally os o full is =
    let many : 1 < tally.count = ltb-true 1 tally.count (and_parts (nat_lt 1 tally.count) (not tally.heads_alone) full).0 in
    let mixed : tally.heads_alone ≡ false = not-true tally.heads_alone (and_parts (nat_lt 1 tally.count) (not tally.heads_alone) full).1 in
    let counted : min 2 tally.count ≡ min 2 (length os) = subst (λ b. min (counted_to b) tally.count ≡ min (counted_to b) (length os)) mixed is.counted in
    let more : min 2 tally.count ≡ min 2 (length (os ++ o ∷ [])) = omega (arith, length-append os (o ∷ [])) in
    record {
      counted = subst (λ b. min (counted_to b) tally.count ≡ min (counted_to b) (length (os ++ o ∷ []))) (sym mixed) more;
      led = is.led ∙ first_stays os o (omega arith);
      heads =
          mixed
          ∙ (sym (and_left (list_all (λ (owner : Owner). is_head_reference owner.reference.sort) os) _ (sym is.heads ∙ mixed))
          ∙ sym (list_all-append (λ (owner : Owner). is_head_reference owner.reference.sort) os (o ∷ [])));
    }

filter_one : (os : List Owner) (o : Owner) (p : ℕ) → filter (names_page p) (os ++ o ∷ []) ≡ filter (names_page p) os ++ filter (names_page p) (o ∷ [])
filter_one [] o p = refl
filter_one (one ∷ os) o p = elim (cases_Bool (names_page p one)) [
  | inl names ↦ rw (names, filter_one os o p) refl
  | inr other ↦ rw (other, filter_one os o p) refl
]

-- one more owner of a page that is full, or isn't there
one_over : (tallies : List Tally) (os : List Owner) (o : Owner) → AreTallies tallies os
    → (o.reference.target < length tallies → full_at tallies o.reference.target ≡ true) → AreTallies tallies (os ++ o ∷ [])
one_over tallies os o are full = record {
  each = λ p low.
      elim (cases_Bool (names_page p o)) [
        | inl names ↦
            let same : o.reference.target ≡ p = eqb-true o.reference.target p names in
            let here : full_at tallies p ≡ true = subst (λ q. full_at tallies q ≡ true) same (full (omega arith)) in
            let one : filter (names_page p) (os ++ o ∷ []) ≡ filter (names_page p) os ++ o ∷ [] = rw (filter_one os o p, names) refl in
            subst (IsTally (get_or tallies p no_tally)) (sym one) (full_stays (get_or tallies p no_tally) (filter (names_page p) os) o here (are.each p low))
        | inr other ↦
            let none : filter (names_page p) (os ++ o ∷ []) ≡ filter (names_page p) os =
            rw (filter_one os o p, other) (append-nil (filter (names_page p) os)) in
            subst (IsTally (get_or tallies p no_tally)) (sym none) (are.each p low)
      ];
}

-- so many pages more, each full or not there
over_run : (tallies : List Tally) (os : List Owner) (holder place first n : ℕ) → AreTallies tallies os
    → ((q : ℕ) → first ≤ q → q < first + n → q < length tallies → full_at tallies q ≡ true)
    → AreTallies tallies (os ++ map (owner holder) (run_refs place first n))
over_run tallies os holder place first zero are full = subst (AreTallies tallies) (sym (append-nil os)) are
over_run tallies os holder place first (suc n) are full =
    let o : Owner = owner holder (record { place = place; sort = Bucket; target = first }) in
    let rest : List Owner = map (owner holder) (run_refs (place + 1) (first + 1) n) in
    let one : AreTallies tallies (os ++ o ∷ []) = one_over tallies os o are (λ low. full first (omega arith) (omega arith) low) in
    let all : AreTallies tallies ((os ++ o ∷ []) ++ rest) =
    over_run tallies (os ++ o ∷ []) holder (place + 1) (first + 1) n one (λ q from below low. full q (omega arith) (omega arith) low) in
    subst (AreTallies tallies) (append_assoc os (o ∷ []) rest) all

-- the pages so far and more
joined : (os : List Owner) (holder place first m n : ℕ)
    → (os ++ map (owner holder) (run_refs place first m)) ++ map (owner holder) (run_refs (place + m) (first + m) n)
    ≡ os ++ map (owner holder) (run_refs place first (m + n))
joined os holder place first m n =
    append_assoc os (map (owner holder) (run_refs place first m)) (map (owner holder) (run_refs (place + m) (first + m) n))
    ∙ ap (λ more. os ++ more) (sym (map-append (owner holder) (run_refs place first m) (run_refs (place + m) (first + m) n))
    ∙ ap (map (owner holder)) (sym (more_pages place first m n)))

-- Page by page.

-- The references up to a page are noted, or to the end of the run; those behind are left.
pub record IsNoted (old tallies : List Tally) (leaps : List ℕ) (holder first n at : ℕ) : Type 0 where
  pub on : first ≤ at
  pub within : at ≤ length tallies
  pub has : HasLeaps tallies leaps
  pub len : length old ≡ length tallies
  pub tallied : (os : List Owner) (place : ℕ) → AreTallies old os → AreTallies tallies (os ++ map (owner holder) (run_refs place first (min (at - first) n)))

pub noted_first : (tallies : List Tally) (leaps : List ℕ) (holder first n at : ℕ) → HasLeaps tallies leaps → first ≤ at → at < length leaps
    → AllFull (full_at tallies) first at → IsNoted tallies tallies leaps holder first n at
noted_first tallies leaps holder first n at has on within full = record {
  on = on;
  within = omega (arith, has.len);
  has = has;
  len = refl;
  tallied = λ os place are. over_run tallies os holder place first (min (at - first) n) are (λ q from below low. full q from (omega arith));
}

-- the page is noted, and full ones behind it are leapt over
pub noted_more : (old tallies new : List Tally) (leaps later : List ℕ) (holder first n at next : ℕ) → IsNoted old tallies leaps holder first n at
    → at < first + n
    → ((os : List Owner) (o : Owner) → o.holder ≡ holder → o.reference.sort ≡ Bucket → o.reference.target ≡ at
    → AreTallies tallies os → AreTallies new (os ++ o ∷ []))
    → length new ≡ length tallies → HasLeaps new later → at + 1 ≤ next → next < length later → AllFull (full_at new) (at + 1) next
    → IsNoted old new later holder first n next
noted_more old tallies new leaps later holder first n at next is below note len has on within full = record {
  on = omega (arith, is.on);
  within = omega (arith, has.len);
  has = has;
  len = omega (arith, is.len);
  tallied = λ os place are.
      let m : ℕ = at - first in
      let so_far : min (at - first) n ≡ m = omega (arith, is.on) in
      let page : first + m ≡ at = omega (arith, is.on) in
      let before : AreTallies tallies (os ++ map (owner holder) (run_refs place first m)) =
      subst (λ k. AreTallies tallies (os ++ map (owner holder) (run_refs place first k))) so_far (is.tallied os place are) in
      let one : AreTallies new ((os ++ map (owner holder) (run_refs place first m)) ++ map (owner holder) (run_refs (place + m) (first + m) 1)) =
      note _ (owner holder (record { place = place + m; sort = Bucket; target = first + m })) refl refl page before in
      let noted : AreTallies new (os ++ map (owner holder) (run_refs place first (m + 1))) = subst (AreTallies new) (joined os holder place first m 1) one in
      let k : ℕ = min (next - first) n - (m + 1) in
      let all : m + 1 + k ≡ min (next - first) n = omega (arith, is.on) in
      let over : AreTallies new ((os ++ map (owner holder) (run_refs place first (m + 1)))
      ++ map (owner holder) (run_refs (place + (m + 1)) (first + (m + 1)) k)) =
      over_run new _ holder (place + (m + 1)) (first + (m + 1)) k noted (λ q from low there. full q (omega (arith, is.on)) (omega (arith, is.on))) in
      subst (λ k. AreTallies new (os ++ map (owner holder) (run_refs place first k))) all
      (subst (AreTallies new) (joined os holder place first (m + 1) k) over);
}

pub left_none : (first n at q m len : ℕ) → first ≤ at → (first + n ≤ at) ⊎ (len ≤ at) → m ≡ min (at - first) n → first + m ≤ q → q < first + n → q < len → ⊥
left_none first n at q m len on (inl whole) is from below low = omega arith
left_none first n at q m len on (inr past) is from below low = omega arith

-- the pages that are left aren't there
pub noted_all : (old tallies : List Tally) (leaps : List ℕ) (holder first n at : ℕ) (os : List Owner) (place : ℕ) → IsNoted old tallies leaps holder first n at
    → (first + n ≤ at) ⊎ (length tallies ≤ at) → AreTallies old os → AreTallies tallies (os ++ map (owner holder) (run_refs place first n))
noted_all old tallies leaps holder first n at os place is done are =
    let m : ℕ = min (at - first) n in
    let k : ℕ = n - m in
    let all : m + k ≡ n = omega arith in
    let over : AreTallies tallies ((os ++ map (owner holder) (run_refs place first m)) ++ map (owner holder) (run_refs (place + m) (first + m) k)) =
    over_run tallies _ holder (place + m) (first + m) k (is.tallied os place are)
    (λ q from below low. absurd (left_none first n at q m (length tallies) is.on done refl from (omega arith) low)) in
    subst (λ k. AreTallies tallies (os ++ map (owner holder) (run_refs place first k))) all (subst (AreTallies tallies) (joined os holder place first m k) over)

-- no page of the run is there
pub none_there : (tallies : List Tally) (holder first n : ℕ) (os : List Owner) (place : ℕ) → length tallies < 2 ^ 31
    → min (min (first + n) (2 ^ 64 - 1)) (length tallies) ≤ first
    → AreTallies tallies os → AreTallies tallies (os ++ map (owner holder) (run_refs place first n))
none_there tallies holder first n os place few above are = over_run tallies os holder place first n are (λ q from below low. absurd (omega arith))

-- other leaps over the same full pages
pub other_leaps : (tallies : List Tally) (leaps others : List ℕ) → HasLeaps tallies leaps → length others ≡ length leaps → AreLeaps others
    → AreOver (full_at tallies) others → HasLeaps tallies others
other_leaps tallies leaps others has len are over = record {
  few = has.few;
  len = len ∙ has.len;
  are = are;
  over = over;
}

-- no leap goes over a page yet
pub no_leap_yet : (tallies : List Tally) (leaps : List ℕ) (n : ℕ) → leaps ≡ range_with_len 0 n → n ≡ length tallies + 1 → length tallies < 2 ^ 31
    → HasLeaps tallies leaps
no_leap_yet tallies leaps n is len few =
    let count : length leaps ≡ n = ap length is ∙ length-range_with_len 0 n in
    let here : (p : ℕ) → p < n → get_or leaps p 0 ≡ p = λ p low. ap (λ xs. get_or xs p 0) is ∙ (get_or-range_with_len 0 n p 0 low ∙ zero-add p) in
    record {
      few = few;
      len = count ∙ len;
      are = record { on = λ p low. omega (arith, here p (omega arith)); within = λ p low. omega (arith, here p (omega arith)) };
      over = λ p q low on below. absurd (omega (arith, here p (omega arith)));
    }

-- a full page stays so, and so leaps over it are right
pub known_kept : (file : File) (tallies new : List Tally) (pages : Option BucketPages) → length new ≡ length tallies
    → ((p : ℕ) → full_at tallies p ≡ true → full_at new p ≡ true)
    → AreKnownIfAny file tallies pages → AreKnownIfAny file new pages
known_kept file tallies new None len full known = tt
known_kept file tallies new (Some pages) len full known = record {
  fits = known.fits;
  leaps = record {
    few = omega (arith, known.leaps.few);
    len = omega (arith, known.leaps.len);
    are = known.leaps.are;
    over = λ p q low on below. full q (known.leaps.over p q low on below);
  };
}

-- Kinds.

-- no bucket is the head of a chain or the root of a set
no_kinds : (holder place : ℕ) (names : List ℕ) (f : ℕ → ℕ) → (list_any names_head (map (owner holder) (placed place (map (λ b. (Bucket, f b)) names))) ≡ false)
    × (list_any names_set (map (owner holder) (placed place (map (λ b. (Bucket, f b)) names))) ≡ false)
no_kinds holder place [] f = (refl, refl)
no_kinds holder place (b ∷ names) f = no_kinds holder (place + 1) names f

kinds_stay : (kinds : Kinds) (os more : List Owner) → list_any names_head more ≡ false → list_any names_set more ≡ false → AreKinds kinds os
    → AreKinds kinds (os ++ more)
kinds_stay kinds os more heads sets are = record {
  chains =
      are.chains
      ∙ (sym (or-false (list_any names_head os)) ∙ (ap (λ b. list_any names_head os || b) (sym heads) ∙ sym (list_any-append names_head os more)));
  sets =
      are.sets
      ∙ (sym (or-false (list_any names_set os)) ∙ (ap (λ b. list_any names_set os || b) (sym sets) ∙ sym (list_any-append names_set os more)));
}

pub kinds_of_table : (kinds : Kinds) (os : List Owner) (holder place : ℕ) (buckets : Option Buckets) → AreKinds kinds os
    → AreKinds kinds (os ++ map (owner holder) (refs_if_table place buckets))
kinds_of_table kinds os holder place None are = kinds_stay kinds os [] refl refl are
kinds_of_table kinds os holder place (Some buckets) are =
    let none = no_kinds holder place (range_with_len 0 (buckets.max_bucket + 1)) (λ b. first_page b buckets.spares) in
    kinds_stay kinds os (map (owner holder) (table_refs place buckets)) none.0 none.1 are
