-- The keys of all buckets, and the table.
use Rattle.std.proofs.Common.{◌≡◌, ◌⊎◌, ℕ, suc, ◌+◌, ◌<◌, ◌≤◌, Bool, true, false, List, [], ◌∷◌, ◌++◌, map, length, get_or, take, None, arith, refl, sym, ◌∙◌}
use Rattle.std.proofs.Common.{ap, subst, inl, inr, length-append, length-take, true≢false, ◌||◌, sum_by}
use Rattle.bdb_mkhash.proofs.Common.{cases_eq, cases_lt, or_cases, or_right, length-map, map-append, take_more, sum_by_push, File, page_code, IsLater, between, between_is, is_between, Built, bytes_of}
use Rattle.bdb_mkhash.proofs.Common.{file_so_far, later_before, BucketStands, Keyed, PlacedUnit, TableStands, unit_of, spread_bucket, keyed_own_pages, AreEmptyPages, AreFilled, IsBucketFilled}
use Rattle.bdb_mkhash.proofs.Common.{of_bucket, of_buckets, HoldsContentsOn}
use Rattle.bdb_mkhash.proofs.OpenLemmas.{bucket_is, holds_kept, is_first, is_further}

-- Buckets that stand one after the other.
pub tables_follow : (g : File) (sorted : Bool) (p first middle beyond : ℕ) (xs : List (List (List PlacedUnit))) (bucket : List (List PlacedUnit))
    → TableStands g sorted p first middle xs → BucketStands g sorted 0 (p + length xs) middle beyond bucket
    → TableStands g sorted p first beyond (xs ++ (bucket ∷ []))
tables_follow g sorted p first middle beyond [] bucket same stands = grind arith
tables_follow g sorted p first middle beyond (x ∷ xs) bucket (next, here, rest) stands = (
  next,
  here,
  tables_follow g sorted (p + 1) next middle beyond xs bucket rest
      (subst (λ n. BucketStands g sorted 0 n middle beyond bucket) (let e : p + suc (length xs) ≡ p + 1 + length xs = omega arith in e) stands),
)

-- Sets of pages.

pub buckets_is : (p n a b q : ℕ) → of_buckets p n a b q ≡ true → ((p ≤ q) × (q < p + n)) ⊎ ((a ≤ q) × (q < b))
buckets_is p n a b q is = grind (arith, or_cases, between_is)

pub are_first : (p n a b q : ℕ) → p ≤ q → q < p + n → of_buckets p n a b q ≡ true
are_first p n a b q low high = ap (λ t. t || between a b q) (is_between p (p + n) q low high)

pub are_further : (p n a b q : ℕ) → a ≤ q → q < b → of_buckets p n a b q ≡ true
are_further p n a b q low high = or_right (between p (p + n) q) _ (is_between a b q low high)

not_between : (a b q : ℕ) → b ≤ q → between a b q ≡ false
not_between a b q high = grind (arith, between_is)

-- the first page of the next bucket is as it was
pub still_empty : (p n : ℕ) (old now : Built) (sorted : Bool) (buckets : List (List Keyed)) → AreEmptyPages p n old
    → AreFilled p old now sorted buckets
    → length buckets < n → (p + length buckets < length now.pages) × HoldsContentsOn now (p + length buckets) 0 0 []
still_empty p n old now sorted buckets empty filled more =
    let q : ℕ = p + length buckets in
    let was = empty (length buckets) more in
    let grows = filled.grows in (
      omega (arith, was.0, grows),
      holds_kept old now q 0 0 [] filled.order (filled.same q was.0 (not_between p (p + length buckets) q (omega arith))) was.1,
    )

-- One bucket more.
module _ (p n : ℕ) (old now new : Built) (sorted : Bool) (buckets : List (List Keyed)) (bucket : List Keyed) (empty : AreEmptyPages p n old)
    (was : AreFilled p old now sorted buckets) (low : length buckets < n) (one : IsBucketFilled (p + length buckets) now new sorted bucket) where
  abbrev a : ℕ
  a = length old.pages

  abbrev b : ℕ
  b = length now.pages

  abbrev d : ℕ
  d = length new.pages

  abbrev k : ℕ
  k = length buckets

  all_long : length (buckets ++ (bucket ∷ [])) ≡ k + 1
  all_long = length-append buckets (bucket ∷ [])

  there : p + k < a
  there = (empty k low).0

  up : a ≤ b
  up = was.grows

  more : b ≤ d
  more = one.kept.grows

  many : length was.pages ≡ k
  many = sym (length-map was.pages (map (map unit_of))) ∙ (ap length was.spread ∙ length-map buckets (spread_bucket old.size))

  old_later : (g : File) → IsLater (of_buckets p (k + 1) a d) (file_so_far new) g → IsLater (of_buckets p k a b) (file_so_far now) g
  old_later g later =
      later_before now new (of_buckets p k a b) (of_buckets p (k + 1) a d) g one.kept.order more
      (λ q at. elim (buckets_is p k a b q at) [
        | inl first ↦ are_first p (k + 1) a d q first.0 (omega (arith, first.1))
        | inr further ↦ are_further p (k + 1) a d q further.0 (omega (arith, further.1, more))
      ])
      (λ q at. elim (buckets_is p k a b q at) [
        | inl first ↦ (omega (arith, first.1, there, up), one.kept.same q (omega (arith, first.1, there, up)) (λ e. omega (arith, e, first.1)))
        | inr further ↦ (further.1, one.kept.same q further.1 (λ e. omega (arith, e, further.0, there)))
      ]) later

  one_later : (g : File) → IsLater (of_buckets p (k + 1) a d) (file_so_far new) g → IsLater (of_bucket (p + k) b d) (file_so_far new) g
  one_later g later =
      later_before new new (of_bucket (p + k) b d) (of_buckets p (k + 1) a d) g refl (omega arith)
      (λ q at. elim (bucket_is (p + k) b d q at) [
        | inl first ↦ are_first p (k + 1) a d q (omega (arith, first)) (omega (arith, first))
        | inr further ↦ are_further p (k + 1) a d q (omega (arith, further.0, up)) further.1
      ])
      (λ q at. elim (bucket_is (p + k) b d q at) [
        | inl first ↦ (omega (arith, first, there, up, more), refl)
        | inr further ↦ (further.1, refl)
      ]) later

  all_formed : (q : ℕ) → of_buckets p (k + 1) a d q ≡ true → page_code new.order q (bytes_of new q) ≡ None
  all_formed q at = elim (cases_eq q (p + k)) [
    | inl here ↦ one.formed q (subst (λ r. of_bucket (p + k) b d r ≡ true) (sym here) (is_first (p + k) b d))
    | inr other ↦ elim (cases_lt q b) [
      | inl below ↦
          ap (λ o. page_code o q (bytes_of new q)) one.kept.order
          ∙ (ap (page_code now.order q) (one.kept.same q below other) ∙ was.formed q (elim (buckets_is p (k + 1) a d q at) [
            | inl first ↦ are_first p k a b q first.0 (omega (arith, first.1, other))
            | inr further ↦ are_further p k a b q further.0 below
          ]))
      | inr above ↦ elim (buckets_is p (k + 1) a d q at) [
        | inl first ↦ absurd (omega (arith, first.1, above, there, up))
        | inr further ↦ one.formed q (is_further (p + k) b d q above further.1)
      ]
    ]
  ]

  pub buckets_more : AreFilled p old new sorted (buckets ++ (bucket ∷ []))
  buckets_more = record {
    size = one.kept.size ∙ was.size;
    order = one.kept.order ∙ was.order;
    grows = omega (arith, up, more);
    same = λ q under other.
        let apart : (q ≡ p + k → ⊥) × (between p (p + k) q ≡ false) = outside q (subst (λ m. between p (p + m) q ≡ false) all_long other) in
        one.kept.same q (omega (arith, under, up)) apart.0 ∙ was.same q under apart.1;
    pages = was.pages ++ (one.pages ∷ []);
    spread =
        map-append (map (map unit_of)) was.pages (one.pages ∷ [])
        ∙ (ap (λ ps. ps ++ (map (map unit_of) one.pages ∷ [])) was.spread
        ∙ (ap (λ ps. map (spread_bucket old.size) buckets ++ (ps ∷ [])) (one.spread ∙ ap (λ s. spread_bucket s bucket) was.size)
        ∙ sym (map-append (spread_bucket old.size) buckets (bucket ∷ []))));
    stands = λ g counted later.
        let whole = subst (λ m. IsLater (of_buckets p m a d) (file_so_far new) g) all_long later in
        tables_follow g sorted p a b d was.pages one.pages (was.stands g counted (old_later g whole))
        (subst (λ m. BucketStands g sorted 0 (p + m) b d one.pages) (sym many) (one.stands g counted (one_later g whole)));
    formed = λ q at. all_formed q (subst (λ m. of_buckets p m a d q ≡ true) all_long at);
    count =
        let before = was.count in
        let added = one.count in
        let pages_are : length one.pages ≡ length (spread_bucket old.size bucket) =
        sym (length-map one.pages (map unit_of)) ∙ (ap length one.spread ∙ ap (λ s. length (spread_bucket s bucket)) was.size) in
        let own : sum_by (keyed_own_pages now.size sorted) bucket ≡ sum_by (keyed_own_pages old.size sorted) bucket = ap
        (λ s. sum_by (keyed_own_pages s sorted) bucket) was.size in
        omega (
          arith,
          before,
          added,
          pages_are,
          own,
          all_long,
          sum_by_push (λ (us : List Keyed). length (spread_bucket old.size us)) buckets bucket,
          sum_by_push (λ (us : List Keyed). sum_by (keyed_own_pages old.size sorted) us) buckets bucket,
        );
  }
    where
      outside : (q : ℕ) → between p (p + (k + 1)) q ≡ false → (q ≡ p + k → ⊥) × (between p (p + k) q ≡ false)
      outside q other = (
        λ same. true≢false (sym (is_between p (p + (k + 1)) q (omega (arith, same)) (omega (arith, same))) ∙ other),
        by_test (between p (p + k) q) refl other,
      )
        where
          by_test : (t : Bool) → between p (p + k) q ≡ t → between p (p + (k + 1)) q ≡ false → t ≡ false
          by_test true is other =
              let within = between_is p (p + k) q is in
              absurd (true≢false (sym (is_between p (p + (k + 1)) q within.0 (omega (arith, within.1))) ∙ other))
          by_test false is other = refl

-- With their places in a list.

taken_long : {X : Type 0} (all : List X) (i : ℕ) → i < length all → length (take i all) ≡ i
taken_long all i low = omega (arith, length-take i all, low)

pub at_bucket : (p n i page : ℕ) (old now : Built) (sorted : Bool) (all : List (List Keyed)) → AreEmptyPages p n old
    → AreFilled p old now sorted (take i all)
    → i < length all → length all ≡ n → page ≡ p + i → (page < length now.pages) × HoldsContentsOn now page 0 0 []
at_bucket p n i page old now sorted all empty filled low many is =
    let long = taken_long all i low in
    let e : p + length (take i all) ≡ page = omega (arith, long, is) in
    subst (λ q. (q < length now.pages) × HoldsContentsOn now q 0 0 []) e
    (still_empty p n old now sorted (take i all) empty filled (omega (arith, long, low, many)))

pub bucket_next : (p n i page : ℕ) (old now new : Built) (sorted : Bool) (all : List (List Keyed)) (bucket : List Keyed) → AreEmptyPages p n old
    → AreFilled p old now sorted (take i all) → i < length all → length all ≡ n → page ≡ p + i → bucket ≡ get_or all i []
    → IsBucketFilled page now new sorted bucket → AreFilled p old new sorted (take (i + 1) all)
bucket_next p n i page old now new sorted all bucket empty filled low many is same one =
    let long = taken_long all i low in
    let e : page ≡ p + length (take i all) = omega (arith, long, is) in
    subst (AreFilled p old new sorted) (ap (λ b. take i all ++ (b ∷ [])) same ∙ sym (take_more all i [] low))
    (buckets_more p n old now new sorted (take i all) bucket empty filled (omega (arith, long, low, many))
    (subst (λ q. IsBucketFilled q now new sorted bucket) e one))
