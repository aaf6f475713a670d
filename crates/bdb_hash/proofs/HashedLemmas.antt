-- Pairs of a bucket whose keys have different hashes have different keys.
use Rattle.std.proofs.Common.{◌≡◌, ◌≢◌, ℕ, zero, suc, ◌+◌, ◌-◌, ◌<◌, ◌≤◌, Bool, true, false, List, [], ◌∷◌, ◌++◌, map, length, get_or, arith, refl, sym, ◌∙◌}
use Rattle.std.proofs.Common.{ap, subst, nat_eq, slice_index, nat_cmp}
use Rattle.std.specs.BTreeSet.{BTreeSet}
use Rattle.std.specs.List.{AllPairs, Contains, IsDistinct, flat_map, range_with_len}
use Rattle.std.specs.List.Sorted.{IsPermutation, IsSorted, IsStrictlyIncreasing}
use Rattle.std.specs.Str.{bytes_eq}
use Rattle.std.proofs.lemmas.Bool.{eqb-false, eqb-true, eq-eqb, or_from, false_from_ne_true}
use Rattle.std.proofs.lemmas.List.{get_or_default, map-append}
use Rattle.std.proofs.lemmas.List.Elements.{All-contains, All-from_recursion, recursion_from_All}
use Rattle.std.proofs.lemmas.List.Kept.{AllPairs-from_increasing}
use Rattle.std.proofs.lemmas.List.Sorted.{IsPermutation-sym}
use Rattle.std.proofs.lemmas.Map.Keys.{IsDistinct-IsPermutation}
use Rattle.std.proofs.lemmas.Map.Made.{IsDistinct-from_AllPairs}
use Rattle.bdb_faults.specs.Notes.{Notes}
use Rattle.bdb_ranks.specs.of_format.declared.kinds.Fault.{Fault}
use Rattle.bdb_ranks.specs.of_format.declared.metadata.HashMeta.{HashMeta}
use Rattle.bdb_ranks.specs.of_format.Terms.{StoredPair, bucket_pages, file_of, hash5}
use Rattle.bdb_ranks.proofs.of_format.MemberLemmas.{first_member, in_map, later_member, of_map}
use Rattle.bdb_ranks.proofs.of_format.RepeatLemmas.{repeated_after, repeated_is}
use Rattle.bdb_ranks.proofs.of_format.LessLemmas.{eq_same}
use Rattle.bdb_buckets.specs.Repeat.{repeat_fault}
use Rattle.bdb_hash.specs.Noted.{repeat_faults}
use Rattle.bdb_buckets.specs.Told.{stored, Told, bucket_told, joined_pages, page_told}
use Rattle.bdb_hash.specs.Passed.{is_among, is_missed, key_hash}
use Rattle.bdb_hash.proofs.RepeatLemmas.{has_same}
use Rattle.bdb_buckets.proofs.TableLemmas.{told_more}
use Rattle.bdb_faults.proofs.SinkLemmas.{notes_nothing}

-- Numbers that are apart.

-- sorted numbers of which no two that follow each other are the same
pub sorted_apart : (old new : List ℕ) → IsPermutation old new → IsSorted nat_cmp new
    → ((k : ℕ) → k + 1 < length new → slice_index new k ≢ slice_index new (k + 1)) → IsDistinct nat_eq old
sorted_apart old new moved sorted apart =
    let rises : IsStrictlyIncreasing new = λ k low. (let here = apart k low in let order = sorted k 0 (omega arith) low in grind arith) in
    let all : AllPairs (λ x y. x ≢ y) new = λ i j d low high same. omega (arith, AllPairs-from_increasing new rises i j d low high, same) in
    IsDistinct-IsPermutation nat_eq (λ x y. grind arith) new old (IsPermutation-sym old new moved)
    (IsDistinct-from_AllPairs {eq = nat_eq} (λ a b. (eqb-true a b, eq-eqb a b)) new all)

-- Numbers that are apart but for those that are among others.

rising : (xs : List ℕ) (k : ℕ) → IsSorted nat_cmp xs → k + 1 < length xs → get_or xs k 0 ≤ get_or xs (k + 1) 0
rising xs k sorted low = let order = sorted k 0 (omega arith) low in grind arith

rising_to : (xs : List ℕ) (i n : ℕ) → IsSorted nat_cmp xs → i + n < length xs → get_or xs i 0 ≤ get_or xs (i + n) 0
rising_to xs i zero sorted low = let same : i + 0 ≡ i = omega arith in subst (λ k. get_or xs i 0 ≤ get_or xs k 0) (sym same) (omega arith)
rising_to xs i (suc n) sorted low = grind (arith, rising, rising_to xs i n sorted (omega arith))

distinct_from : (e : ℕ → ℕ → Bool) (xs : List ℕ) → AllPairs (λ x y. e x y ≡ false) xs → IsDistinct e xs
unfolding IsDistinct
distinct_from e [] all = tt
distinct_from e (x ∷ xs) all = (
  recursion_from_All (λ y. e x y ≡ false) xs (λ k d low. all 0 (suc k) d (omega arith) (omega arith)),
  distinct_from e xs (λ i j d low high. all (suc i) (suc j) d (omega arith) (omega arith)),
)

not_missed : (twice : BTreeSet ℕ) (a b : ℕ) → (a ≡ b → is_among twice a ≡ true) → is_missed twice a b ≡ false
not_missed twice a b has = grind (arith, eqb-true)

missed_flips : (twice : BTreeSet ℕ) (a b : ℕ) → is_missed twice a b ≡ is_missed twice b a
missed_flips twice a b = grind (arith, eqb-true a b, eqb-true b a, eq-eqb a b, eq-eqb b a)

-- sorted numbers of which those are among others that are the same as the next one
pub sorted_missed : (old new : List ℕ) (twice : BTreeSet ℕ) → IsPermutation old new → IsSorted nat_cmp new
    → ((k : ℕ) → k + 1 < length new → slice_index new k ≡ slice_index new (k + 1) → is_among twice (slice_index new k) ≡ true)
    → IsDistinct (is_missed twice) old
sorted_missed old new twice moved sorted each =
    IsDistinct-IsPermutation (is_missed twice) (missed_flips twice) new old (IsPermutation-sym old new moved)
    (distinct_from (is_missed twice) new (λ i j d low high.
    rw (get_or_default new i d 0 (omega arith), get_or_default new j d 0 high)
    (not_missed twice (get_or new i 0) (get_or new j 0) (λ same.
    let n : ℕ = j - (i + 1) in
    let place : i + 1 + n ≡ j = omega arith in
    let first = rising new i sorted (omega arith) in
    let later : get_or new (i + 1) 0 ≤ get_or new j 0 = subst (λ k. get_or new (i + 1) 0 ≤ get_or new k 0) place (rising_to new (i + 1) n sorted (omega arith))
    in
    each i (omega arith) (omega (arith, first, later, same))))))

-- the hashes of one more bucket
pub hashes_more : (image : List ℕ) (meta : HashMeta) (b : ℕ) (old new : List ℕ) (pages : List (List Told))
    → old ≡ map key_hash (flat_map (bucket_told image meta) (range_with_len 0 b))
    → pages ≡ map (page_told image) (bucket_pages (file_of image) meta b) → new ≡ old ++ map key_hash (joined_pages pages)
    → new ≡ map key_hash (flat_map (bucket_told image meta) (range_with_len 0 (b + 1)))
hashes_more image meta b old new pages done are is = grind (arith, map-append, told_more)

-- Pairs with other hashes.

none_after : (before : List StoredPair) (pairs : List Told) → IsDistinct nat_eq (map key_hash pairs)
    → ((pair : StoredPair) → Contains (stored pairs) pair → has_same before pair ≡ false) → repeated_after before (stored pairs) ≡ []
unfolding IsDistinct
none_after before [] apart other = refl
none_after before (t ∷ ts) apart other =
    let later : (pair : StoredPair) → Contains (stored ts) pair → bytes_eq t.pair.key pair.key ≡ false = λ pair at.
    false_from_ne_true (bytes_eq t.pair.key pair.key) (λ same.
    let found = of_map (λ (u : Told). u.pair) ts pair at in
    let hash : nat_eq (key_hash t) (key_hash found.0) ≡ false =
    All-contains (λ n. nat_eq (key_hash t) n ≡ false) (map key_hash ts) (key_hash found.0) (All-from_recursion _ (map key_hash ts) apart.0)
    (in_map key_hash ts found.0 found.1) in
    eqb-false (key_hash t) (key_hash found.0) hash (ap hash5 (eq_same t.pair.key pair.key same ∙ ap (λ (p : StoredPair). p.key) (sym found.2)))) in
    rw (other t.pair (first_member t.pair (stored ts)))
    (none_after (t.pair ∷ before) ts apart.1
    (λ pair at. or_from (bytes_eq t.pair.key pair.key) (has_same before pair) (later pair at) (other pair (later_member t.pair (stored ts) pair at))))

-- no pair has the key of an earlier one
pub no_repeat : (before : List Fault → Type 0) (hashes : List ℕ) (pairs : List Told) → hashes ≡ map key_hash pairs → IsDistinct nat_eq hashes
    → Notes before before (repeat_faults pairs)
no_repeat before hashes pairs are apart =
    subst (λ (again : List StoredPair). Notes before before (map repeat_fault again))
    (sym (repeated_is (stored pairs) ∙ none_after [] pairs (subst (IsDistinct nat_eq) are apart) (λ pair at. refl))) (notes_nothing before)
