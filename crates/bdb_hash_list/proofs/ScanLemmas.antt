-- A table's pairs, sorted by their keys, are its list.
use Rattle.std.proofs.Common.{◌≡◌, ℕ, suc, ◌+◌, ◌<◌, Bool, true, false, cond, List, [], ◌∷◌, map, length, get_or, arith, refl, sym, ◌∙◌, ap, subst, inl, inr}
use Rattle.std.specs.declared.cmp.Ordering.{Ordering}
use Rattle.std.specs.declared.cmp.Ordering.TheVariants.{Less as Below, Equal, Greater}
use Rattle.std.specs.Cmp.Lexicographic.{nat_list_cmp_total, slice_cmp}
use Rattle.std.specs.List.{Contains, IsDistinct, flat_map}
use Rattle.std.specs.List.Sorted.{IsPermutation, IsSorted}
use Rattle.std.specs.Ordering.{is_lt, nat_cmp}
use Rattle.std.specs.Str.{bytes_eq}
use Rattle.std.proofs.lemmas.Bool.{cases_Bool, true≢false}
use Rattle.std.proofs.lemmas.List.Elements.{All-contains, All-from_recursion, recursion_from_All}
use Rattle.std.proofs.lemmas.List.Folds.{flat_map-map}
use Rattle.std.proofs.lemmas.List.Sorted.{Contains-permutation, IsPermutation-cons, IsPermutation-map, IsPermutation-middle}
use Rattle.std.proofs.lemmas.List.Sorted.{IsPermutation-refl, IsPermutation-sym, IsPermutation-trans, ranks_by, sorted_far}
use Rattle.std.proofs.lemmas.Map.Keys.{IsDistinct-IsPermutation}
use Rattle.bdb_buckets.specs.of_layout.Seen.{OrderingIs}
use Rattle.bdb_buckets.proofs.of_layout.KeyLemmas.{slice_cmp-is}
use Rattle.bdb_buckets.specs.of_format.declared.metadata.HashMeta.{HashMeta}
use Rattle.bdb_buckets.specs.of_format.Terms.{HashFields, Less, StoredPair, by_key, file_of, hash_list, insert_pair, less, table_pairs}
use Rattle.bdb_buckets.proofs.of_format.ListLemmas.{all_of}
use Rattle.bdb_buckets.proofs.of_format.LessLemmas.{eq_same, eq_self, less_trans, not_less_both, not_less_same}
use Rattle.bdb_buckets.proofs.of_format.MemberLemmas.{first_member, in_map, later_member, member_cases, no_member, of_map}
use Rattle.bdb_buckets.specs.of_image.Linked.{HasMetadata}
use Rattle.bdb_hash_list.specs.Scanned.{KeysDiffer, ranked}
use Rattle.bdb_buckets.specs.Told.{stored, key_of, Told, listed_told, table_told, told, told_cmp}
use Rattle.bdb_buckets.specs.Chained.{AreOf}
use Rattle.bdb_buckets.specs.Views.{IsTable}
use Rattle.bdb_buckets.proofs.ChainedLemmas.{pairs_told}
use Rattle.bdb_buckets.proofs.TableLemmas.{table_is_told, table_stored}
use Rattle.bdb_buckets.proofs.of_overflow.KeyLemmas.{is_order}
use Rattle.bdb_hash_list.proofs.LookupLemmas.{AreApart, keys_apart, same_key}

-- The order of keys.

-- of two keys that differ the first is less where the second isn't
less_where : (r : Ordering) (a b : List ℕ) → OrderingIs r a b → bytes_eq a b ≡ false → (Less b a → ⊥) → Less a b
less_where Below a b is differ other = is
less_where Equal a b is differ other = absurd (true≢false (sym (subst (λ xs. bytes_eq a xs ≡ true) is (eq_self a)) ∙ differ))
less_where Greater a b is differ other = absurd (other is)

-- Lists whose keys rise.

abbrev IsRising : {X : Type 0} → (X → List ℕ) → List X → Type 0
IsRising key [] = Unit {0}
IsRising key (x ∷ xs) = ((y : _) → Contains xs y → Less (key x) (key y)) × IsRising key xs

-- a member above the first one comes later
above_first : {X : Type 0} (key : X → List ℕ) (x y : X) (xs : List X) → Less (key x) (key y) → Contains (x ∷ xs) y → Contains xs y
above_first {X} key x y xs above at = grind (arith, member_cases, not_less_same)

-- two such lists with the same members are one
one_rising : {X : Type 0} (key : X → List ℕ) (xs ys : List X) → IsRising key xs → IsRising key ys
    → ((z : X) → Contains xs z → Contains ys z) → ((z : X) → Contains ys z → Contains xs z) → xs ≡ ys
one_rising key [] [] first second on back = refl
one_rising key [] (y ∷ ys) first second on back = absurd (no_member [] y refl (back y (first_member y ys)))
one_rising key (x ∷ xs) [] first second on back = absurd (no_member [] x refl (on x (first_member x xs)))
one_rising {X = X} key (x ∷ xs) (y ∷ ys) first second on back =
    let heads : x ≡ y =
    elim (member_cases y ys x (on x (first_member x xs))) [
      | inl same ↦ sym same
      | inr above ↦ elim (member_cases x xs y (back y (first_member y ys))) [
        | inl same ↦ same
        | inr below ↦ absurd (not_less_both (key x) (key y) (first.0 y below) (second.0 x above))
      ]
    ] in
    let tails : xs ≡ ys =
    one_rising key xs ys first.1 second.1
    (λ z at. above_first key y z ys (subst (λ (w : X). Less (key w) (key z)) heads (first.0 z at)) (on z (later_member x xs z at)))
    (λ z at. above_first key x z xs (subst (λ (w : X). Less (key w) (key z)) (sym heads) (second.0 z at)) (back z (later_member y ys z at))) in
    ap (λ w. w ∷ xs) heads ∙ ap (λ ws. y ∷ ws) tails

-- Pairs in the order of their keys.

insert_moved : (pair : StoredPair) (pairs : List StoredPair) → IsPermutation (pair ∷ pairs) (insert_pair pair pairs)
insert_moved pair [] = IsPermutation-refl (pair ∷ [])
insert_moved pair (other ∷ others) =
    elim (less other.key pair.key) as
    (λ b. IsPermutation (pair ∷ other ∷ others) (cond b (other ∷ insert_pair pair others) (pair ∷ other ∷ others))) [
      | true ↦ IsPermutation-trans (pair ∷ other ∷ others) (other ∷ pair ∷ others) (other ∷ insert_pair pair others)
          (IsPermutation-middle (pair ∷ []) other others)
          (IsPermutation-cons other (pair ∷ others) (insert_pair pair others) (insert_moved pair others))
      | false ↦ IsPermutation-refl (pair ∷ other ∷ others)
    ]

by_key_moved : (pairs : List StoredPair) → IsPermutation pairs (by_key pairs)
by_key_moved [] = IsPermutation-refl []
by_key_moved (pair ∷ pairs) =
    IsPermutation-trans (pair ∷ pairs) (pair ∷ by_key pairs) (by_key (pair ∷ pairs))
    (IsPermutation-cons pair pairs (by_key pairs) (by_key_moved pairs))
    (insert_moved pair (by_key pairs))

insert_rising : (pair : StoredPair) (pairs : List StoredPair) → IsRising key_of pairs
    → ((q : StoredPair) → Contains pairs q → bytes_eq pair.key q.key ≡ false) → IsRising key_of (insert_pair pair pairs)
insert_rising pair [] rising apart = (λ q at. absurd (no_member [] q refl at), tt)
insert_rising pair (other ∷ others) rising apart =
    elim (less other.key pair.key) as
    (λ b. less other.key pair.key ≡ b → IsRising key_of (cond b (other ∷ insert_pair pair others) (pair ∷ other ∷ others))) [
      | true ↦ λ below. (
        λ q at. elim (member_cases pair others q
            (Contains-permutation (insert_pair pair others) (pair ∷ others) q
            (IsPermutation-sym (pair ∷ others) (insert_pair pair others) (insert_moved pair others)) at)) [
              | inl same ↦ subst (λ (p : StoredPair). Less other.key p.key) same below
              | inr later ↦ rising.0 q later
            ],
        insert_rising pair others rising.1 (λ q at. apart q (later_member other others q at)),
      )
      | false ↦ λ not_below.
          let first : Less pair.key other.key =
          less_where (slice_cmp nat_cmp pair.key other.key) pair.key other.key (slice_cmp-is pair.key other.key)
          (apart other (first_member other others)) (λ below. true≢false (sym below ∙ not_below)) in (
            λ q at. elim (member_cases other others q at) [
              | inl same ↦ subst (λ (p : StoredPair). Less pair.key p.key) same first
              | inr later ↦ less_trans pair.key other.key q.key first (rising.0 q later)
            ],
            rising,
          )
    ] refl

by_key_rising : (pairs : List StoredPair) → AreApart pairs → IsRising key_of (by_key pairs)
by_key_rising [] apart = tt
by_key_rising (pair ∷ pairs) apart =
    insert_rising pair (by_key pairs) (by_key_rising pairs apart.1)
    (λ q at. apart.0 q (Contains-permutation (by_key pairs) pairs q (IsPermutation-sym pairs (by_key pairs) (by_key_moved pairs)) at))

abbrev told_key : Told → List ℕ
told_key t = t.pair.key

told_rising : (image : List ℕ) (pairs : List StoredPair) → IsRising key_of pairs → IsRising told_key (map (told image) pairs)
told_rising image [] rising = tt
told_rising image (pair ∷ pairs) rising = (
  λ t at.
      let found : (q : StoredPair) × Contains pairs q × (told image q ≡ t) = of_map (told image) pairs t at in
      subst (λ (u : Told). Less pair.key u.pair.key) found.2 (rising.0 found.0 found.1),
  told_rising image pairs rising.1,
)

-- Sorted pairs.

abbrev share_key : Told → Told → Bool
share_key t u = bytes_eq t.pair.key u.pair.key

share_flips : (t u : Told) → share_key t u ≡ share_key u t
share_flips t u = grind (arith, cases_Bool, eq_same, same_key, eq_self)

told_distinct : (ts : List Told) → AreApart (stored ts) → IsDistinct share_key ts
unfolding IsDistinct
told_distinct [] apart = tt
told_distinct (t ∷ ts) apart = (
  recursion_from_All (λ u. share_key t u ≡ false) ts
      (all_of (λ u. share_key t u ≡ false) ts (λ u at. apart.0 u.pair (in_map (λ (v : Told). v.pair) ts u at))),
  told_distinct ts apart.1,
)

-- none of the pairs behind the first of sorted ones is less
first_low : (t : Told) (ts : List Told) (u : Told) → IsSorted told_cmp (t ∷ ts) → Contains ts u → is_lt (told_cmp u t) ≡ false
first_low t ts u sorted at =
    let far : is_lt (told_cmp (get_or (t ∷ ts) (suc at.0) u) (get_or (t ∷ ts) 0 u)) ≡ false =
    sorted_far (λ (a b : Told). is_lt (told_cmp a b)) (ranks_by nat_list_cmp_total told_key) (t ∷ ts) sorted 0 (suc at.0) u
    (omega arith) (let below : at.0 < length ts = at.1 in omega arith) in
    subst (λ (v : Told). is_lt (told_cmp v t) ≡ false) at.2 far

rest_sorted : (t : Told) (ts : List Told) → IsSorted told_cmp (t ∷ ts) → IsSorted told_cmp ts
rest_sorted t ts sorted = λ k d low high.
    let more : suc k + 1 ≡ suc (k + 1) = omega arith in
    subst (λ n. is_lt (told_cmp (get_or (t ∷ ts) n d) (get_or (t ∷ ts) (suc k) d)) ≡ false) more (sorted (suc k) d (omega arith) (omega arith))

-- sorted pairs of which no two have one key rise
sorted_rising : (ts : List Told) → IsSorted told_cmp ts → IsDistinct share_key ts → IsRising told_key ts
unfolding IsDistinct
sorted_rising [] sorted apart = tt
sorted_rising (t ∷ ts) sorted apart = (
  λ u at.
      less_where (slice_cmp nat_cmp t.pair.key u.pair.key) t.pair.key u.pair.key (slice_cmp-is t.pair.key u.pair.key)
      (All-contains (λ v. share_key t v ≡ false) ts u (All-from_recursion _ ts apart.0) at)
      (λ below. true≢false (ap is_lt (is_order Below u.pair.key t.pair.key below) ∙ first_low t ts u sorted at)),
  sorted_rising ts (rest_sorted t ts sorted) apart.1,
)

-- the pairs of a table, sorted, are in the order of its list
pub sorted_ranked : (image : List ℕ) (meta : HashMeta) (old new : List Told) → IsTable image
    → HasMetadata (file_of image) (HashFields meta) → KeysDiffer (file_of image) meta
    → old ≡ table_told image meta → IsPermutation old new → IsSorted told_cmp new → new ≡ ranked image meta
sorted_ranked image meta old new table has differ are moved sorted =
    let pairs : List StoredPair = table_pairs (file_of image) meta in
    let apart : AreApart pairs = keys_apart image meta table has differ in
    let old_stored : stored old ≡ pairs = ap stored are ∙ table_stored image meta in
    let old_told : old ≡ map (told image) pairs = are ∙ table_is_told image meta in
    let distinct : IsDistinct share_key new =
    IsDistinct-IsPermutation share_key share_flips old new moved (told_distinct old (subst AreApart (sym old_stored) apart)) in
    let same : IsPermutation new (ranked image meta) =
    IsPermutation-trans new old (ranked image meta) (IsPermutation-sym old new moved)
    (subst (λ ts. IsPermutation ts (ranked image meta)) (sym old_told) (IsPermutation-map (told image) pairs (by_key pairs) (by_key_moved pairs))) in
    one_rising told_key new (ranked image meta) (sorted_rising new sorted distinct) (told_rising image (by_key pairs) (by_key_rising pairs apart))
    (λ t at. Contains-permutation new (ranked image meta) t same at)
    (λ t at. Contains-permutation (ranked image meta) new t (IsPermutation-sym new (ranked image meta) same) at)

-- The list.

-- the list of the pairs in order
pub ranked_list : (image : List ℕ) (meta : HashMeta) (pairs : List Told) → pairs ≡ ranked image meta
    → flat_map listed_told pairs ≡ hash_list (file_of image) meta
unfolding hash_list
ranked_list image meta pairs are = ap (flat_map listed_told) are ∙ flat_map-map listed_told (told image) (by_key (table_pairs (file_of image) meta))

-- and they stand in the file
pub ranked_of : (image : List ℕ) (meta : HashMeta) (pairs : List Told) → pairs ≡ ranked image meta → AreOf image pairs
ranked_of image meta pairs are = subst (AreOf image) (sym are) (pairs_told image (by_key (table_pairs (file_of image) meta)))
