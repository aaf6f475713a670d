-- What a table's list has under a key are the data of the first pair with that key in the key's bucket.
use Rattle.std.proofs.Common.{◌≡◌, ◌⊎◌, ℕ, zero, suc, ◌+◌, ◌≤◌, Bool, true, false, not, ◌&&◌, cond, List, [], ◌∷◌, ◌++◌, map, length, arith, refl, sym, ◌∙◌, ap}
use Rattle.std.proofs.Common.{subst, inl, inr, Option, Some, None, ◌==◌}
use Rattle.std.specs.List.{Contains, find, flat_map, list_any, range_with_len}
use Rattle.std.specs.Str.{bytes_eq}
use Rattle.std.proofs.lemmas.Bool.{cases_Bool, eq-eqb, eqb-true, false_from_ne_true, not-false, or_parts, true≢false}
use Rattle.std.proofs.lemmas.List.{append-nil}
use Rattle.std.proofs.lemmas.List.Elements.{Contains-append_left}
use Rattle.std.proofs.lemmas.List.Folds.{find-append}
use Rattle.bdb_buckets.specs.of_format.declared.metadata.HashMeta.{HashMeta}
use Rattle.bdb_buckets.specs.of_format.Terms.{BytesKey, File, HashFields, Less, ListKey, StoredPair, bucket_of_key, bucket_pairs, by_key, data_of}
use Rattle.bdb_buckets.specs.of_format.Terms.{database_faults, database_rows, fault_at, file_of, get, hash_contents, hash_list, insert_pair, less, listed_pair}
use Rattle.bdb_buckets.specs.of_format.Terms.{repeated, table_pairs}
use Rattle.bdb_buckets.proofs.of_format.LessLemmas.{eq_same, not_less_same}
use Rattle.bdb_buckets.proofs.of_format.MemberLemmas.{first_member, in_range, is_empty, later_member, member_cases, no_member, none_passes, of_range}
use Rattle.bdb_buckets.proofs.of_format.VerdictLemmas.{AllFail, no_rows_at}
use Rattle.bdb_buckets.proofs.of_format.PairLemmas.{get_append}
use Rattle.bdb_buckets.proofs.of_format.RepeatLemmas.{has_key as key_among, repeated_after, repeated_is}
use Rattle.bdb_buckets.specs.of_image.Linked.{HasMetadata}
use Rattle.bdb_hash_list.specs.Scanned.{KeysDiffer}
use Rattle.bdb_buckets.specs.of_format.declared.rows.ContentsRow.TheVariants.{KeyTwice}
use Rattle.bdb_buckets.specs.of_format.declared.rows.Row.TheVariants.{Contents}
use Rattle.bdb_buckets.specs.Told.{IsSought, Told, bucket_told, has_key, joined_pages, told}
use Rattle.bdb_buckets.specs.Views.{IsTable}
use Rattle.bdb_buckets.proofs.TableLemmas.{bucket_is, table_stored}
use Rattle.bdb_buckets.proofs.ContentsLemmas.{few_buckets, repeat_in}
use Rattle.bdb_buckets.proofs.PlainLemmas.{IsPlain, bucket_plain}
use Rattle.bdb_buckets.proofs.RowLemmas.{ArePlain, buckets_of}
use Rattle.bdb_buckets.proofs.of_format.ListLemmas.{flat_map_twice}
use Rattle.bdb_buckets.proofs.of_format.BoolLemmas.{second_false}
use Rattle.bdb_buckets.proofs.of_format.MemberLemmas.{nothing_joined}

-- The walk over the pages of a bucket.

pub sought_found : (key : List ℕ) (all : List Told) (left rest : List (List Told)) (page : List Told) (most steps : ℕ) (t : Told)
    → IsSought key all left most steps → left ≡ page ∷ rest
    → Some t ≡ find (has_key key) page → Some t ≡ find (has_key key) all
sought_found key all left rest page most steps t sought next found = grind (arith, find-append)

pub sought_on : (key : List ℕ) (all : List Told) (left rest : List (List Told)) (page : List Told) (most steps : ℕ)
    → IsSought key all left most steps → left ≡ page ∷ rest
    → None ≡ find (has_key key) page → IsSought key all rest most (steps + 1)
sought_on key all left rest page most steps sought next none = grind (arith, find-append)

pub sought_none : (key : List ℕ) (all : List Told) (left : List (List Told)) (most steps : ℕ) → IsSought key all left most steps
    → left ≡ [] → None ≡ find (has_key key) all
sought_none key all left most steps sought none = ap (λ ps. find (has_key key) (joined_pages ps)) (sym none) ∙ sought.same

pub sought_more : (key : List ℕ) (all : List Told) (left rest : List (List Told)) (page : List Told) (most steps : ℕ)
    → IsSought key all left most steps → left ≡ page ∷ rest → steps + 1 ≤ most
sought_more key all left rest page most steps sought next = let more : length left ≡ suc (length rest) = ap length next in omega (arith, sought.few)

-- What a pair has under a key.

abbrev under : File → List ℕ → StoredPair → List (List ℕ)
under file key pair = get (listed_pair file pair) (BytesKey key)

get_flat : {X : Type 0} (f : X → List (ListKey × List ℕ)) (key : ListKey) (xs : List X) → get (flat_map f xs) key ≡ flat_map (λ x. get (f x) key) xs
get_flat f key [] = refl
get_flat f key (x ∷ xs) = get_append (f x) (flat_map f xs) key ∙ ap (λ vs. get (f x) key ++ vs) (get_flat f key xs)

listed_under : (key own : List ℕ) (values : List (List ℕ)) (b : Bool) → bytes_eq own key ≡ b
    → get (map (λ value. (BytesKey own, value)) values) (BytesKey key) ≡ cond b values []
listed_under key own [] true is = refl
listed_under key own [] false is = refl
listed_under key own (value ∷ values) true is = rw is (ap (λ vs. value ∷ vs) (listed_under key own values true is))
listed_under key own (value ∷ values) false is = rw is (listed_under key own values false is)

under_own : (file : File) (key : List ℕ) (pair : StoredPair) → pair.live ≡ true → bytes_eq pair.key key ≡ true
    → under file key pair ≡ data_of file pair.data_item
under_own file key pair live is =
    ap (λ b. get (cond b (map (λ value. (BytesKey pair.key, value)) (data_of file pair.data_item)) []) (BytesKey key)) live
    ∙ listed_under key pair.key (data_of file pair.data_item) true is

under_other : (file : File) (key : List ℕ) (pair : StoredPair) → bytes_eq pair.key key ≡ false → under file key pair ≡ []
under_other file key pair other =
    elim pair.live as (λ b. get (cond b (map (λ value. (BytesKey pair.key, value)) (data_of file pair.data_item)) []) (BytesKey key) ≡ []) [
      | true ↦ listed_under key pair.key (data_of file pair.data_item) false other
      | false ↦ refl
    ]

-- The order of the list.

-- of two pairs with different keys one has nothing under a key
one_under : (file : File) (key : List ℕ) (a b : StoredPair) → less a.key b.key ≡ true → (under file key a ≡ []) ⊎ (under file key b ≡ [])
one_under file key a b is =
    elim (cases_Bool (bytes_eq a.key key)) [
      | inl own ↦
          inr (under_other file key b (false_from_ne_true (bytes_eq b.key key) (λ same.
          not_less_same b.key (subst (λ xs. Less xs b.key) (eq_same a.key key own ∙ sym (eq_same b.key key same)) is))))
      | inr other ↦ inl (under_other file key a other)
    ]

swap_empty : {X : Type 0} (xs ys zs : List X) → (xs ≡ []) ⊎ (ys ≡ []) → xs ++ (ys ++ zs) ≡ ys ++ (xs ++ zs)
swap_empty xs ys zs (inl none) = ap (λ v. v ++ (ys ++ zs)) none ∙ ap (λ v. ys ++ (v ++ zs)) (sym none)
swap_empty xs ys zs (inr none) = ap (λ v. xs ++ (v ++ zs)) none ∙ ap (λ v. v ++ (xs ++ zs)) (sym none)

under_insert : (file : File) (key : List ℕ) (pair : StoredPair) (pairs : List StoredPair)
    → flat_map (under file key) (insert_pair pair pairs) ≡ under file key pair ++ flat_map (under file key) pairs
under_insert file key pair [] = refl
under_insert file key pair (other ∷ others) = grind (arith, swap_empty, one_under, under_insert file key pair others)

under_by_key : (file : File) (key : List ℕ) (pairs : List StoredPair) → flat_map (under file key) (by_key pairs) ≡ flat_map (under file key) pairs
under_by_key file key [] = refl
under_by_key file key (pair ∷ pairs) = under_insert file key pair (by_key pairs) ∙ ap (λ vs. under file key pair ++ vs) (under_by_key file key pairs)

-- what the list has under a key
list_under : (file : File) (meta : HashMeta) (key : List ℕ)
    → get (hash_list file meta) (BytesKey key) ≡ flat_map (under file key) (table_pairs file meta)
unfolding hash_list
list_under file meta key = get_flat (listed_pair file) (BytesKey key) (by_key (table_pairs file meta)) ∙ under_by_key file key (table_pairs file meta)

-- One bucket.

-- where all but one of some parts are empty, that one is the whole
one_of_range : {X : Type 0} (f : ℕ → List X) (a n b : ℕ) → Contains (range_with_len a n) b
    → ((c : ℕ) → Contains (range_with_len a n) c → (c ≡ b → ⊥) → f c ≡ []) → flat_map f (range_with_len a n) ≡ f b
one_of_range f a zero b at none = absurd (no_member [] b refl at)
one_of_range f a (suc n) b at none =
    let rest : List ℕ = range_with_len (a + 1) n in
    elim (member_cases a rest b at) [
      | inl same ↦
          ap (λ xs. f a ++ xs) (nothing_joined f rest (λ c later. none c (later_member a rest c later) (λ is.
          (let above = of_range (a + 1) n c later in omega (arith, above.0)))))
          ∙ (append-nil (f a) ∙ ap f same)
      | inr later ↦
          ap (λ xs. xs ++ flat_map f rest) (none a (first_member a rest) (λ is. (let above = of_range (a + 1) n b later in omega (arith, above.0))))
          ∙ one_of_range f (a + 1) n b later (λ c there. none c (later_member a rest c there))
    ]

-- No row of the table holds.

pub all_fail_at : (image : List ℕ) (meta : HashMeta) (p : ℕ) → database_faults (file_of image) (HashFields meta) ≡ []
    → p ≤ (file_of image).last → AllFail (hash_contents (file_of image) meta p)
unfolding database_faults
all_fail_at image meta p none low =
    no_rows_at 8 0 ((file_of image).last + 1) p (λ q. database_rows (file_of image) (HashFields meta) q) none (omega arith) (omega arith)

-- each key is in its own bucket
own_bucket : (image : List ℕ) (meta : HashMeta) (b : ℕ) (pair : StoredPair) → IsTable image
    → HasMetadata (file_of image) (HashFields meta) → database_faults (file_of image) (HashFields meta) ≡ []
    → Contains (buckets_of meta) b → Contains (bucket_pairs (file_of image) meta b) pair → bucket_of_key meta pair.key ≡ b
own_bucket image meta b pair table has none listed held =
    let file : File = file_of image in
    let plain : IsPlain file pair = bucket_plain image meta b pair table has (few_buckets meta b listed) held in
    let fail : AllFail (hash_contents file meta pair.page) = all_fail_at image meta pair.page none plain.inside in
    let bucket : list_any (λ (one : StoredPair). one.page == pair.page && not (bucket_of_key meta one.key == b)) (bucket_pairs file meta b) ≡ false =
    none_passes (λ c. list_any (λ (one : StoredPair). one.page == pair.page && not (bucket_of_key meta one.key == c))
    (bucket_pairs file meta c)) (buckets_of meta) b fail.1.1.1.0 listed in
    let passes : (pair.page == pair.page && not (bucket_of_key meta pair.key == b)) ≡ false =
    none_passes (λ (one : StoredPair). one.page == pair.page && not (bucket_of_key meta one.key == b)) (bucket_pairs file meta b) pair bucket held in
    eqb-true (bucket_of_key meta pair.key) b
    (not-false (bucket_of_key meta pair.key == b)
    (second_false (pair.page == pair.page) (not (bucket_of_key meta pair.key == b)) (eq-eqb pair.page pair.page refl) passes))

-- nor does KeyTwice
pub no_key_twice : (file : File) (meta : HashMeta) → database_faults file (HashFields meta) ≡ [] → KeysDiffer file meta
no_key_twice file meta none =
    record { none_comes_twice = λ p at. no_member (database_faults file (HashFields meta)) (fault_at (Contents KeyTwice) p) none at }

-- no key repeats
none_repeats : (image : List ℕ) (meta : HashMeta) → IsTable image → HasMetadata (file_of image) (HashFields meta)
    → KeysDiffer (file_of image) meta
    → repeated (table_pairs (file_of image) meta) ≡ []
none_repeats image meta table has differ =
    is_empty (repeated (table_pairs (file_of image) meta)) (λ pair at.
    differ.none_comes_twice pair.page
    (repeat_in image meta pair table has (subst (λ pairs. Contains (repeated pairs) pair) (sym (table_stored image meta)) at)))

-- each pair has another key than those after it
abbrev pub AreApart : List StoredPair → Type 0
AreApart [] = Unit {0}
AreApart (pair ∷ pairs) = ((other : StoredPair) → Contains pairs other → bytes_eq pair.key other.key ≡ false) × AreApart pairs

cond_empty : {X : Type 0} (b : Bool) (x : X) (xs : List X) → cond b (x ∷ xs) xs ≡ [] → (b ≡ false) × (xs ≡ [])
cond_empty true x xs none = absurd cc
cond_empty false x xs none = (refl, none)

each_new : (earlier pairs : List StoredPair) → repeated_after earlier pairs ≡ [] → (one : StoredPair) → Contains pairs one
    → key_among one.key earlier ≡ false
each_new earlier [] none one at = absurd (no_member [] one refl at)
each_new earlier (pair ∷ pairs) none one at =
    let here = cond_empty (key_among pair.key earlier) pair (repeated_after (pair ∷ earlier) pairs) none in
    elim (member_cases pair pairs one at) [
      | inl same ↦ subst (λ (p : StoredPair). key_among p.key earlier ≡ false) same here.0
      | inr later ↦ (or_parts (bytes_eq pair.key one.key) (key_among one.key earlier) (each_new (pair ∷ earlier) pairs here.1 one later)).1
    ]

apart_where_none : (earlier pairs : List StoredPair) → repeated_after earlier pairs ≡ [] → AreApart pairs
apart_where_none earlier [] none = tt
apart_where_none earlier (pair ∷ pairs) none =
    let rest = (cond_empty (key_among pair.key earlier) pair (repeated_after (pair ∷ earlier) pairs) none).1 in (
      λ one at. (or_parts (bytes_eq pair.key one.key) (key_among one.key earlier) (each_new (pair ∷ earlier) pairs rest one at)).0,
      apart_where_none (pair ∷ earlier) pairs rest,
    )

-- the keys of a table are apart
pub keys_apart : (image : List ℕ) (meta : HashMeta) → IsTable image → HasMetadata (file_of image) (HashFields meta)
    → KeysDiffer (file_of image) meta → AreApart (table_pairs (file_of image) meta)
keys_apart image meta table has differ =
    apart_where_none [] (table_pairs (file_of image) meta)
    (sym (repeated_is (table_pairs (file_of image) meta)) ∙ none_repeats image meta table has differ)

apart_parts : (xs ys : List StoredPair) → AreApart (xs ++ ys) → AreApart xs × AreApart ys
apart_parts [] ys apart = (tt, apart)
apart_parts (x ∷ xs) ys apart = grind (arith, Contains-append_left, apart_parts xs ys apart.1)

apart_part : {X : Type 0} (f : X → List StoredPair) (xs : List X) (x : X) → AreApart (flat_map f xs) → Contains xs x → AreApart (f x)
apart_part f [] x apart at = absurd (no_member [] x refl at)
apart_part f (y ∷ ys) x apart at =
    let parts : AreApart (f y) × AreApart (flat_map f ys) = apart_parts (f y) (flat_map f ys) apart in
    elim (member_cases y ys x at) [ inl same ↦ subst (λ z. AreApart (f z)) same parts.0 | inr later ↦ apart_part f ys x parts.1 later ]

bucket_apart : (image : List ℕ) (meta : HashMeta) (b : ℕ) → IsTable image → HasMetadata (file_of image) (HashFields meta)
    → database_faults (file_of image) (HashFields meta) ≡ []
    → Contains (buckets_of meta) b → AreApart (bucket_pairs (file_of image) meta b)
unfolding table_pairs
bucket_apart image meta b table has none listed =
    apart_part (bucket_pairs (file_of image) meta) (buckets_of meta) b
    (keys_apart image meta table has (no_key_twice (file_of image) meta none)) listed

-- The first pair with a key.

-- the data of a pair that was found
abbrev pub told_data : Option Told → List (List ℕ)
told_data None = []
told_data (Some t) = data_of (file_of t.image) t.pair.data_item

pub same_key : (a b key : List ℕ) → bytes_eq a b ≡ false → bytes_eq a key ≡ true → bytes_eq b key ≡ false
same_key a b key apart own = false_from_ne_true (bytes_eq b key)
    (λ same. true≢false (sym (subst (λ xs. bytes_eq a xs ≡ true) (sym (eq_same b key same)) own) ∙ apart))

first_under : (image key : List ℕ) (pairs : List StoredPair) → ArePlain (file_of image) pairs → AreApart pairs
    → flat_map (under (file_of image) key) pairs ≡ told_data (find (has_key key) (map (told image) pairs))
first_under image key [] plain apart = refl
first_under image key (pair ∷ pairs) plain apart =
    let file : File = file_of image in
    elim (bytes_eq pair.key key) as (λ b. bytes_eq pair.key key ≡ b
    → under file key pair ++ flat_map (under file key) pairs
    ≡ told_data (cond b (Some (told image pair)) (find (has_key key) (map (told image) pairs)))) [
      | true ↦ λ own.
          ap (λ vs. vs ++ flat_map (under file key) pairs) (under_own file key pair (plain pair (first_member pair pairs)).live own)
          ∙ (ap (λ vs. data_of file pair.data_item ++ vs)
          (nothing_joined (under file key) pairs (λ other at.
          under_other file key other (same_key pair.key other.key key (apart.0 other at) own))) ∙ append-nil
          (data_of file pair.data_item))
      | false ↦ λ other.
          ap (λ vs. vs ++ flat_map (under file key) pairs) (under_other file key pair other) ∙ first_under image key pairs
          (λ one at. plain one (later_member pair pairs one at)) apart.1
    ] refl

-- what is listed under a key is what the pair has that was found in the key's bucket
pub list_found : (image : List ℕ) (meta : HashMeta) (key : List ℕ) (b : ℕ) (found : Option Told) → IsTable image
    → HasMetadata (file_of image) (HashFields meta)
    → database_faults (file_of image) (HashFields meta) ≡ [] → b ≡ bucket_of_key meta key → b ≤ meta.max_bucket
    → found ≡ find (has_key key) (bucket_told image meta b)
    → told_data found ≡ get (hash_list (file_of image) meta) (BytesKey key)
unfolding table_pairs
list_found image meta key b found table has none is few same =
    let file : File = file_of image in
    let listed : Contains (buckets_of meta) b = in_range 0 (meta.max_bucket + 1) b (omega arith) (omega arith) in
    let others : (c : ℕ) → Contains (buckets_of meta) c → (c ≡ b → ⊥) → flat_map (under file key) (bucket_pairs file meta c) ≡ [] =
    λ c at_c apart. nothing_joined (under file key) (bucket_pairs file meta c) (λ pair at. under_other file key pair
    (false_from_ne_true (bytes_eq pair.key key) (λ own.
    apart (sym (own_bucket image meta c pair table has none at_c at) ∙ (ap (bucket_of_key meta) (eq_same pair.key key own) ∙ sym is))))) in
    sym
    (list_under file meta key
    ∙ (flat_map_twice (under file key) (bucket_pairs file meta) (buckets_of meta)
    ∙ (one_of_range (λ c. flat_map (under file key) (bucket_pairs file meta c)) 0 (meta.max_bucket + 1) b listed others
    ∙ (first_under image key (bucket_pairs file meta b) (λ pair at. bucket_plain image meta b pair table has few at)
    (bucket_apart image meta b table has none listed)
    ∙ (ap (λ ts. told_data (find (has_key key) ts)) (sym (bucket_is image meta b)) ∙ ap told_data (sym same))))))
