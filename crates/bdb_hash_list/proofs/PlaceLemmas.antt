-- The pairs of a table stand at places, and these in the order of their keys are the pairs in the order of theirs.
use Rattle.std.proofs.Common.{◌≡◌, ℕ, ◌+◌, ◌*◌, ◌<◌, Bool, true, cond, List, [], ◌∷◌, ◌++◌, map, length, get_or, min, length-append, arith, refl, sym, ◌∙◌, ap}
use Rattle.std.proofs.Common.{Bor, subst, append_assoc, inl, inr, is_lt}
use Rattle.std.specs.Cmp.{IsStrictWeakOrder, nat_cmp_total, on_total, then_total}
use Rattle.std.specs.Cmp.Lexicographic.{nat_list_cmp_total}
use Rattle.std.specs.Fn.{Called, ComparesAs, Mut}
use Rattle.std.specs.declared.cmp.Ordering.{Ordering}
use Rattle.std.specs.List.{Contains, flat_map, range_with_len}
use Rattle.std.specs.List.Sorted.{IsPermutation, IsSorted, IsSortedBy}
use Rattle.std.proofs.lemmas.List.{append-nil, get_or-map, length-map}
use Rattle.std.proofs.lemmas.Fn.{always_returns_same}
use Rattle.std.proofs.lemmas.List.Elements.{Contains-get_or}
use Rattle.std.proofs.lemmas.List.Sorted.{Contains-permutation, IsPermutation-map, IsPermutation-sym, ranks_by}
use Rattle.bdb_buckets.specs.of_format.declared.metadata.HashMeta.{HashMeta}
use Rattle.bdb_buckets.specs.of_format.Terms.{File, Hash, HashFields, Page, StoredPair, bucket_pages, file_of, item_at, page_at, table_pairs, value_of}
use Rattle.bdb_buckets.proofs.of_format.MemberLemmas.{later_member, member_cases, no_member}
use Rattle.bdb_buckets.specs.of_image.Linked.{HasMetadata}
use Rattle.bdb_buckets.proofs.of_overflow.PrefixLemmas.{prefix_order}
use Rattle.bdb_buckets.specs.declared.place.PairPlace.{PairPlace}
use Rattle.bdb_buckets.specs.Places.{Adds, AreAt, ArePlaces, IsAt, IsCollected, has_pair, key_at, key_in, pair_on, place_cmp, place_less, told_at}
use Rattle.bdb_hash_list.specs.Scanned.{KeysDiffer, ranked}
use Rattle.bdb_buckets.specs.Told.{Told, bucket_told, joined_pages, page_told, table_told, told, told_cmp}
use Rattle.bdb_buckets.specs.Views.{IsTable}
use Rattle.bdb_buckets.proofs.TableLemmas.{table_is_told, told_more}
use Rattle.bdb_buckets.proofs.PlaceKeyLemmas.{on_page}
use Rattle.bdb_hash_list.proofs.ScanLemmas.{sorted_ranked}

-- Places of a file.

pub places_rest : (image : List ℕ) (place : PairPlace) (places rest : List PairPlace) → ArePlaces image places → places ≡ place ∷ rest → ArePlaces image rest
places_rest image place places rest are is =
    record { table = are.table; each = λ other at. are.each other (subst (λ ps. Contains ps other) (sym is) (later_member place rest other at)) }

-- Places are collected.

pub none_added : (places : List PairPlace) → Adds places places []
none_added places = record { after = λ before at. subst (AreAt places) (sym (append-nil before)) at }

pub more_added : (a b c : List PairPlace) (xs ys : List Told) → Adds a b xs → Adds b c ys → Adds a c (xs ++ ys)
more_added a b c xs ys first second =
    record { after = λ before at. subst (AreAt c) (append_assoc before xs ys) (second.after (before ++ xs) (first.after before at)) }

at_end : (places : List PairPlace) (place : PairPlace) (ts : List Told) (t : Told) → AreAt places ts → IsAt place t
    → AreAt (places ++ place ∷ []) (ts ++ t ∷ [])
at_end [] place [] t all one = (one, tt)
at_end [] place (u ∷ ts) t all one = absurd all
at_end (other ∷ places) place [] t all one = absurd all
at_end (other ∷ places) place (u ∷ ts) t all one = (all.0, at_end places place ts t all.1 one)

one_added : (places new : List PairPlace) (place : PairPlace) (t : Told) → IsAt place t → new ≡ places ++ place ∷ [] → Adds places new (t ∷ [])
one_added places new place t is more =
    record { after = λ before at. subst (λ ps. AreAt ps (before ++ t ∷ [])) (sym more) (at_end places place before t at is) }

pub none_collected : (places : List PairPlace) (all : List Told) → IsCollected places places all all
none_collected places all = record { done = []; whole = refl; adds = none_added places }

pub more_collected : (old now new : List PairPlace) (all left here rest : List Told) → IsCollected old now all left
    → left ≡ here ++ rest → Adds now new here
    → IsCollected old new all rest
more_collected old now new all left here rest collected is adds = record {
  done = collected.done ++ here;
  whole = collected.whole ∙ (ap (λ ts. collected.done ++ ts) is ∙ sym (append_assoc collected.done here rest));
  adds = more_added old now new collected.done here collected.adds adds;
}

pub one_collected : (old now new : List PairPlace) (place : PairPlace) (all left rest : List Told) (t : Told) → IsCollected old now all left → left ≡ t ∷ rest
    → IsAt place t
    → new ≡ now ++ place ∷ [] → IsCollected old new all rest
one_collected old now new place all left rest t collected is at more =
    more_collected old now new all left (t ∷ []) rest collected is (one_added now new place t at more)

pub all_collected : (old now : List PairPlace) (all left : List Told) → IsCollected old now all left → left ≡ [] → Adds old now all
all_collected old now all left collected none =
    subst (Adds old now) (sym (collected.whole ∙ (ap (λ ts. collected.done ++ ts) none ∙ append-nil collected.done))) collected.adds

-- the places of one more bucket
pub bucket_added : (image : List ℕ) (meta : HashMeta) (b : ℕ) (old new : List PairPlace) (pages : List (List Told))
    → AreAt old (flat_map (bucket_told image meta) (range_with_len 0 b))
    → pages ≡ map (page_told image) (bucket_pages (file_of image) meta b) → Adds old new (joined_pages pages)
    → AreAt new (flat_map (bucket_told image meta) (range_with_len 0 (b + 1)))
bucket_added image meta b old new pages at are adds = grind (arith, told_more)

-- Pairs are counted.

-- one more page counted
pub page_counted : (count more here whole most : ℕ) (page : List Told) (rest : List (List Told)) → more ≡ min (count + here) most → here ≡ length page
    → min (count + length (joined_pages (page ∷ rest))) most ≡ whole → min (more + length (joined_pages rest)) most ≡ whole
page_counted count more here whole most page rest is are before =
    omega (arith, is, are, before, length-append page (joined_pages rest))

-- one more bucket counted
pub bucket_counted : (image : List ℕ) (meta : HashMeta) (b count more most : ℕ) (pages : List (List Told))
    → count ≡ min (length (flat_map (bucket_told image meta) (range_with_len 0 b))) most
    → pages ≡ map (page_told image) (bucket_pages (file_of image) meta b) → more ≡ min (count + length (joined_pages pages)) most
    → more ≡ min (length (flat_map (bucket_told image meta) (range_with_len 0 (b + 1)))) most
bucket_counted image meta b count more most pages before are is = grind (arith, told_more, length-append)

-- Places of pairs of one file.

told_all : (image : List ℕ) (pairs : List StoredPair) (places : List PairPlace) → AreAt places (map (told image) pairs)
    → map (told_at image) places ≡ map (told image) pairs
told_all image [] [] at = refl
told_all image [] (place ∷ places) at = absurd at
told_all image (pair ∷ pairs) [] at = absurd at
told_all image (pair ∷ pairs) (place ∷ places) at =
    ap (λ (t : Told). t ∷ map (told_at image) places) (sym at.0.stands.is) ∙ ap (λ ts. told image pair ∷ ts) (told_all image pairs places at.1)

told_each : (image : List ℕ) (pairs : List StoredPair) (places : List PairPlace) → AreAt places (map (told image) pairs) → (place : PairPlace)
    → Contains places place → IsAt place (told_at image place)
told_each image [] [] at place in' = absurd (no_member [] place refl in')
told_each image [] (one ∷ places) at place in' = absurd at
told_each image (pair ∷ pairs) [] at place in' = absurd at
told_each image (pair ∷ pairs) (one ∷ places) at place in' =
    elim (member_cases one places place in') [
      | inl same ↦ subst (λ (p : PairPlace). IsAt p (told_at image p)) same (subst (IsAt one) at.0.stands.is at.0)
      | inr later ↦ told_each image pairs places at.1 place later
    ]

-- Their order.

key_is : (file : File) (p i : ℕ) (page : Page) → has_pair page i ≡ true → key_in file page i ≡ (pair_on file p page i).key
key_is file p i (Hash page) there = ap (λ b. cond b (value_of file (item_at page (2 * i)).content) []) there
key_is file p i page there = absurd cc

-- the key at a place is that of its pair
key_told : (image : List ℕ) (place : PairPlace) → IsAt place (told_at image place) → key_at image place ≡ (told_at image place).pair.key
key_told image place is =
    on_page image place is.stands.inside ∙ key_is (file_of image) place.page place.index (page_at (file_of image) place.page) is.stands.there

-- places have the order of their pairs
cmp_told : (image : List ℕ) (a b : PairPlace) → IsAt a (told_at image a) → IsAt b (told_at image b)
    → place_cmp image a b ≡ told_cmp (told_at image a) (told_at image b)
cmp_told image a b is_a is_b =
    rw (key_told image a is_a, key_told image b is_b, is_a.first, is_b.first)
    (prefix_order 8 (told_at image a).pair.key (told_at image b).pair.key is_a.bytes is_b.bytes)

places_rank : (image : List ℕ) → IsStrictWeakOrder (place_less image)
places_rank image =
    ranks_by (then_total (on_total (λ (place : PairPlace). place.first) nat_cmp_total) (on_total (key_at image) nat_list_cmp_total)) (λ place. place)

-- a sort by a closure that answers by the order of places
pub sorted_by : (image : List ℕ) {F : Type 0} {g : Mut F (Bor PairPlace × (Bor PairPlace × Unit {0})) Ordering} {f : F} (places : List PairPlace)
    → ((lt : PairPlace → PairPlace → Bool) → IsStrictWeakOrder lt → ComparesAs g lt f → IsSortedBy lt places)
    → ((a : Bor PairPlace × (Bor PairPlace × Unit {0})) (r : Ordering) (f' : F) → Called g f a r f' → (r ≡ place_cmp image a.0.now a.1.0.now) × (f' ≡ f))
    → IsSortedBy (place_less image) places
sorted_by image {g = g} {f = f} places up answers =
    up (place_less image) (places_rank image)
    (always_returns_same g (λ a r. is_lt r ≡ place_less image a.0.now a.1.0.now) f
    (λ a r f' called. (ap is_lt (answers a r f' called).0, (answers a r f' called).1)))

no_place : PairPlace
no_place = record { first = 0; page = 0; index = 0 }

sorted_told : (image : List ℕ) (places : List PairPlace) → ArePlaces image places → IsSortedBy (place_less image) places
    → IsSorted told_cmp (map (told_at image) places)
sorted_told image places are sorted = λ k d low high.
    let few : k + 1 < length places = omega (arith, high, length-map places (told_at image)) in
    let here : PairPlace = get_or places k no_place in
    let next : PairPlace = get_or places (k + 1) no_place in
    let order = cmp_told image next here (are.each next (Contains-get_or places (k + 1) no_place few))
    (are.each here (Contains-get_or places k no_place (omega arith))) in
    ap (λ (t : Told). is_lt (told_cmp t (get_or (map (told_at image) places) k d))) (get_or-map (told_at image) places (k + 1) no_place d few)
    ∙ (ap (λ (t : Told). is_lt (told_cmp (told_at image next) t)) (get_or-map (told_at image) places k no_place d (omega arith))
    ∙ (ap is_lt (sym order) ∙ sorted k no_place low few))

-- the places of the pairs of a table in the order of its list
pub record AreRanked (image : List ℕ) (meta : HashMeta) (forest : List ℕ) (places : List PairPlace) : Type 0 where
  pub are : ArePlaces forest places
  pub told : map (told_at forest) places ≡ ranked image meta

pub sorted_places : (image : List ℕ) (meta : HashMeta) (forest : List ℕ) (old new : List PairPlace) → forest ≡ image → IsTable image
    → HasMetadata (file_of image) (HashFields meta)
    → KeysDiffer (file_of image) meta → AreAt old (table_told image meta) → IsPermutation old new
    → IsSortedBy (place_less forest) new
    → AreRanked image meta forest new
sorted_places image meta forest old new same table has differ at moved sorted =
    let pairs : List StoredPair = table_pairs (file_of image) meta in
    let own : AreAt old (map (told image) pairs) = subst (AreAt old) (table_is_told image meta) at in
    let are : ArePlaces image new =
    record {
      table = table;
      each = λ place in'. told_each image pairs old own place (Contains-permutation new old place (IsPermutation-sym old new moved) in');
    } in
    let told' = sorted_ranked image meta (map (told_at image) old) (map (told_at image) new) table has differ
    (told_all image pairs old own ∙ sym (table_is_told image meta))
    (IsPermutation-map (told_at image) old new moved) (sorted_told image new are (subst (λ f. IsSortedBy (place_less f) new) same sorted)) in
    subst (λ f. AreRanked image meta f new) (sym same) (record { are = are; told = told' })
