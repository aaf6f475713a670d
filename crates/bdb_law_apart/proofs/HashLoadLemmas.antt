-- What is given of a hash is loaded into its list.
use Rattle.std.proofs.Common.{◌≡◌, ◌⊎◌, ℕ, ◌+◌, ◌<◌, ◌≤◌, Bool, true, false, cond, List, [], ◌∷◌, map, arith, refl, sym, ◌∙◌, ap, subst, inl, inr}
use Rattle.std.proofs.Common.{true≢false}
use Rattle.std.specs.Prelude.{Some}
use Rattle.std.specs.List.{Contains, filter, flat_map, list_any, range_with_len}
use Rattle.std.specs.Str.{bytes_eq}
use Rattle.std.proofs.lemmas.Bool.{and_from, and_parts, cases_lt, eq-eqb}
use Rattle.std.proofs.lemmas.Option.{same_Some}
use Rattle.bdb_apart.specs.of_format.declared.metadata.HashMeta.{HashMeta}
use Rattle.bdb_apart.specs.of_format.declared.settings.Settings.{Settings}
use Rattle.bdb_apart.specs.of_format.Flags.{has_records}
use Rattle.bdb_apart.specs.of_format.Terms.{BtreeFields, BytesKey, File, Hash, HashFields, Item, Leaf, Listed, Meta, Page, StoredPair, bucket_pages, by_key}
use Rattle.bdb_apart.specs.of_format.Terms.{file_of, hash_list, hash_settings, head_of, insert_pair, less, listed_pair, page_at, pairs_in, pairs_of}
use Rattle.bdb_apart.specs.of_format.Terms.{table_pairs}
use Rattle.bdb_apart.proofs.of_homes.Homes.{home}
use Rattle.bdb_apart.proofs.of_homes.declared.home.Home.{Home}
use Rattle.bdb_apart.specs.of_rescue.Text.{bytes_pair, numbered_record}
use Rattle.bdb_apart.specs.of_survey.Salvage.{stored_on}
use Rattle.bdb_apart.specs.Found.{Found}
use Rattle.bdb_apart.specs.Given.{above, gives_pairs, holds_pairs, in_image, is_pair_page, pairs_given, records_given}
use Rattle.bdb_apart.specs.Rows.{is_some_of}
use Rattle.bdb_apart.specs.Text.{list_given}
use Rattle.bdb_law_homes.proofs.of_format.FileLemmas.{past_last}
use Rattle.bdb_law_homes.proofs.of_format.LessLemmas.{differ_back, eq_same, eq_self, less_self}
use Rattle.bdb_law_homes.proofs.of_format.ListLemmas.{flat_map_same, flat_map_twice, map_joined, passes_here}
use Rattle.bdb_law_homes.proofs.of_format.MemberLemmas.{first_member, in_filter, in_flat_map, in_range, later_member, member_cases, no_member, of_filter}
use Rattle.bdb_law_homes.proofs.of_format.MemberLemmas.{of_flat_map}
use Rattle.bdb_law_homes.proofs.of_format.MemberLemmas.{of_range}
use Rattle.bdb_law_homes.proofs.of_format.RepeatLemmas.{repeated_is}
use Rattle.bdb_law_homes.specs.of_image.Linked.{HasMetadata}
use Rattle.bdb_law_homes.proofs.of_law_sums.HashLemmas.{hash_type}
use Rattle.bdb_law_homes.specs.of_law_whole.Guessed.{guessed}
use Rattle.bdb_law_homes.proofs.of_law_whole.KeptLemmas.{nothing_stored}
use Rattle.bdb_law_homes.specs.Owned.{HasTable, HasTree}
use Rattle.bdb_law_homes.proofs.HavingLemmas.{pair_leaves_have_homes}
use Rattle.bdb_law_homes.proofs.BucketLemmas.{buckets_are_of_tables}
use Rattle.bdb_law_kept.proofs.of_databases.SoundLemmas.{no_contents}
use Rattle.bdb_law_kept.specs.of_text_format.declared.pairs.TextPair.{TextPair}
use Rattle.bdb_law_kept.specs.of_text_format.Terms.{listed}
use Rattle.bdb_law_kept.specs.of_settle.Loaded.{key_less, loaded}
use Rattle.bdb_law_kept.specs.of_text.WrittenLaw.{pair_in}
use Rattle.bdb_law_kept.specs.Kept.{LoadsAlike}
use Rattle.bdb_law_kept.specs.Later.{AllLater}
use Rattle.bdb_law_kept.proofs.ContentsLemmas.{hash_kept, no_repeats}
use Rattle.bdb_law_kept.proofs.KeyedLemmas.{by_key_rises, later_apart, of_by_key, of_listed}
use Rattle.bdb_law_kept.proofs.LaterLemmas.{later_filter, later_flat, later_other, later_range}
use Rattle.bdb_law_kept.proofs.NumberedLemmas.{IsKeptList}
use Rattle.bdb_law_kept.proofs.SettledLemmas.{key_out}
use Rattle.bdb_apart.specs.Read.{read}
use Rattle.bdb_law_apart.proofs.ApartLemmas.{either_way}
use Rattle.bdb_law_apart.proofs.BlockLemmas.{Entry, IsBelow, IsOther}
use Rattle.bdb_law_apart.proofs.BtreeLoadLemmas.{page_gives, pairs_at, some_is}
use Rattle.bdb_law_apart.proofs.EntryLemmas.{with_pairs}
use Rattle.bdb_law_apart.proofs.FoundLemmas.{same_fields}
use Rattle.bdb_law_apart.proofs.LeftLemmas.{HasDatabase, above_only, hash_database}
use Rattle.bdb_law_apart.proofs.PageLoadLemmas.{given_loads, part_ordered}
use Rattle.bdb_law_apart.proofs.RecnoLoadLemmas.{across}
use Rattle.bdb_law_apart.proofs.SeenLemmas.{IsSeen, below_count, inside_file, page_is}

-- The database.

-- a hash that is found
pub record IsHashDb (image : List ℕ) (table : HashMeta) (db : Found) : Type 0 where
  pub is : IsSeen image
  pub page : page_at (file_of image) db.meta ≡ Meta (HashFields table)
  pub inside : db.meta ≤ (file_of image).last
  pub fields : db.fields ≡ HashFields table

metadata : (image : List ℕ) (table : HashMeta) (db : Found) → IsHashDb image table db → HasMetadata (file_of image) (HashFields table)
metadata image table db of = record { page = db.meta; inside = of.inside; is = of.page }

-- the pages that give pairs of it
abbrev pages_of : List ℕ → Found → List ℕ
pages_of image db = filter (gives_pairs (guessed image) db) (range_with_len 0 (guessed image).count)

-- the pages of its buckets
abbrev table_pages : File → HashMeta → List ℕ
table_pages file table = flat_map (bucket_pages file table) (range_with_len 0 (table.max_bucket + 1))

-- Its pages.

pair_views : (page : Page) → is_pair_page page ≡ true → ((view : Listed Item) × (page ≡ Leaf view)) ⊎ ((view : Listed Item) × (page ≡ Hash view))
pair_views (Leaf view) is = inl (view, refl)
pair_views (Hash view) is = inr (view, refl)
pair_views page is = absurd cc

pairs_low : (image : List ℕ) (q : ℕ) (pair : StoredPair) → Contains (pairs_of (file_of image) q) pair → q ≤ (file_of image).last
pairs_low image q pair at = inside_file image is_pair_page q refl (with_pairs (file_of image) q pair at)

-- a page whose home is a table is no leaf
no_leaf : (image : List ℕ) (table : HashMeta) (db : Found) (q : ℕ) (pair : StoredPair) → IsHashDb image table db
    → home (file_of image) q ≡ Some (record { meta = db.meta; start = 0 }) → Contains (pairs_of (file_of image) q) pair
    → ((view : Listed Item) × (page_at (file_of image) q ≡ Leaf view)) ⊎ ((view : Listed Item) × (page_at (file_of image) q ≡ Hash view))
    → (view : Listed Item) × (page_at (file_of image) q ≡ Hash view)
no_leaf image table db q pair of itself at (inr hash) = hash
no_leaf image table db q pair of itself at (inl leaf) =
    let file : File = file_of image in
    let tree : HasTree file q =
    pair_leaves_have_homes image q leaf.0 of.is.sound of.is.levels (pairs_low image q pair at) leaf.1 (λ none. no_member (pairs_of file q) pair none at) in
    let same : tree.of.meta ≡ db.meta = ap (λ (h : Home). h.meta) (same_Some _ _ (sym tree.is ∙ itself)) in
    let both : BtreeFields tree.of.tree ≡ HashFields table =
    same_fields (page_at file tree.of.meta) (BtreeFields tree.of.tree) (HashFields table) tree.of.at (ap (page_at file) same ∙ of.page) in
    absurd cc

-- a page of a bucket with a pair gives it
bucket_gives : (image : List ℕ) (table : HashMeta) (db : Found) (b q : ℕ) (pair : StoredPair) → IsHashDb image table db → b ≤ table.max_bucket
    → Contains (bucket_pages (file_of image) table b) q → Contains (pairs_of (file_of image) q) pair → Contains (pages_of image db) q
bucket_gives image table db b q pair of few among at =
    let file : File = file_of image in
    let g : File = guessed image in
    let low : q ≤ file.last = pairs_low image q pair at in
    let itself : home file q ≡ Some (record { meta = db.meta; start = 0 }) =
    buckets_are_of_tables file db.meta b q table of.is.owned of.page few among in
    let view = no_leaf image table db q pair of itself at (pair_views (page_at file q) (with_pairs file q pair at)) in
    let has : HasDatabase image q (HashFields table) = record {
      meta = db.meta;
      is = itself;
      page = of.page;
      pairs = ap is_pair_page view.1;
    } in
    in_filter (gives_pairs g db) (range_with_len 0 g.count) q (in_range 0 g.count q (omega arith) (omega (arith, below_count image q of.is low)))
    (and_from (is_some_of db.meta (above g q)) (holds_pairs db.fields (page_at g q))
    (ap (is_some_of db.meta) (above_only image q (HashFields table) of.is low has) ∙ eq-eqb db.meta db.meta refl)
    (ap (λ fields. holds_pairs fields (page_at g q)) of.fields ∙ ap (holds_pairs (HashFields table)) (page_is image q of.is low ∙ view.1)))

holds_hash : (table : HashMeta) (page : Page) → holds_pairs (HashFields table) page ≡ true → (view : Listed Item) × (page ≡ Hash view)
holds_hash table (Hash view) is = (view, refl)
holds_hash table page is = absurd cc

-- a page of a bucket of the table
record IsInTable (file : File) (table : HashMeta) (p : ℕ) : Type 0 where
  bucket : ℕ
  few : bucket ≤ table.max_bucket
  among : Contains (bucket_pages file table bucket) p

-- and each that gives a pair is one
given_bucket : (image : List ℕ) (table : HashMeta) (db : Found) (p : ℕ) (pair : StoredPair) → IsHashDb image table db
    → Contains (pages_of image db) p → Contains (pairs_of (file_of image) p) pair → IsInTable (file_of image) table p
given_bucket image table db p pair of among at =
    let file : File = file_of image in
    let g : File = guessed image in
    let low : p ≤ file.last = pairs_low image p pair at in
    let gives = of_filter (gives_pairs g db) (range_with_len 0 g.count) p among in
    let parts = and_parts (is_some_of db.meta (above g p)) (holds_pairs db.fields (page_at g p)) gives.1 in
    let view = holds_hash table (page_at g p) (sym (ap (λ fields. holds_pairs fields (page_at g p)) of.fields) ∙ parts.1) in
    let page : page_at file p ≡ Hash view.0 = sym (page_is image p of.is low) ∙ view.1 in
    let given = hash_database image p of.is low (hash_type image p view.0 of.is.sound.forest low page) (ap is_pair_page page)
    (λ none. no_member (pairs_of file p) pair none at) in
    let one : HasTable file p = given.0 in
    let same : given.1.meta ≡ db.meta =
    some_is db.meta (above g p) given.1.meta parts.0 (above_only image p (HashFields one.of.table) of.is low given.1) in
    let fields : HashFields one.of.table ≡ HashFields table =
    same_fields (page_at file given.1.meta) (HashFields one.of.table) (HashFields table) given.1.page (ap (page_at file) same ∙ of.page) in
    let table_same : one.of.table ≡ table = cc in
    subst (λ (t : HashMeta). IsInTable file t p) table_same (record { bucket = one.of.bucket; few = one.of.within; among = one.of.page })

in_pages : (file : File) (table : HashMeta) (p : ℕ) → IsInTable file table p → Contains (table_pages file table) p
in_pages file table p in_it =
    in_flat_map (bucket_pages file table) (range_with_len 0 (table.max_bucket + 1)) in_it.bucket p
    (in_range 0 (table.max_bucket + 1) in_it.bucket (omega arith) (omega (arith, in_it.few))) in_it.among

pairs_are : (file : File) (table : HashMeta) → table_pairs file table ≡ flat_map (pairs_of file) (table_pages file table)
unfolding table_pairs
pairs_are file table = sym (flat_map_twice (pairs_of file) (bucket_pages file table) (range_with_len 0 (table.max_bucket + 1)))

-- The list.

no_pairs_past : (image : List ℕ) (p : ℕ) → (file_of image).last < p → pairs_of (file_of image) p ≡ []
unfolding pairs_of
no_pairs_past image p past = ap (pairs_in (file_of image) p) (past_last image p past)

any_page : (image : List ℕ) (p : ℕ) → IsSeen image → pairs_at image p ≡ flat_map (listed_pair (file_of image)) (pairs_of (file_of image) p)
any_page image p is = elim (cases_lt (file_of image).last p) [
  | inl past ↦
      ap (map bytes_pair) (nothing_stored image p is.whole past)
      ∙ sym (ap (flat_map (listed_pair (file_of image))) (no_pairs_past image p past))
  | inr low ↦ page_gives image p is low
]

given_is : (image : List ℕ) (table : HashMeta) (db : Found) → IsHashDb image table db
    → list_given (in_image (read image) db) ≡ flat_map (listed_pair (file_of image)) (flat_map (pairs_of (file_of image)) (pages_of image db))
unfolding pairs_given
given_is image table db of =
    let file : File = file_of image in
    ap
    (λ b. cond b (map numbered_record (records_given (in_image (read image) db))) (map bytes_pair (pairs_given (in_image (read image) db))))
    (ap has_records of.fields)
    ∙ (map_joined bytes_pair (stored_on (guessed image)) (pages_of image db)
    ∙ (flat_map_same (pairs_at image) (λ p. flat_map (listed_pair file) (pairs_of file p)) (pages_of image db) (λ p at. any_page image p of.is)
    ∙ sym (flat_map_twice (listed_pair file) (pairs_of file) (pages_of image db))))

-- Keys.

abbrev Apart : StoredPair → StoredPair → Type 0
Apart a b = bytes_eq a.key b.key ≡ false

all_apart : (image : List ℕ) (table : HashMeta) (db : Found) → IsHashDb image table db
    → AllLater Apart (flat_map (pairs_of (file_of image)) (table_pages (file_of image) table))
all_apart image table db of =
    let file : File = file_of image in
    let has : HasMetadata file (HashFields table) = metadata image table db of in
    subst (AllLater Apart) (pairs_are file table)
    (later_apart [] (table_pairs file table)
    (sym (repeated_is (table_pairs file table))
    ∙ no_repeats image table of.is.sound.forest of.is.sound.structure has (no_contents image (HashFields table) of.is.is.sound has)))

given_apart : (image : List ℕ) (table : HashMeta) (db : Found) → IsHashDb image table db
    → AllLater Apart (flat_map (pairs_of (file_of image)) (pages_of image db))
given_apart image table db of =
    later_flat Apart (pairs_of file) (pages_of image db) (λ p at. on_page p at (pairs_of file p) refl)
    (later_other (λ (p q : ℕ). p < q) (λ p q. (a b : StoredPair) → Contains (pairs_of file p) a → Contains (pairs_of file q) b → Apart a b) (pages_of image db)
    (λ p q at_p at_q less a b at_a at_b. of_two p q at_p at_q less a b at_a at_b)
    (later_filter (λ (p q : ℕ). p < q) (gives_pairs (guessed image) db) (range_with_len 0 (guessed image).count) (later_range 0 (guessed image).count)))
  where
    file : File
    file = file_of image

    on_page : (p : ℕ) → Contains (pages_of image db) p → (pairs : List StoredPair) → pairs_of file p ≡ pairs → AllLater Apart pairs
    on_page p at [] is = tt
    on_page p at (pair ∷ pairs) is =
        let there : Contains (pairs_of file p) pair = subst (λ l. Contains l pair) (sym is) (first_member pair pairs) in
        subst (AllLater Apart) is
        (part_ordered Apart (pairs_of file) (table_pages file table) p (all_apart image table db of)
        (in_pages file table p (given_bucket image table db p pair of at there)))

    of_two : (p q : ℕ) → Contains (pages_of image db) p → Contains (pages_of image db) q → p < q → (a b : StoredPair)
        → Contains (pairs_of file p) a → Contains (pairs_of file q) b → Apart a b
    of_two p q at_p at_q less a b at_a at_b =
        elim (either_way (λ p q. (a b : StoredPair) → Contains (pairs_of file p) a → Contains (pairs_of file q) b → Apart a b) (table_pages file table) p q
        (across Apart (pairs_of file) (table_pages file table) (all_apart image table db of))
        (in_pages file table p (given_bucket image table db p a of at_p at_a))
        (in_pages file table q (given_bucket image table db q b of at_q at_b)) (λ same. omega (arith, less, same))) [
          | inl so ↦ so a b at_a at_b
          | inr so ↦ differ_back b.key a.key (so b a at_b at_a)
        ]

in_insert : (pair : StoredPair) (pairs : List StoredPair) (one : StoredPair) → (pair ≡ one) ⊎ Contains pairs one → Contains (insert_pair pair pairs) one
in_insert pair [] one (inl same) = subst (Contains (pair ∷ [])) same (first_member pair [])
in_insert pair [] one (inr at) = absurd (no_member [] one refl at)
in_insert pair (other ∷ others) one which = by_order (less other.key pair.key) (in_insert pair others one)
  where
    by_order : (b : Bool) → ((pair ≡ one) ⊎ Contains others one → Contains (insert_pair pair others) one)
        → Contains (cond b (other ∷ insert_pair pair others) (pair ∷ other ∷ others)) one
    by_order true rest = moved which
      where
        moved : (pair ≡ one) ⊎ Contains (other ∷ others) one → Contains (other ∷ insert_pair pair others) one
        moved (inl same) = later_member other (insert_pair pair others) one (rest (inl same))
        moved (inr at) = elim (member_cases other others one at) [
          | inl same ↦ subst (Contains (other ∷ insert_pair pair others)) same (first_member other (insert_pair pair others))
          | inr later ↦ later_member other (insert_pair pair others) one (rest (inr later))
        ]
    by_order false rest = put which
      where
        put : (pair ≡ one) ⊎ Contains (other ∷ others) one → Contains (pair ∷ other ∷ others) one
        put (inl same) = subst (Contains (pair ∷ other ∷ others)) same (first_member pair (other ∷ others))
        put (inr at) = later_member pair (other ∷ others) one at

in_by_key : (pairs : List StoredPair) (one : StoredPair) → Contains pairs one → Contains (by_key pairs) one
in_by_key [] one at = absurd (no_member [] one refl at)
in_by_key (pair ∷ pairs) one at = elim (member_cases pair pairs one at) [
  | inl same ↦ in_insert pair (by_key pairs) one (inl same)
  | inr later ↦ in_insert pair (by_key pairs) one (inr (in_by_key pairs one later))
]

-- Loading.

keys_below : (file : File) (a b : StoredPair) → less a.key b.key ≡ true → IsBelow (listed_pair file) a b
keys_below file a b low x y at_x at_y =
    let one = of_listed file a x at_x in
    let two = of_listed file b y at_y in
    ap (λ (e : Entry). key_less (key_out e.0) (key_out y.0)) (sym one.2)
    ∙ (ap (λ (e : Entry). key_less (key_out (BytesKey a.key)) (key_out e.0)) (sym two.2) ∙ low)

keys_other : (a b : StoredPair) → less a.key b.key ≡ true → IsOther (λ (x y : StoredPair). bytes_eq x.key y.key) a b
keys_other a b low = (by_test (bytes_eq a.key b.key) refl, differ_back a.key b.key (by_test (bytes_eq a.key b.key) refl))
  where
    by_test : (c : Bool) → bytes_eq a.key b.key ≡ c → c ≡ false
    by_test false is = refl
    by_test true is =
        let same : a.key ≡ b.key = eq_same a.key b.key is in
        absurd (true≢false (sym low ∙ (sym (ap (less a.key) same) ∙ less_self a.key)))

pub hash_loads : (image : List ℕ) (table : HashMeta) (db : Found) (settings : Settings) (pairs : List TextPair) → IsHashDb image table db
    → map pair_in pairs ≡ list_given (in_image (read image) db)
    → LoadsAlike settings (hash_settings (head_of image).page_size (head_of image).order table)
    → listed (loaded settings pairs) ≡ hash_list (file_of image) table
unfolding hash_list
hash_loads image table db settings pairs of are alike =
    given_loads settings others (λ (x y : StoredPair). bytes_eq x.key y.key) (listed_pair file) (by_key all) given pairs
    (are ∙ given_is image table db of) alike kept
    (λ pair at. let page = of_flat_map (pairs_of file) (pages_of image db) pair at in
    in_by_key all pair
    (subst (λ l. Contains l pair) (sym (pairs_are file table))
    (in_flat_map (pairs_of file) (table_pages file table) page.0 pair
    (in_pages file table page.0 (given_bucket image table db page.0 pair of page.1 page.2)) page.2)))
    (λ pair at none. absurd (true≢false (sym (there pair (of_by_key all pair at)) ∙ none)))
    (given_apart image table db of) (later_other (λ (a b : StoredPair). less a.key b.key ≡ true) (IsBelow (listed_pair file)) (by_key all)
    (λ a b at_a at_b low. keys_below file a b low) rise)
    (later_other (λ (a b : StoredPair). less a.key b.key ≡ true) (IsOther (λ (x y : StoredPair). bytes_eq x.key y.key)) (by_key all)
    (λ a b at_a at_b low. keys_other a b low) rise)
    (λ (pair : StoredPair). eq_self pair.key)
  where
    file : File
    file = file_of image

    all : List StoredPair
    all = table_pairs file table

    given : List StoredPair
    given = flat_map (pairs_of file) (pages_of image db)

    others : Settings
    others = hash_settings (head_of image).page_size (head_of image).order table

    has : HasMetadata file (HashFields table)
    has = metadata image table db of

    rise : AllLater (λ (a b : StoredPair). less a.key b.key ≡ true) (by_key all)
    rise = by_key_rises all (subst (AllLater Apart) (sym (pairs_are file table)) (all_apart image table db of))

    kept : IsKeptList others (flat_map (listed_pair file) (by_key all))
    kept =
        hash_kept image table (head_of image).page_size (head_of image).order of.is.sound.forest of.is.sound.structure has
        (no_contents image (HashFields table) of.is.is.sound has)

    there : (pair : StoredPair) → Contains all pair → list_any (λ (b : StoredPair). bytes_eq b.key pair.key) given ≡ true
    there pair at =
        let page = of_flat_map (pairs_of file) (table_pages file table) pair (subst (λ l. Contains l pair) (pairs_are file table) at) in
        let bucket = of_flat_map (bucket_pages file table) (range_with_len 0 (table.max_bucket + 1)) page.0 page.1 in
        let within = of_range 0 (table.max_bucket + 1) bucket.0 bucket.1 in
        passes_here (λ (b : StoredPair). bytes_eq b.key pair.key) given pair
        (in_flat_map (pairs_of file) (pages_of image db) page.0 pair
        (bucket_gives image table db bucket.0 page.0 pair of (omega (arith, within.1)) bucket.2 page.2) page.2)
        (eq_self pair.key)
