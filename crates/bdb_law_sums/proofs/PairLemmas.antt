-- What the pairs of all pages give, the lists of the databases have.
use Rattle.std.proofs.Common.{◌≡◌, ℕ, ◌+◌, ◌/◌, ◌≤◌, Bool, true, false, cond, List, [], ◌∷◌, ◌++◌, map, length, arith, refl, sym, ◌∙◌, ap, subst, true≢false}
use Rattle.std.proofs.Common.{◌==◌, ◌&&◌, Option, Some, None}
use Rattle.std.specs.List.{enumerate_from, flat_map, range_with_len, sum_by}
use Rattle.std.proofs.lemmas.Bool.{and_parts, eqb-true}
use Rattle.std.proofs.lemmas.List.Sums.{sum_by-append, sum_by-cons}
use Rattle.bdb_tree.specs.of_format.declared.kinds.Order.{Order}
use Rattle.bdb_tree.specs.of_format.declared.metadata.HashMeta.{HashMeta}
use Rattle.bdb_tree.specs.of_format.Terms.{BtreeFields, BytesKey, Database, File, Hash, HashFields, Item, Leaf, ListKey, Listed, Metadata, NumberKey, Page}
use Rattle.bdb_tree.specs.of_format.Terms.{QueueFields, StoredPair, Zero, abstract_page, btree_list, bucket_pages, bucket_pairs, by_key, byte_at, data_of}
use Rattle.bdb_tree.specs.of_format.Terms.{databases, fields_of, file_of, has_type, hash_item_at, hash_list, head_of, is_recno, is_spare, is_zero, leaves}
use Rattle.bdb_tree.specs.of_format.Terms.{list_of, listed, listed_entry, listed_pair, master_in, page_as, page_at, page_bytes, page_type, pair_at, pairs_in}
use Rattle.bdb_tree.specs.of_format.Terms.{pairs_of, recno_list, table_pairs, tree_entries, tree_pairs, type_in, value_of}
use Rattle.bdb_tree.specs.of_format.declared.pages.PageType.{PageType}
use Rattle.bdb_tree.specs.of_format.declared.pages.PageType.TheVariants.{Hash as HashPage}
use Rattle.bdb_tree.proofs.of_format.MemberLemmas.{of_range}
use Rattle.bdb_tree.proofs.of_format.PageLemmas.{length_items}
use Rattle.bdb_tree.proofs.of_format.TypeLemmas.{of_type}
use Rattle.bdb_tree.proofs.of_format.FileLemmas.{last_page, page_is}
use Rattle.bdb_tree.specs.of_image.Linked.{HasMetadata, IsForest}
use Rattle.bdb_tree.proofs.of_graph.ReadLemmas.{master_keys}
use Rattle.bdb_law_sums.specs.Databases.{IsSoundForest, PairsAreOfDatabases, all_lists, buckets_below, by_bytes, given_on, given_pair, leaves_below}
use Rattle.bdb_law_sums.specs.Databases.{master_fields, master_list, named_fields}
use Rattle.bdb_law_sums.specs.HashSums.{is_hash_page}
use Rattle.bdb_law_sums.specs.TreeSums.{leaf_weight}
use Rattle.bdb_law_sums.proofs.CountLemmas.{sum_none, sum_parts, sum_plus, sum_same}
use Rattle.bdb_law_sums.proofs.DatabaseLemmas.{fields_same, hash_pages_are_of_tables, leaves_are_of_databases}
use Rattle.bdb_law_sums.proofs.HashLemmas.{hash_type}
use Rattle.bdb_law_sums.proofs.LeafLemmas.{no_pairs_in_recno, no_pairs_in_set}
use Rattle.bdb_law_sums.proofs.ListLemmas.{by_key_sum}
use Rattle.bdb_law_sums.proofs.MetaLemmas.{metadata_are_databases}
use Rattle.bdb_law_sums.proofs.NameLemmas.{sum_map}
use Rattle.bdb_law_sums.proofs.ReadLemmas.{no_queue_meta}

-- Pages with pairs.

-- what the pairs of a page weigh
abbrev pairs_weight : File → (StoredPair → ℕ) → ℕ → ℕ
pairs_weight file weight p = sum_by weight (pairs_of file p)

-- a number that weighs where one of two tests holds, and never where both do
in_parts : (a b : Bool) (n : ℕ) → (a ≡ false → b ≡ false → n ≡ 0) → (b ≡ true → a ≡ true → ⊥) → n ≡ cond a n 0 + cond b n 0
in_parts true true n neither both = absurd (both refl refl)
in_parts true false n neither both = omega arith
in_parts false true n neither both = omega arith
in_parts false false n neither both = neither refl refl

neither : (file : File) (p : ℕ) (page : Page) → ((listed : Listed Item) → page ≡ Hash listed → has_type (2 ∷ 13 ∷ []) (type_in page) ≡ true)
    → has_type (5 ∷ 6 ∷ 12 ∷ []) (type_in page) ≡ false → has_type (2 ∷ 13 ∷ []) (type_in page) ≡ false → pairs_in file p page ≡ []
neither file p (Leaf page) hash leaf other = absurd cc
neither file p (Hash page) hash leaf other = absurd (true≢false (sym (hash page refl) ∙ other))
neither file p page hash leaf other = refl

never_both : (type : Option ℕ) → has_type (2 ∷ 13 ∷ []) type ≡ true → has_type (5 ∷ 6 ∷ 12 ∷ []) type ≡ true → ⊥
never_both type hash leaf =
    true≢false (sym leaf ∙ of_type (λ t. has_type (5 ∷ 6 ∷ 12 ∷ []) t ≡ false) (2 ∷ 13 ∷ []) type (refl, (refl, tt)) hash)

-- the pairs of a page are those of a leaf or those of a hash page
page_parts : (image : List ℕ) (weight : StoredPair → ℕ) (p : ℕ) → IsForest image → p ≤ (file_of image).last
    → pairs_weight (file_of image) weight p
    ≡ leaf_weight (file_of image) (pairs_weight (file_of image) weight) p + cond (is_hash_page (file_of image) p)
    (pairs_weight (file_of image) weight p) 0
unfolding pairs_of
page_parts image weight p forest low =
    let file : File = file_of image in
    let page : Page = page_at file p in
    in_parts (has_type (5 ∷ 6 ∷ 12 ∷ []) (type_in page)) (is_hash_page file p) (sum_by weight (pairs_in file p page))
    (λ leaf other. ap (sum_by weight) (neither file p page (λ listed is. hash_type image p listed forest low is) leaf other))
    (never_both (type_in page))

-- Pages in reserve have no pairs.

entries_as : (order : Order) (page : List ℕ) (t : PageType) (is : Listed Item) → page_as order page t ≡ Hash is → length is.items ≡ is.header.entries
unfolding listed
entries_as order page HashPage is same =
    let inner : listed order page (hash_item_at order page) ≡ is = cc same in
    subst (λ (l : Listed Item). length l.items ≡ l.header.entries) inner (length_items order page (hash_item_at order page))
entries_as order page t is same = absurd cc

entries_in_bytes : (order : Order) (page : List ℕ) (is : Listed Item) → abstract_page order page ≡ Hash is → length is.items ≡ is.header.entries
unfolding abstract_page
entries_in_bytes order page is same =
    elim (is_zero page) as (λ zeros. ◌≡◌ {A = Page} (elim zeros [ true ↦ Zero | false ↦ page_as order page (page_type (byte_at page 25)) ]) (Hash is)
    → length is.items ≡ is.header.entries) [
      | true ↦ λ none. absurd cc
      | false ↦ λ some. entries_as order page (page_type (byte_at page 25)) is some
    ] same

-- a hash page has as many items as its header counts
entries_are : (image : List ℕ) (p : ℕ) (is : Listed Item) → p ≤ (file_of image).last → page_at (file_of image) p ≡ Hash is → length is.items
    ≡ is.header.entries
entries_are image p is low same =
    entries_in_bytes (head_of image).order (page_bytes (head_of image) image p) is (sym (page_is image p (omega (arith, low, last_page image)))
    ∙ same)

no_spare_pairs : (file : File) (p : ℕ) (page : Page) → ((listed : Listed Item) → page ≡ Hash listed → length listed.items ≡ listed.header.entries)
    → is_spare page ≡ true → pairs_in file p page ≡ []
no_spare_pairs file p (Hash page) entries spare =
    let empty : (page.header.entries == 0) ≡ true =
    (and_parts (page.header.entries == 0) (page.header.previous == 0)
    (and_parts (page.header.entries == 0 && page.header.previous == 0) (page.header.next == 0) spare).0).0 in
    let none : length page.items ≡ 0 = entries page refl ∙ eqb-true page.header.entries 0 empty in
    ap (λ n. map (pair_at file p page (λ i. false)) (range_with_len 0 (n / 2))) none
no_spare_pairs file p (Leaf page) entries spare = absurd cc
no_spare_pairs file p page entries spare = refl

pub spare_weighs_nothing : (image : List ℕ) (weight : StoredPair → ℕ) (p : ℕ) → p ≤ (file_of image).last → is_spare (page_at (file_of image) p) ≡ true
    → pairs_weight (file_of image) weight p ≡ 0
unfolding pairs_of
spare_weighs_nothing image weight p low is =
    let file : File = file_of image in
    ap (sum_by weight) (no_spare_pairs file p (page_at file p) (λ listed same. entries_are image p listed low same) is)

-- All pairs.

-- the pairs of all pages weigh what those below metadata do
pairs_below : (image : List ℕ) (weight : StoredPair → ℕ) → IsSoundForest image
    → sum_by (pairs_weight (file_of image) weight) (range_with_len 0 ((file_of image).last + 1))
    ≡ sum_by (λ fields. sum_by (pairs_weight (file_of image) weight) (leaves_below (file_of image) fields)
    + sum_by (pairs_weight (file_of image) weight) (buckets_below (file_of image) fields)) (fields_of (file_of image))
pairs_below image weight sound =
    let file : File = file_of image in
    let v : ℕ → ℕ = pairs_weight file weight in
    let pages : List ℕ = range_with_len 0 (file.last + 1) in
    let h : ℕ → ℕ = λ p. cond (is_hash_page file p) (v p) 0 in
    let below : Metadata → ℕ = λ fields. sum_by v (leaves_below file fields) in
    let buckets : Metadata → ℕ = λ fields. sum_by v (buckets_below file fields) in
    let each = sum_same v (λ p. leaf_weight file v p + h p) pages
    (λ p at. page_parts image weight p sound.forest (omega (arith, of_range 0 (file.last + 1) p at))) in
    let two = sum_plus (leaf_weight file v) h pages in
    let trees : sum_by (leaf_weight file v) pages ≡ sum_by below (fields_of file) =
    leaves_are_of_databases image v sound.forest sound.kind (λ root set.
    sum_none v (leaves file root) (λ q at. ap (sum_by weight) (no_pairs_in_set image root q sound set at))) in
    let tables : sum_by h pages ≡ sum_by buckets (fields_of file) =
    hash_pages_are_of_tables image v sound.forest sound.kind (λ p low spare. spare_weighs_nothing image weight p low spare) in
    omega (arith, each, two, trees, tables, sum_plus below buckets (fields_of file))

-- The lists.

one_listed : (file : File) (weight : List ℕ × List ℕ → ℕ) (pair : StoredPair) → sum_by (by_bytes weight) (listed_pair file pair)
    ≡ sum_by weight (given_pair file pair)
one_listed file weight pair =
    let values : List (List ℕ) = data_of file pair.data_item in
    let listed : List ℕ → ListKey × List ℕ = λ value. (BytesKey pair.key, value) in
    let given : List ℕ → List ℕ × List ℕ = λ value. (pair.key, value) in
    elim pair.live as (λ b. sum_by (by_bytes weight) (cond b (map listed values) []) ≡ sum_by weight (cond b (map given values) [])) [
      | true ↦ sum_map (by_bytes weight) listed values ∙ sym (sum_map weight given values)
      | false ↦ refl
    ]

-- what the list of pairs weighs
pairs_listed : (file : File) (weight : List ℕ × List ℕ → ℕ) (pairs : List StoredPair)
    → sum_by (by_bytes weight) (flat_map (listed_pair file) pairs) ≡ sum_by (λ pair. sum_by weight (given_pair file pair)) pairs
pairs_listed file weight pairs =
    sum_parts (by_bytes weight) (listed_pair file) pairs
    ∙ sum_same (λ pair. sum_by (by_bytes weight) (listed_pair file pair)) (λ pair. sum_by weight (given_pair file pair)) pairs
    (λ pair at. one_listed file weight pair)

pub btree_weighs : (file : File) (weight : List ℕ × List ℕ → ℕ) (root : ℕ)
    → sum_by (by_bytes weight) (btree_list file root) ≡ sum_by (pairs_weight file (λ pair. sum_by weight (given_pair file pair))) (leaves file root)
unfolding btree_list tree_pairs
btree_weighs file weight root =
    pairs_listed file weight (tree_pairs file root) ∙ sum_parts (λ pair. sum_by weight (given_pair file pair)) (pairs_of file) (leaves file root)

hash_weighs : (file : File) (weight : List ℕ × List ℕ → ℕ) (meta : HashMeta)
    → sum_by (by_bytes weight) (hash_list file meta) ≡ sum_by (pairs_weight file (λ pair. sum_by weight (given_pair file pair)))
    (buckets_below file (HashFields meta))
unfolding hash_list table_pairs
hash_weighs file weight meta =
    let f : StoredPair → ℕ = λ pair. sum_by weight (given_pair file pair) in
    let buckets : List ℕ = range_with_len 0 (meta.max_bucket + 1) in
    pairs_listed file weight (by_key (table_pairs file meta))
    ∙ (by_key_sum f (table_pairs file meta)
    ∙ (sum_parts f (bucket_pairs file meta) buckets
    ∙ (sum_same (λ b. sum_by f (bucket_pairs file meta b)) (λ b. sum_by (pairs_weight file f) (bucket_pages file meta b)) buckets (λ b at.
    sum_parts f (pairs_of file) (bucket_pages file meta b))
    ∙ sym (sum_parts (pairs_weight file f) (bucket_pages file meta) buckets))))

-- records have no key of bytes
recno_weighs : (file : File) (weight : List ℕ × List ℕ → ℕ) (root : ℕ) → sum_by (by_bytes weight) (recno_list file root) ≡ 0
unfolding recno_list
recno_weighs file weight root =
    let entries : List (ℕ × Item) = enumerate_from 1 (tree_entries file root) in
    sum_parts (by_bytes weight) (listed_entry file) entries
    ∙ sum_none (λ entry. sum_by (by_bytes weight) (listed_entry file entry)) entries (λ entry at.
    elim entry.1.deleted as (λ b. sum_by (by_bytes weight) (cond b [] ((NumberKey entry.0, value_of file entry.1.content) ∷ [])) ≡ 0) [
      | true ↦ refl
      | false ↦ refl
    ])

-- the list of a database weighs what the pages below its metadata do
list_weighs : (image : List ℕ) (weight : List ℕ × List ℕ → ℕ) (fields : Metadata) → IsSoundForest image → HasMetadata (file_of image) fields
    → sum_by (pairs_weight (file_of image) (λ pair. sum_by weight (given_pair (file_of image) pair))) (leaves_below (file_of image) fields)
    + sum_by (pairs_weight (file_of image) (λ pair. sum_by weight (given_pair (file_of image) pair))) (buckets_below (file_of image) fields)
    ≡ sum_by (by_bytes weight) (list_of (file_of image) fields)
list_weighs image weight (BtreeFields meta) sound has =
    let file : File = file_of image in
    let v : ℕ → ℕ = pairs_weight file (λ pair. sum_by weight (given_pair file pair)) in
    elim (is_recno meta) as (λ b. is_recno meta ≡ b → sum_by v (leaves file meta.root) + 0
    ≡ sum_by (by_bytes weight) (cond b (recno_list file meta.root) (btree_list file meta.root))) [
      | true ↦ λ recno.
          let none : sum_by v (leaves file meta.root) ≡ 0 = sum_none v (leaves file meta.root) (λ q at.
          ap (sum_by (λ pair. sum_by weight (given_pair file pair))) (no_pairs_in_recno image meta q sound.forest has recno at)) in
          omega (arith, none, recno_weighs file weight meta.root)
      | false ↦ λ keyed. omega (arith, btree_weighs file weight meta.root)
    ] refl
list_weighs image weight (HashFields meta) sound has = omega (arith, hash_weighs (file_of image) weight meta)
list_weighs image weight (QueueFields meta) sound has = absurd (no_queue_meta image meta sound.forest sound.kind has)

-- the lists of all databases by their metadata
pub all_listed : (image : List ℕ) (f : ListKey × List ℕ → ℕ) → IsSoundForest image
    → sum_by f (all_lists (file_of image)) ≡ sum_by (λ fields. sum_by f (list_of (file_of image) fields)) (named_fields (file_of image))
unfolding all_lists
all_listed image f sound =
    let file : File = file_of image in
    let all : List Database = databases file in
    let g : Metadata → ℕ = λ fields. sum_by f (list_of file fields) in
    let rest : List (ListKey × List ℕ) = flat_map (λ (database : Database). list_of file database.fields) all in
    let fields : List Metadata = map (λ (database : Database). database.fields) all in
    let same : sum_by f rest ≡ sum_by g fields =
    sum_parts f (λ (database : Database). list_of file database.fields) all ∙ sym (sum_map g (λ (database : Database). database.fields) all) in
    elim (master_in (page_at file 0)) as (λ m. master_in (page_at file 0) ≡ m → sum_by f (master_list file m ++ rest) ≡ sum_by g
    (master_fields m ++ fields)) [
      | None ↦ λ is. same
      | Some meta ↦ λ is.
          let list : sum_by f (btree_list file meta.root) ≡ g (BtreeFields meta) =
          sym (ap (λ b. sum_by f (cond b (recno_list file meta.root) (btree_list file meta.root))) (master_keys image meta sound.forest is)) in
          omega (arith, same, list, sum_by-append f (btree_list file meta.root) rest, sum_by-cons g (BtreeFields meta) fields)
    ] refl

pub pairs_are_of_databases : PairsAreOfDatabases
pairs_are_of_databases image weight sound =
    let file : File = file_of image in
    let f : StoredPair → ℕ = λ pair. sum_by weight (given_pair file pair) in
    let v : ℕ → ℕ = pairs_weight file f in
    let pages : List ℕ = range_with_len 0 (file.last + 1) in
    let listed : Metadata → ℕ = λ fields. sum_by (by_bytes weight) (list_of file fields) in
    sum_parts weight (given_on file) pages
    ∙ (sum_same (λ p. sum_by weight (given_on file p)) v pages (λ p at. sum_parts weight (given_pair file) (pairs_of file p))
    ∙ (pairs_below image f sound
    ∙ (fields_same image (λ fields. sum_by v (leaves_below file fields) + sum_by v (buckets_below file fields)) listed
    (λ fields has. list_weighs image weight fields sound has)
    ∙ (metadata_are_databases image listed sound ∙ sym (all_listed image (by_bytes weight) sound)))))
