-- No pair of a sound file is left.
use Rattle.std.proofs.Common.{◌≡◌, ◌≢◌, ◌⊎◌, ℕ, ◌≤◌, Bool, true, false, cond, List, [], ◌∷◌, arith, refl, sym, ◌∙◌, ap, subst, inl, inr}
use Rattle.std.specs.Prelude.{Option, Some, None, ◌&&◌, not}
use Rattle.std.specs.List.{Contains, filter, flat_map, range_with_len, sum_by}
use Rattle.std.specs.Option.{is_some}
use Rattle.std.proofs.lemmas.Bool.{cases_Bool, cases_eq, cases_lt, eq-eqb}
use Rattle.std.proofs.lemmas.List.Sums.{sum_by-cons}
use Rattle.bdb_apart.specs.of_format.declared.metadata.BtreeMeta.{BtreeMeta}
use Rattle.bdb_apart.specs.of_format.declared.metadata.HashMeta.{HashMeta}
use Rattle.bdb_apart.specs.of_format.Terms.{BtreeFields, File, Hash, HashFields, Item, Leaf, Listed, Meta, Metadata, Page, StoredPair, file_of, has_type}
use Rattle.bdb_apart.specs.of_format.Terms.{is_meta, is_spare, master_in, page_at, pairs_in, pairs_of, type_in}
use Rattle.bdb_apart.proofs.of_homes.Homes.{home}
use Rattle.bdb_apart.specs.of_survey.Salvage.{stored_on}
use Rattle.bdb_apart.specs.Found.{Found, found, is_alone, is_at, is_leaf, is_master_leaf}
use Rattle.bdb_apart.specs.Given.{above, are_given, db_at, gives_on, holds_pairs, is_pair_page, meta_at, names_found, pairs_left, pairs_left_on}
use Rattle.bdb_law_homes.proofs.of_format.MemberLemmas.{is_empty, nothing_joined, of_filter}
use Rattle.bdb_law_homes.proofs.of_graph.ReadLemmas.{master_is}
use Rattle.bdb_law_homes.specs.of_law_sums.Databases.{given_pair}
use Rattle.bdb_law_homes.proofs.of_law_sums.HashLemmas.{hash_type}
use Rattle.bdb_law_homes.proofs.of_law_sums.PairLemmas.{spare_weighs_nothing}
use Rattle.bdb_law_homes.specs.of_law_whole.Guessed.{guessed}
use Rattle.bdb_law_homes.proofs.of_law_whole.KeptLemmas.{nothing_stored}
use Rattle.bdb_law_homes.proofs.of_law_whole.PairLemmas.{stored_is}
use Rattle.bdb_law_homes.specs.Owned.{HasTable, HasTree}
use Rattle.bdb_law_homes.proofs.HavingLemmas.{hash_pages_have_homes, pair_leaves_have_homes}
use Rattle.bdb_law_apart.specs.Left.{NoPairIsLeft}
use Rattle.bdb_apart.specs.Read.{read}
use Rattle.bdb_law_apart.proofs.EntryLemmas.{HasMaster, IsOfMaster, leaf_pair}
use Rattle.bdb_law_apart.proofs.FoundLemmas.{IsFoundAt, found_alone, is_no_other, none_above, of_master_page, of_only_page}
use Rattle.bdb_law_apart.proofs.MasterLemmas.{NamesPage, names_page}
use Rattle.bdb_law_apart.proofs.SeenLemmas.{IsSeen, home_is, page_is, seen}

-- Lists without a member.

pub nothing_or_some : {X : Type 0} (xs : List X) → (xs ≡ []) ⊎ (xs ≢ [])
nothing_or_some [] = inl refl
nothing_or_some (x ∷ xs) = inr (λ none. cc)

pub nothing_passes : {X : Type 0} (test : X → Bool) (xs : List X) → ((x : X) → Contains xs x → test x ≡ false) → filter test xs ≡ []
nothing_passes test xs fails =
    is_empty (filter test xs) (λ x at. let kept = of_filter test xs x at in absurd (let both : true ≡ false = sym kept.1 ∙ fails x kept.0 in cc))

pub either_nothing : {X : Type 0} (b : Bool) (xs : List X) → xs ≡ [] → cond b [] xs ≡ []
either_nothing true xs none = refl
either_nothing false xs none = none

-- A page with pairs.

-- its database: that of its metadata page
pub record HasDatabase (image : List ℕ) (p : ℕ) (fields : Metadata) : Type 0 where
  pub meta : ℕ
  pub is : home (file_of image) p ≡ Some (record { meta = meta; start = 0 })
  pub page : page_at (file_of image) meta ≡ Meta fields
  pub pairs : is_pair_page (page_at (file_of image) p) ≡ true

-- the metadata page that it may belong to is that one
pub above_only : (image : List ℕ) (p : ℕ) (fields : Metadata) → IsSeen image → p ≤ (file_of image).last → (has : HasDatabase image p fields)
    → above (guessed image) p ≡ Some has.meta
above_only image p fields is low has = by_master (master_in (page_at file 0)) refl
  where
    file : File
    file = file_of image

    g : File
    g = guessed image

    by_alone : (b : Bool) → is_alone (page_at g 0) ≡ b → (b ≡ true → has.meta ≡ 0) → above g p ≡ Some has.meta
    by_alone true alone zero =
        ap (λ b. cond (b && is_pair_page (page_at g p)) (Some 0) (meta_at (home g p))) alone
        ∙ (ap (λ page. cond (is_pair_page page) (Some 0) (meta_at (home g p))) (page_is image p is low)
        ∙ (ap (λ b. cond b (Some 0) (meta_at (home g p))) has.pairs ∙ ap Some (sym (zero refl))))
    by_alone false alone zero =
        ap (λ b. cond (b && is_pair_page (page_at g p)) (Some 0) (meta_at (home g p))) alone ∙ ap meta_at (home_is image p is ∙ has.is)

    by_master : (master : Option BtreeMeta) → master_in (page_at file 0) ≡ master → above g p ≡ Some has.meta
    by_master None none =
        let zero : has.meta ≡ 0 = none_above image has.meta fields is none has.page in
        let page : page_at file 0 ≡ Meta fields = ap (page_at file) (sym zero) ∙ has.page in
        by_alone true (found_alone image fields is none page).0 (λ b. zero)
    by_master (Some meta) master =
        let first : is_alone (page_at g 0) ≡ false = ap is_alone (page_is image 0 is (omega arith)) ∙ is_no_other (page_at file 0) meta master in
        by_alone false first (λ same. absurd cc)

-- the database of a metadata page is found, unless it's the master's
pub is_found : (image : List ℕ) (m : ℕ) (fields : Metadata) → IsSeen image → page_at (file_of image) m ≡ Meta fields
    → (m ≡ 0 → master_in (page_at (file_of image) 0) ≡ None) → IsFoundAt image m fields
is_found image m fields is page other = by_master (master_in (page_at file 0)) refl
  where
    file : File
    file = file_of image

    by_master : (master : Option BtreeMeta) → master_in (page_at file 0) ≡ master → IsFoundAt image m fields
    by_master None none =
        let zero : m ≡ 0 = none_above image m fields is none page in
        subst (λ n. IsFoundAt image n fields) (sym zero) (of_only_page image fields is none (ap (page_at file) (sym zero) ∙ page))
    by_master (Some meta) master = elim (cases_eq m 0) [
      | inl zero ↦ absurd (let both : Some meta ≡ None = sym master ∙ other zero in cc)
      | inr some ↦ of_master_page image meta m fields (record { is = is; master = master }) (omega (arith, some)) page
    ]

-- a leaf with pairs has a btree, and a hash page with pairs a table
pub leaf_database : (image : List ℕ) (p : ℕ) (view : Listed Item) → IsSeen image → p ≤ (file_of image).last → page_at (file_of image) p ≡ Leaf view
    → pairs_of (file_of image) p ≢ [] → (tree : HasTree (file_of image) p) × HasDatabase image p (BtreeFields tree.of.tree)
leaf_database image p view is low page some =
    let tree : HasTree (file_of image) p = pair_leaves_have_homes image p view is.sound is.levels low page some in
    (tree, record { meta = tree.of.meta; is = tree.is; page = tree.of.at; pairs = ap is_pair_page page })

no_spare : (image : List ℕ) (p : ℕ) → p ≤ (file_of image).last → is_spare (page_at (file_of image) p) ≡ true → pairs_of (file_of image) p ≡ []
no_spare image p low spare = nothing (pairs_of (file_of image) p) (spare_weighs_nothing image (λ pair. 1) p low spare)
  where
    nothing : (pairs : List StoredPair) → sum_by (λ (pair : StoredPair). 1) pairs ≡ 0 → pairs ≡ []
    nothing [] none = refl
    nothing (pair ∷ pairs) none = absurd (omega (arith, none, sum_by-cons (λ (pair : StoredPair). 1) pair pairs))

pub hash_database : (image : List ℕ) (p : ℕ) → IsSeen image → p ≤ (file_of image).last
    → has_type (2 ∷ 13 ∷ []) (type_in (page_at (file_of image) p)) ≡ true → is_pair_page (page_at (file_of image) p) ≡ true
    → pairs_of (file_of image) p ≢ []
    → (table : HasTable (file_of image) p) × HasDatabase image p (HashFields table.of.table)
hash_database image p is low hash pairs some = elim (cases_Bool (is_spare (page_at (file_of image) p))) [
  | inl spare ↦ absurd (some (no_spare image p low spare))
  | inr full ↦
      let table : HasTable (file_of image) p = hash_pages_have_homes image p is.sound.forest is.sound.kind low hash full in
      (table, record { meta = table.of.meta; is = table.is; page = table.of.at; pairs = pairs })
]

-- Nothing is left on a page.

given_up : (file : File) (dbs : List Found) (p : ℕ) → are_given file dbs p ≡ true → pairs_left_on file dbs p ≡ []
given_up file dbs p given = ap (λ b. cond b [] (filter (λ pair. not (is_master_leaf file p && names_found dbs pair)) (stored_on file p))) given

all_name : (file : File) (dbs : List Found) (p : ℕ) → is_master_leaf file p ≡ true
    → ((pair : List ℕ × List ℕ) → Contains (stored_on file p) pair → names_found dbs pair ≡ true) → pairs_left_on file dbs p ≡ []
all_name file dbs p leaf names =
    either_nothing (are_given file dbs p) (filter (λ pair. not (is_master_leaf file p && names_found dbs pair)) (stored_on file p))
    (nothing_passes (λ pair. not (is_master_leaf file p && names_found dbs pair)) (stored_on file p)
    (λ pair at. ap (λ b. not (b && names_found dbs pair)) leaf ∙ ap not (names pair at)))

pub none_stored : (file : File) (dbs : List Found) (p : ℕ) → stored_on file p ≡ [] → pairs_left_on file dbs p ≡ []
none_stored file dbs p none =
    either_nothing (are_given file dbs p) (filter (λ pair. not (is_master_leaf file p && names_found dbs pair)) (stored_on file p))
    (ap (filter (λ pair. not (is_master_leaf file p && names_found dbs pair))) none)

-- a page is given where its database gives it
page_given : (image : List ℕ) (p : ℕ) (fields : Metadata) → IsSeen image → p ≤ (file_of image).last → (has : HasDatabase image p fields)
    → (has.meta ≡ 0 → master_in (page_at (file_of image) 0) ≡ None) → gives_on (page_at (file_of image) p)
    (Some (record { name = None; meta = 0; fields = fields })) ≡ true
    → are_given (guessed image) (found (read image)) p ≡ true
page_given image p fields is low has other holds =
    let g : File = guessed image in
    let dbs : List Found = found (read image) in
    let one : IsFoundAt image has.meta fields = is_found image has.meta fields is has.page other in
    ap (λ m. gives_on (page_at g p) (db_at dbs m)) (above_only image p fields is low has)
    ∙ (ap (gives_on (page_at g p)) one.at
    ∙ (ap (λ page. gives_on page (Some one.db)) (page_is image p is low)
    ∙ (ap (λ fields. holds_pairs fields (page_at (file_of image) p)) one.fields_are ∙ holds)))

pub meta_view : (page : Page) → is_meta page ≡ true → (fields : Metadata) × (page ≡ Meta fields)
meta_view (Meta fields) is = (fields, refl)
meta_view page is = absurd cc

-- each pair of the master names a database that is found
pair_names : (image : List ℕ) (meta : BtreeMeta) (p : ℕ) (pair : List ℕ × List ℕ) → HasMaster image meta → is_master_leaf (guessed image) p ≡ true
    → Contains (stored_on (guessed image) p) pair → names_found (found (read image)) pair ≡ true
pair_names image meta p pair has leaf at =
    let dbs : List Found = found (read image) in
    let of : IsOfMaster image pair = leaf_pair image meta p pair has leaf at in
    let page : NamesPage (file_of image) of.pair = names_page image of.pair has.is of.among in
    let view = meta_view (page_at (file_of image) page.page) page.is in
    let one : IsFoundAt image page.page view.0 = of_master_page image meta page.page view.0 has page.above view.1 in
    ap (λ m. is_some (db_at dbs m)) (sym of.names ∙ page.names) ∙ ap is_some one.at

leaf_left : (image : List ℕ) (p : ℕ) (view : Listed Item) → IsSeen image → p ≤ (file_of image).last → page_at (file_of image) p ≡ Leaf view
    → pairs_of (file_of image) p ≢ [] → pairs_left_on (guessed image) (found (read image)) p ≡ []
leaf_left image p view is low page some =
    let tree = leaf_database image p view is low page some in
    by_master (master_in (page_at file 0)) refl tree.0 tree.1 (cases_eq tree.1.meta 0)
  where
    file : File
    file = file_of image

    g : File
    g = guessed image

    dbs : List Found
    dbs = found (read image)

    given : (tree : HasTree file p) (has : HasDatabase image p (BtreeFields tree.of.tree)) → (has.meta ≡ 0 → master_in (page_at file 0) ≡ None)
        → pairs_left_on g dbs p ≡ []
    given tree has other =
        given_up g dbs p
        (page_given image p (BtreeFields tree.of.tree) is low has other
        (ap (λ page. gives_on page (Some (record { name = None; meta = 0; fields = BtreeFields tree.of.tree }))) page ∙ ap not tree.recno))

    by_master : (master : Option BtreeMeta) → master_in (page_at file 0) ≡ master → (tree : HasTree file p)
        → (has : HasDatabase image p (BtreeFields tree.of.tree)) → (has.meta ≡ 0) ⊎ (has.meta ≢ 0) → pairs_left_on g dbs p ≡ []
    by_master None none tree has which = given tree has (λ zero. none)
    by_master (Some meta) master tree has (inr some) = given tree has (λ zero. absurd (some zero))
    by_master (Some meta) master tree has (inl zero) =
        let leaf : is_master_leaf g p ≡ true =
        ap (λ page. is_leaf page && is_at 0 (home g p)) (page_is image p is low ∙ page)
        ∙ (ap (is_at 0) (home_is image p is ∙ has.is) ∙ eq-eqb has.meta 0 zero) in
        all_name g dbs p leaf (λ pair at. pair_names image meta p pair (record { is = is; master = master }) leaf at)

no_table : (image : List ℕ) (meta : BtreeMeta) (table : HashMeta) → master_in (page_at (file_of image) 0) ≡ Some meta
    → page_at (file_of image) 0 ≡ Meta (HashFields table) → ⊥
no_table image meta table master page =
    let both : Meta (BtreeFields meta) ≡ Meta (HashFields table) = sym (master_is (page_at (file_of image) 0) meta master) ∙ page in cc

hash_left : (image : List ℕ) (p : ℕ) (view : Listed Item) → IsSeen image → p ≤ (file_of image).last → page_at (file_of image) p ≡ Hash view
    → pairs_of (file_of image) p ≢ [] → pairs_left_on (guessed image) (found (read image)) p ≡ []
hash_left image p view is low page some =
    let file : File = file_of image in
    let table = hash_database image p is low (hash_type image p view is.sound.forest low page) (ap is_pair_page page) some in
    given_up (guessed image) (found (read image)) p
    (page_given image p (HashFields table.0.of.table) is low table.1
    (λ zero. by_master file table.0 (master_in (page_at file 0)) refl (ap (page_at file) (sym zero) ∙ table.1.page))
    (ap (λ page. gives_on page (Some (record { name = None; meta = 0; fields = HashFields table.0.of.table }))) page))
  where
    by_master : (file : File) (table : HasTable (file_of image) p) (master : Option BtreeMeta) → master_in (page_at (file_of image) 0) ≡ master
        → page_at (file_of image) 0 ≡ Meta (HashFields table.of.table) → master_in (page_at (file_of image) 0) ≡ None
    by_master file table None none page = none
    by_master file table (Some meta) is page = absurd (no_table image meta table.of.table is page)

no_pairs : (file : File) (p : ℕ) (page : Page) → page_at file p ≡ page → pairs_in file p page ≡ [] → pairs_of file p ≡ []
unfolding pairs_of
no_pairs file p page is none = ap (pairs_in file p) is ∙ none

no_pair_left_on : (image : List ℕ) (p : ℕ) → IsSeen image → pairs_left_on (guessed image) (found (read image)) p ≡ []
no_pair_left_on image p is = elim (cases_lt (file_of image).last p) [
  | inl past ↦ none_stored g dbs p (nothing_stored image p is.whole past)
  | inr low ↦ elim (nothing_or_some (pairs_of file p)) [
    | inl none ↦ none_stored g dbs p (stored_is image p is.whole is.is.bytes low ∙ ap (flat_map (given_pair file)) none)
    | inr some ↦ by_page low some (page_at file p) refl
  ]
]
  where
    file : File
    file = file_of image

    g : File
    g = guessed image

    dbs : List Found
    dbs = found (read image)

    by_page : p ≤ file.last → pairs_of file p ≢ [] → (page : Page) → page_at file p ≡ page → pairs_left_on g dbs p ≡ []
    by_page low some (Leaf view) page = leaf_left image p view is low page some
    by_page low some (Hash view) page = hash_left image p view is low page some
    by_page low some other page = absurd (some (no_pairs file p other page refl))

pub no_pair_is_left : NoPairIsLeft
unfolding pairs_left
no_pair_is_left image is =
    nothing_joined (pairs_left_on (guessed image) (found (read image))) (range_with_len 0 (guessed image).count)
    (λ p at. no_pair_left_on image p (seen image is))
