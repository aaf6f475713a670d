-- What is given of a recno is loaded into its list.
use Rattle.std.proofs.Common.{◌≡◌, ◌≢◌, ◌⊎◌, ℕ, ◌≤◌, Bool, true, false, cond, List, [], ◌∷◌, ◌++◌, map, arith, refl, sym, ◌∙◌, ap, subst, inl, inr}
use Rattle.std.specs.Prelude.{Option, Some, None, ◌==◌, ◌&&◌, not}
use Rattle.std.specs.List.{Contains, flat_map, range_with_len}
use Rattle.std.proofs.lemmas.Bool.{and_parts, eqb-true}
use Rattle.std.proofs.lemmas.Option.{same_Some}
use Rattle.bdb_apart.specs.of_format.declared.metadata.BtreeMeta.{BtreeMeta}
use Rattle.bdb_apart.specs.of_format.declared.settings.Settings.{Settings}
use Rattle.bdb_apart.specs.of_format.Flags.{has_records}
use Rattle.bdb_apart.specs.of_format.Terms.{BtreeFields, File, Listed, Item, Page, RecnoLeaf, file_of, has_type, head_of, is_meta, is_recno, leaves}
use Rattle.bdb_apart.specs.of_format.Terms.{page_at, recno_list, recno_settings, tree_entries, type_in}
use Rattle.bdb_apart.proofs.of_homes.Homes.{home}
use Rattle.bdb_apart.proofs.of_homes.declared.home.Home.{Home}
use Rattle.bdb_apart.specs.of_rescue.Text.{bytes_pair, numbered_record}
use Rattle.bdb_apart.specs.of_survey.Salvage.{is_taken}
use Rattle.bdb_apart.specs.Found.{Found}
use Rattle.bdb_apart.specs.Given.{fits_record, in_image, is_record_page, pairs_given, is_recno_db, numbered_on, records_by, records_from, records_given}
use Rattle.bdb_apart.specs.Given.{records_on}
use Rattle.bdb_apart.specs.Given.{start_at, start_in}
use Rattle.bdb_apart.specs.Text.{list_given}
use Rattle.bdb_law_homes.proofs.of_format.ListLemmas.{map_joined}
use Rattle.bdb_law_homes.proofs.of_format.MemberLemmas.{all_pass, first_member, in_flat_map, in_range, later_member}
use Rattle.bdb_law_homes.proofs.of_graph.LinkedLemmas.{root_fits}
use Rattle.bdb_law_homes.specs.of_law_sums.Databases.{IsOfSet}
use Rattle.bdb_law_homes.proofs.of_law_sums.LeafLemmas.{btree_leaf_type}
use Rattle.bdb_law_homes.proofs.of_law_sums.RecordLemmas.{no_leaf_of_both}
use Rattle.bdb_law_homes.specs.of_law_whole.Guessed.{guessed}
use Rattle.bdb_law_homes.proofs.of_law_whole.TakenLemmas.{taken_all, taken_only}
use Rattle.bdb_law_homes.specs.Led.{entries_on}
use Rattle.bdb_law_homes.specs.Owned.{IsLeafOf}
use Rattle.bdb_law_homes.proofs.OneLemmas.{leaves_are_of_one}
use Rattle.bdb_law_kept.specs.of_text_format.declared.pairs.TextPair.{TextPair}
use Rattle.bdb_law_kept.specs.of_text_format.Terms.{listed}
use Rattle.bdb_law_kept.specs.of_settle.Loaded.{key_less, loaded}
use Rattle.bdb_law_kept.specs.of_text.WrittenLaw.{pair_in}
use Rattle.bdb_law_kept.specs.Kept.{LoadsAlike}
use Rattle.bdb_law_kept.specs.Later.{AllLater}
use Rattle.bdb_law_kept.proofs.KeyedLemmas.{later_across}
use Rattle.bdb_law_kept.proofs.LaterLemmas.{later_other, later_range}
use Rattle.bdb_law_kept.proofs.NumberedLemmas.{IsKeptList}
use Rattle.bdb_law_kept.proofs.SettledLemmas.{ComesBefore, key_out}
use Rattle.bdb_apart.specs.Read.{read}
use Rattle.bdb_law_apart.proofs.ApartLemmas.{later_last}
use Rattle.bdb_law_apart.proofs.BlockLemmas.{Entry, IsBelow}
use Rattle.bdb_law_apart.proofs.FoundLemmas.{same_fields}
use Rattle.bdb_law_apart.proofs.PageLoadLemmas.{pages_load}
use Rattle.bdb_law_apart.proofs.RecordLemmas.{IsRecnoOn, all_fit, block, kept, leaf_view, list_parts, metadata, numbered_is, split, start_is, start_of}
use Rattle.bdb_law_apart.proofs.SeenLemmas.{IsSeen, below_count, inside, inside_file, page_is}

-- The database.

-- a recno that is found
pub record IsRecnoDb (image : List ℕ) (tree : BtreeMeta) (db : Found) : Type 0 where
  pub on : IsRecnoOn image db.meta tree
  pub fields : db.fields ≡ BtreeFields tree

-- what a page gives of it
abbrev pub records_at : List ℕ → Found → ℕ → List Entry
records_at image db p = map numbered_record (records_on (guessed image) db p)

-- What its leaves give.

free_leaf : (image : List ℕ) (meta : ℕ) (tree : BtreeMeta) (p : ℕ) → IsRecnoOn image meta tree → Contains (leaves (file_of image) tree.root) p
    → is_taken (guessed image) p ≡ false
free_leaf image meta tree p on at = by_test (is_taken (guessed image) p) refl
  where
    by_test : (b : Bool) → is_taken (guessed image) p ≡ b → b ≡ false
    by_test false free = refl
    by_test true taken =
        let of : IsOfSet (file_of image) p = taken_only image p on.is.whole on.is.is.bytes taken in
        absurd
        (no_leaf_of_both image tree.root of.root p on.is.sound.forest
        (root_fits image (head_of image) tree on.is.sound.forest.formed (metadata image meta tree on)) of.set at of.leaf)

leaf_low : (image : List ℕ) (meta : ℕ) (tree : BtreeMeta) (p : ℕ) → IsRecnoOn image meta tree → Contains (leaves (file_of image) tree.root) p
    → p ≤ (file_of image).last
leaf_low image meta tree p on at = inside_file image is_record_page p refl (ap is_record_page (leaf_view image meta tree p on at).1)

leaf_gives : (image : List ℕ) (tree : BtreeMeta) (db : Found) (before : List ℕ) (p : ℕ) (after : List ℕ) → IsRecnoDb image tree db
    → leaves (file_of image) tree.root ≡ before ++ p ∷ after → records_at image db p ≡ block (file_of image) p (entries_on (file_of image) before)
leaf_gives image tree db before p after is parts =
    let g : File = guessed image in
    let n : ℕ = entries_on (file_of image) before in
    let at : Contains (leaves (file_of image) tree.root) p = subst (λ ps. Contains ps p) (sym parts) (among before) in
    let low : p ≤ (file_of image).last = leaf_low image db.meta tree p is.on at in
    let start : start_in g db p ≡ Some n =
    start_of image db.meta tree before p after db is.on parts at low (free_leaf image db.meta tree p is.on at) refl is.fields in
    ap (λ s. map numbered_record (records_from g db p s)) start
    ∙ (ap (map numbered_record)
    (all_pass (fits_record db.fields) (numbered_on g p n)
    (λ placed there. ap (λ fields. fits_record fields placed) is.fields ∙ all_fit image db.meta tree before p after placed is.on parts low there))
    ∙ numbered_is image p n is.on.is low)
  where
    among : (ps : List ℕ) → Contains (ps ++ p ∷ after) p
    among [] = first_member p after
    among (q ∷ ps) = later_member q (ps ++ p ∷ after) p (among ps)

list_is : (image : List ℕ) (tree : BtreeMeta) (db : Found) → IsRecnoDb image tree db
    → recno_list (file_of image) tree.root ≡ flat_map (records_at image db) (leaves (file_of image) tree.root)
unfolding recno_list tree_entries
list_is image tree db is =
    list_parts (file_of image) (records_at image db) [] (leaves (file_of image) tree.root)
    (λ more p rest parts. leaf_gives image tree db more p rest is parts)

-- Which pages give something.

-- what is told of a page whose records stand somewhere
record IsToldStart (file : File) (db : Found) (p : ℕ) (h : Option Home) : Type 0 where
  it : Home
  is : h ≡ Some it
  page : is_record_page (page_at file p) ≡ true
  meta : it.meta ≡ db.meta
  free : is_taken file p ≡ false

not_true : (b : Bool) → not b ≡ true → b ≡ false
not_true false is = refl
not_true true is = absurd cc

told : (file : File) (db : Found) (p n : ℕ) (h : Option Home) → start_at file db p h ≡ Some n → IsToldStart file db p h
told file db p n None is = absurd cc
told file db p n (Some it) is =
    by_test (is_recno_db db.fields && is_record_page (page_at file p) && it.meta == db.meta && not (is_taken file p)) refl is
  where
    by_test : (b : Bool) → (is_recno_db db.fields && is_record_page (page_at file p) && it.meta == db.meta && not (is_taken file p)) ≡ b
        → cond b (Some it.start) None ≡ Some n → IsToldStart file db p (Some it)
    by_test false all is = absurd cc
    by_test true all is =
        let last = and_parts (is_recno_db db.fields && is_record_page (page_at file p) && it.meta == db.meta) (not (is_taken file p)) all in
        let meta = and_parts (is_recno_db db.fields && is_record_page (page_at file p)) (it.meta == db.meta) last.0 in
        let page = and_parts (is_recno_db db.fields) (is_record_page (page_at file p)) meta.0 in
        record { it = it; is = refl; page = page.1; meta = eqb-true it.meta db.meta meta.1; free = not_true (is_taken file p) last.1 }

record_view : (page : Page) → is_record_page page ≡ true → (view : Listed Item) × (page ≡ RecnoLeaf view)
record_view (RecnoLeaf view) is = (view, refl)
record_view page is = absurd cc

some_start : (image : List ℕ) (db : Found) (p : ℕ) → records_at image db p ≢ [] → (n : ℕ) × (start_in (guessed image) db p ≡ Some n)
some_start image db p some = by_start (start_in (guessed image) db p) refl
  where
    by_start : (start : Option ℕ) → start_in (guessed image) db p ≡ start → (n : ℕ) × (start ≡ Some n)
    by_start None none = absurd (some (ap (λ s. map numbered_record (records_from (guessed image) db p s)) none))
    by_start (Some n) is = (n, refl)

-- such a page is a leaf of it
only_leaves : (image : List ℕ) (tree : BtreeMeta) (db : Found) (p : ℕ) → IsRecnoDb image tree db → records_at image db p ≢ []
    → Contains (leaves (file_of image) tree.root) p
only_leaves image tree db p is some =
    let file : File = file_of image in
    let g : File = guessed image in
    let seen : IsSeen image = is.on.is in
    let start = some_start image db p some in
    let of : IsToldStart g db p (home g p) = told g db p start.0 (home g p) start.1 in
    let low : p ≤ file.last = inside image is_record_page p seen refl refl of.page in
    let view = record_view (page_at file p) (sym (ap is_record_page (page_is image p seen low)) ∙ of.page) in
    let typed : has_type (5 ∷ 6 ∷ 12 ∷ []) (type_in (page_at file p)) ≡ true = ap (λ page. has_type (5 ∷ 6 ∷ 12 ∷ []) (type_in page)) view.1 in
    by_owner seen of view.0 view.1 (leaves_are_of_one image p seen.sound.forest seen.sound.kind low typed)
  where
    same_tree : (of : IsLeafOf (file_of image) p) → of.meta ≡ db.meta → of.tree ≡ tree
    same_tree of same =
        let both : BtreeFields of.tree ≡ BtreeFields tree =
        same_fields (page_at (file_of image) of.meta) (BtreeFields of.tree) (BtreeFields tree) of.at (ap (page_at (file_of image)) same ∙ is.on.page) in cc

    recno_of : (seen : IsSeen image) (view : Listed Item) → page_at (file_of image) p ≡ RecnoLeaf view → (of : IsLeafOf (file_of image) p)
        → of.meta ≤ (file_of image).last → (b : Bool) → is_recno of.tree ≡ b → b ≡ true
    recno_of seen view page of inside true recno = refl
    recno_of seen view page of inside false keyed =
        let five : type_in (page_at (file_of image) p) ≡ Some 5 =
        btree_leaf_type image of.tree p seen.sound (record { page = of.meta; inside = inside; is = of.at }) keyed of.leaf in
        let both : ◌≡◌ {A = Option ℕ} (Some 6) (Some 5) = sym (ap type_in page) ∙ five in
        absurd cc

    by_owner : (seen : IsSeen image) → IsToldStart (guessed image) db p (home (guessed image) p) → (view : Listed Item)
        → page_at (file_of image) p ≡ RecnoLeaf view → IsLeafOf (file_of image) p ⊎ IsOfSet (file_of image) p
        → Contains (leaves (file_of image) tree.root) p
    by_owner seen told view page (inr set) =
        absurd (let both : true ≡ false = sym (taken_all image p seen.whole seen.is.bytes set) ∙ told.free in cc)
    by_owner seen told view page (inl of) =
        let inside : of.meta ≤ (file_of image).last = inside_file image is_meta of.meta refl (ap is_meta of.at) in
        let recno : is_recno of.tree ≡ true = recno_of seen view page of inside (is_recno of.tree) refl in
        let on : IsRecnoOn image of.meta of.tree = record { is = seen; page = of.at; recno = recno; inside = inside } in
        let parts = split (leaves (file_of image) of.tree.root) p of.leaf in
        let same : of.meta ≡ db.meta =
        ap (λ (h : Home). h.meta) (same_Some _ _ (sym (start_is image of.meta of.tree parts.0 p parts.1 on parts.2) ∙ told.is)) ∙ told.meta in
        subst (λ (t : BtreeMeta). Contains (leaves (file_of image) t.root) p) (same_tree of same) of.leaf

-- The order of its leaves.

pub across : {X Y : Type 0} (R : Y → Y → Type 0) (f : X → List Y) (xs : List X) → AllLater R (flat_map f xs)
    → AllLater (λ a b. (x y : Y) → Contains (f a) x → Contains (f b) y → R x y) xs
across R f [] all = tt
across R f (a ∷ xs) all = (
  (λ b at x y at_x at_y. later_across R (f a) (flat_map f xs) x y all at_x (in_flat_map f xs b y at at_y)),
  across R f xs (later_last R (f a) (flat_map f xs) all),
)

numbers_less : (image : List ℕ) (tree : BtreeMeta) (x y : Entry) → ComesBefore (recno_settings (head_of image).page_size (head_of image).order tree) x y
    → key_less (key_out x.0) (key_out y.0) ≡ true
numbers_less image tree x y (inl less) = less
numbers_less image tree x y (inr (same, inl keeps)) = absurd cc
numbers_less image tree x y (inr (same, inr (sorts, less))) = absurd cc

leaves_below : (image : List ℕ) (tree : BtreeMeta) (db : Found) → IsRecnoDb image tree db
    → AllLater (IsBelow (records_at image db)) (leaves (file_of image) tree.root)
leaves_below image tree db is =
    let settings : Settings = recno_settings (head_of image).page_size (head_of image).order tree in
    let order = subst (AllLater (ComesBefore settings)) (list_is image tree db is) (kept image db.meta tree is.on).ordered in
    later_other (λ a b. (x y : Entry) → Contains (records_at image db a) x → Contains (records_at image db b) y → ComesBefore settings x y)
    (IsBelow (records_at image db)) (leaves (file_of image) tree.root)
    (λ a b at_a at_b before x y at_x at_y. numbers_less image tree x y (before x y at_x at_y))
    (across (ComesBefore settings) (records_at image db) (leaves (file_of image) tree.root) order)

-- The list.

given_is : (image : List ℕ) (tree : BtreeMeta) (db : Found) → IsRecnoDb image tree db
    → list_given (in_image (read image) db) ≡ flat_map (records_at image db) (range_with_len 0 (guessed image).count)
unfolding records_given
given_is image tree db is =
    ap (λ b. cond b (map numbered_record (records_by (read image) db db.fields)) (map bytes_pair (pairs_given (in_image (read image) db))))
    (ap has_records is.fields ∙ is.on.recno)
    ∙ (ap (λ fields. map numbered_record (records_by (read image) db fields)) is.fields
    ∙ map_joined numbered_record (records_on (guessed image) db) (range_with_len 0 (guessed image).count))

pub recno_loads : (image : List ℕ) (tree : BtreeMeta) (db : Found) (settings : Settings) (pairs : List TextPair) → IsRecnoDb image tree db
    → map pair_in pairs ≡ list_given (in_image (read image) db)
    → LoadsAlike settings (recno_settings (head_of image).page_size (head_of image).order tree)
    → listed (loaded settings pairs) ≡ recno_list (file_of image) tree.root
recno_loads image tree db settings pairs is are alike =
    let f : ℕ → List Entry = records_at image db in
    let ps : List ℕ = leaves (file_of image) tree.root in
    let others : Settings = recno_settings (head_of image).page_size (head_of image).order tree in
    let list : recno_list (file_of image) tree.root ≡ flat_map f ps = list_is image tree db is in
    pages_load settings others f ps (range_with_len 0 (guessed image).count) pairs (are ∙ given_is image tree db is) alike
    (subst (IsKeptList others) list (kept image db.meta tree is.on))
    (record {
      all = λ p at some.
          in_range 0 (guessed image).count p (omega arith)
          (omega (arith, below_count image p is.on.is (leaf_low image db.meta tree p is.on at)));
      only = λ p at some. only_leaves image tree db p is some;
      rise = later_range 0 (guessed image).count;
      below = leaves_below image tree db is;
    })
    ∙ sym list
