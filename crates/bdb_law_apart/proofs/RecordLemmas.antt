-- The records of a sound recno: each leaf has as its home the recno, behind the entries before it; and no record is left.
use Rattle.std.proofs.Common.{◌≡◌, ◌≢◌, ◌⊎◌, ℕ, ◌+◌, ◌<◌, ◌≤◌, ◌^◌, Bool, true, false, cond, List, [], ◌∷◌, ◌++◌, map, length, append-nil, append_assoc, arith}
use Rattle.std.proofs.Common.{refl, sym}
use Rattle.std.proofs.Common.{◌∙◌, ap, subst, inl, inr, length-append}
use Rattle.std.specs.Prelude.{Option, Some, None, ◌==◌, ◌&&◌, ◌||◌, not, nat_lt}
use Rattle.std.specs.List.{Contains, enumerate_from, filter, flat_map, range_with_len}
use Rattle.std.proofs.lemmas.Bool.{and_from, cases_Bool, cases_lt, eq-eqb, eqb-true, lt-ltb}
use Rattle.std.proofs.lemmas.Grind.{flat_map-append}
use Rattle.std.proofs.lemmas.List.Elements.{Contains-append_left, Contains-append_right}
use Rattle.bdb_apart.specs.of_format.declared.metadata.BtreeMeta.{BtreeMeta}
use Rattle.bdb_apart.specs.of_format.Terms.{BtreeFields, DupLeaf, File, Item, ListKey, Listed, Meta, NumberKey, Page, RecnoLeaf, database_faults}
use Rattle.bdb_apart.specs.of_format.Terms.{database_rows, entries_in, file_of, has_type, has_wrong_count, head_of, inner_pages, is_fixed, is_meta, is_recno}
use Rattle.bdb_apart.specs.of_format.Terms.{is_wrong_at}
use Rattle.bdb_apart.specs.of_format.Terms.{NoType, leaves, listed_entry, master_in, page_at, recno_contents, recno_list, recno_settings, tree_entries, type_in}
use Rattle.bdb_apart.specs.of_format.Terms.{value_of}
use Rattle.bdb_apart.specs.of_format.Verdict.{holding}
use Rattle.bdb_apart.proofs.of_homes.Homes.{home}
use Rattle.bdb_apart.proofs.of_homes.declared.home.Home.{Home}
use Rattle.bdb_apart.specs.of_rescue.Text.{numbered_record}
use Rattle.bdb_apart.specs.of_survey.Salvage.{is_taken, live_value, live_whole, whole_values}
use Rattle.bdb_apart.specs.Found.{Found, found}
use Rattle.bdb_apart.specs.Given.{db_at, fits_record, is_record_page, is_recno_db, meta_at, numbered_entry, numbered_on, records_beside, records_left}
use Rattle.bdb_apart.specs.Given.{records_left_on, records_without, start_at, start_in}
use Rattle.bdb_law_homes.proofs.of_format.ListLemmas.{flat_map_same, map_joined}
use Rattle.bdb_law_homes.proofs.of_format.FileLemmas.{past_last}
use Rattle.bdb_law_homes.proofs.of_format.MemberLemmas.{first_member, in_flat_map, in_map, later_member, member_cases, no_member, none_pass, of_flat_map}
use Rattle.bdb_law_homes.proofs.of_format.VerdictLemmas.{AllFail, all_fail, no_codes_at}
use Rattle.bdb_law_homes.specs.of_image.Linked.{HasMetadata}
use Rattle.bdb_law_homes.proofs.of_graph.LinkedLemmas.{root_fits}
use Rattle.bdb_law_homes.proofs.of_graph.ReadLemmas.{master_is, master_keys}
use Rattle.bdb_law_homes.specs.of_law_sums.Databases.{IsOfSet}
use Rattle.bdb_law_homes.proofs.of_law_sums.LeafLemmas.{no_records_in_btree, recno_leaf_type}
use Rattle.bdb_law_homes.proofs.of_law_sums.of_tree.TreeLemmas.{recno_leaf_page}
use Rattle.bdb_law_homes.specs.of_law_whole.Guessed.{guessed}
use Rattle.bdb_law_homes.proofs.of_law_whole.AlikeLemmas.{same_values}
use Rattle.bdb_law_homes.proofs.of_law_whole.PairLemmas.{entries_whole}
use Rattle.bdb_law_homes.proofs.of_law_whole.TakenLemmas.{taken_all}
use Rattle.bdb_law_homes.specs.Led.{IsCounted, entries_on}
use Rattle.bdb_law_homes.specs.Owned.{IsLeafOf}
use Rattle.bdb_law_homes.proofs.OneLemmas.{leaves_are_of_one}
use Rattle.bdb_law_homes.proofs.StartLemmas.{starts_are_counts}
use Rattle.bdb_law_kept.proofs.of_databases.SoundLemmas.{no_contents}
use Rattle.bdb_law_kept.proofs.of_databases.of_recno.PageLemmas.{root_recno}
use Rattle.bdb_law_kept.proofs.of_databases.of_recno.ScanLemmas.{few_records}
use Rattle.bdb_law_kept.proofs.LaterLemmas.{of_enumerate}
use Rattle.bdb_law_kept.proofs.NumberedLemmas.{IsKeptList, of_recno, recno_kept, recno_rows}
use Rattle.bdb_law_apart.specs.Left.{NoRecordIsLeft}
use Rattle.bdb_apart.specs.Read.{read}
use Rattle.bdb_law_apart.proofs.FoundLemmas.{IsFoundAt}
use Rattle.bdb_law_apart.proofs.LeftLemmas.{is_found, nothing_or_some, nothing_passes}
use Rattle.bdb_law_apart.proofs.SeenLemmas.{IsSeen, home_is, inside, inside_file, page_is, seen}
use Rattle.bdb_law_homes.proofs.of_format.MemberLemmas.{nothing_joined}

-- Lists.

pub split : {X : Type 0} (xs : List X) (x : X) → Contains xs x → (before : List X) × (after : List X) × (xs ≡ before ++ x ∷ after)
split [] x at = absurd (no_member [] x refl at)
split (y ∷ ys) x at = elim (member_cases y ys x at) [
  | inl same ↦ ([], ys, ap (λ z. z ∷ ys) same)
  | inr later ↦ let rest = split ys x later in (y ∷ rest.0, rest.1, ap (λ zs. y ∷ zs) rest.2)
]

enumerate_parts : {X : Type 0} (n : ℕ) (xs ys : List X) → enumerate_from n (xs ++ ys) ≡ enumerate_from n xs ++ enumerate_from (n + length xs) ys
enumerate_parts n [] ys = let same : n + 0 ≡ n = omega arith in ap (λ m. enumerate_from m ys) (sym same)
enumerate_parts n (x ∷ xs) ys =
    let same : (n + 1) + length xs ≡ n + length (x ∷ xs) = omega arith in
    ap (λ rest. (n, x) ∷ rest) (enumerate_parts (n + 1) xs ys ∙ ap (λ m. enumerate_from (n + 1) xs ++ enumerate_from m ys) same)

-- The recnos of a sound file.

-- a recno stands on a page
pub record IsRecnoOn (image : List ℕ) (meta : ℕ) (tree : BtreeMeta) : Type 0 where
  pub is : IsSeen image
  pub page : page_at (file_of image) meta ≡ Meta (BtreeFields tree)
  pub recno : is_recno tree ≡ true
  pub inside : meta ≤ (file_of image).last

pub metadata : (image : List ℕ) (meta : ℕ) (tree : BtreeMeta) → IsRecnoOn image meta tree → HasMetadata (file_of image) (BtreeFields tree)
metadata image meta tree on = record { page = meta; inside = on.inside; is = on.page }

no_rows : (image : List ℕ) (meta : ℕ) (tree : BtreeMeta) → IsRecnoOn image meta tree → database_faults (file_of image) (BtreeFields tree) ≡ []
no_rows image meta tree on = no_contents image (BtreeFields tree) on.is.is.sound (metadata image meta tree on)

count_right : (image : List ℕ) (meta : ℕ) (tree : BtreeMeta) (p : ℕ) → IsRecnoOn image meta tree → p ≤ (file_of image).last
    → is_wrong_at (file_of image) (has_wrong_count (file_of image)) (inner_pages (file_of image) tree.root) p ≡ false
unfolding database_faults
count_right image meta tree p on low =
    let file : File = file_of image in
    let codes : holding (database_rows file (BtreeFields tree) p) ≡ [] =
    no_codes_at 8 0 (file.last + 1) p (λ q. holding (database_rows file (BtreeFields tree) q)) (no_rows image meta tree on) (omega arith) (omega arith) in
    let fail : AllFail (recno_contents file tree p) = all_fail (recno_contents file tree p) (recno_rows file tree p (is_recno tree) on.recno codes) in
    fail.0

counted : (image : List ℕ) (meta : ℕ) (tree : BtreeMeta) → IsRecnoOn image meta tree → IsCounted (file_of image) tree.root
counted image meta tree on = record { counts = counts; level = on.is.levels tree.root }
  where
    file : File
    file = file_of image

    wrong : Page → Bool
    wrong = has_wrong_count file

    past_none : (p q : ℕ) → page_at file p ≡ NoType → (b : Bool) → (q == p) ≡ b → (b && wrong (page_at file q)) ≡ false
    past_none p q none true same = ap (λ page. wrong page) (ap (page_at file) (eqb-true q p same) ∙ none)
    past_none p q none false other = refl

    counts : (p : ℕ) → is_wrong_at file wrong (inner_pages file tree.root) p ≡ false
    counts p = elim (cases_lt file.last p) [
      | inl past ↦
          none_pass (λ q. q == p && wrong (page_at file q)) (inner_pages file tree.root)
          (λ q at. past_none p q (past_last image p past) (q == p) refl)
      | inr low ↦ count_right image meta tree p on low
    ]

pub few : (image : List ℕ) (meta : ℕ) (tree : BtreeMeta) → IsRecnoOn image meta tree → length (tree_entries (file_of image) tree.root) < 2 ^ 32
few image meta tree on =
    few_records image tree.root on.is.sound.forest (inl (root_fits image (head_of image) tree on.is.sound.forest.formed (metadata image meta tree on)))
    (root_recno image tree on.is.sound.forest (metadata image meta tree on) on.recno)

pub kept : (image : List ℕ) (meta : ℕ) (tree : BtreeMeta) → IsRecnoOn image meta tree
    → IsKeptList (recno_settings (head_of image).page_size (head_of image).order tree) (recno_list (file_of image) tree.root)
kept image meta tree on =
    recno_kept image tree (head_of image).page_size (head_of image).order on.is.sound.forest (metadata image meta tree on) on.recno (no_rows image meta tree on)

-- Leaves.

pub before_low : (image : List ℕ) (meta : ℕ) (tree : BtreeMeta) (before : List ℕ) (p : ℕ) (after : List ℕ) → IsRecnoOn image meta tree
    → leaves (file_of image) tree.root ≡ before ++ p ∷ after → entries_on (file_of image) before < 2 ^ 32
unfolding tree_entries
before_low image meta tree before p after on parts =
    let file : File = file_of image in
    let f : ℕ → List Item = λ q. entries_in (page_at file q) in
    let all : length (tree_entries file tree.root) ≡ length (flat_map f before ++ flat_map f (p ∷ after)) =
    ap (λ ps. length (flat_map f ps)) parts ∙ ap length (flat_map-append f before (p ∷ after)) in
    omega (arith, few image meta tree on, all, length-append (flat_map f before) (flat_map f (p ∷ after)))

pub leaf_view : (image : List ℕ) (meta : ℕ) (tree : BtreeMeta) (p : ℕ) → IsRecnoOn image meta tree → Contains (leaves (file_of image) tree.root) p
    → (view : Listed Item) × (page_at (file_of image) p ≡ RecnoLeaf view)
leaf_view image meta tree p on at =
    recno_leaf_page image p on.is.sound.forest (recno_leaf_type image tree p on.is.sound.forest (metadata image meta tree on) on.recno at)

-- its home is the recno, behind the entries before it
pub start_is : (image : List ℕ) (meta : ℕ) (tree : BtreeMeta) (before : List ℕ) (p : ℕ) (after : List ℕ) → IsRecnoOn image meta tree
    → leaves (file_of image) tree.root ≡ before ++ p ∷ after
    → home (guessed image) p ≡ Some (record { meta = meta; start = entries_on (file_of image) before })
start_is image meta tree before p after on parts =
    let at : Contains (leaves (file_of image) tree.root) p =
    subst (λ ps. Contains ps p) (sym parts) (among before) in
    let view = leaf_view image meta tree p on at in
    home_is image p on.is
    ∙ starts_are_counts image meta p tree view.0 before after on.is.sound.forest on.is.sound.kind on.page on.recno (counted image meta tree on) parts view.1
    (before_low image meta tree before p after on parts)
  where
    among : (ps : List ℕ) → Contains (ps ++ p ∷ after) p
    among [] = first_member p after
    among (q ∷ ps) = later_member q (ps ++ p ∷ after) p (among ps)

-- Records.

-- the live entries of a page, as the list has them behind so many
abbrev pub block : File → ℕ → ℕ → List (ListKey × List ℕ)
block file p start = flat_map (listed_entry file) (enumerate_from (start + 1) (entries_in (page_at file p)))

pub numbered_is : (image : List ℕ) (p start : ℕ) → IsSeen image → p ≤ (file_of image).last
    → map numbered_record (numbered_on (guessed image) p start) ≡ block (file_of image) p start
numbered_is image p start is low =
    let file : File = file_of image in
    let g : File = guessed image in
    ap (λ page. map numbered_record (flat_map (numbered_entry g) (enumerate_from (start + 1) (entries_in page)))) (page_is image p is low)
    ∙ (map_joined numbered_record (numbered_entry g) (enumerate_from (start + 1) (entries_in (page_at file p)))
    ∙ flat_map_same (λ placed. map numbered_record (numbered_entry g placed)) (listed_entry file) (enumerate_from (start + 1) (entries_in (page_at file p)))
    (λ placed at. one placed.0 placed.1 placed.1.deleted refl
    (same_values image placed.1.content is.whole
    ∙ entries_whole image p (page_at file p) placed.1 is.whole low refl
    (of_enumerate (start + 1) (entries_in (page_at file p)) placed at).2)))
  where
    one : (n : ℕ) (item : Item) (b : Bool) → item.deleted ≡ b
        → whole_values (guessed image) item.content ≡ value_of (file_of image) item.content ∷ []
        → map numbered_record (map (λ value. (n, value)) (cond b [] (whole_values (guessed image) item.content)))
        ≡ cond b [] ((NumberKey n, value_of (file_of image) item.content) ∷ [])
    one n item true is whole = refl
    one n item false is whole = ap (λ values. map numbered_record (map (λ value. (n, value)) values)) whole

-- the list of a recno is that of its leaves, each behind the entries before it
pub list_parts : (file : File) (f : ℕ → List (ListKey × List ℕ)) (before after : List ℕ)
    → ((more : List ℕ) (p : ℕ) (rest : List ℕ) → before ++ after ≡ (before ++ more) ++ p ∷ rest → f p ≡ block file p (entries_on file (before ++ more)))
    → flat_map (listed_entry file) (enumerate_from (entries_on file before + 1) (flat_map (λ p. entries_in (page_at file p)) after)) ≡ flat_map f after
list_parts file f before [] each = refl
list_parts file f before (p ∷ after) each =
    let items : List Item = entries_in (page_at file p) in
    let rest : List Item = flat_map (λ q. entries_in (page_at file q)) after in
    let n : ℕ = entries_on file before in
    let next : (n + 1) + length items ≡ entries_on file (before ++ p ∷ []) + 1 =
    omega (
      arith,
      ap length (flat_map-append (λ q. entries_in (page_at file q)) before (p ∷ [])),
      length-append (flat_map (λ q. entries_in (page_at file q)) before) (items ++ []),
      ap length (append-nil items),
    ) in
    let here : f p ≡ block file p n =
    each [] p after (ap (λ ps. ps ++ p ∷ after) (sym (append-nil before)))
    ∙ ap (λ ps. block file p (entries_on file ps)) (append-nil before) in
    ap (flat_map (listed_entry file)) (enumerate_parts (n + 1) items rest)
    ∙ (flat_map-append (listed_entry file) (enumerate_from (n + 1) items) (enumerate_from ((n + 1) + length items) rest)
    ∙ (ap (λ list. list ++ flat_map (listed_entry file) (enumerate_from ((n + 1) + length items) rest)) (sym here)
    ∙ ap (λ list. f p ++ list)
    (ap (λ m. flat_map (listed_entry file) (enumerate_from m rest)) next
    ∙ list_parts file f (before ++ p ∷ []) after
    (λ more q others is.
    each (p ∷ more) q others
    (sym (append_assoc before (p ∷ []) after) ∙ (is ∙ ap (λ ps. ps ++ q ∷ others) (append_assoc before (p ∷ []) more)))
    ∙ ap (λ ps. block file q (entries_on file ps)) (sym (append_assoc before (p ∷ []) more))))))

-- what a leaf gives is of the list
pub in_list : (image : List ℕ) (meta : ℕ) (tree : BtreeMeta) (before : List ℕ) (p : ℕ) (after : List ℕ) (pair : ListKey × List ℕ)
    → IsRecnoOn image meta tree → leaves (file_of image) tree.root ≡ before ++ p ∷ after
    → Contains (block (file_of image) p (entries_on (file_of image) before)) pair → Contains (recno_list (file_of image) tree.root) pair
unfolding recno_list tree_entries
in_list image meta tree before p after pair on parts at =
    let file : File = file_of image in
    let items : ℕ → List Item = λ q. entries_in (page_at file q) in
    let n : ℕ = entries_on file before in
    let first : List Item = flat_map items before in
    let here : List Item = items p in
    let rest : List Item = flat_map items after in
    let placed = of_flat_map (listed_entry file) (enumerate_from (n + 1) here) pair at in
    let start : 1 + length first ≡ n + 1 = omega arith in
    let all : flat_map items (leaves file tree.root) ≡ first ++ (here ++ rest) =
    ap (flat_map items) parts ∙ flat_map-append items before (p ∷ after) in
    let among : Contains (enumerate_from 1 (flat_map items (leaves file tree.root))) placed.0 =
    subst (λ list. Contains (enumerate_from 1 list) placed.0) (sym all)
    (subst (λ list. Contains list placed.0) (sym (enumerate_parts 1 first (here ++ rest)))
    (Contains-append_right (enumerate_from 1 first) (enumerate_from (1 + length first) (here ++ rest)) placed.0
    (subst (λ m. Contains (enumerate_from m (here ++ rest)) placed.0) (sym start)
    (subst (λ list. Contains list placed.0) (sym (enumerate_parts (n + 1) here rest))
    (Contains-append_left (enumerate_from (n + 1) here) (enumerate_from ((n + 1) + length here) rest) placed.0 placed.1))))) in
    in_flat_map (listed_entry file) (enumerate_from 1 (flat_map items (leaves file tree.root))) placed.0 pair among placed.2

-- a record of the list has a number, and the length that is fixed
fits_of : (image : List ℕ) (meta : ℕ) (tree : BtreeMeta) (n : ℕ) (value : List ℕ) → IsRecnoOn image meta tree
    → Contains (recno_list (file_of image) tree.root) (NumberKey n, value) → fits_record (BtreeFields tree) (n, value) ≡ true
fits_of image meta tree n value on at =
    let file : File = file_of image in
    let found = of_recno file tree.root (NumberKey n, value) at in
    let place = of_enumerate 1 (tree_entries file tree.root) found.0 found.1 in
    let same : n ≡ found.0.0 = numbers n found.0.0 found.2.key in
    let low : n < 2 ^ 32 = omega (arith, same, place.1, few image meta tree on) in
    let long = (kept image meta tree on).long (NumberKey n, value) at in
    and_from (nat_lt n (2 ^ 32)) (not (is_fixed tree) || tree.re_len == 0 || length value == tree.re_len) (lt-ltb n (2 ^ 32) low)
    (by_fixed (is_fixed tree) refl (λ fixed. long (ap (λ b. b && true) fixed)))
  where
    numbers : (m k : ℕ) → ◌≡◌ {A = ListKey} (NumberKey m) (NumberKey k) → m ≡ k
    numbers m k same = cc

    either_zero : (b : Bool) → (b || true) ≡ true
    either_zero true = refl
    either_zero false = refl

    by_fixed : (b : Bool) → is_fixed tree ≡ b → (is_fixed tree ≡ true → length value ≡ tree.re_len)
        → (not b || tree.re_len == 0 || length value == tree.re_len) ≡ true
    by_fixed false is long = refl
    by_fixed true is long =
        ap (λ b. tree.re_len == 0 || b) (eq-eqb (length value) tree.re_len (long is)) ∙ either_zero (tree.re_len == 0)

-- all records of a leaf fit
pub all_fit : (image : List ℕ) (meta : ℕ) (tree : BtreeMeta) (before : List ℕ) (p : ℕ) (after : List ℕ) (placed : ℕ × List ℕ)
    → IsRecnoOn image meta tree → leaves (file_of image) tree.root ≡ before ++ p ∷ after → p ≤ (file_of image).last
    → Contains (numbered_on (guessed image) p (entries_on (file_of image) before)) placed → fits_record (BtreeFields tree) placed ≡ true
all_fit image meta tree before p after placed on parts low at =
    let start : ℕ = entries_on (file_of image) before in
    fits_of image meta tree placed.0 placed.1 on
    (in_list image meta tree before p after (numbered_record placed) on parts
    (subst (λ list. Contains list (numbered_record placed)) (numbered_is image p start on.is low)
    (in_map numbered_record (numbered_on (guessed image) p start) placed at)))

-- No record is left.

pub beside_none : (file : File) (p : ℕ) (db : Option Found) → entries_in (page_at file p) ≡ [] → records_beside file p db ≡ []
unfolding live_whole
beside_none file p None none = ap (flat_map (live_value file)) none
beside_none file p (Some db) none = without (start_in file db p)
  where
    without : (start : Option ℕ) → records_without file db p start ≡ []
    without None = ap (flat_map (live_value file)) none
    without (Some start) =
        ap (λ items. map (λ (placed : ℕ × List ℕ). placed.1) (filter (λ placed. not (fits_record db.fields placed))
        (flat_map (numbered_entry file) (enumerate_from (start + 1) items)))) none

abbrev has_entries : Page → Bool
has_entries (RecnoLeaf page) = true
has_entries (DupLeaf page) = true
has_entries page = false

some_entries : (page : Page) → entries_in page ≢ [] → has_entries page ≡ true
some_entries (RecnoLeaf page) some = refl
some_entries (DupLeaf page) some = refl
some_entries page some = absurd (some refl)

entries_typed : (page : Page) → has_entries page ≡ true → has_type (5 ∷ 6 ∷ 12 ∷ []) (type_in page) ≡ true
entries_typed (RecnoLeaf page) is = refl
entries_typed (DupLeaf page) is = refl
entries_typed page is = absurd cc

start_there : (file : File) (db : Found) (p : ℕ) (home : Home) → is_recno_db db.fields ≡ true → is_record_page (page_at file p) ≡ true
    → (home.meta == db.meta) ≡ true → is_taken file p ≡ false → start_at file db p (Some home) ≡ Some home.start
start_there file db p home recno page meta free =
    ap (λ b. cond (b && is_record_page (page_at file p) && home.meta == db.meta && not (is_taken file p)) (Some home.start) None) recno
    ∙ (ap (λ b. cond (b && home.meta == db.meta && not (is_taken file p)) (Some home.start) None) page
    ∙ (ap (λ b. cond (b && not (is_taken file p)) (Some home.start) None) meta ∙ ap (λ b. cond (not b) (Some home.start) None) free))

-- the database of a recno is found
pub recno_found : (image : List ℕ) (meta : ℕ) (tree : BtreeMeta) → IsRecnoOn image meta tree → IsFoundAt image meta (BtreeFields tree)
recno_found image meta tree on =
    is_found image meta (BtreeFields tree) on.is on.page (none_keyed (master_in (page_at (file_of image) 0)) refl)
  where
    file : File
    file = file_of image

    keyed : (master : BtreeMeta) → master_in (page_at file 0) ≡ Some master → meta ≡ 0 → ⊥
    keyed master is zero =
        let page : Meta (BtreeFields tree) ≡ Meta (BtreeFields master) =
        sym on.page ∙ (ap (page_at file) zero ∙ master_is (page_at file 0) master is) in
        let same : tree ≡ master = cc in
        let both : true ≡ false = sym on.recno ∙ (ap is_recno same ∙ master_keys image master on.is.sound.forest is) in cc

    none_keyed : (master : Option BtreeMeta) → master_in (page_at file 0) ≡ master → meta ≡ 0 → master_in (page_at file 0) ≡ None
    none_keyed None none zero = none
    none_keyed (Some master) is zero = absurd (keyed master is zero)

-- where the records of a leaf stand in it
pub start_of : (image : List ℕ) (meta : ℕ) (tree : BtreeMeta) (before : List ℕ) (p : ℕ) (after : List ℕ) (db : Found) → IsRecnoOn image meta tree
    → leaves (file_of image) tree.root ≡ before ++ p ∷ after → Contains (leaves (file_of image) tree.root) p → p ≤ (file_of image).last
    → is_taken (guessed image) p ≡ false → db.meta ≡ meta → db.fields ≡ BtreeFields tree
    → start_in (guessed image) db p ≡ Some (entries_on (file_of image) before)
start_of image meta tree before p after db on parts at low free same fields =
    let g : File = guessed image in
    let view = leaf_view image meta tree p on at in
    let page : is_record_page (page_at g p) ≡ true = ap is_record_page (page_is image p on.is low ∙ view.1) in
    ap (start_at g db p) (start_is image meta tree before p after on parts)
    ∙ start_there g db p (record { meta = meta; start = entries_on (file_of image) before }) (ap is_recno_db fields ∙ on.recno) page
    (eq-eqb meta db.meta (sym same)) free

left_of_recno : (image : List ℕ) (meta : ℕ) (tree : BtreeMeta) (p : ℕ) → IsRecnoOn image meta tree → Contains (leaves (file_of image) tree.root) p
    → p ≤ (file_of image).last → is_taken (guessed image) p ≡ false
    → records_beside (guessed image) p (db_at (found (read image)) (meta_at (home (guessed image) p))) ≡ []
left_of_recno image meta tree p on at low free =
    let g : File = guessed image in
    let parts = split (leaves (file_of image) tree.root) p at in
    let start : ℕ = entries_on (file_of image) parts.0 in
    let of : IsFoundAt image meta (BtreeFields tree) = recno_found image meta tree on in
    ap (λ h. records_beside g p (db_at (found (read image)) (meta_at h))) (start_is image meta tree parts.0 p parts.1 on parts.2)
    ∙ (ap (records_beside g p) of.at
    ∙ (ap (records_without g of.db p) (start_of image meta tree parts.0 p parts.1 of.db on parts.2 at low free of.meta_is of.fields_are)
    ∙ ap (map (λ (placed : ℕ × List ℕ). placed.1))
    (nothing_passes (λ placed. not (fits_record of.db.fields placed)) (numbered_on g p start)
    (λ placed among.
    ap (λ fields. not (fits_record fields placed)) of.fields_are
    ∙ ap not (all_fit image meta tree parts.0 p parts.1 placed on parts.2 low among)))))

no_record_left_on : (image : List ℕ) (p : ℕ) → IsSeen image → records_left_on (guessed image) (found (read image)) p ≡ []
no_record_left_on image p is = by_taken (is_taken g p) refl
  where
    file : File
    file = file_of image

    g : File
    g = guessed image

    left : List (List ℕ)
    left = records_beside g p (db_at (found (read image)) (meta_at (home g p)))

    of_leaf : p ≤ file.last → entries_in (page_at file p) ≢ [] → is_taken g p ≡ false → IsLeafOf file p ⊎ IsOfSet file p → left ≡ []
    of_leaf low some free (inr set) =
        absurd (let both : true ≡ false = sym (taken_all image p is.whole is.is.bytes set) ∙ free in cc)
    of_leaf low some free (inl of) =
        let inside : of.meta ≤ file.last = inside_file image is_meta of.meta refl (ap is_meta of.at) in
        elim (cases_Bool (is_recno of.tree)) [
          | inl recno ↦ left_of_recno image of.meta of.tree p (record { is = is; page = of.at; recno = recno; inside = inside }) of.leaf low free
          | inr keyed ↦
              absurd (some (no_records_in_btree image of.tree p is.sound (record { page = of.meta; inside = inside; is = of.at }) keyed of.leaf))
        ]

    by_taken : (b : Bool) → is_taken g p ≡ b → cond b [] left ≡ []
    by_taken true taken = refl
    by_taken false free = elim (nothing_or_some (entries_in (page_at g p))) [
      | inl none ↦ beside_none g p (db_at (found (read image)) (meta_at (home g p))) none
      | inr some ↦
          let low : p ≤ file.last = inside image has_entries p is refl refl (some_entries (page_at g p) some) in
          let same : page_at g p ≡ page_at file p = page_is image p is low in
          let typed : has_type (5 ∷ 6 ∷ 12 ∷ []) (type_in (page_at file p)) ≡ true =
          entries_typed (page_at file p) (sym (ap has_entries same) ∙ some_entries (page_at g p) some) in
          of_leaf low (λ none. some (ap entries_in same ∙ none)) free (leaves_are_of_one image p is.sound.forest is.sound.kind low typed)
    ]

pub no_record_is_left : NoRecordIsLeft
unfolding records_left
no_record_is_left image is =
    nothing_joined (records_left_on (guessed image) (found (read image))) (range_with_len 0 (guessed image).count)
    (λ p at. no_record_left_on image p (seen image is))
