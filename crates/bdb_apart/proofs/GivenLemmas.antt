-- What is given of a database stands on the pages of its row.
use Rattle.std.proofs.Common.{◌≡◌, ℕ, ◌+◌, ◌-◌, ◌<◌, Bool, true, false, cond, List, [], ◌∷◌, ◌++◌, map, length, get_or, arith, refl, sym, ◌∙◌, ap}
use Rattle.std.specs.Prelude.{◌&&◌, ◌==◌, not, Option, Some, None}
use Rattle.std.specs.List.{Contains, enumerate_from, filter, flat_map, range_with_len}
use Rattle.std.proofs.lemmas.List.{ext_get_or}
use Rattle.std.proofs.lemmas.List.FromFn.{get_or-enumerate_from, get_or-map-range_with_len, length-enumerate_from, length-map-range_with_len}
use Rattle.std.proofs.lemmas.List.Folds.{flat_map-map}
use Rattle.bdb_rescue.proofs.of_format.ListLemmas.{flat_map_same, map_joined}
use Rattle.bdb_rescue.proofs.of_format.MemberLemmas.{first_member, later_member, of_range}
use Rattle.bdb_rescue.specs.of_format.declared.metadata.QueueMeta.{QueueMeta}
use Rattle.bdb_rescue.specs.of_format.Terms.{BtreeFields, File, HashFields, Item, Metadata, Page, QueueFields, RecnoLeaf, entries_in, no_item, page_at}
use Rattle.bdb_rescue.specs.of_format.Terms.{value_of}
use Rattle.bdb_rescue.specs.of_survey.Items.{is_valued, slot_at, slots_in}
use Rattle.bdb_rescue.specs.of_survey.Salvage.{is_taken, stored_on}
use Rattle.bdb_rescue.specs.Kept.{Reading, file_in, kept_value, numbered_at, values_in, values_on}
use Rattle.bdb_rescue.proofs.StoredLemmas.{AreOn, values_are}
use Rattle.bdb_homes.specs.Homes.{home}
use Rattle.bdb_homes.specs.declared.home.Home.{Home}
use Rattle.bdb_apart.specs.Found.{Found, is_alone}
use Rattle.bdb_apart.specs.Given.{above, fits_record, gives_pairs, holds_pairs, is_pair_page, is_record_page, is_recno_db, meta_at, numbered_entry, numbered_on}
use Rattle.bdb_apart.specs.Given.{in_image, pairs_given, records_by, records_from, records_given, records_on, start_at, start_in}
use Rattle.bdb_apart.specs.Kept.{fits_in, holds_of, row_in}
use Rattle.bdb_apart.specs.Left.{fit_left, fit_on, numbered_from, pairs_on, start_of, start_on}
use Rattle.bdb_apart.specs.Queues.{queue_records}
use Rattle.bdb_apart.specs.Rows.{is_below, is_some_of, row_from}
use Rattle.bdb_apart.specs.declared.holds.Holds.{Holds}
use Rattle.bdb_apart.proofs.KindLemmas.{no_pairs, pairs_kind, takes_none, takes_those}

abbrev pub aboves : File → List (Option ℕ)
aboves file = map (above file) (range_with_len 0 file.count)

pub above_at : (file : File) (p : ℕ) → p < file.count → get_or (aboves file) p None ≡ above file p
above_at file p there = get_or-map-range_with_len (above file) 0 file.count p p None there (omega arith)

-- Lists of pages.

pub filter_same : {X : Type 0} (test other : X → Bool) (xs : List X) → ((x : X) → Contains xs x → test x ≡ other x) → filter test xs ≡ filter other xs
filter_same test other [] same = refl
filter_same test other (x ∷ xs) same =
    ap (λ b. cond b (x ∷ filter test xs) (filter test xs)) (same x (first_member x xs))
    ∙ ap (λ ys. cond (other x) (x ∷ ys) ys) (filter_same test other xs (λ y inside. same y (later_member x xs y inside)))

filter_none : {X : Type 0} (test : X → Bool) (xs : List X) → ((x : X) → test x ≡ false) → filter test xs ≡ []
filter_none test [] none = refl
filter_none test (x ∷ xs) none = ap (λ b. cond b (x ∷ filter test xs) (filter test xs)) (none x) ∙ filter_none test xs none

-- those of the pages that pass two tests
by_both : {Y : Type 0} (f : ℕ → List Y) (here holds : ℕ → Bool) (ps : List ℕ)
    → flat_map f (filter (λ p. here p && holds p) ps) ≡ flat_map (λ p. cond (holds p) (f p) []) (filter here ps)
by_both f here holds [] = refl
by_both {Y = Y} f here holds (p ∷ ps) = by_tests (here p) (holds p) refl refl (by_both f here holds ps)
  where
    both : List ℕ
    both = filter (λ q. here q && holds q) ps

    one : List ℕ
    one = filter here ps

    g : ℕ → List Y
    g q = cond (holds q) (f q) []

    by_tests : (a b : Bool) → here p ≡ a → holds p ≡ b → flat_map f both ≡ flat_map g one
        → flat_map f (cond (here p && holds p) (p ∷ both) both) ≡ flat_map g (cond (here p) (p ∷ one) one)
    by_tests true true isa isb rest =
        ap (λ c. flat_map f (cond c (p ∷ both) both)) (ap (λ x. x && holds p) isa ∙ isb)
        ∙ (ap (λ ys. f p ++ ys) rest
        ∙ (ap (λ c. cond c (f p) [] ++ flat_map g one) (sym isb)
        ∙ sym (ap (λ c. flat_map g (cond c (p ∷ one) one)) isa)))
    by_tests true false isa isb rest =
        ap (λ c. flat_map f (cond c (p ∷ both) both)) (ap (λ x. x && holds p) isa ∙ isb)
        ∙ (rest
        ∙ (ap (λ c. cond c (f p) [] ++ flat_map g one) (sym isb)
        ∙ sym (ap (λ c. flat_map g (cond c (p ∷ one) one)) isa)))
    by_tests false b isa isb rest =
        ap (λ c. flat_map f (cond c (p ∷ both) both)) (ap (λ x. x && holds p) isa)
        ∙ (rest ∙ sym (ap (λ c. flat_map g (cond c (p ∷ one) one)) isa))

-- those of the pages that pass one
by_one : {Y : Type 0} (f : ℕ → List Y) (here : ℕ → Bool) (ps : List ℕ) → flat_map f (filter here ps) ≡ flat_map (λ p. cond (here p) (f p) []) ps
by_one f here [] = refl
by_one {Y = Y} f here (p ∷ ps) = by_test (here p) (by_one f here ps)
  where
    by_test : (b : Bool) → flat_map f (filter here ps) ≡ flat_map (λ q. cond (here q) (f q) []) ps
        → flat_map f (cond b (p ∷ filter here ps) (filter here ps)) ≡ cond b (f p) [] ++ flat_map (λ q. cond (here q) (f q) []) ps
    by_test true rest = ap (λ ys. f p ++ ys) rest
    by_test false rest = rest

-- a row by what the pages are below
pub row_by : (file : File) (m : ℕ) → filter (λ p. is_some_of m (above file p)) (range_with_len 0 file.count) ≡ row_from (aboves file) m 0
row_by file m =
    filter_same (λ p. is_some_of m (above file p)) (is_below (aboves file) m) (range_with_len 0 file.count)
    (λ p inside. ap (is_some_of m) (sym (above_at file p (omega (arith, (of_range 0 file.count p inside).1)))))
    ∙ ap (λ n. filter (is_below (aboves file) m) (range_with_len 0 n))
    (let all : file.count ≡ length (aboves file) - 0 = omega (arith, length-map-range_with_len (above file) 0 file.count) in all)

-- Pairs.

pub pairs_row : (file : File) (db : Found) → flat_map (stored_on file) (filter (gives_pairs file db) (range_with_len 0 file.count))
    ≡ flat_map (pairs_on file (holds_of db.fields)) (row_from (aboves file) db.meta 0)
pairs_row file db =
    by_both (stored_on file) (λ p. is_some_of db.meta (above file p)) (λ p. holds_pairs db.fields (page_at file p)) (range_with_len 0 file.count)
    ∙ (flat_map_same (λ p. cond (holds_pairs db.fields (page_at file p)) (stored_on file p) []) (pairs_on file (holds_of db.fields))
    (filter (λ p. is_some_of db.meta (above file p)) (range_with_len 0 file.count))
    (λ p inside. ap (λ b. cond b (stored_on file p) []) (sym (pairs_kind db.fields (page_at file p))))
    ∙ ap (flat_map (pairs_on file (holds_of db.fields))) (row_by file db.meta))

-- Records.

pub enumerated : (n : ℕ) (items : List Item) → enumerate_from n items ≡ map (λ i. (n + i, slot_at items i)) (range_with_len 0 (length items))
enumerated n items =
    ext_get_or (0, no_item) (enumerate_from n items) (map (λ i. (n + i, slot_at items i)) (range_with_len 0 (length items)))
    (length-enumerate_from n items ∙ sym (length-map-range_with_len (λ i. (n + i, slot_at items i)) 0 (length items)))
    (λ i inside.
    let there : i < length items = omega (arith, inside, length-enumerate_from n items) in
    get_or-enumerate_from n items i (0, no_item) there
    ∙ sym (get_or-map-range_with_len (λ i. (n + i, slot_at items i)) 0 (length items) i i (0, no_item) there (omega arith)))

pub value_numbered : (file : File) (p i start : ℕ) (items : List Item) → AreOn file p items → map (numbered_at file start) (kept_value file p items i)
    ≡ numbered_entry file (start + 1 + i, slot_at items i)
value_numbered file p i start items on =
    let item : Item = slot_at items i in
    by_deleted item.deleted (is_valued file item.content)
    ∙ ap (λ values. map (λ value. (start + 1 + i, value)) (cond item.deleted [] values)) (sym (values_are file item.content))
  where
    at : numbered_at file start (record { page = p; index = i }) ≡ (start + 1 + i, value_of file (slot_at items i).content)
    at =
        ap (λ (item : Item). (start + i + 1, value_of file item.content)) (on i)
        ∙ ap (λ n. (n, value_of file (slot_at items i).content)) (let same : start + i + 1 ≡ start + 1 + i = omega arith in same)

    by_deleted : (deleted valued : Bool) → map (numbered_at file start) (cond deleted [] (cond valued (record { page = p; index = i } ∷ []) []))
        ≡ map (λ value. (start + 1 + i, value)) (cond deleted [] (cond valued (value_of file (slot_at items i).content ∷ []) []))
    by_deleted true valued = refl
    by_deleted false true = ap (λ placed. placed ∷ []) at
    by_deleted false false = refl

values_numbered : (file : File) (p start : ℕ) (items : List Item) → AreOn file p items
    → map (numbered_at file start) (values_in file p items) ≡ flat_map (numbered_entry file) (enumerate_from (start + 1) items)
values_numbered file p start items on =
    let indexes : List ℕ = range_with_len 0 (length items) in
    map_joined (numbered_at file start) (kept_value file p items) indexes
    ∙ (flat_map_same (λ i. map (numbered_at file start) (kept_value file p items i)) (λ i. numbered_entry file (start + 1 + i, slot_at items i)) indexes
    (λ i inside. value_numbered file p i start items on)
    ∙ (sym (flat_map-map (numbered_entry file) (λ i. (start + 1 + i, slot_at items i)) indexes)
    ∙ ap (flat_map (numbered_entry file)) (sym (enumerated (start + 1) items))))

page_numbered : (file : File) (p start : ℕ) (page : Page) → page_at file p ≡ page → is_record_page page ≡ true
    → map (numbered_at file start) (values_in file p (entries_in page))
    ≡ flat_map (numbered_entry file) (enumerate_from (start + 1) (entries_in page))
page_numbered file p start (RecnoLeaf page) is so = values_numbered file p start page.items (λ j. ap (λ pg. slot_at (slots_in pg) j) is)
page_numbered file p start page is so = absurd cc

-- the values that are kept of a leaf of records are its records
pub numbered_is : (file : File) (p start : ℕ) → is_record_page (page_at file p) ≡ true
    → map (numbered_at file start) (values_on file p) ≡ numbered_on file p start
unfolding values_on
numbered_is file p start so = page_numbered file p start (page_at file p) refl so

either : {X : Type 0} (b : Bool) (xs : List X) → cond b xs xs ≡ xs
either true xs = refl
either false xs = refl

abbrev from_start : File → ℕ → Bool → Option ℕ → Option (List (ℕ × List ℕ))
from_start file p taken None = None
from_start file p taken (Some start) = Some (map (numbered_at file start) (cond taken [] (values_on file p)))

abbrev records_by_start : File → Metadata → ℕ → Option ℕ → List (ℕ × List ℕ)
records_by_start file fields p None = []
records_by_start file fields p (Some start) = filter (fits_record fields) (numbered_on file p start)

abbrev pub start_if : Bool → Bool → ℕ → Bool → Option Home → Option ℕ
start_if recno leaf m taken None = None
start_if recno leaf m taken (Some home) = cond (recno && leaf && home.meta == m && not taken) (Some home.start) None

-- the records of a page in a row
page_by : (file : File) (fields : Metadata) (m p : ℕ) (h : Option Home) (alone pairs leaf taken : Bool) → (leaf ≡ true → pairs ≡ false)
    → (leaf ≡ true → (start : ℕ) → map (numbered_at file start) (values_on file p) ≡ numbered_on file p start)
    → cond (is_some_of m (cond (alone && pairs) (Some 0) (meta_at h)))
    (filter (fits_in (holds_of fields)) (fit_left (from_start file p taken (cond leaf (start_of h) None)))) []
    ≡ records_by_start file fields p (start_if (is_recno_db fields) leaf m taken h)
page_by file fields m p None alone pairs false taken apart same = either (is_some_of m (cond (alone && pairs) (Some 0) None)) []
page_by file fields m p (Some home) alone pairs false taken apart same =
    either (is_some_of m (cond (alone && pairs) (Some 0) (Some home.meta))) [] ∙ by_recno (is_recno_db fields)
  where
    by_recno : (recno : Bool) → [] ≡ records_by_start file fields p (cond (recno && false && home.meta == m && not taken) (Some home.start) None)
    by_recno true = refl
    by_recno false = refl
page_by file fields m p None alone pairs true taken apart same = by_alone alone pairs (apart refl)
  where
    by_alone : (alone pairs : Bool) → pairs ≡ false → cond (is_some_of m (cond (alone && pairs) (Some 0) None)) (filter (fits_in (holds_of fields)) []) [] ≡ []
    by_alone true true is = absurd cc
    by_alone true false is = refl
    by_alone false pairs is = refl
page_by file fields m p (Some home) alone pairs true taken apart same =
    by_alone alone pairs (apart refl) ∙ by_home (home.meta == m) (is_recno_db fields) taken refl
  where
    records : List (ℕ × List ℕ)
    records = map (numbered_at file home.start) (cond taken [] (values_on file p))

    by_alone : (alone pairs : Bool) → pairs ≡ false
        → cond (is_some_of m (cond (alone && pairs) (Some 0) (Some home.meta))) (filter (fits_in (holds_of fields)) records) []
        ≡ cond (home.meta == m) (filter (fits_in (holds_of fields)) records) []
    by_alone true true is = absurd cc
    by_alone true false is = refl
    by_alone false pairs is = refl

    by_home : (at recno taken : Bool) → is_recno_db fields ≡ recno
        → cond at (filter (fits_in (holds_of fields)) (map (numbered_at file home.start) (cond taken [] (values_on file p)))) []
        ≡ records_by_start file fields p (cond (recno && true && at && not taken) (Some home.start) None)
    by_home false true taken is = refl
    by_home false false taken is = refl
    by_home true false taken is =
        filter_none (fits_in (holds_of fields)) (map (numbered_at file home.start) (cond taken [] (values_on file p))) (λ placed. takes_none fields placed is)
    by_home true true true is = refl
    by_home true true false is =
        ap (filter (fits_in (holds_of fields))) (same refl home.start)
        ∙ filter_same (fits_in (holds_of fields)) (fits_record fields) (numbered_on file p home.start) (λ placed inside. takes_those fields placed is)

-- the same by the definitions
pub start_is : (file : File) (db : Found) (p : ℕ) (h : Option Home)
    → start_if (is_recno_db db.fields) (is_record_page (page_at file p)) db.meta (is_taken file p) h ≡ start_at file db p h
start_is file db p None = refl
start_is file db p (Some home) = refl

records_are : (file : File) (db : Found) (p : ℕ) (start : Option ℕ) → records_by_start file db.fields p start ≡ records_from file db p start
records_are file db p None = refl
records_are file db p (Some start) = refl

numbered_are : (file : File) (p : ℕ) (start : Option ℕ) → numbered_from file p start ≡ from_start file p (is_taken file p) start
numbered_are file p None = refl
numbered_are file p (Some start) = refl

page_row : (file : File) (db : Found) (p : ℕ) → cond (is_some_of db.meta (above file p)) (fit_on file (holds_of db.fields) p) [] ≡ records_on file db p
page_row file db p =
    ap (λ records. cond (is_some_of db.meta (above file p)) (filter (fits_in (holds_of db.fields)) (fit_left records)) [])
    (numbered_are file p (start_on file p))
    ∙ (page_by file db.fields db.meta p (home file p) (is_alone (page_at file 0)) (is_pair_page (page_at file p))
    (is_record_page (page_at file p)) (is_taken file p)
    (no_pairs (page_at file p)) (λ leaf start. numbered_is file p start leaf)
    ∙ (ap (records_by_start file db.fields p) (start_is file db p (home file p)) ∙ records_are file db p (start_in file db p)))

pub records_row : (file : File) (db : Found) → flat_map (records_on file db) (range_with_len 0 file.count)
    ≡ flat_map (fit_on file (holds_of db.fields)) (row_from (aboves file) db.meta 0)
records_row file db =
    flat_map_same (records_on file db) (λ p. cond (is_some_of db.meta (above file p)) (fit_on file (holds_of db.fields) p) []) (range_with_len 0 file.count)
    (λ p inside. sym (page_row file db p))
    ∙ (sym (by_one (fit_on file (holds_of db.fields)) (λ p. is_some_of db.meta (above file p)) (range_with_len 0 file.count))
    ∙ ap (flat_map (fit_on file (holds_of db.fields))) (row_by file db.meta))

-- a database that is no queue has its records on leaves
pub given_on_leaves : (reading other : Reading) (db : Found) (holds : Holds) (pages : List ℕ) → ((meta : QueueMeta) → db.fields ≡ QueueFields meta → ⊥)
    → other ≡ reading → holds ≡ holds_of db.fields → pages ≡ row_in reading db.meta
    → flat_map (fit_on (file_in other) holds) pages ≡ records_given (in_image reading db)
unfolding records_given
given_on_leaves reading other db holds pages none same held row =
    ap (λ r. flat_map (fit_on (file_in r) holds) pages) same
    ∙ (ap (λ h. flat_map (fit_on (file_in reading) h) pages) held
    ∙ (ap (flat_map (fit_on (file_in reading) (holds_of db.fields))) row ∙ sym (by_fields db.fields none ∙ records_row (file_in reading) db)))
  where
    by_fields : (fields : Metadata) → ((meta : QueueMeta) → fields ≡ QueueFields meta → ⊥)
        → records_by reading db fields ≡ flat_map (records_on (file_in reading) db) (range_with_len 0 (file_in reading).count)
    by_fields (BtreeFields meta) none = refl
    by_fields (HashFields meta) none = refl
    by_fields (QueueFields meta) none = absurd (none meta refl)

-- and a queue has them in slots
pub given_in_slots : (reading other : Reading) (db : Found) (meta : QueueMeta) → db.fields ≡ QueueFields meta → other ≡ reading
    → queue_records other meta ≡ records_given (in_image reading db)
unfolding records_given
given_in_slots reading other db meta is same = ap (λ r. queue_records r meta) same ∙ sym (ap (records_by reading db) is)

pub given_pairs : (reading other : Reading) (db : Found) (holds : Holds) (pages : List ℕ)
    → other ≡ reading → holds ≡ holds_of db.fields → pages ≡ row_in reading db.meta
    → flat_map (pairs_on (file_in other) holds) pages ≡ pairs_given (in_image reading db)
unfolding pairs_given
given_pairs reading other db holds pages same held row =
    ap (λ r. flat_map (pairs_on (file_in r) holds) pages) same
    ∙ (ap (λ h. flat_map (pairs_on (file_in reading) h) pages) held
    ∙ (ap (flat_map (pairs_on (file_in reading) (holds_of db.fields))) row ∙ sym (pairs_row (file_in reading) db)))
