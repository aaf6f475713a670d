-- What is counted of the pages of a database, and of all pages, is what is counted of the database and of the image.
use Rattle.std.proofs.Common.{◌≡◌, ℕ, zero, suc, ◌+◌, ◌-◌, ◌*◌, ◌/◌, ◌^◌, ◌≤◌, ◌<◌, Bool, true, false, cond, List, [], ◌∷◌, ◌++◌, length, map, arith, refl, sym}
use Rattle.std.proofs.Common.{◌∙◌, ap}
use Rattle.std.proofs.Common.{drop, zero-add, Option, Some, None}
use Rattle.std.proofs.lemmas.List.{length-map}
use Rattle.std.specs.Prelude.{◌==◌, ◌&&◌, not}
use Rattle.std.specs.List.{count_by, enumerate_from, filter, flat_map, range_with_len, sum_by}
use Rattle.std.proofs.Math.Nat.{mul-le-mul_left}
use Rattle.std.proofs.lemmas.Bool.{lt-ltb}
use Rattle.std.proofs.lemmas.List.Sums.{length-filter, sum_by-cons}
use Rattle.std.proofs.lemmas.List.FromFn.{length-range_with_len}
use Rattle.bdb_apart.specs.of_format.declared.metadata.QueueMeta.{QueueMeta}
use Rattle.bdb_apart.specs.of_format.Flags.{has_records}
use Rattle.bdb_apart.specs.of_format.Terms.{BtreeFields, File, HashFields, Metadata, QueueFields, entries_in, is_record, pad4, page_at}
use Rattle.bdb_apart.specs.of_format.Terms.{is_fixed, is_recno}
use Rattle.bdb_apart.specs.of_survey.Salvage.{is_taken, stored_on}
use Rattle.bdb_apart.proofs.of_homes.Homes.{home}
use Rattle.bdb_apart.proofs.of_homes.declared.home.Home.{Home}
use Rattle.bdb_apart.specs.of_rescue.Kept.{Reading, file_in}
use Rattle.bdb_apart.specs.of_rescue.Text.{bytes_pair, numbered_record}
use Rattle.bdb_apart.specs.Found.{Found, found, is_alone, is_master_leaf}
use Rattle.bdb_apart.specs.Given.{FoundIn, above, are_given, fits_record, gives_pairs, holds_pairs, is_pair_page, is_recno_db, is_record_page, meta_at}
use Rattle.bdb_apart.specs.Given.{names_found, numbered_entry}
use Rattle.bdb_apart.specs.Given.{pairs_given, pairs_left, pairs_left_on, records_given, records_left, records_left_on}
use Rattle.bdb_apart.specs.Kept.{IsKnown, fits_in, holds_in, holds_of, row_in}
use Rattle.bdb_apart.specs.Left.{fit_on, pairs_on, start_of}
use Rattle.bdb_apart.specs.Queues.{bytes_at, is_queue_page, queue_records, queue_records_on, queue_slot, queue_slots_from}
use Rattle.bdb_apart.specs.Rows.{is_some_of, row_from}
use Rattle.bdb_apart.specs.Slots.{HasSlots}
use Rattle.bdb_apart.specs.declared.holds.Holds.{Holds}
use Rattle.bdb_apart.specs.declared.holds.Holds.TheVariants.{Leaves, Records, Slots}
use Rattle.bdb_apart.proofs.GivenLemmas.{aboves, filter_same, given_in_slots, given_on_leaves, given_pairs, row_by, start_if, start_is}
use Rattle.bdb_apart.proofs.KindLemmas.{no_pairs, pairs_kind, takes_those}
use Rattle.bdb_apart.proofs.SlotLemmas.{has_slots}
use Rattle.bdb_apart.proofs.of_law_sums.CountLemmas.{sum_same}
use Rattle.bdb_apart.proofs.of_law_sums.TreeLemmas.{sum_filter}
use Rattle.bdb_apart.proofs.of_format.MemberLemmas.{of_range}
use Rattle.bdb_apart.proofs.of_format.SizeLemmas.{size_bounds}
use Rattle.bdb_damage.specs.Pages.{is_zero_at, zero_pages}
use Rattle.bdb_damage.specs.Counts.{given_count, is_lost_entry, lost_count, lost_in, lost_pairs, lost_pairs_on, lost_records, lost_records_from}
use Rattle.bdb_damage.specs.Counts.{lost_records_on}
use Rattle.bdb_damage.specs.Counts.{rest_pairs, rest_records}
use Rattle.bdb_damage.specs.Tallies.{is_lost_by, is_zero_above, lost_at, lost_from, lost_in_row}
use Rattle.bdb_damage.proofs.RoomLemmas.{IsLegal, flat_short}
use Rattle.bdb_damage.proofs.StepLemmas.{joined_sum}

-- Sums over the row of a database.

-- of the pages that pass a test, those in a row
sum_row : (file : File) (m : ℕ) (f g : ℕ → ℕ) → ((p : ℕ) → f p ≡ cond (is_some_of m (above file p)) (g p) 0)
    → sum_by f (range_with_len 0 file.count) ≡ sum_by g (row_from (aboves file) m 0)
sum_row file m f g same =
    sum_same f (λ p. cond (is_some_of m (above file p)) (g p) 0) (range_with_len 0 file.count) (λ p inside. same p)
    ∙ (sym (sum_filter g (λ p. is_some_of m (above file p)) (range_with_len 0 file.count))
    ∙ ap (sum_by g) (row_by file m))

by_both : (a b : Bool) (n : ℕ) → cond (a && b) n 0 ≡ cond a (cond b n 0) 0
by_both true b n = refl
by_both false b n = refl

lost_pairs_row : (file : File) (db : Found) → sum_by (lost_in_row file (holds_of db.fields)) (row_from (aboves file) db.meta 0) ≡ lost_pairs file db
lost_pairs_row file db =
    sym (sum_filter (lost_pairs_on file) (gives_pairs file db) (range_with_len 0 file.count)
    ∙ sum_row file db.meta (λ p. cond (gives_pairs file db p) (lost_pairs_on file p) 0) (lost_in_row file (holds_of db.fields))
    (λ p. by_both (is_some_of db.meta (above file p)) (holds_pairs db.fields (page_at file p)) (lost_pairs_on file p)
    ∙ ap (λ (b : Bool). cond {A = ℕ} (is_some_of db.meta (above file p)) (cond b (lost_pairs_on file p) 0) 0) (sym (pairs_kind db.fields (page_at file p)))))

nothing : (b : Bool) → cond {A = ℕ} b 0 0 ≡ 0
nothing true = refl
nothing false = refl

lost_same : (file : File) (db : Found) (p start : ℕ) → is_recno_db db.fields ≡ true
    → lost_records_from file db p (Some start) ≡ lost_from file (holds_of db.fields) p (Some start)
lost_same file db p start is =
    sum_same (λ entry. cond (is_lost_entry file db.fields entry) 1 0) (λ entry. cond (is_lost_by file (holds_of db.fields) entry) 1 0)
    (enumerate_from (start + 1) (entries_in (page_at file p)))
    (λ entry inside. ap (λ (records : List (ℕ × List ℕ)). cond {A = ℕ} (not entry.1.deleted && length records == 0) 1 0)
    (filter_same (fits_record db.fields) (fits_in (holds_of db.fields)) (numbered_entry file entry)
    (λ placed at. sym (takes_those db.fields placed is))))

by_home : (file : File) (db : Found) (p : ℕ) (h : Option Home) (alone pairs leaf taken : Bool) → is_recno_db db.fields ≡ true → (leaf ≡ true → pairs ≡ false)
    → lost_records_from file db p (start_if true leaf db.meta taken h)
    ≡ cond (is_some_of db.meta (cond (alone && pairs) (Some 0) (meta_at h)))
    (cond taken 0 (lost_from file (holds_of db.fields) p (cond leaf (start_of h) None))) 0
by_home file db p None alone pairs true taken is apart =
    sym (ap (λ (n : ℕ). cond {A = ℕ} (is_some_of db.meta (cond (alone && pairs) (Some 0) None)) n 0) (nothing taken)
    ∙ nothing (is_some_of db.meta (cond (alone && pairs) (Some 0) None)))
by_home file db p None alone pairs false taken is apart =
    sym (ap (λ (n : ℕ). cond {A = ℕ} (is_some_of db.meta (cond (alone && pairs) (Some 0) None)) n 0) (nothing taken)
    ∙ nothing (is_some_of db.meta (cond (alone && pairs) (Some 0) None)))
by_home file db p (Some home) alone pairs false taken is apart =
    sym (ap (λ (n : ℕ). cond {A = ℕ} (is_some_of db.meta (cond (alone && pairs) (Some 0) (Some home.meta))) n 0) (nothing taken)
    ∙ nothing (is_some_of db.meta (cond (alone && pairs) (Some 0) (Some home.meta))))
by_home file db p (Some home) alone pairs true taken is apart =
    by_place (home.meta == db.meta) taken ∙ sym (by_alone alone pairs (apart refl))
  where
    lost : ℕ
    lost = lost_from file (holds_of db.fields) p (Some home.start)

    by_alone : (alone pairs : Bool) → pairs ≡ false
        → cond {A = ℕ} (is_some_of db.meta (cond (alone && pairs) (Some 0) (Some home.meta))) (cond taken 0 lost) 0
        ≡ cond (home.meta == db.meta) (cond taken 0 lost) 0
    by_alone true true is = absurd cc
    by_alone true false is = refl
    by_alone false pairs is = refl

    by_place : (at taken : Bool) → lost_records_from file db p (cond (true && true && at && not taken) (Some home.start) None) ≡ cond at (cond taken 0 lost) 0
    by_place false taken = refl
    by_place true true = refl
    by_place true false = lost_same file db p home.start is

lost_records_row : (file : File) (db : Found) → is_recno_db db.fields ≡ true
    → sum_by (lost_at file (holds_of db.fields)) (row_from (aboves file) db.meta 0) ≡ lost_records file db
lost_records_row file db is =
    sym (sum_row file db.meta (lost_records_on file db) (lost_at file (holds_of db.fields)) (λ p.
    ap (lost_records_from file db p) (sym (start_is file db p (home file p)))
    ∙ (ap (λ b. lost_records_from file db p (start_if b (is_record_page (page_at file p)) db.meta (is_taken file p) (home file p))) is
    ∙ by_home file db p (home file p) (is_alone (page_at file 0)) (is_pair_page (page_at file p)) (is_record_page (page_at file p)) (is_taken file p) is
    (no_pairs (page_at file p)))))

-- what has records but no slots has leaves of records
pub recno_of : (fields : Metadata) → has_records fields ≡ true → (holds_of fields ≡ Slots → ⊥) → is_recno_db fields ≡ true
recno_of (BtreeFields meta) so none = so
recno_of (HashFields meta) so none = absurd cc
recno_of (QueueFields meta) so none = absurd (none refl)

pub none_recno : (fields : Metadata) → has_records fields ≡ false → is_recno_db fields ≡ false
none_recno (BtreeFields meta) none = none
none_recno (HashFields meta) none = refl
none_recno (QueueFields meta) none = absurd cc

-- What is lost of a database, by what it holds.

pub lost_by_pairs : (it : FoundIn) (n : ℕ) → n ≡ sum_by (lost_in_row (file_in it.reading) (holds_in it.db)) (row_in it.reading it.db.meta)
    → has_records it.db.fields ≡ false → n ≡ lost_count it
unfolding lost_count
lost_by_pairs it n is pairs =
    is ∙ (lost_pairs_row (file_in it.reading) it.db ∙ sym (by_fields it.db.fields (none_recno it.db.fields pairs) pairs))
  where
    by_fields : (fields : Metadata) → is_recno_db fields ≡ false → has_records fields ≡ false
        → lost_in (file_in it.reading) it.db fields ≡ lost_pairs (file_in it.reading) it.db
    by_fields (BtreeFields meta) none pairs = ap (λ b. cond b (lost_records (file_in it.reading) it.db) (lost_pairs (file_in it.reading) it.db)) none
    by_fields (HashFields meta) none pairs = refl
    by_fields (QueueFields meta) none pairs = absurd cc

pub lost_by_records : (it : FoundIn) (n : ℕ) → n ≡ sum_by (lost_at (file_in it.reading) (holds_in it.db)) (row_in it.reading it.db.meta)
    → is_recno_db it.db.fields ≡ true → n ≡ lost_count it
unfolding lost_count
lost_by_records it n is recno =
    is ∙ (lost_records_row (file_in it.reading) it.db recno ∙ sym (by_fields it.db.fields recno))
  where
    by_fields : (fields : Metadata) → is_recno_db fields ≡ true → lost_in (file_in it.reading) it.db fields ≡ lost_records (file_in it.reading) it.db
    by_fields (BtreeFields meta) recno = ap (λ b. cond b (lost_records (file_in it.reading) it.db) (lost_pairs (file_in it.reading) it.db)) recno
    by_fields (HashFields meta) recno = absurd cc
    by_fields (QueueFields meta) recno = absurd cc

-- What a database holds tells whether it has records.

abbrev with_recno : Bool → ℕ → Holds
with_recno b len = cond b (Records len) Leaves

-- a queue has its metadata on page 0
pub holds_slots : (fields : Metadata) → holds_of fields ≡ Slots → (meta : QueueMeta) × (fields ≡ QueueFields meta)
holds_slots (BtreeFields meta) is = by_recno (is_recno meta) is
  where
    by_recno : (b : Bool) → with_recno b (cond (is_fixed meta) meta.re_len 0) ≡ Slots → (other : QueueMeta) × (BtreeFields meta ≡ QueueFields other)
    by_recno true is = absurd cc
    by_recno false is = absurd cc
holds_slots (HashFields meta) is = absurd cc
holds_slots (QueueFields meta) is = (meta, refl)

recno_no_queue : (fields : Metadata) → is_recno_db fields ≡ true → (meta : QueueMeta) → fields ≡ QueueFields meta → ⊥
recno_no_queue (BtreeFields other) is meta so = cc
recno_no_queue (HashFields other) is meta so = cc
recno_no_queue (QueueFields other) is meta so = cc

-- What is given of a database, by what it holds.

pub given_as_pairs : (it : FoundIn) → has_records it.db.fields ≡ false → length (pairs_given it) ≡ given_count it
unfolding given_count
given_as_pairs it none =
    sym (ap (λ b. length (cond b (map numbered_record (records_given it)) (map bytes_pair (pairs_given it)))) none ∙ length-map (pairs_given it) bytes_pair)

pub given_as_records : (it : FoundIn) → has_records it.db.fields ≡ true → length (records_given it) ≡ given_count it
unfolding given_count
given_as_records it so =
    sym (ap (λ b. length (cond b (map numbered_record (records_given it)) (map bytes_pair (pairs_given it)))) so
    ∙ length-map (records_given it) numbered_record)

pub given_by_leaves : (it : FoundIn) → is_recno_db it.db.fields ≡ true
    → length (flat_map (fit_on (file_in it.reading) (holds_in it.db)) (row_in it.reading it.db.meta)) ≡ length (records_given it)
given_by_leaves it recno =
    ap (λ records. length records)
    (given_on_leaves it.reading it.reading it.db (holds_in it.db) (row_in it.reading it.db.meta) (recno_no_queue it.db.fields recno) refl refl refl)

pub given_by_pairs : (it : FoundIn) (holds : Holds) → holds ≡ holds_in it.db
    → length (flat_map (pairs_on (file_in it.reading) holds) (row_in it.reading it.db.meta)) ≡ length (pairs_given it)
given_by_pairs it holds is =
    ap (λ pairs. length pairs) (given_pairs it.reading it.reading it.db holds (row_in it.reading it.db.meta) refl is refl)

-- A queue.

slot_short : (meta : QueueMeta) (p : ℕ) (records : List ℕ) (slot : ℕ) → length (queue_slot meta p records slot) ≤ 1
slot_short meta p records slot = by_live (is_record meta p records slot) _
  where
    by_live : (b : Bool) (record_at : ℕ × List ℕ) → length (cond b (record_at ∷ []) []) ≤ 1
    by_live true record_at = omega arith
    by_live false record_at = omega arith

-- as many slots as a page has bytes at most
slots_few : (size : ℕ) (meta : QueueMeta) → HasSlots size meta → meta.per_page ≤ size
slots_few size meta room =
    let some : 1 ≤ pad4 (meta.re_len + 1) = omega arith in
    omega (arith, room, mul-le-mul_left meta.per_page some)

queue_page_short : (reading : Reading) (meta : QueueMeta) (p : ℕ) → HasSlots reading.guess.page_size meta → IsLegal reading
    → length (queue_records_on reading meta p) ≤ 32768
queue_page_short reading meta p room legal =
    by_page (is_queue_page reading.guess.order p (bytes_at reading p)) (drop 28 (bytes_at reading p))
  where
    by_page : (b : Bool) (records : List ℕ) → length (cond b (queue_slots_from meta p records 0) []) ≤ 32768
    by_page true records =
        omega (
          arith,
          flat_short (queue_slot meta p records) 1 (range_with_len 0 (meta.per_page - 0)) (slot_short meta p records),
          length-range_with_len 0 (meta.per_page - 0),
          slots_few reading.guess.page_size meta room,
          (size_bounds reading.guess.page_size legal).1,
        )
    by_page false records = omega arith

pub queue_few : (it : FoundIn) → IsKnown it.reading it.db → holds_in it.db ≡ Slots → IsLegal it.reading → (file_in it.reading).count ≤ 2 ^ 21
    → length (records_given it) < 2 ^ 64
unfolding queue_records
queue_few it known is legal few =
    let meta : QueueMeta = (holds_slots it.db.fields is).0 in
    let fields : it.db.fields ≡ QueueFields meta = (holds_slots it.db.fields is).1 in
    let room : HasSlots it.reading.guess.page_size meta = has_slots it.reading meta (known meta fields) in
    omega (
      arith,
      ap (λ records. length records) (given_in_slots it.reading it.reading it.db meta fields refl),
      flat_short (queue_records_on it.reading meta) 32768 (range_with_len 1 ((file_in it.reading).count - 1))
          (λ p. queue_page_short it.reading meta p room legal),
      length-range_with_len 1 ((file_in it.reading).count - 1),
      few,
    )

pub queue_lost : (it : FoundIn) → holds_in it.db ≡ Slots → 0 ≡ lost_count it
unfolding lost_count
queue_lost it is = sym (ap (lost_in (file_in it.reading) it.db) (holds_slots it.db.fields is).1)

-- What belongs to no database.

all_kept : {X : Type 0} (xs : List X) → length (filter (λ x. true) xs) ≡ length xs
all_kept [] = refl
all_kept (x ∷ xs) = ap (λ n. suc n) (all_kept xs)

-- all pairs of a page are left that no database gives, and that is no leaf of a master
pub left_all : (file : File) (dbs : List Found) (p : ℕ) → are_given file dbs p ≡ false → is_master_leaf file p ≡ false
    → length (stored_on file p) ≡ length (pairs_left_on file dbs p)
left_all file dbs p none plain =
    sym (ap (λ (b : Bool). length (cond b [] (filter (λ pair. not (is_master_leaf file p && names_found dbs pair)) (stored_on file p)))) none
    ∙ (ap (λ (b : Bool). length (filter (λ pair. not (b && names_found dbs pair)) (stored_on file p))) plain ∙ all_kept (stored_on file p)))

pub rest_pairs_are : (reading : Reading) (n p : ℕ) → p ≡ (file_in reading).count
    → n ≡ sum_by (λ q. length (pairs_left_on (file_in reading) (found reading) q)) (range_with_len 0 p) → n ≡ rest_pairs reading
unfolding rest_pairs pairs_left
rest_pairs_are reading n p all is =
    is
    ∙ (sym (joined_sum (pairs_left_on (file_in reading) (found reading)) (range_with_len 0 p))
    ∙ ap (λ m. length (flat_map (pairs_left_on (file_in reading) (found reading)) (range_with_len 0 m))) all)

pub rest_records_are : (reading : Reading) (n p : ℕ) → p ≡ (file_in reading).count
    → n ≡ sum_by (λ q. length (records_left_on (file_in reading) (found reading) q)) (range_with_len 0 p) → n ≡ rest_records reading
unfolding rest_records records_left
rest_records_are reading n p all is =
    is
    ∙ (sym (joined_sum (records_left_on (file_in reading) (found reading)) (range_with_len 0 p))
    ∙ ap (λ m. length (flat_map (records_left_on (file_in reading) (found reading)) (range_with_len 0 m))) all)

-- Zero pages.

above_same : (reading : Reading) (p : ℕ) → 1 ≤ p → cond {A = ℕ} (is_zero_above reading p) 1 0 ≡ cond (is_zero_at reading p) 1 0
above_same reading p some = ap {B = ℕ} (λ (b : Bool). cond (b && is_zero_at reading p) 1 0) (lt-ltb 0 p (omega (arith, some)))

above_sum : (reading : Reading) (n : ℕ) → sum_by (λ p. cond (is_zero_above reading p) 1 0) (range_with_len 0 n)
    ≡ count_by (is_zero_at reading) (range_with_len 1 (n - 1))
above_sum reading zero = refl
above_sum reading (suc n) =
    sum_by-cons first 0 (range_with_len 1 n)
    ∙ (zero-add (sum_by first (range_with_len 1 n))
    ∙ (sum_same first (λ p. cond (is_zero_at reading p) 1 0) (range_with_len 1 n) (λ p inside. above_same reading p (of_range 1 n p inside).0)
    ∙ ap (λ m. count_by (is_zero_at reading) (range_with_len 1 m)) (let same : n ≡ suc n - 1 = omega arith in same)))
  where
    first : ℕ → ℕ
    first p = cond (is_zero_above reading p) 1 0

pub zero_pages_are : (reading : Reading) (n p : ℕ) → p ≡ (file_in reading).count
    → n ≡ sum_by (λ q. cond (is_zero_above reading q) 1 0) (range_with_len 0 p) → n ≡ length (zero_pages reading)
unfolding zero_pages
zero_pages_are reading n p all is =
    is
    ∙ (above_sum reading p
    ∙ (ap (λ m. count_by (is_zero_at reading) (range_with_len 1 (m - 1))) all
    ∙ sym (length-filter (is_zero_at reading) (range_with_len 1 ((file_in reading).count - 1)))))
