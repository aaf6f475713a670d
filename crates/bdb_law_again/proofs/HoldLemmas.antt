-- What is given of an image of bytes is of bytes, with numbers of 32 bits.
use Rattle.std.proofs.Common.{◌≡◌, ℕ, ◌+◌, ◌^◌, ◌<◌, Bool, true, false, cond, not, List, [], map, Option, Some, None, arith, refl, sym, subst, ◌&&◌}
use Rattle.std.specs.Prelude.{◌==◌, ◌||◌, length, nat_lt}
use Rattle.std.specs.List.{All, Contains, enumerate_from, filter, flat_map, range_with_len}
use Rattle.std.proofs.lemmas.Bool.{and_parts, ltb-true}
use Rattle.bdb_repair.specs.of_format.declared.metadata.QueueMeta.{QueueMeta}
use Rattle.bdb_repair.specs.of_format.Flags.{has_records}
use Rattle.bdb_repair.specs.of_format.Terms.{BtreeFields, File, HashFields, Metadata, QueueFields, entries_in, is_fixed, page_at}
use Rattle.bdb_repair.proofs.of_format.ListLemmas.{all_of}
use Rattle.bdb_repair.proofs.of_format.MemberLemmas.{in_flat_map, in_range, no_member, of_filter, of_flat_map, of_map, of_range}
use Rattle.bdb_repair.specs.of_rescue.Kept.{Reading, file_in}
use Rattle.bdb_repair.specs.of_rescue.Text.{bytes_pair, numbered_record}
use Rattle.bdb_repair.specs.of_survey.Salvage.{is_taken, live_value, live_whole, loose, loose_on, stored, stored_on}
use Rattle.bdb_law_apart.proofs.of_apart.of_homes.Homes.{home}
use Rattle.bdb_law_apart.proofs.of_apart.of_homes.declared.home.Home.{Home}
use Rattle.bdb_repair.specs.of_apart.Found.{Found}
use Rattle.bdb_repair.specs.of_apart.Given.{fits_record, gives_pairs, in_image, is_record_page, is_recno_db, numbered_entry, numbered_on, pairs_given}
use Rattle.bdb_repair.specs.of_apart.Given.{records_by, records_from, records_given, records_on, start_at, start_in}
use Rattle.bdb_repair.specs.of_apart.Text.{list_given}
use Rattle.bdb_repair.proofs.HeldLemmas.{AreBoth, loose_hold, salvaged_holds, stored_hold}
use Rattle.bdb_load.specs.of_law_kept.of_text.WrittenLaw.{AreBytes, IsPairOf}
use Rattle.bdb_load.proofs.of_law_kept.BytesLemmas.{FileHoldsBytes}
use Rattle.bdb_load.proofs.of_law_kept.LaterLemmas.{of_enumerate}

file_holds : (reading : Reading) → AreBytes reading.image → FileHoldsBytes (file_in reading)
file_holds reading bytes = salvaged_holds reading.guess.order reading.guess.page_size reading.image bytes

-- Pairs.

pair_holds : (reading : Reading) (db : Found) (pair : List ℕ × List ℕ) → AreBytes reading.image → Contains (pairs_given (in_image reading db)) pair
    → AreBoth pair
unfolding pairs_given stored
pair_holds reading db pair bytes at =
    let file : File = file_in reading in
    let pages : List ℕ = range_with_len 0 file.count in
    let page = of_flat_map (stored_on file) (filter (gives_pairs file db) pages) pair at in
    stored_hold file pair (file_holds reading bytes)
    (in_flat_map (stored_on file) pages page.0 pair (of_filter (gives_pairs file db) pages page.0 page.1).0 page.2)

pairs_hold : (reading : Reading) (db : Found) → AreBytes reading.image → All (IsPairOf false) (map bytes_pair (pairs_given (in_image reading db)))
pairs_hold reading db bytes =
    all_of (IsPairOf false) (map bytes_pair (pairs_given (in_image reading db))) (λ entry at.
    let pair = of_map bytes_pair (pairs_given (in_image reading db)) entry at in
    subst (IsPairOf false) pair.2 (pair_holds reading db pair.0 bytes pair.1))

-- Records.

-- the value of a record is one of the page
value_on : (file : File) (p start : ℕ) (placed : ℕ × List ℕ) → Contains (numbered_on file p start) placed → Contains (live_whole file p) placed.1
unfolding live_whole
value_on file p start placed at =
    let entry = of_flat_map (numbered_entry file) (enumerate_from (start + 1) (entries_in (page_at file p))) placed at in
    let value = of_map (λ (v : List ℕ). (entry.0.0, v)) (live_value file entry.0.1) placed entry.2 in
    let among = of_enumerate (start + 1) (entries_in (page_at file p)) entry.0 entry.1 in
    in_flat_map (live_value file) (entries_in (page_at file p)) entry.0.1 placed.1 among.2
    (subst (λ (one : ℕ × List ℕ). Contains (live_value file entry.0.1) one.1) value.2 value.1)

low_number : (fields : Metadata) (placed : ℕ × List ℕ) → fits_record fields placed ≡ true → placed.0 < 2 ^ 32
low_number (BtreeFields meta) placed fits =
    ltb-true placed.0 (2 ^ 32)
    (and_parts (nat_lt placed.0 (2 ^ 32)) (not (is_fixed meta) || meta.re_len == 0 || length placed.1 == meta.re_len) fits).0
low_number (HashFields meta) placed fits = absurd (cc fits)
low_number (QueueFields meta) placed fits = absurd (cc fits)

-- a page that gives records stands in no set
free_page : (file : File) (db : Found) (p start : ℕ) (home : Option Home) → start_at file db p home ≡ Some start → is_taken file p ≡ false
free_page file db p start None is = absurd (cc is)
free_page file db p start (Some home) is =
    by_test (is_recno_db db.fields && is_record_page (page_at file p) && home.meta == db.meta) (is_taken file p) is
  where
    by_test : (on taken : Bool) → cond (on && not taken) (Some home.start) None ≡ Some start → taken ≡ false
    by_test on false is = refl
    by_test true true is = absurd (cc is)
    by_test false true is = absurd (cc is)

in_loose : (file : File) (p : ℕ) (value : List ℕ) → p < file.count → is_taken file p ≡ false → Contains (live_whole file p) value → Contains (loose file) value
unfolding loose
in_loose file p value there free at =
    in_flat_map (loose_on file) (range_with_len 0 file.count) p value (in_range 0 file.count p (omega arith) (omega (arith, there)))
    (subst (λ b. Contains (cond b [] (live_whole file p)) value) (sym free) at)

by_start : (reading : Reading) (db : Found) (p : ℕ) (start : Option ℕ) (placed : ℕ × List ℕ) → AreBytes reading.image → p < (file_in reading).count
    → start_in (file_in reading) db p ≡ start → Contains (records_from (file_in reading) db p start) placed → IsPairOf true (numbered_record placed)
by_start reading db p None placed bytes there is at = absurd (no_member [] placed refl at)
by_start reading db p (Some start) placed bytes there is at =
    let file : File = file_in reading in
    let fits = of_filter (fits_record db.fields) (numbered_on file p start) placed at in
    let loose_at : Contains (loose file) placed.1 =
    in_loose file p placed.1 there (free_page file db p start (home file p) is) (value_on file p start placed fits.0) in
    (low_number db.fields placed fits.1, loose_hold file placed.1 (file_holds reading bytes) loose_at)

on_pages : (reading : Reading) (db : Found) → AreBytes reading.image
    → All (IsPairOf true) (map numbered_record (flat_map (records_on (file_in reading) db) (range_with_len 0 (file_in reading).count)))
on_pages reading db bytes =
    let file : File = file_in reading in
    let records : List (ℕ × List ℕ) = flat_map (records_on file db) (range_with_len 0 file.count) in
    all_of (IsPairOf true) (map numbered_record records) (λ entry at.
    let placed = of_map numbered_record records entry at in
    let page = of_flat_map (records_on file db) (range_with_len 0 file.count) placed.0 placed.1 in
    let within = of_range 0 file.count page.0 page.1 in
    subst (IsPairOf true) placed.2
    (by_start reading db page.0 (start_in file db page.0) placed.0 bytes (omega (arith, within.1)) refl page.2))

-- the records of a database that is no queue
records_hold : (reading : Reading) (db : Found) (fields : Metadata) → AreBytes reading.image → ((meta : QueueMeta) → fields ≡ QueueFields meta → ⊥)
    → All (IsPairOf true) (map numbered_record (records_by reading db fields))
records_hold reading db (BtreeFields meta) bytes other = on_pages reading db bytes
records_hold reading db (HashFields meta) bytes other = on_pages reading db bytes
records_hold reading db (QueueFields meta) bytes other = absurd (other meta refl)

pub given_holds : (reading : Reading) (db : Found) → AreBytes reading.image → ((meta : QueueMeta) → db.fields ≡ QueueFields meta → ⊥)
    → All (IsPairOf (has_records db.fields)) (list_given (in_image reading db))
unfolding records_given
given_holds reading db bytes other = by_kind (has_records db.fields)
  where
    by_kind : (b : Bool)
        → All (IsPairOf b) (cond b (map numbered_record (records_by reading db db.fields)) (map bytes_pair (pairs_given (in_image reading db))))
    by_kind true = records_hold reading db db.fields bytes other
    by_kind false = pairs_hold reading db bytes
