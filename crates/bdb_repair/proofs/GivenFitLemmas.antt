-- What is given of a database can be loaded, without an error.
use Rattle.std.proofs.Common.{◌≡◌, ℕ, ◌+◌, ◌-◌, ◌*◌, ◌<◌, ◌≤◌, ◌^◌, Bool, true, false, cond, List, [], ◌∷◌, ◌++◌, length, map, take, drop, Option, Some, None}
use Rattle.std.proofs.Common.{arith, refl, sym, ap, subst, inl, inr, ne_eqb, ◌∙◌, length-take}
use Rattle.std.specs.Prelude.{◌==◌, ◌&&◌, ◌||◌, not, nat_lt, slice_range, IsTrue}
use Rattle.std.specs.List.{All, enumerate_from, filter, flat_map, range_with_len, sum_by}
use Rattle.std.proofs.lemmas.Bool.Decides.{nat_tests}
use Rattle.std.proofs.lemmas.List.Elements.{All-append, All-cons, All-head, All-nil, All-tail, All-weaker}
use Rattle.std.proofs.lemmas.List.Sums.{sum_by-cons}
use Rattle.bdb_model.specs.of_format.declared.kinds.Kind.TheVariants.{Queue}
use Rattle.bdb_model.specs.of_format.declared.kinds.Order.{Order}
use Rattle.bdb_model.specs.of_format.declared.metadata.BtreeMeta.{BtreeMeta}
use Rattle.bdb_model.specs.of_format.declared.metadata.HashMeta.{HashMeta}
use Rattle.bdb_model.specs.of_format.declared.metadata.QueueMeta.{QueueMeta}
use Rattle.bdb_model.specs.of_format.declared.settings.Settings.{Settings}
use Rattle.bdb_model.specs.of_format.Flags.{has_records}
use Rattle.bdb_model.specs.of_format.Terms.{BtreeFields, File, HashFields, Item, Metadata, QueueFields, btree_settings, entries_in, hash_settings, has_bit}
use Rattle.bdb_model.specs.of_format.Terms.{is_fixed, is_page_size, is_record, is_recno, page_at, queue_settings, recno_settings, record_number, settings_of}
use Rattle.bdb_model.specs.of_format.Terms.{slot_at}
use Rattle.bdb_model.specs.of_text_format.declared.pairs.TextPair.{TextPair}
use Rattle.bdb_model.specs.of_text_format.declared.sections.Section.{Section}
use Rattle.bdb_model.specs.of_text_format.Terms.{holds_records, is_queue}
use Rattle.bdb_model.specs.of_text_format.Written.{shows_length}
use Rattle.bdb_model.proofs.of_format.MemberLemmas.{in_range, none_passes}
use Rattle.bdb_law_kept.proofs.WrittenLemmas.{sorted_set}
use Rattle.bdb_mkfile.specs.of_law_sections.Fit.{AreFitSettings, IsFitPair, IsFitSection}
use Rattle.bdb_mkfile.proofs.of_law_sections.PairLemmas.{fit_longer}
use Rattle.bdb_mkfile.specs.of_settle.Loaded.{has_length}
use Rattle.bdb_mkfile.specs.of_settle.LoadErrors.{pair_errors, section_errors}
use Rattle.bdb_apart.specs.Found.{Found, only_found}
use Rattle.bdb_apart.specs.Given.{FoundIn, fits_record, numbered_entry, numbered_on, pairs_given, records_by, records_from, records_given, records_on, start_in}
use Rattle.bdb_apart.specs.Queues.{bytes_at, is_queue_page, queue_from, queue_records, queue_records_on, queue_slot, queue_slots_from}
use Rattle.bdb_apart.specs.Text.{settings_in}
use Rattle.bdb_rescue.specs.Kept.{Reading, file_in}
use Rattle.bdb_rescue.specs.of_survey.Salvage.{live_value}
use Rattle.bdb_repair.specs.Apart.{section_in, told_settings}
use Rattle.bdb_repair.specs.Parts.{loose_pair, stored_pair, stored_pairs}
use Rattle.bdb_repair.proofs.FoundNameLemmas.{all_flat}
use Rattle.bdb_repair.proofs.MetaFitLemmas.{IsFitMeta, IsFitQueue, IsFitTree}
use Rattle.bdb_repair.proofs.PartLemmas.{fit_stored, pair_length}
use Rattle.bdb_model.proofs.of_format.BoolLemmas.{so_second}

-- Settings.

several : (flags : ℕ) → (has_bit flags 0x40 && not (has_bit flags 0x41)) ≡ false → has_bit flags 0x40 ≡ true → has_bit flags 0x41 ≡ true
several flags none is = so_second (has_bit flags 0x40) (has_bit flags 0x41) none is

not_queue : (settings : Settings) → is_queue settings.kind ≡ false → settings.kind ≡ Queue → ⊥
not_queue settings none is = absurd (cc (sym none ∙ ap is_queue is))

-- what the header of a text tells of fit settings is fit
told_fit : (settings : Settings) → is_queue settings.kind ≡ false → AreFitSettings settings → AreFitSettings (told_settings settings)
told_fit settings none fit = by_test (shows_length settings)
  where
    by_test : (b : Bool) → AreFitSettings (cond b settings (record settings { fixed = false; re_len = 0; re_pad = 32 }))
    by_test true = fit
    by_test false = record {
      page_size = fit.page_size;
      sorted = fit.sorted;
      counted = fit.counted;
      records = fit.records;
      re_len = omega arith;
      fixed = λ is. absurd (not_queue settings none is);
    }

btree_fit : (size : ℕ) (order : Order) (meta : BtreeMeta) → IsTrue (is_page_size size) → IsFitTree meta → AreFitSettings (btree_settings size order meta)
btree_fit size order meta legal fit =
    let flags = fit.flags in
    let low : meta.flags < 256 = grind (arith, nat_tests, flags) in
    record {
      page_size = legal;
      sorted = λ is. several meta.flags (sorted_set meta.flags low) is;
      counted = λ is. grind (arith, flags, is);
      records = λ is. absurd (cc is);
      re_len = omega arith;
      fixed = λ is. absurd (cc is);
    }

recno_fit : (size : ℕ) (order : Order) (meta : BtreeMeta) → IsTrue (is_page_size size) → IsFitTree meta → AreFitSettings (recno_settings size order meta)
recno_fit size order meta legal fit = record {
  page_size = legal;
  sorted = λ is. absurd (cc is);
  counted = λ is. absurd (cc is);
  records = λ is. refl;
  re_len = fit.re_len;
  fixed = λ is. absurd (cc is);
}

sorted_hash : (flags : ℕ) → flags < 8 → has_bit flags 0x04 ≡ true → has_bit flags 0x05 ≡ true
sorted_hash flags low is =
    let none : (has_bit flags 0x04 && not (has_bit flags 0x05)) ≡ false =
    none_passes (λ (n : ℕ). has_bit n 0x04 && not (has_bit n 0x05)) (range_with_len 0 8) flags refl (in_range 0 8 flags (omega arith) (omega (arith, low))) in
    so_second (has_bit flags 0x04) (has_bit flags 0x05) none is

hash_fit : (size : ℕ) (order : Order) (meta : HashMeta) → IsTrue (is_page_size size) → meta.flags < 8 → AreFitSettings (hash_settings size order meta)
hash_fit size order meta legal low = record {
  page_size = legal;
  sorted = λ is. sorted_hash meta.flags low is;
  counted = λ is. absurd (cc is);
  records = λ is. absurd (cc is);
  re_len = omega arith;
  fixed = λ is. absurd (cc is);
}

queue_fit : (size : ℕ) (order : Order) (meta : QueueMeta) → IsTrue (is_page_size size) → IsFitQueue size meta → AreFitSettings (queue_settings size order meta)
queue_fit size order meta legal fit = record {
  page_size = legal;
  sorted = λ is. absurd (cc is);
  counted = λ is. absurd (cc is);
  records = λ is. refl;
  re_len = fit.re_len;
  fixed = λ is. refl;
}

-- Records.

-- a record has a number, and isn't longer than a length that is fixed
pub record IsFitRecord (settings : Settings) (placed : ℕ × List ℕ) : Type 0 where
  pub number : 1 ≤ placed.0
  pub short : (has_length settings && nat_lt settings.re_len (length placed.1)) ≡ false

-- as the metadata of its database says
record IsOf (fields : Metadata) (placed : ℕ × List ℕ) : Type 0 where
  number : 1 ≤ placed.0
  fits : fits_record fields placed ≡ true

one_number : (n : ℕ) (values : List (List ℕ)) → 1 ≤ n → All (λ (placed : ℕ × List ℕ). 1 ≤ placed.0) (map (λ value. (n, value)) values)
one_number n [] some = All-nil (λ (placed : ℕ × List ℕ). 1 ≤ placed.0)
one_number n (value ∷ values) some =
    All-cons (λ (placed : ℕ × List ℕ). 1 ≤ placed.0) (n, value) (map (λ v. (n, v)) values) some (one_number n values some)

all_numbers : (file : File) (n : ℕ) (items : List Item) → 1 ≤ n
    → All (λ (placed : ℕ × List ℕ). 1 ≤ placed.0) (flat_map (numbered_entry file) (enumerate_from n items))
all_numbers file n [] some = All-nil (λ (placed : ℕ × List ℕ). 1 ≤ placed.0)
all_numbers file n (item ∷ items) some =
    All-append (λ (placed : ℕ × List ℕ). 1 ≤ placed.0) (numbered_entry file (n, item)) (flat_map (numbered_entry file) (enumerate_from (n + 1) items))
    (one_number n (live_value file item) some) (all_numbers file (n + 1) items (omega arith))

passing : (fields : Metadata) (records : List (ℕ × List ℕ)) → All (λ (placed : ℕ × List ℕ). 1 ≤ placed.0) records
    → All (IsOf fields) (filter (fits_record fields) records)
passing fields [] all = All-nil (IsOf fields)
passing fields (placed ∷ records) all =
    by_test (fits_record fields placed) refl (passing fields records (All-tail (λ (it : ℕ × List ℕ). 1 ≤ it.0) placed records all))
  where
    by_test : (b : Bool) → fits_record fields placed ≡ b → All (IsOf fields) (filter (fits_record fields) records)
        → All (IsOf fields) (cond b (placed ∷ filter (fits_record fields) records) (filter (fits_record fields) records))
    by_test true fits rest =
        All-cons (IsOf fields) placed (filter (fits_record fields) records)
        (record { number = All-head (λ (it : ℕ × List ℕ). 1 ≤ it.0) placed records all; fits = fits }) rest
    by_test false fits rest = rest

from_page : (file : File) (db : Found) (p : ℕ) (start : Option ℕ) → All (IsOf db.fields) (records_from file db p start)
from_page file db p None = All-nil (IsOf db.fields)
from_page file db p (Some start) =
    passing db.fields (numbered_on file p start) (all_numbers file (start + 1) (entries_in (page_at file p)) (omega arith))

tree_records : (reading : Reading) (db : Found) (meta : BtreeMeta) → db.fields ≡ BtreeFields meta
    → All (IsOf (BtreeFields meta)) (records_given (record { reading = reading; db = db }))
unfolding records_given
tree_records reading db meta is =
    let file : File = file_in reading in
    let pages : List ℕ = range_with_len 0 file.count in
    let own : All (IsOf db.fields) (flat_map (records_on file db) pages) =
    all_flat (IsOf db.fields) (records_on file db) pages (λ p. from_page file db p (start_in file db p)) in
    let of_meta : All (IsOf (BtreeFields meta)) (flat_map (records_on file db) pages) =
    subst (λ (fields : Metadata). All (IsOf fields) (flat_map (records_on file db) pages)) is own in
    subst (λ (fields : Metadata). All (IsOf (BtreeFields meta)) (records_by reading db fields)) (sym is) of_meta

last_so : (a b c d : Bool) → (a && (not b || c || d)) ≡ true → b ≡ true → c ≡ false → d ≡ true
last_so true true false true is fixed zero = refl
last_so true true false false is fixed zero = absurd (cc is)
last_so a b true d is fixed zero = absurd (cc zero)
last_so a false c d is fixed zero = absurd (cc fixed)
last_so false b c d is fixed zero = absurd (cc is)

-- in a recno whose header tells its length the records have it
recno_record : (size : ℕ) (order : Order) (meta : BtreeMeta) (placed : ℕ × List ℕ) → IsOf (BtreeFields meta) placed
    → IsFitRecord (told_settings (recno_settings size order meta)) placed
recno_record size order meta placed of = record { number = of.number; short = by_tests (is_fixed meta) (meta.re_len == 0) refl refl }
  where
    by_tests : (fixed zero : Bool) → is_fixed meta ≡ fixed → (meta.re_len == 0) ≡ zero
        → (has_length (told_settings (recno_settings size order meta))
        && nat_lt (told_settings (recno_settings size order meta)).re_len (length placed.1)) ≡ false
    by_tests true true fixed zero = rw (fixed, zero) refl
    by_tests false zero fixed is = rw fixed refl
    by_tests true false fixed zero =
        let same : (length placed.1 == meta.re_len) ≡ true = last_so _ _ _ _ of.fits fixed zero in
        let short : nat_lt meta.re_len (length placed.1) ≡ false = grind (arith, nat_tests, same) in
        rw (fixed, zero) short

all_recno : (size : ℕ) (order : Order) (meta : BtreeMeta) (records : List (ℕ × List ℕ)) → All (IsOf (BtreeFields meta)) records
    → All (IsFitRecord (told_settings (recno_settings size order meta))) records
all_recno size order meta records all =
    All-weaker (IsOf (BtreeFields meta)) (IsFitRecord (told_settings (recno_settings size order meta))) (recno_record size order meta) records all

-- the records of a queue
slot_record : (size : ℕ) (order : Order) (meta : QueueMeta) (p : ℕ) (bytes : List ℕ) (slot : ℕ)
    → All (IsFitRecord (queue_settings size order meta)) (queue_slot meta p bytes slot)
slot_record size order meta p bytes slot = by_test (is_record meta p bytes slot)
  where
    begin : ℕ
    begin = slot_at meta slot + 1

    value : List ℕ
    value = slice_range bytes begin (begin + meta.re_len)

    none_longer : nat_lt meta.re_len (length value) ≡ false
    none_longer = grind (arith, nat_tests, length-take)

    by_test : (b : Bool) → All (IsFitRecord (queue_settings size order meta)) (cond b ((record_number meta p slot, value) ∷ []) [])
    by_test true =
        All-cons (IsFitRecord (queue_settings size order meta)) (record_number meta p slot, value) []
        (record { number = omega arith; short = none_longer }) (All-nil (IsFitRecord (queue_settings size order meta)))
    by_test false = All-nil (IsFitRecord (queue_settings size order meta))

page_records : (reading : Reading) (size : ℕ) (order : Order) (meta : QueueMeta) (p : ℕ)
    → All (IsFitRecord (queue_settings size order meta)) (queue_records_on reading meta p)
page_records reading size order meta p = by_test (is_queue_page reading.guess.order p (bytes_at reading p))
  where
    bytes : List ℕ
    bytes = drop 28 (bytes_at reading p)

    by_test : (b : Bool) → All (IsFitRecord (queue_settings size order meta)) (cond b (queue_slots_from meta p bytes 0) [])
    by_test true =
        all_flat (IsFitRecord (queue_settings size order meta)) (queue_slot meta p bytes) (range_with_len 0 (meta.per_page - 0))
        (slot_record size order meta p bytes)
    by_test false = All-nil (IsFitRecord (queue_settings size order meta))

all_queue : (reading : Reading) (size : ℕ) (order : Order) (meta : QueueMeta) → All (IsFitRecord (queue_settings size order meta)) (queue_records reading meta)
unfolding queue_records
all_queue reading size order meta =
    all_flat (IsFitRecord (queue_settings size order meta)) (queue_records_on reading meta) (range_with_len 1 ((file_in reading).count - 1))
    (page_records reading size order meta)

-- Pairs.

abbrev record_length : (ℕ × List ℕ) → ℕ
record_length placed = length placed.1

fit_records : (records : List (ℕ × List ℕ)) → All (IsFitPair true (sum_by record_length records)) (map loose_pair records)
fit_records [] = All-nil (IsFitPair true 0)
fit_records (placed ∷ records) =
    let sum = sum_by-cons record_length placed records in
    All-cons (IsFitPair true (sum_by record_length (placed ∷ records))) (loose_pair placed) (map loose_pair records)
    (record { key = refl; key_length = omega arith; length = omega (arith, sum) })
    (fit_longer true (sum_by record_length records) (sum_by record_length (placed ∷ records)) (map loose_pair records) (omega (arith, sum))
    (fit_records records))

no_record_errors : (settings : Settings) (records : List (ℕ × List ℕ)) → All (IsFitRecord settings) records
    → flat_map (pair_errors settings) (map loose_pair records) ≡ []
no_record_errors settings [] all = refl
no_record_errors settings (placed ∷ records) all =
    let here : IsFitRecord settings placed = All-head (IsFitRecord settings) placed records all in
    let counts : (placed.0 == 0) ≡ false = ne_eqb placed.0 0 (λ none. let some = here.number in omega (arith, some, none)) in
    rw (here.short, counts) (no_record_errors settings records (All-tail (IsFitRecord settings) placed records all))

no_pair_errors : (settings : Settings) (pairs : List (List ℕ × List ℕ)) → has_length settings ≡ false
    → flat_map (pair_errors settings) (stored_pairs pairs) ≡ []
no_pair_errors settings [] none = refl
no_pair_errors settings (pair ∷ pairs) none = rw none (no_pair_errors settings pairs none)

-- Sections.

-- a section is fit, and has no error, in a file of this page size, alone or beside others
pub record IsGoodSection (size : ℕ) (alone : Bool) (section : Section) : Type 0 where
  pub most : ℕ
  pub fit : IsFitSection most section
  pub errors : section_errors size alone section ≡ []

neither_kind : (a b : Bool) → (a || b) ≡ false → b ≡ false
neither_kind true b none = absurd (cc none)
neither_kind false b none = none

of_pairs : (size : ℕ) (alone : Bool) (name : Option (List ℕ)) (settings : Settings) (pairs : List (List ℕ × List ℕ)) → AreFitSettings settings
    → holds_records settings.kind ≡ false
    → IsGoodSection size alone (record { name = name; settings = settings; header_line = 0; pairs = stored_pairs pairs })
of_pairs size alone name settings pairs fit none =
    let queue : is_queue settings.kind ≡ false = neither_kind _ _ none in
    let free : has_length settings ≡ false = no_length settings.fixed (holds_records settings.kind) none in
    record {
      most = sum_by pair_length pairs;
      fit = record {
        settings = fit;
        pairs = subst (λ b. All (IsFitPair b (sum_by pair_length pairs)) (stored_pairs pairs)) (sym none) (fit_stored pairs);
      };
      errors = rw (queue, no_pair_errors settings pairs free) refl;
    }
  where
    no_length : (fixed holds : Bool) → holds ≡ false → (fixed && holds) ≡ false
    no_length true holds none = none
    no_length false holds none = refl

of_records : (size : ℕ) (alone : Bool) (name : Option (List ℕ)) (settings : Settings) (records : List (ℕ × List ℕ)) → AreFitSettings settings
    → holds_records settings.kind ≡ true → is_queue settings.kind ≡ false → All (IsFitRecord settings) records
    → IsGoodSection size alone (record { name = name; settings = settings; header_line = 0; pairs = map loose_pair records })
of_records size alone name settings records fit holds queue all = record {
  most = sum_by record_length records;
  fit = record {
    settings = fit;
    pairs = subst (λ b. All (IsFitPair b (sum_by record_length records)) (map loose_pair records)) (sym holds) (fit_records records);
  };
  errors = rw (queue, no_record_errors settings records all) refl;
}

told_kind : (settings : Settings) → (told_settings settings).kind ≡ settings.kind
told_kind settings = by_test (shows_length settings)
  where
    by_test : (b : Bool) → (cond b settings (record settings { fixed = false; re_len = 0; re_pad = 32 })).kind ≡ settings.kind
    by_test true = refl
    by_test false = refl

-- the section of a database by what its metadata says
abbrev section_by : FoundIn → Metadata → Section
section_by it fields = record {
  name = it.db.name;
  settings = told_settings (settings_of it.reading.guess.page_size it.reading.guess.order fields);
  header_line = 0;
  pairs = cond (has_records fields) (map loose_pair (records_given it)) (stored_pairs (pairs_given it));
}

-- that of a btree, a recno or a hash
tree_good : (size : ℕ) (alone : Bool) (it : FoundIn) (fields : Metadata) → it.db.fields ≡ fields → IsTrue (is_page_size it.reading.guess.page_size)
    → IsFitMeta fields → IsGoodSection size alone (section_by it fields)
tree_good size alone it (BtreeFields meta) is legal fit = by_kind (is_recno meta) refl
  where
    page_size : ℕ
    page_size = it.reading.guess.page_size

    order : Order
    order = it.reading.guess.order

    by_kind : (recno : Bool) → is_recno meta ≡ recno → IsGoodSection size alone (section_by it (BtreeFields meta))
    by_kind true recno =
        rw recno (of_records size alone it.db.name (told_settings (recno_settings page_size order meta)) (records_given it)
        (told_fit (recno_settings page_size order meta) refl (recno_fit page_size order meta legal fit))
        (ap holds_records (told_kind (recno_settings page_size order meta))) (ap is_queue (told_kind (recno_settings page_size order meta)))
        (all_recno page_size order meta (records_given it) (tree_records it.reading it.db meta is)))
    by_kind false recno =
        rw recno (of_pairs size alone it.db.name (told_settings (btree_settings page_size order meta)) (pairs_given it)
        (told_fit (btree_settings page_size order meta) refl (btree_fit page_size order meta legal fit))
        (ap holds_records (told_kind (btree_settings page_size order meta))))
tree_good size alone it (HashFields meta) is legal fit =
    let page_size : ℕ = it.reading.guess.page_size in
    let order : Order = it.reading.guess.order in
    of_pairs size alone it.db.name (told_settings (hash_settings page_size order meta)) (pairs_given it)
    (told_fit (hash_settings page_size order meta) refl (hash_fit page_size order meta legal fit)) (ap holds_records (told_kind (hash_settings page_size order meta)))
tree_good size alone it (QueueFields meta) is legal fit = absurd fit

pub section_good : (size : ℕ) (alone : Bool) (it : FoundIn) → IsTrue (is_page_size it.reading.guess.page_size) → IsFitMeta it.db.fields
    → IsGoodSection size alone (section_in it)
section_good size alone it legal fit = tree_good size alone it it.db.fields refl legal fit

-- and of a queue, which stands alone
pub queue_good : (reading : Reading) (meta : QueueMeta) → IsTrue (is_page_size reading.guess.page_size) → IsFitQueue reading.guess.page_size meta
    → IsGoodSection reading.guess.page_size true (section_in (record { reading = reading; db = only_found (QueueFields meta) }))
unfolding records_given
queue_good reading meta legal fit =
    let size : ℕ = reading.guess.page_size in
    let settings : Settings = queue_settings size reading.guess.order meta in
    let records : List (ℕ × List ℕ) = queue_records reading meta in
    record {
      most = sum_by record_length records;
      fit = record { settings = queue_fit size reading.guess.order meta legal fit; pairs = fit_records records };
      errors = rw (fit.wide, no_record_errors settings records (all_queue reading size reading.guess.order meta)) refl;
    }
