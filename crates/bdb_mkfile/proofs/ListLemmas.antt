-- Lists that are loaded without errors are such that tables and queues can be built of them.
use Rattle.std.proofs.Common.{◌≡◌, ℕ, ◌+◌, ◌-◌, ◌*◌, ◌<◌, ◌≤◌, ◌^◌, Bool, true, false, List, [], ◌∷◌, ◌++◌, length, map, get_or, Option, Some, None, refl}
use Rattle.std.proofs.Common.{sym, ◌∙◌, ap, subst, arith, inl, ◌&&◌, ◌||◌, ◌==◌, ◌/◌, nat_lt, is_some, All, flat_map}
use Rattle.bdb_mkfile.proofs.Common.{both_true, div-mul-le_self, lt-div-mul-add, mul-le-mul_left, nat_tests, le-div, All-cons, All-head, All-nil, All-tail, All-weaker, Btree, Hash, Queue, Settings}
use Rattle.bdb_mkfile.proofs.Common.{less, pad4, Pair, Key, Bytes, Number, TextPair, Section, AscendFrom, holds_records, is_queue, number_of, HasNumber, HasShortBytes, IsFit, IsKeyOf, header_errors}
use Rattle.bdb_mkfile.proofs.Common.{is_among_names, is_too_wide, load_error, page_size_in, pair_errors, section_errors, where_so, QueueAmongNames, RecordTooLong, RecordZero, loaded_pair, keeps_data}
use Rattle.bdb_mkfile.proofs.Common.{loaded, sorts_data, stands_before, IsSound, sound_pairs, both_empty, each_empty, not_so, load_into_lists, by_numbers, filled_length, Ordered, OrderedFrom}
use Rattle.bdb_mkfile.proofs.Common.{fold_all, fold_ordered, follows, IsTableList, HasLength, HasNext, IsQueueList, next_number, LoadIntoQueues, LoadIntoTables, QueuesAreAlone, RecordsAreFew, TextHasNext}
use Rattle.std.proofs.Math.Bool.{and-false}
use Rattle.bdb_need.specs.of_mktree.Lists.{IsTreeList as IsTreeListFor}
use Rattle.bdb_need.specs.of_settle.LoadErrors.{is_zero}
use Rattle.bdb_need.proofs.of_settle.ErrorLemmas.{no_errors as none_hold}
use Rattle.bdb_need.proofs.of_settle.ListLawLemmas.{positive as positive_of}
use Rattle.bdb_need.proofs.of_mkqueue.RecordLemmas.{next_low}

-- Errors.

-- Tables: the section is loaded as that of a btree is.

abbrev as_btree : Settings → Settings
as_btree settings = record settings { kind = Btree }

-- a key that is no record of number 0 has no error there
btree_sound : (settings : Settings) (pair : TextPair) → IsSound settings pair → IsSound (as_btree settings) pair
btree_sound settings pair sound = grind (arith, nat_lt, and-false)

no_pair_errors : (settings : Settings) (pairs : List TextPair) → All (IsSound settings) pairs → flat_map (pair_errors settings) pairs ≡ []
no_pair_errors settings [] sound = refl
no_pair_errors settings (pair ∷ pairs) sound =
    let one : IsSound settings pair = All-head (IsSound settings) pair pairs sound in
    let none : pair_errors settings pair ≡ [] =
    ap (λ b. where_so b (RecordTooLong pair.line) ++ where_so (is_zero pair.key) (RecordZero pair.line)) one.short
    ∙ ap (λ b. where_so b (RecordZero pair.line)) one.number in
    ap (λ es. es ++ flat_map (pair_errors settings) pairs) none
    ∙ no_pair_errors settings pairs (All-tail (IsSound settings) pair pairs sound)

abbrev btree_section : Section → Section
btree_section section = record section { settings = as_btree section.settings; name = None }

no_errors : (section : Section) → All (IsSound section.settings) section.pairs → load_error (btree_section section ∷ []) ≡ None
no_errors section sound = grind (arith, Settings, flat_map, pair_errors, no_pair_errors, All-weaker, IsSound, btree_sound)

btree_fits : (section : Section) → section.settings.kind ≡ Hash → IsFit section → IsFit (btree_section section)
btree_fits section hash fit = grind (arith, All-weaker, TextPair, IsKeyOf, Btree)

loads_alike : (settings : Settings) (pairs : List TextPair) → settings.kind ≡ Hash → loaded settings pairs ≡ loaded (as_btree settings) pairs
loads_alike settings pairs hash = ap (λ k. loaded (record settings { kind = k }) pairs) hash

table_loads : (section : Section) → All (IsSound section.settings) section.pairs → section.settings.kind ≡ Hash → IsFit section
    → All HasShortBytes (loaded section.settings section.pairs) → IsTableList section.settings (loaded section.settings section.pairs)
table_loads section sound hash fit short =
    let settings : Settings = as_btree section.settings in
    let list : IsTreeListFor settings (loaded settings section.pairs) =
    load_into_lists (btree_section section ∷ []) (no_errors section sound) 0 (btree_section section) (omega arith) (inl refl)
    (btree_fits section hash fit) (subst (All HasShortBytes) (loads_alike section.settings section.pairs hash) short) in
    subst (IsTableList section.settings) (sym (loads_alike section.settings section.pairs hash)) list

pub load_into_tables : LoadIntoTables
load_into_tables sections none =
    All-weaker (λ section. All (IsSound section.settings) section.pairs)
    (λ section. section.settings.kind ≡ Hash → IsFit section → All HasShortBytes (loaded section.settings section.pairs)
    → IsTableList section.settings (loaded section.settings section.pairs))
    table_loads sections (sound_pairs sections none)

-- Queues.

-- a record of a queue: it has a number from 1 on, and the length of all
pub record IsRecord (re_len : ℕ) (pair : Pair) : Type 0 where
  pub numbered : HasNumber pair.key
  pub positive : 1 ≤ number_of pair.key
  pub long : HasLength re_len pair

is_record : (settings : Settings) (pair : TextPair) → settings.kind ≡ Queue → settings.fixed ≡ true → IsKeyOf settings.kind pair.key
    → IsSound settings pair → IsRecord settings.re_len (loaded_pair settings pair)
is_record settings pair queue fixed key sound = grind (arith, HasNumber, IsKeyOf, filled_length, both_true, holds_records)

are_records : (settings : Settings) (pairs : List TextPair) → settings.kind ≡ Queue → settings.fixed ≡ true
    → All (λ (pair : TextPair). IsKeyOf settings.kind pair.key) pairs
    → All (IsSound settings) pairs → All (IsRecord settings.re_len) (map (loaded_pair settings) pairs)
are_records settings [] queue fixed keys sound = All-nil (IsRecord settings.re_len)
are_records settings (pair ∷ pairs) queue fixed keys sound =
    let has : TextPair → Type 0 = λ one. IsKeyOf settings.kind one.key in
    All-cons (IsRecord settings.re_len) (loaded_pair settings pair) (map (loaded_pair settings) pairs)
    (is_record settings pair queue fixed (All-head has pair pairs keys) (All-head (IsSound settings) pair pairs sound))
    (are_records settings pairs queue fixed (All-tail has pair pairs keys) (All-tail (IsSound settings) pair pairs sound))

have_next : (settings : Settings) (pairs : List TextPair) → All TextHasNext pairs → All HasNext (map (loaded_pair settings) pairs)
have_next settings [] next = All-nil HasNext
have_next settings (pair ∷ pairs) next =
    All-cons HasNext (loaded_pair settings pair) (map (loaded_pair settings) pairs) (All-head TextHasNext pair pairs next)
    (have_next settings pairs (All-tail TextHasNext pair pairs next))

above_last : (settings : Settings) (a b : Key) (first then : List ℕ) → settings.kind ≡ Queue → HasNumber a → HasNumber b
    → follows (stands_before settings) (keeps_data settings) (record { key = a; value = first }) (record { key = b; value = then }) ≡ true
    → number_of a + 1 ≤ number_of b
above_last settings (Bytes bytes) b first then queue has_a has_b after = absurd has_a
above_last settings (Number m) (Bytes bytes) first then queue has_a has_b after = absurd has_b
above_last settings (Number m) (Number n) first then queue has_a has_b after =
    grind (arith, sorts_data, holds_records, and-false, keeps_data, nat_lt, by_numbers, less, nat_tests)

ascend_from : (settings : Settings) (pair : Pair) (pairs : List Pair) → settings.kind ≡ Queue → All (IsRecord settings.re_len) (pair ∷ pairs)
    → OrderedFrom (stands_before settings) (keeps_data settings) pair pairs → AscendFrom (number_of pair.key + 1) pairs
ascend_from settings pair [] queue each ordered = tt
ascend_from settings pair (next ∷ pairs) queue each ordered =
    let later = All-tail (IsRecord settings.re_len) pair (next ∷ pairs) each in (
      above_last settings pair.key next.key pair.value next.value queue (All-head (IsRecord settings.re_len) pair (next ∷ pairs) each).numbered
          (All-head (IsRecord settings.re_len) next pairs later).numbered ordered.0,
      ascend_from settings next pairs queue later ordered.1,
    )

ascend : (settings : Settings) (pairs : List Pair) → settings.kind ≡ Queue → All (IsRecord settings.re_len) pairs
    → Ordered (stands_before settings) (keeps_data settings) pairs → AscendFrom 1 pairs
ascend settings [] queue each ordered = tt
ascend settings (pair ∷ pairs) queue each ordered =
    ((All-head (IsRecord settings.re_len) pair pairs each).positive, ascend_from settings pair pairs queue each ordered)

-- the records of a section of a queue
pub record HasRecords (section : Section) : Type 0 where
  pub ascend : AscendFrom 1 (loaded section.settings section.pairs)
  pub long : All (HasLength section.settings.re_len) (loaded section.settings section.pairs)

records_load : (section : Section) → All (IsSound section.settings) section.pairs → section.settings.kind ≡ Queue → section.settings.fixed ≡ true
    → IsFit section → HasRecords section
records_load section sound queue fixed fit =
    let settings : Settings = section.settings in
    let each : All (IsRecord settings.re_len) (loaded settings section.pairs) =
    fold_all (IsRecord settings.re_len) settings (map (loaded_pair settings) section.pairs) []
    (are_records settings section.pairs queue fixed fit.pairs sound) (All-nil (IsRecord settings.re_len)) in
    record {
      ascend = ascend settings (loaded settings section.pairs) queue each (fold_ordered settings (map (loaded_pair settings) section.pairs) [] tt);
      long = all_pairs (IsRecord settings.re_len) (HasLength settings.re_len) (λ pair is. is.long) (loaded settings section.pairs) each;
    }
  where
    all_pairs : (P Q : Pair → Type 0) → ((pair : Pair) → P pair → Q pair) → (pairs : List Pair) → All P pairs → All Q pairs
    all_pairs P Q step pairs all = All-weaker P Q step pairs all

queue_loads : (section : Section) → All (IsSound section.settings) section.pairs → section.settings.kind ≡ Queue → section.settings.fixed ≡ true
    → IsFit section → All TextHasNext section.pairs → IsQueueList section.settings (loaded section.settings section.pairs)
queue_loads section sound queue fixed fit next =
    let records : HasRecords section = records_load section sound queue fixed fit in
    record {
      ascend = records.ascend;
      few =
          fold_all HasNext section.settings (map (loaded_pair section.settings) section.pairs) [] (have_next section.settings section.pairs next)
          (All-nil HasNext);
      long = records.long;
    }

pub load_into_queues : LoadIntoQueues
load_into_queues sections none =
    All-weaker (λ section. All (IsSound section.settings) section.pairs)
    (λ section. section.settings.kind ≡ Queue → section.settings.fixed ≡ true → IsFit section → All TextHasNext section.pairs
    → IsQueueList section.settings (loaded section.settings section.pairs))
    queue_loads sections (sound_pairs sections none)

-- A queue's header.

-- a section of a queue whose header has no error, in a file of a page size
pub record HasSoundHeader (size : ℕ) (alone : Bool) (section : Section) : Type 0 where
  pub narrow : is_too_wide size section.settings ≡ false
  pub apart : is_among_names alone section ≡ false

sound_header : (size : ℕ) (alone : Bool) (section : Section) → header_errors size alone section ≡ [] → HasSoundHeader size alone section
sound_header size alone section none = grind (arith, where_so, is_too_wide, RecordTooLong, is_among_names, QueueAmongNames, both_empty, not_so)

-- where no section has an error, no header of one has
sound_headers : (sections : List Section) → load_error sections ≡ None → All (HasSoundHeader (page_size_in sections) (length sections == 1)) sections
sound_headers sections none =
    let size = page_size_in sections in
    let alone = length sections == 1 in
    All-weaker (λ section. section_errors size alone section ≡ []) (HasSoundHeader size alone)
    (λ section empty. sound_header size alone section
    (both_empty (header_errors size alone section) (flat_map (pair_errors section.settings) section.pairs) empty).0)
    sections (each_empty (section_errors size alone) sections (none_hold (flat_map (section_errors size alone) sections) none))

queue_header : (size : ℕ) (alone : Bool) (section : Section) → section.settings.kind ≡ Queue → HasSoundHeader size alone section
    → (pad4 (section.settings.re_len + 1) ≤ size - 28) × (section.name ≡ None) × (alone ≡ true)
queue_header size alone section queue sound = grind (arith, nat_lt, pad4, is_queue, is_some, nat_tests, Option, None, Some)

-- the only one of sections
only_one : (sections : List Section) (k : ℕ) (d : Section) → k < length sections → (length sections == 1) ≡ true → sections ≡ get_or sections k d ∷ []
only_one [] k d low one = absurd (omega arith)
only_one (section ∷ []) k d low one =
    let first : k ≡ 0 = omega arith in ap (λ i. get_or (section ∷ []) i d ∷ []) (sym first)
only_one (section ∷ other ∷ others) k d low one = absurd (let is : length (section ∷ other ∷ others) ≡ 1 = grind (arith, nat_tests) in omega (arith, is))

pub queues_are_alone : QueuesAreAlone
queues_are_alone sections none k d low queue fixed fit =
    let section : Section = get_or sections k d in
    let sound : All (IsSound section.settings) section.pairs = sound_pairs sections none k d low in
    let header = queue_header (page_size_in sections) (length sections == 1) section queue (sound_headers sections none k d low) in
    let alone : sections ≡ section ∷ [] = only_one sections k d low header.2 in
    let records : HasRecords section = records_load section sound queue fixed fit in
    record {
      alone = alone;
      unnamed = header.1;
      room = subst (λ size. pad4 (section.settings.re_len + 1) ≤ size - 28) (ap page_size_in alone) header.0;
      ascend = records.ascend;
      long = records.long;
    }

-- Numbers of records.

next_fits : (least : ℕ) (pairs : List Pair) → AscendFrom least pairs → next_number least pairs < 2 ^ 32 → All HasNext pairs
next_fits least [] ascend low = All-nil HasNext
next_fits least (pair ∷ pairs) ascend low =
    let after : number_of pair.key + 1 ≤ next_number (number_of pair.key + 1) pairs = next_low (number_of pair.key + 1) pairs ascend.1 in
    All-cons HasNext pair pairs (omega (arith, after, low)) (next_fits (number_of pair.key + 1) pairs ascend.1 low)

-- a page has no more records than a quarter of its bytes
quarter : (size slot : ℕ) → 4 ≤ slot → (size - 28) / slot * 4 ≤ size
quarter size slot low = grind (arith, div-mul-le_self, mul-le-mul_left)

few_numbers : (number per_page size : ℕ) → 1 ≤ per_page → per_page * 4 ≤ size → (1 + (number - 1) / per_page) * size ≤ 2 ^ 30 → number < 2 ^ 32 - 1
few_numbers number per_page size some room few = grind (arith, lt-div-mul-add, mul-le-mul_left)

pub records_are_few : RecordsAreFew
records_are_few settings [] legal room ascend few = All-nil HasNext
records_are_few settings (pair ∷ pairs) legal room ascend few =
    let slot : ℕ = pad4 (settings.re_len + 1) in
    let per_page : ℕ = (settings.page_size - 28) / slot in
    let four : 4 ≤ slot = omega arith in
    let some : 1 ≤ per_page = le-div 1 (settings.page_size - 28) slot (omega (arith, four)) (omega (arith, room)) in
    let low : next_number 1 (pair ∷ pairs) - 1 < 2 ^ 32 - 1 =
    few_numbers (next_number 1 (pair ∷ pairs) - 1) per_page settings.page_size some (quarter settings.page_size slot four) few in
    next_fits 1 (pair ∷ pairs) ascend (omega (arith, low))
