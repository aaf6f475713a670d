-- The lists of records: their numbers ascend, and their lengths are those that are told.
use Rattle.std.proofs.Common.{◌≡◌, ℕ, ◌+◌, ◌-◌, ◌*◌, ◌<◌, ◌≤◌, Bool, true, false, not, cond, List, [], ◌∷◌, length, arith, refl, sym, ◌∙◌, ap, subst, inl, ◌&&◌}
use Rattle.std.proofs.Common.{◌==◌, slice_range}
use Rattle.std.specs.List.{Contains, enumerate_from, range_with_len}
use Rattle.std.proofs.lemmas.Bool.{and_parts, eq-eqb}
use Rattle.std.proofs.lemmas.Bool.Decides.{nat_tests}
use Rattle.std.proofs.Math.Nat.{mul-le-mul_right}
use Rattle.bdb_databases.specs.of_format.declared.metadata.BtreeMeta.{BtreeMeta}
use Rattle.bdb_databases.specs.of_format.declared.metadata.QueueMeta.{QueueMeta}
use Rattle.bdb_databases.specs.of_format.declared.kinds.Order.{Order}
use Rattle.bdb_databases.specs.of_format.declared.settings.Settings.{Settings}
use Rattle.bdb_databases.specs.of_format.Terms.{BtreeFields, BytesKey, File, Item, ListKey, NumberKey, Page, Queue, QueueFields, btree_contents}
use Rattle.bdb_databases.specs.of_format.Terms.{database_faults, database_rows, entries_in, file_of, has_wrong_record, is_fixed, is_recno, is_record}
use Rattle.bdb_databases.specs.of_format.Terms.{is_wrong_at, is_wrong_record, leaves, listed_entry, listed_slot, no_header, pad4, page_at, page_records}
use Rattle.bdb_databases.specs.of_format.Terms.{queue_list, queue_settings, recno_contents, recno_list, recno_settings, record_number, slot_at, tree_entries}
use Rattle.bdb_databases.specs.of_format.Terms.{value_of}
use Rattle.bdb_databases.specs.of_format.Verdict.{holding}
use Rattle.bdb_databases.proofs.of_format.BoolLemmas.{second_false}
use Rattle.bdb_databases.proofs.of_format.ListLemmas.{only_member}
use Rattle.bdb_databases.proofs.of_format.MemberLemmas.{no_member, none_passes, of_flat_map, of_range}
use Rattle.bdb_databases.proofs.of_format.TurnLemmas.{length-slice_range}
use Rattle.bdb_databases.proofs.of_format.VerdictLemmas.{AllFail, all_fail, no_codes_at}
use Rattle.bdb_databases.specs.of_image.Linked.{HasMetadata, IsForest}
use Rattle.bdb_databases.specs.of_queue.Records.{HasSlots}
use Rattle.bdb_databases.proofs.of_queue.QueueLemmas.{page_slots}
use Rattle.bdb_databases.proofs.of_queue.RecordLemmas.{slot_room}
use Rattle.bdb_databases.proofs.of_recno.PageLemmas.{leaf_inside, leaves_recno, root_recno}
use Rattle.bdb_law_kept.proofs.LaterLemmas.{later_enumerate, later_flat, later_one, later_other, later_range, of_enumerate}
use Rattle.bdb_law_kept.proofs.SettledLemmas.{ComesBefore, HasItsLength, InOrder}

-- a key that is no number, or a number above 0
abbrev pub IsNotZero : ListKey → Type 0
IsNotZero (BytesKey bytes) = Unit {0}
IsNotZero (NumberKey number) = 1 ≤ number

-- a list that is kept where it is loaded: in order, of the lengths that are told, and without a record 0
pub record IsKeptList (settings : Settings) (list : List (ListKey × List ℕ)) : Type 0 where
  pub ordered : InOrder settings list
  pub long : (pair : ListKey × List ℕ) → Contains list pair → HasItsLength settings pair
  pub some : (pair : ListKey × List ℕ) → Contains list pair → IsNotZero pair.0

-- one number before another
number_before : (settings : Settings) (a b : ListKey × List ℕ) (m n : ℕ) → a.0 ≡ NumberKey m → b.0 ≡ NumberKey n → m < n → ComesBefore settings a b
number_before settings (NumberKey k, value) (NumberKey l, other) m n one two less =
    let first : k ≡ m = cc in
    let second : l ≡ n = cc in
    inl (grind (arith, nat_tests, first, second, less))
number_before settings (BytesKey k, value) b m n one two less = absurd cc
number_before settings (NumberKey k, value) (BytesKey l, other) m n one two less = absurd cc

at_most_one : (settings : Settings) (b : Bool) (pair : ListKey × List ℕ) → InOrder settings (cond b (pair ∷ []) [])
at_most_one settings true pair = later_one (ComesBefore settings) pair
at_most_one settings false pair = tt

not_zero : (key : ListKey) (n : ℕ) → key ≡ NumberKey n → 1 ≤ n → IsNotZero key
not_zero key n is some = subst IsNotZero (sym is) some

-- Recno.

-- a pair that an entry gives
pub record IsOfEntry (file : File) (placed : ℕ × Item) (pair : ListKey × List ℕ) : Type 0 where
  pub key : pair.0 ≡ NumberKey placed.0
  pub value : pair.1 ≡ value_of file placed.1.content
  pub live : placed.1.deleted ≡ false

pub of_entry : (file : File) (placed : ℕ × Item) (pair : ListKey × List ℕ) → Contains (listed_entry file placed) pair → IsOfEntry file placed pair
of_entry file (number, item) pair at = step item.deleted refl at
  where
    step : (b : Bool) → item.deleted ≡ b → Contains (cond b [] ((NumberKey number, value_of file item.content) ∷ [])) pair
        → IsOfEntry file (number, item) pair
    step true is at = absurd (no_member [] pair refl at)
    step false is at =
        let same : (NumberKey number, value_of file item.content) ≡ pair = only_member (NumberKey number, value_of file item.content) pair at in
        record { key = ap (λ (p : ListKey × List ℕ). p.0) (sym same); value = ap (λ (p : ListKey × List ℕ). p.1) (sym same); live = is }

one_entry : (settings : Settings) (file : File) (placed : ℕ × Item) → InOrder settings (listed_entry file placed)
one_entry settings file (number, item) = step item.deleted
  where
    step : (b : Bool) → InOrder settings (cond b [] ((NumberKey number, value_of file item.content) ∷ []))
    step true = tt
    step false = later_one (ComesBefore settings) (NumberKey number, value_of file item.content)

-- where a recno's list comes from
pub of_recno : (file : File) (root : ℕ) (pair : ListKey × List ℕ) → Contains (recno_list file root) pair
    → (placed : ℕ × Item) × Contains (enumerate_from 1 (tree_entries file root)) placed × IsOfEntry file placed pair
unfolding recno_list
of_recno file root pair at =
    let found = of_flat_map (listed_entry file) (enumerate_from 1 (tree_entries file root)) pair at in
    (found.0, found.1, of_entry file found.0 pair found.2)

recno_ordered : (settings : Settings) (file : File) (root : ℕ) → InOrder settings (recno_list file root)
unfolding recno_list
recno_ordered settings file root =
    later_flat (ComesBefore settings) (listed_entry file) (enumerate_from 1 (tree_entries file root))
    (λ placed at. one_entry settings file placed)
    (later_other (λ (a b : ℕ × Item). a.0 < b.0) _ (enumerate_from 1 (tree_entries file root))
    (λ a b at_a at_b less x y at_x at_y.
    number_before settings x y a.0 b.0 (of_entry file a x at_x).key (of_entry file b y at_y).key less)
    (later_enumerate 1 (tree_entries file root)))

-- the rows of a recno
pub recno_rows : (file : File) (meta : BtreeMeta) (p : ℕ) (b : Bool) → b ≡ true
    → holding (cond b (recno_contents file meta p) (btree_contents file meta p)) ≡ []
    → holding (recno_contents file meta p) ≡ []
recno_rows file meta p true is none = none
recno_rows file meta p false is none = absurd cc

right_length : (live : Bool) (n m : ℕ) → live ≡ false → (not live && not (n == m)) ≡ false → n ≡ m
right_length live n m is none = grind (arith, nat_tests, is, none)

entry_length : (image : List ℕ) (meta : BtreeMeta) (item : Item) → IsForest image → HasMetadata (file_of image) (BtreeFields meta)
    → is_recno meta ≡ true → database_faults (file_of image) (BtreeFields meta) ≡ [] → is_fixed meta ≡ true
    → Contains (tree_entries (file_of image) meta.root) item → item.deleted ≡ false
    → length (value_of (file_of image) item.content) ≡ meta.re_len
unfolding database_faults tree_entries
entry_length image meta item forest has recno none fixed at live =
    let file : File = file_of image in
    let ps : List ℕ = leaves file meta.root in
    let found = of_flat_map (λ p. entries_in (page_at file p)) ps item at in
    let p : ℕ = found.0 in
    let low : p ≤ file.last = leaf_inside image p (leaves_recno image meta.root p forest (root_recno image meta forest has recno) found.1) in
    let codes : holding (database_rows file (BtreeFields meta) p) ≡ [] =
    no_codes_at 8 0 (file.last + 1) p (λ q. holding (database_rows file (BtreeFields meta) q)) none (omega arith) (omega arith) in
    let fail : AllFail (recno_contents file meta p) = all_fail (recno_contents file meta p) (recno_rows file meta p (is_recno meta) recno codes) in
    let row : is_wrong_at file (has_wrong_record file meta) ps p ≡ false =
    second_false (is_fixed meta) (is_wrong_at file (has_wrong_record file meta) ps p) fixed fail.1.0 in
    let page : has_wrong_record file meta (page_at file p) ≡ false =
    second_false (p == p) (has_wrong_record file meta (page_at file p)) (eq-eqb p p refl)
    (none_passes (λ q. q == p && has_wrong_record file meta (page_at file q)) ps p row found.1) in
    right_length item.deleted (length (value_of file item.content)) meta.re_len live
    (none_passes (is_wrong_record file meta) (entries_in (page_at file p)) item page found.2)

pub recno_kept : (image : List ℕ) (meta : BtreeMeta) (size : ℕ) (order : Order) → IsForest image → HasMetadata (file_of image) (BtreeFields meta)
    → is_recno meta ≡ true → database_faults (file_of image) (BtreeFields meta) ≡ []
    → IsKeptList (recno_settings size order meta) (recno_list (file_of image) meta.root)
recno_kept image meta size order forest has recno none = record {
  ordered = recno_ordered (recno_settings size order meta) (file_of image) meta.root;
  long = λ pair at fixed.
      let found = of_recno (file_of image) meta.root pair at in
      let among = of_enumerate 1 (tree_entries (file_of image) meta.root) found.0 found.1 in
      ap length found.2.value
      ∙ entry_length image meta found.0.1 forest has recno none (and_parts (is_fixed meta) true fixed).0 among.2 found.2.live;
  some = λ pair at.
      let found = of_recno (file_of image) meta.root pair at in
      not_zero pair.0 found.0.0 found.2.key (of_enumerate 1 (tree_entries (file_of image) meta.root) found.0 found.1).0;
}

-- Queues.

-- a pair that a slot of a page gives
pub record IsOfSlot (meta : QueueMeta) (p : ℕ) (records : List ℕ) (slot : ℕ) (pair : ListKey × List ℕ) : Type 0 where
  pub key : pair.0 ≡ NumberKey (record_number meta p slot)
  pub value : pair.1 ≡ slice_range records (slot_at meta slot + 1) (slot_at meta slot + 1 + meta.re_len)
  pub live : is_record meta p records slot ≡ true

of_slot : (meta : QueueMeta) (p : ℕ) (records : List ℕ) (slot : ℕ) (pair : ListKey × List ℕ) → Contains (listed_slot meta p records slot) pair
    → IsOfSlot meta p records slot pair
of_slot meta p records slot pair at = step (is_record meta p records slot) refl at
  where
    one : ListKey × List ℕ
    one = (NumberKey (record_number meta p slot), slice_range records (slot_at meta slot + 1) (slot_at meta slot + 1 + meta.re_len))

    step : (b : Bool) → is_record meta p records slot ≡ b → Contains (cond b (one ∷ []) []) pair → IsOfSlot meta p records slot pair
    step true is at =
        let same : one ≡ pair = only_member one pair at in
        record { key = ap (λ (p : ListKey × List ℕ). p.0) (sym same); value = ap (λ (p : ListKey × List ℕ). p.1) (sym same); live = is }
    step false is at = absurd (no_member [] pair refl at)

-- a pair that a page gives: the page is one of records, and a slot of it gives the pair
pub record IsOfPage (meta : QueueMeta) (p : ℕ) (page : Page) (pair : ListKey × List ℕ) : Type 0 where
  pub number : ℕ
  pub records : List ℕ
  pub slot : ℕ
  pub page_is : page ≡ Queue number records
  pub low : slot < meta.per_page
  pub of : IsOfSlot meta p records slot pair

pub of_page : (meta : QueueMeta) (p : ℕ) (page : Page) (pair : ListKey × List ℕ) → Contains (page_records meta p page) pair
    → IsOfPage meta p page pair
of_page meta p (Queue number records) pair at =
    let found = of_flat_map (listed_slot meta p records) (range_with_len 0 meta.per_page) pair at in
    let within = of_range 0 meta.per_page found.0 found.1 in
    record {
      number = number;
      records = records;
      slot = found.0;
      page_is = refl;
      low = omega (arith, within.1);
      of = of_slot meta p records found.0 pair found.2;
    }
of_page meta p page pair at = absurd (no_member [] pair refl at)

page_ordered : (settings : Settings) (meta : QueueMeta) (p : ℕ) (page : Page) → InOrder settings (page_records meta p page)
page_ordered settings meta p (Queue number records) =
    later_flat (ComesBefore settings) (listed_slot meta p records) (range_with_len 0 meta.per_page)
    (λ slot at. at_most_one settings (is_record meta p records slot) _)
    (later_other (λ (i j : ℕ). i < j) _ (range_with_len 0 meta.per_page)
    (λ i j at_i at_j less x y at_x at_y.
    number_before settings x y (record_number meta p i) (record_number meta p j) (of_slot meta p records i x at_x).key
    (of_slot meta p records j y at_y).key (omega (arith, less)))
    (later_range 0 meta.per_page))
page_ordered settings meta p page = tt

-- slots of a page come before those of a later page
slots_rise : (per a b i j : ℕ) → a < b → i < per → a * per + i + 1 < b * per + j + 1
slots_rise per a b i j less low =
    let more : (a + 1) * per ≤ b * per = mul-le-mul_right per (omega (arith, less)) in
    omega (arith, more, low)

queue_ordered : (settings : Settings) (file : File) (meta : QueueMeta) → InOrder settings (queue_list file meta)
unfolding queue_list
queue_ordered settings file meta =
    later_flat (ComesBefore settings) (λ p. page_records meta p (page_at file p)) (range_with_len 1 file.last)
    (λ p at. page_ordered settings meta p (page_at file p))
    (later_other (λ (p q : ℕ). p < q) _ (range_with_len 1 file.last)
    (λ p q at_p at_q less x y at_x at_y.
    let one = of_page meta p (page_at file p) x at_x in
    let two = of_page meta q (page_at file q) y at_y in
    number_before settings x y (record_number meta p one.slot) (record_number meta q two.slot) one.of.key two.of.key
    (slots_rise meta.per_page (p - 1) (q - 1) one.slot two.slot (omega (arith, (of_range 1 file.last p at_p).0, less)) one.low))
    (later_range 1 file.last))

-- where a queue's list comes from
pub of_queue : (file : File) (meta : QueueMeta) (pair : ListKey × List ℕ) → Contains (queue_list file meta) pair
    → (p : ℕ) × (p ≤ file.last) × IsOfPage meta p (page_at file p) pair
unfolding queue_list
of_queue file meta pair at =
    let found = of_flat_map (λ p. page_records meta p (page_at file p)) (range_with_len 1 file.last) pair at in
    let within = of_range 1 file.last found.0 found.1 in
    (found.0, omega (arith, within.1), of_page meta found.0 (page_at file found.0) pair found.2)

-- a length and its rounding
pad_above : (n : ℕ) → n ≤ pad4 n
pad_above n = omega arith

pub slot_inside : (image : List ℕ) (meta : QueueMeta) (p number slot : ℕ) (records : List ℕ) → IsForest image
    → HasMetadata (file_of image) (QueueFields meta) → p ≤ (file_of image).last → page_at (file_of image) p ≡ Queue number records
    → slot < meta.per_page → slot_at meta slot + 1 + meta.re_len ≤ length records
slot_inside image meta p number slot records forest has low is inside =
    let slots : HasSlots meta records =
    page_slots image meta p (record { header = no_header; number = number; bytes = records }) forest has low (sym is) in
    let room : (slot + 1) * pad4 (meta.re_len + 1) ≤ length records = slot_room meta records slot inside slots in
    let pad : meta.re_len + 1 ≤ pad4 (meta.re_len + 1) = pad_above (meta.re_len + 1) in
    more slot (pad4 (meta.re_len + 1)) room pad
  where
    more : (i pad : ℕ) → (i + 1) * pad ≤ length records → meta.re_len + 1 ≤ pad → i * pad + 1 + meta.re_len ≤ length records
    more i pad room above = omega (arith, room, above)

pub queue_kept : (image : List ℕ) (meta : QueueMeta) (size : ℕ) (order : Order) → IsForest image
    → HasMetadata (file_of image) (QueueFields meta) → IsKeptList (queue_settings size order meta) (queue_list (file_of image) meta)
queue_kept image meta size order forest has = record {
  ordered = queue_ordered (queue_settings size order meta) (file_of image) meta;
  long = λ pair at fixed.
      let found = of_queue (file_of image) meta pair at in
      let page = found.2 in
      let from : ℕ = slot_at meta page.slot + 1 in
      ap length page.of.value
      ∙ length-slice_range page.records from (from + meta.re_len)
      (slot_inside image meta found.0 page.number page.slot page.records forest has found.1 page.page_is page.low)
      ∙ (let n : from + meta.re_len - from ≡ meta.re_len = omega arith in n);
  some = λ pair at.
      let found = of_queue (file_of image) meta pair at in
      not_zero pair.0 (record_number meta found.0 found.2.slot) found.2.of.key (omega arith);
}
