-- The slots of a queue's pages, and what its metadata keeps.
use Rattle.std.proofs.Common.{◌≡◌, ℕ, zero, suc, ◌+◌, ◌-◌, ◌*◌, ◌<◌, ◌≤◌, Bool, true, false, cond, List, [], ◌∷◌, ◌++◌, length, drop, arith, refl, sym, ◌∙◌}
use Rattle.std.proofs.Common.{ap, subst}
use Rattle.std.specs.Prelude.{◌==◌, ◌&&◌, ◌||◌, not, nat_lt, Option, Some, None, is_none}
use Rattle.std.specs.List.{flat_map, range_with_len}
use Rattle.std.specs.Option.{is_some}
use Rattle.std.proofs.Math.Nat.{div-mul-le_self, mul-le-mul_right}
use Rattle.std.proofs.lemmas.Bool.{and_parts, eq-eqb, eqb-true, not-false, or_parts}
use Rattle.std.proofs.lemmas.List.{length-take}
use Rattle.bdb_rescue.specs.of_format.declared.kinds.Order.{Order}
use Rattle.bdb_rescue.specs.of_format.declared.metadata.FileKind.TheVariants.{Queue}
use Rattle.bdb_rescue.specs.of_format.declared.metadata.QueueMeta.{QueueMeta}
use Rattle.bdb_rescue.specs.of_format.Terms.{Row, byte_at, field_rows, first_row, four_at, pad4, queue_fields, records_per_page}
use Rattle.bdb_rescue.proofs.of_format.VerdictLemmas.{none_is_first_row}
use Rattle.bdb_rescue.specs.Kept.{Reading, file_in}
use Rattle.bdb_apart.specs.Queues.{bytes_at, is_queue_meta, is_queue_page, queue_from, queue_in, queue_on, queue_records_on, queue_slot, queue_slots_from}
use Rattle.bdb_apart.specs.Slots.{HasSlots}

-- The slots of a page.

pub slots_none : (meta : QueueMeta) (p : ℕ) (records : List ℕ) (slot : ℕ) → meta.per_page ≤ slot → queue_slots_from meta p records slot ≡ []
slots_none meta p records slot past =
    ap (λ n. flat_map (queue_slot meta p records) (range_with_len slot n)) (let none : meta.per_page - slot ≡ 0 = omega (arith, past) in none)

pub slots_more : (meta : QueueMeta) (p : ℕ) (records : List ℕ) (slot : ℕ) → slot < meta.per_page
    → queue_slots_from meta p records slot ≡ queue_slot meta p records slot ++ queue_slots_from meta p records (slot + 1)
slots_more meta p records slot inside =
    ap (λ n. flat_map (queue_slot meta p records) (range_with_len slot n))
    (let more : meta.per_page - slot ≡ suc (meta.per_page - (slot + 1)) = omega (arith, inside) in more)

pub slot_room : (meta : QueueMeta) (slot len : ℕ) → slot < meta.per_page → meta.per_page * pad4 (meta.re_len + 1) ≤ len
    → (slot + 1) * pad4 (meta.re_len + 1) ≤ len
slot_room meta slot len inside room =
    let part : (slot + 1) * pad4 (meta.re_len + 1) ≤ meta.per_page * pad4 (meta.re_len + 1) =
    mul-le-mul_right (pad4 (meta.re_len + 1)) (omega (arith, inside)) in
    omega (arith, part, room)

-- the record of a slot ends within the page
pub slot_ends : (slot size re_len len : ℕ) → size ≡ pad4 (re_len + 1) → (slot + 1) * pad4 (re_len + 1) ≤ len → re_len + 1 ≤ size
    → slot * size + 1 + re_len ≤ len
slot_ends slot size re_len len same room some =
    let whole : (slot + 1) * size ≤ len = subst (λ n. (slot + 1) * n ≤ len) (sym same) room in
    omega (arith, whole, some)

-- The pages of a queue.

pub queue_more : (reading : Reading) (meta : QueueMeta) (p : ℕ) → p < (file_in reading).count
    → queue_from reading meta p ≡ queue_records_on reading meta p ++ queue_from reading meta (p + 1)
queue_more reading meta p there =
    ap (λ n. flat_map (queue_records_on reading meta) (range_with_len p n))
    (let more : (file_in reading).count - p ≡ suc ((file_in reading).count - (p + 1)) = omega (arith, there) in more)

pub queue_none : (reading : Reading) (meta : QueueMeta) (p : ℕ) → (file_in reading).count ≤ p → queue_from reading meta p ≡ []
queue_none reading meta p past =
    ap (λ n. flat_map (queue_records_on reading meta) (range_with_len p n)) (let none : (file_in reading).count - p ≡ 0 = omega (arith, past) in none)

-- a page that has its number, and the type of pages of a queue, has records
pub on_queue_page : (reading : Reading) (meta : QueueMeta) (p : ℕ) (page records : List ℕ) → page ≡ bytes_at reading p → records ≡ drop 28 page
    → byte_at page 25 ≡ 11 → four_at reading.guess.order page 8 ≡ p
    → queue_slots_from meta p records 0 ≡ queue_records_on reading meta p
on_queue_page reading meta p page records is behind kind number =
    ap (λ rest. queue_slots_from meta p rest 0) behind
    ∙ (sym (ap (λ b. cond b (queue_slots_from meta p (drop 28 page) 0) [])
    (both (byte_at page 25 == 11) (four_at reading.guess.order page 8 == p)
    (eq-eqb (byte_at page 25) 11 kind) (eq-eqb (four_at reading.guess.order page 8) p number)))
    ∙ ap (λ bytes. cond (is_queue_page reading.guess.order p bytes) (queue_slots_from meta p (drop 28 bytes) 0) []) is)
  where
    both : (a b : Bool) → a ≡ true → b ≡ true → (a && b) ≡ true
    both true true isa isb = refl
    both true false isa isb = absurd cc
    both false b isa isb = absurd cc

-- Its metadata.

-- no row of two tables holds where none of either does
pub none_of_both : (rows more : List (Row ℕ)) (a b : Bool) → a ≡ is_some (first_row rows) → b ≡ is_some (first_row more)
    → is_none (first_row (rows ++ more)) ≡ not (a || b)
none_of_both [] more a b isa isb = by_first (first_row more) ∙ sym (ap (λ c. not (c || b)) isa ∙ ap not isb)
  where
    by_first : (first : Option ℕ) → is_none first ≡ not (is_some first)
    by_first None = refl
    by_first (Some code) = refl
none_of_both (row ∷ rows) more a b isa isb = by_row row.holds isa (λ rest. none_of_both rows more a b rest isb)
  where
    by_row : (holds : Bool) → a ≡ is_some (cond holds (Some row.code) (first_row rows)) → (a ≡ is_some (first_row rows)
        → is_none (first_row (rows ++ more)) ≡ not (a || b))
        → is_none (cond holds (Some row.code) (first_row (rows ++ more))) ≡ not (a || b)
    by_row true is rest = sym (ap (λ c. not (c || b)) is)
    by_row false is rest = rest is

is_first_none : (first : Option ℕ) → is_none first ≡ true → first ≡ None
is_first_none None none = refl
is_first_none (Some code) none = absurd cc

-- what row 16 leaves of the fields
record IsKept (size : ℕ) (meta : QueueMeta) : Type 0 where
  per_page : meta.per_page ≡ records_per_page size meta.re_len
  some : (records_per_page size meta.re_len == 0) ≡ false

fields_kept : (order : Order) (page : List ℕ) → first_row (field_rows order page 1 0 Queue) ≡ None → IsKept (length page) (queue_fields order page)
fields_kept order page none =
    let meta : QueueMeta = queue_fields order page in
    let fail = none_is_first_row (field_rows order page 1 0 Queue) none in
    let parts = or_parts (records_per_page (length page) meta.re_len == 0) (not (meta.per_page == records_per_page (length page) meta.re_len))
    fail.1.1.1.1.1.1.1.0 in
    record {
      per_page = eqb-true meta.per_page (records_per_page (length page) meta.re_len)
          (not-false (meta.per_page == records_per_page (length page) meta.re_len) parts.1);
      some = parts.0;
    }

kept_slots : (size : ℕ) (meta : QueueMeta) → IsKept size meta → HasSlots size meta
kept_slots size meta kept =
    let per : ℕ = records_per_page size meta.re_len in
    let within : per * pad4 (meta.re_len + 1) ≤ size - 28 = div-mul-le_self (size - 28) (pad4 (meta.re_len + 1)) in
    let some : 1 ≤ per = positive per kept.some in
    let one : 1 * pad4 (meta.re_len + 1) ≤ per * pad4 (meta.re_len + 1) = mul-le-mul_right (pad4 (meta.re_len + 1)) some in
    subst (λ n. 28 + n * pad4 (meta.re_len + 1) ≤ size) (sym kept.per_page) (omega (arith, within, one))
  where
    positive : (n : ℕ) → (n == 0) ≡ false → 1 ≤ n
    positive zero is = absurd cc
    positive (suc n) is = omega arith

on_page : (order : Order) (page : List ℕ) (meta : QueueMeta) (b : Bool) → is_queue_meta order page ≡ b
    → cond b (Some (queue_fields order page)) None ≡ Some meta
    → HasSlots (length page) meta
on_page order page meta true is so =
    let none : first_row (field_rows order page 1 0 Queue) ≡ None =
    is_first_none (first_row (field_rows order page 1 0 Queue))
    (and_parts _ _ (and_parts _ _ is).0).1 in
    let same : queue_fields order page ≡ meta = cc in
    kept_slots (length page) meta (subst (IsKept (length page)) same (fields_kept order page none))
on_page order page meta false is so = absurd cc

-- the slots of a queue lie within its pages
pub has_slots : (reading : Reading) (meta : QueueMeta) → queue_in reading ≡ Some meta → HasSlots reading.guess.page_size meta
unfolding queue_in
has_slots reading meta is = by_count (nat_lt 0 (file_in reading).count) is
  where
    page : List ℕ
    page = bytes_at reading 0

    by_count : (b : Bool) → cond b (queue_on reading.guess.order page) None ≡ Some meta → HasSlots reading.guess.page_size meta
    by_count true so =
        let on : HasSlots (length page) meta = on_page reading.guess.order page meta (is_queue_meta reading.guess.order page) refl so in
        omega (arith, on, length-take reading.guess.page_size (drop (0 * reading.guess.page_size) reading.image))
    by_count false so = absurd cc
