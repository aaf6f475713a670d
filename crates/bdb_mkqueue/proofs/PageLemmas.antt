-- The bytes of a page of records.
use Rattle.std.proofs.Common.{◌≡◌, ℕ, zero, suc, ◌+◌, ◌-◌, ◌*◌, ◌^◌, ◌<◌, ◌≤◌, Bool, true, false, cond, List, [], ◌∷◌, ◌++◌, length, drop, set, get_or, Option}
use Rattle.std.proofs.Common.{Some, None, arith, append_assoc, refl, sym, ◌∙◌, ap, length-append, is_some}
use Rattle.bdb_mkqueue.proofs.Common.{flat_map, list_any, eq-eqb, length-replicate, length-set, replicate-append-replicate, Order, Queue, Zero, abstract_page, byte_at, first_row, four_at}
use Rattle.bdb_mkqueue.proofs.Common.{header_bytes, header_of, identity_rows, is_queue_type, is_zero, overwritten, pad4, page_type, queue_code, zeros, code_by, zeros_are, suc-times, header_read}
use Rattle.bdb_mkqueue.proofs.Common.{length-header, queue_page, records_header, records_page, slot_bytes, none_by}
use Rattle.std.proofs.Math.Seq.{drop-append-add, drop-append_seam, take-append-add}
use Rattle.std.proofs.lemmas.List.Folds.{list_all_at}
use Rattle.bdb_text_format.specs.of_format.declared.pages.Header.{Header}
use Rattle.bdb_text_format.proofs.of_format.GraphLemmas.{typed_page, zero_page}

-- Slots.

-- a record has the length of all
abbrev pub FitsSlot : ℕ → Option (List ℕ) → Type 0
FitsSlot re_len None = Unit {0}
FitsSlot re_len (Some value) = length value ≡ re_len

abbrev pub AllFit : ℕ → List (Option (List ℕ)) → Type 0
AllFit re_len [] = Unit {0}
AllFit re_len (slot ∷ slots) = FitsSlot re_len slot × AllFit re_len slots

length-slot : (re_len : ℕ) (slot : Option (List ℕ)) → FitsSlot re_len slot → length (slot_bytes re_len slot) ≡ pad4 (re_len + 1)
length-slot re_len None fits = length-replicate {A = ℕ} (pad4 (re_len + 1)) 0
length-slot re_len (Some value) fits = grind (arith, length-append, length-replicate)

length-slots : (re_len : ℕ) (slots : List (Option (List ℕ))) → AllFit re_len slots
    → length (flat_map (slot_bytes re_len) slots) ≡ length slots * pad4 (re_len + 1)
length-slots re_len [] fits = let none : 0 ≡ 0 * pad4 (re_len + 1) = grind arith in none
length-slots re_len (slot ∷ slots) fits = grind (arith, length-append, length-slot, suc-times, length-slots re_len slots fits.1)

-- empty slots are zeros
slots_zero : (re_len : ℕ) (slots : List (Option (List ℕ))) → list_any is_some slots ≡ false
    → flat_map (slot_bytes re_len) slots ≡ zeros (length slots * pad4 (re_len + 1))
slots_zero re_len [] none = let empty : 0 ≡ 0 * pad4 (re_len + 1) = grind arith in ap zeros empty
slots_zero re_len (None ∷ slots) none = grind (arith, replicate-append-replicate, suc-times, slots_zero re_len slots none)
slots_zero re_len (Some value ∷ slots) none = absurd cc

-- what is written over an empty slot
over_append : (a b : List ℕ) (n : ℕ) (piece : List ℕ) → overwritten (a ++ b) (length a + n) piece ≡ a ++ overwritten b n piece
over_append a b n piece = grind (arith, take-append-add, drop-append-add, append_assoc)

over_first : (z : ℕ) (value more : List ℕ) → length value + 1 ≤ z
    → overwritten (zeros z ++ more) 0 (3 ∷ value) ≡ (3 ∷ (value ++ zeros (z - 1 - length value))) ++ more
over_first z value more room =
    let m : ℕ = length value + 1 in
    let n : ℕ = z - 1 - length value in
    let all : m + n ≡ z = omega arith in
    let cut : zeros z ≡ zeros m ++ zeros n = ap zeros (sym all) ∙ sym (replicate-append-replicate m n 0) in
    let at : suc (length value) ≡ length (zeros m) = omega (arith, length-replicate {A = ℕ} m 0) in
    let rest : drop (suc (length value)) (zeros z ++ more) ≡ zeros n ++ more =
    ap (λ bs. drop (suc (length value)) (bs ++ more)) cut
    ∙ (ap (drop (suc (length value))) (append_assoc (zeros m) (zeros n) more)
    ∙ (ap (λ k. drop k (zeros m ++ (zeros n ++ more))) at ∙ drop-append_seam (zeros m) (zeros n ++ more))) in
    let zero_at : 0 + suc (length value) ≡ suc (length value) = omega arith in
    ap (λ k. 3 ∷ (value ++ drop k (zeros z ++ more))) zero_at
    ∙ (ap (λ bs. 3 ∷ (value ++ bs)) rest ∙ ap (λ bs. 3 ∷ bs) (sym (append_assoc value (zeros n) more)))

write_slot : (re_len : ℕ) (slots : List (Option (List ℕ))) (tail : List ℕ) (s : ℕ) (value : List ℕ) → AllFit re_len slots → s < length slots
    → get_or slots s None ≡ None → length value ≡ re_len
    → overwritten (flat_map (slot_bytes re_len) slots ++ tail) (s * pad4 (re_len + 1)) (3 ∷ value)
    ≡ flat_map (slot_bytes re_len) (set slots s (Some value)) ++ tail
write_slot re_len [] tail s value fits low empty long = absurd (omega arith)
write_slot re_len (slot ∷ slots) tail zero value fits low empty long = grind (arith, append_assoc, over_first, Some)
write_slot re_len (slot ∷ slots) tail (suc s) value fits low empty long =
    let z : ℕ = pad4 (re_len + 1) in
    let first : List ℕ = slot_bytes re_len slot in
    let more : List ℕ = flat_map (slot_bytes re_len) slots ++ tail in
    let at : suc s * z ≡ length first + s * z = omega (arith, suc-times s z, length-slot re_len slot fits.0) in
    ap (λ k. overwritten ((first ++ flat_map (slot_bytes re_len) slots) ++ tail) k (3 ∷ value)) at
    ∙ (ap (λ bs. overwritten bs (length first + s * z) (3 ∷ value)) (append_assoc first (flat_map (slot_bytes re_len) slots) tail)
    ∙ (over_append first more (s * z) (3 ∷ value)
    ∙ (ap (λ bs. first ++ bs) (write_slot re_len slots tail s value fits.1 (omega arith) empty long)
    ∙ sym (append_assoc first (flat_map (slot_bytes re_len) (set slots s (Some value))) tail))))

-- what stands from a slot on
pub from_slot : (re_len : ℕ) (slots : List (Option (List ℕ))) (tail : List ℕ) (s : ℕ) → AllFit re_len slots → s < length slots
    → (rest : List ℕ) × (drop (s * pad4 (re_len + 1)) (flat_map (slot_bytes re_len) slots ++ tail) ≡ slot_bytes re_len (get_or slots s None) ++ rest)
from_slot re_len [] tail s fits low = absurd (omega arith)
from_slot re_len (slot ∷ slots) tail zero fits low =
    let at : 0 * pad4 (re_len + 1) ≡ 0 = grind arith in (
      flat_map (slot_bytes re_len) slots ++ tail,
      ap (λ k. drop k ((slot_bytes re_len slot ++ flat_map (slot_bytes re_len) slots) ++ tail)) at
          ∙ append_assoc (slot_bytes re_len slot) (flat_map (slot_bytes re_len) slots) tail,
    )
from_slot re_len (slot ∷ slots) tail (suc s) fits low =
    let z : ℕ = pad4 (re_len + 1) in
    let first : List ℕ = slot_bytes re_len slot in
    let more : List ℕ = flat_map (slot_bytes re_len) slots ++ tail in
    let at : suc s * z ≡ length first + s * z = omega (arith, suc-times s z, length-slot re_len slot fits.0) in
    let later = from_slot re_len slots tail s fits.1 (omega arith) in (
      later.0,
      ap (λ k. drop k ((first ++ flat_map (slot_bytes re_len) slots) ++ tail)) at
          ∙ (ap (drop (length first + s * z)) (append_assoc first (flat_map (slot_bytes re_len) slots) tail)
          ∙ (drop-append-add first more (s * z) ∙ later.1)),
    )

-- Pages.

-- the slots of a page lie on it
pub record OnPage (size re_len : ℕ) (slots : List (Option (List ℕ))) : Type 0 where
  pub fit : AllFit re_len slots
  pub room : length slots * pad4 (re_len + 1) ≤ size - 28
  pub long : 512 ≤ size

-- the bytes in front of the slots, and behind them
abbrev front : Order → ℕ → List ℕ
front order p = header_bytes order (records_header p) ++ zeros 2

abbrev pub tail_of : ℕ → ℕ → List (Option (List ℕ)) → List ℕ
tail_of size re_len slots = zeros (size - 28 - length slots * pad4 (re_len + 1))

length-front : (order : Order) (p : ℕ) → length (front order p) ≡ 28
length-front order p = grind (arith, length-append, length-header, length-replicate)

records_is : (order : Order) (size re_len p : ℕ) (slots : List (Option (List ℕ)))
    → records_page order size re_len p slots ≡ front order p ++ (flat_map (slot_bytes re_len) slots ++ tail_of size re_len slots)
records_is order size re_len p slots =
    sym (append_assoc (header_bytes order (records_header p)) (zeros 2) (flat_map (slot_bytes re_len) slots ++ tail_of size re_len slots))

pub records_behind : (order : Order) (size re_len p : ℕ) (slots : List (Option (List ℕ)))
    → drop 28 (records_page order size re_len p slots) ≡ flat_map (slot_bytes re_len) slots ++ tail_of size re_len slots
records_behind order size re_len p slots =
    let rest : List ℕ = flat_map (slot_bytes re_len) slots ++ tail_of size re_len slots in
    ap (drop 28) (records_is order size re_len p slots)
    ∙ (ap (λ k. drop k (front order p ++ rest)) (sym (length-front order p)) ∙ drop-append_seam (front order p) rest)

pub length-records : (order : Order) (size re_len p : ℕ) (slots : List (Option (List ℕ))) → OnPage size re_len slots
    → length (records_page order size re_len p slots) ≡ size
length-records order size re_len p slots on = grind (arith, length-slots, records_is, length-append, length-front, length-replicate)

-- a record is written into its slot
pub record_written : (order : Order) (size re_len p : ℕ) (slots : List (Option (List ℕ))) (s : ℕ) (value : List ℕ) → OnPage size re_len slots
    → s < length slots → get_or slots s None ≡ None → length value ≡ re_len
    → overwritten (records_page order size re_len p slots) (28 + s * pad4 (re_len + 1)) (3 ∷ value)
    ≡ records_page order size re_len p (set slots s (Some value))
record_written order size re_len p slots s value on low empty long =
    let z : ℕ = pad4 (re_len + 1) in
    let tail : List ℕ = tail_of size re_len slots in
    let at : 28 + s * z ≡ length (front order p) + s * z = omega (arith, length-front order p) in
    let same : length (set slots s (Some value)) ≡ length slots = length-set slots s (Some value) in
    ap (λ bs. overwritten bs (28 + s * z) (3 ∷ value)) (records_is order size re_len p slots)
    ∙ (ap (λ k. overwritten (front order p ++ (flat_map (slot_bytes re_len) slots ++ tail)) k (3 ∷ value)) at
    ∙ (over_append (front order p) (flat_map (slot_bytes re_len) slots ++ tail) (s * z) (3 ∷ value)
    ∙ (ap (λ bs. front order p ++ bs) (write_slot re_len slots tail s value on.fit low empty long)
    ∙ (ap (λ n. front order p ++ (flat_map (slot_bytes re_len) (set slots s (Some value)) ++ zeros (size - 28 - n * z))) (sym same)
    ∙ sym (records_is order size re_len p (set slots s (Some value)))))))

zeros_cut : (re_len : ℕ) (slots : List (Option (List ℕ))) (left : ℕ) → list_any is_some slots ≡ false
    → zeros (2 + (length slots * pad4 (re_len + 1) + left)) ≡ zeros 2 ++ (flat_map (slot_bytes re_len) slots ++ zeros left)
zeros_cut re_len slots left none =
    let n : ℕ = length slots * pad4 (re_len + 1) in
    sym (replicate-append-replicate 2 (n + left) 0)
    ∙ ap (λ bs. zeros 2 ++ bs) (sym (replicate-append-replicate n left 0) ∙ ap (λ bs. bs ++ zeros left) (sym (slots_zero re_len slots none)))

-- a zero page with a header is one whose slots are empty
pub page_begun : (order : Order) (size re_len p : ℕ) (slots : List (Option (List ℕ))) → OnPage size re_len slots → list_any is_some slots ≡ false
    → overwritten (zeros size) 0 (header_bytes order (records_header p)) ≡ records_page order size re_len p slots
page_begun order size re_len p slots on none =
    let header : List ℕ = header_bytes order (records_header p) in
    let h : length header ≡ 26 = length-header order (records_header p) in
    let n : ℕ = length slots * pad4 (re_len + 1) in
    let whole : 26 + (2 + (n + (size - 28 - n))) ≡ size = omega (arith, on.room, on.long) in
    let cut : zeros size ≡ zeros 26 ++ zeros (2 + (n + (size - 28 - n))) =
    ap zeros (sym whole) ∙ sym (replicate-append-replicate 26 (2 + (n + (size - 28 - n))) 0) in
    let at : 0 + length header ≡ length (zeros 26) = omega (arith, h, length-replicate {A = ℕ} 26 0) in
    let rest : drop (0 + length header) (zeros size) ≡ zeros (2 + (n + (size - 28 - n))) =
    ap (drop (0 + length header)) cut
    ∙ (ap (λ k. drop k (zeros 26 ++ zeros (2 + (n + (size - 28 - n))))) at ∙ drop-append_seam (zeros 26) (zeros (2 + (n + (size - 28 - n))))) in
    ap (λ bs. header ++ bs) (rest ∙ zeros_cut re_len slots (size - 28 - n) none)

-- Form.

pub records_read : (order : Order) (size re_len p : ℕ) (slots : List (Option (List ℕ))) → p < 2 ^ 32
    → header_of order (records_page order size re_len p slots) ≡ records_header p
records_read order size re_len p slots small = grind (arith, header_read)

records_type : (order : Order) (size re_len p : ℕ) (slots : List (Option (List ℕ))) → p < 2 ^ 32
    → byte_at (records_page order size re_len p slots) 25 ≡ 11
records_type order size re_len p slots small = ap (λ (h : Header). h.page_type) (records_read order size re_len p slots small)

records_number : (order : Order) (size re_len p : ℕ) (slots : List (Option (List ℕ))) → p < 2 ^ 32
    → four_at order (records_page order size re_len p slots) 8 ≡ p
records_number order size re_len p slots small = ap (λ (h : Header). h.number) (records_read order size re_len p slots small)

records_some : (order : Order) (size re_len p : ℕ) (slots : List (Option (List ℕ))) → OnPage size re_len slots → p < 2 ^ 32
    → is_zero (records_page order size re_len p slots) ≡ false
records_some order size re_len p slots on small = grind (arith, list_all_at, length-records, records_type)

zero_by : (empty : Bool) (identity : Option ℕ) → empty ≡ true → code_by empty identity None ≡ None
zero_by true identity is = refl
zero_by false identity is = absurd cc

zeros_formed : (order : Order) (size p : ℕ) → queue_code order p (zeros size) ≡ None
unfolding queue_code
zeros_formed order size p = zero_by (is_zero (zeros size)) (first_row (identity_rows order (zeros size) p is_queue_type)) (zeros_are size)

records_formed : (order : Order) (size re_len p : ℕ) (slots : List (Option (List ℕ))) → p < 2 ^ 32
    → queue_code order p (records_page order size re_len p slots) ≡ None
unfolding queue_code
records_formed order size re_len p slots small = grind (arith, eq-eqb, records_number, records_type, none_by, None, Some)

code_if : (b : Bool) (order : Order) (p : ℕ) (one two : List ℕ) → queue_code order p one ≡ None → queue_code order p two ≡ None
    → queue_code order p (cond b one two) ≡ None
code_if true order p one two first second = first
code_if false order p one two first second = second

-- no page of a queue has a row of form
pub page_formed : (order : Order) (size re_len p : ℕ) (slots : List (Option (List ℕ))) → p < 2 ^ 32
    → queue_code order p (queue_page order size re_len p slots) ≡ None
page_formed order size re_len p slots small = grind (arith, code_if, records_formed, zeros_formed)

-- what a page stands for
pub zeros_stand : (order : Order) (size : ℕ) → abstract_page order (zeros size) ≡ Zero
zeros_stand order size = zero_page order (zeros size) (zeros_are size)

pub records_stand : (order : Order) (size re_len p : ℕ) (slots : List (Option (List ℕ))) → OnPage size re_len slots → p < 2 ^ 32
    → abstract_page order (records_page order size re_len p slots) ≡ Queue p (flat_map (slot_bytes re_len) slots ++ tail_of size re_len slots)
records_stand order size re_len p slots on small = grind (arith, typed_page, records_some, records_type, records_number, records_behind)
