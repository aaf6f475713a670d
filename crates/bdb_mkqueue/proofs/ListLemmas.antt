-- The list of a queue that was built.
use Rattle.std.proofs.Common.{◌≡◌, ℕ, zero, suc, ◌+◌, ◌-◌, ◌*◌, ◌^◌, ◌<◌, ◌≤◌, Bool, true, false, cond, List, [], ◌∷◌, ◌++◌, length, map, drop, get_or, Option}
use Rattle.std.proofs.Common.{Some, None, append_assoc, arith, refl, sym, ◌∙◌, ap, inl, inr, ◌&&◌, ◌||◌, is_some, nat_le, nat_lt, slice_range, slice_index}
use Rattle.bdb_mkqueue.proofs.Common.{flat_map, list_any, range_with_len, cases_Bool, cases_eq, cases_lt, le-leb, lt-ltb, append-nil, get_or-map-range_with_len, length-map-range_with_len, Order}
use Rattle.bdb_mkqueue.proofs.Common.{QueueMeta, File, ListKey, NumberKey, QueueFields, abstract_page, has_bit, is_record, list_of, listed_slot, pad4, page_at, page_records, queue_list, record_number}
use Rattle.bdb_mkqueue.proofs.Common.{slot_at, zeros, range_more, range_parts, byte_at-in, slice_range-in, AscendFrom, listed, listed_key, number_of, Pair, Key, Bytes, Number, Built, suc-times}
use Rattle.bdb_mkqueue.proofs.Common.{HasPages, HasRoom, IsQueueOn, page_of_record, queue_page, queue_size, record_of, records_page, slot_bytes, slot_of, slots_of, first_number, next_number}
use Rattle.std.proofs.lemmas.Grind.{flat_map-append}
use Rattle.bdb_mkqueue.proofs.NumberLemmas.{place_of, slot_low}
use Rattle.bdb_mkqueue.proofs.PageLemmas.{AllFit, FitsSlot, OnPage, from_slot, records_stand, tail_of, zeros_stand}
use Rattle.bdb_mkqueue.proofs.RecordLemmas.{next_low, none_below, none_past, record_first, record_other}

abbrev Entries : Type 0
Entries = List (ListKey × List ℕ)

-- what a list has under a number
abbrev pub entry : ℕ → Option (List ℕ) → Entries
entry number None = []
entry number (Some value) = (NumberKey number, value) ∷ []

-- Ranges.

flat_range_same : (f g : ℕ → Entries) (a b n : ℕ) → ((s : ℕ) → s < n → f (a + s) ≡ g (b + s))
    → flat_map f (range_with_len a n) ≡ flat_map g (range_with_len b n)
flat_range_same f g a b zero same = refl
flat_range_same f g a b (suc n) same =
    let here : a + 0 ≡ a = omega arith in
    let there : b + 0 ≡ b = omega arith in
    ap (λ x. f x ++ flat_map f (range_with_len (a + 1) n)) (sym here)
    ∙ (ap (λ xs. xs ++ flat_map f (range_with_len (a + 1) n)) (same 0 (omega arith))
    ∙ (ap (λ x. g x ++ flat_map f (range_with_len (a + 1) n)) there
    ∙ ap (λ xs. g b ++ xs) (flat_range_same f g (a + 1) (b + 1) n (λ s low.
    let one : a + 1 + s ≡ a + suc s = omega arith in
    let two : b + suc s ≡ b + 1 + s = omega arith in
    ap f one ∙ (same (suc s) (omega arith) ∙ ap g two)))))

-- the records of pages are those of all numbers up to the last
blocks : (f : ℕ → Entries) (k n : ℕ)
    → flat_map (λ p. flat_map f (range_with_len ((p - 1) * k + 1) k)) (range_with_len 1 n) ≡ flat_map f (range_with_len 1 (n * k))
blocks f k zero = let none : 0 ≡ 0 * k = grind arith in ap (λ m. flat_map f (range_with_len 1 m)) none
blocks f k (suc n) =
    let page : ℕ → Entries = λ p. flat_map f (range_with_len ((p - 1) * k + 1) k) in
    let more : suc n ≡ n + 1 = omega arith in
    let all : n * k + k ≡ suc n * k = grind arith in
    let at : (1 + n - 1) * k + 1 ≡ 1 + n * k =
    let less : 1 + n - 1 ≡ n = omega arith in ap (λ m. m * k + 1) less ∙ omega arith in
    ap (λ m. flat_map page (range_with_len 1 m)) more
    ∙ (ap (flat_map page) (range_more 1 n)
    ∙ (flat_map-append page (range_with_len 1 n) ((1 + n) ∷ [])
    ∙ (ap (λ xs. xs ++ (page (1 + n) ++ [])) (blocks f k n)
    ∙ (ap (λ xs. flat_map f (range_with_len 1 (n * k)) ++ xs) (append-nil (page (1 + n)))
    ∙ (ap (λ m. flat_map f (range_with_len 1 (n * k)) ++ flat_map f (range_with_len m k)) at
    ∙ (sym (flat_map-append f (range_with_len 1 (n * k)) (range_with_len (1 + n * k) k))
    ∙ (ap (flat_map f) (sym (range_parts 1 (n * k) k)) ∙ ap (λ m. flat_map f (range_with_len 1 m)) all)))))))

-- The records of a list, number by number.

number_key : (key : Key) → 1 ≤ number_of key → listed_key key ≡ NumberKey (number_of key)
number_key (Bytes bytes) some = absurd (omega (arith, some))
number_key (Number number) some = refl

pub all_records : (list : List Pair) (least n : ℕ) → 1 ≤ least → AscendFrom least list → next_number least list ≤ least + n
    → flat_map (λ r. entry r (record_of list r)) (range_with_len least n) ≡ listed list
all_records [] least zero some is few = refl
all_records (x ∷ xs) least zero some is few =
    absurd (let after : number_of x.key + 1 ≤ next_number (number_of x.key + 1) xs = next_low (number_of x.key + 1) xs is.1 in
    omega (arith, after, few, is.0))
all_records [] least (suc n) some is few = all_records [] (least + 1) n (omega arith) tt (omega arith)
all_records (x ∷ xs) least (suc n) some is few =
    let under : ℕ → Entries = λ r. entry r (record_of (x ∷ xs) r) in
    elim (cases_eq (number_of x.key) least) [
      | inl same ↦
          let first : under least ≡ (NumberKey least, x.value) ∷ [] = ap (entry least) (record_first x xs least same) in
          let key : NumberKey least ≡ listed_key x.key = ap NumberKey (sym same) ∙ sym (number_key x.key (omega (arith, same, some))) in
          let rest : flat_map under (range_with_len (least + 1) n) ≡ flat_map (λ r. entry r (record_of xs r)) (range_with_len (least + 1) n) =
          flat_range_same under (λ r. entry r (record_of xs r)) (least + 1) (least + 1) n
          (λ s low. ap (entry (least + 1 + s)) (record_other x xs (least + 1 + s) (λ twice. omega (arith, twice, same)))) in
          let after : number_of x.key + 1 ≡ least + 1 = omega (arith, same) in
          ap (λ es. es ++ flat_map under (range_with_len (least + 1) n)) first
          ∙ (ap (λ es. (NumberKey least, x.value) ∷ es) (rest ∙ all_records xs (least + 1) n (omega arith) (rw after at is.1)
          (let past : next_number (least + 1) xs ≤ least + suc n = rw after at few in omega (arith, past)))
          ∙ ap (λ k. (k, x.value) ∷ listed xs) key)
      | inr other ↦
          let above : least + 1 ≤ number_of x.key = omega (arith, is.0, other) in
          ap (λ o. entry least o ++ flat_map under (range_with_len (least + 1) n)) (none_below (least + 1) (x ∷ xs) least (above, is.1) (omega arith))
          ∙ all_records (x ∷ xs) (least + 1) n (omega arith) (above, is.1) (omega (arith, few))
    ]

-- a record has a number from the first to before the next
first_there : (list : List Pair) (r : ℕ) (value : List ℕ) → AscendFrom 1 list → record_of list r ≡ Some value → first_number list ≤ r
first_there [] r value is at = absurd cc
first_there (x ∷ xs) r value is at =
    elim (cases_lt r (number_of x.key)) [
      | inl low ↦
          absurd (let none : record_of (x ∷ xs) r ≡ None = none_below (number_of x.key) (x ∷ xs) r (omega arith, is.1) low in
          let both : Some value ≡ None = sym at ∙ none in cc)
      | inr high ↦ high
    ]

next_there : (list : List Pair) (r : ℕ) (value : List ℕ) → AscendFrom 1 list → record_of list r ≡ Some value → r < next_number 1 list
next_there list r value is at =
    elim (cases_lt r (next_number 1 list)) [
      | inl low ↦ low
      | inr high ↦
          absurd (let none : record_of list r ≡ None = none_past 1 list r is high in let both : Some value ≡ None = sym at ∙ none in cc)
    ]

-- The slots of a page.

last_false : (a b c : Bool) → c ≡ false → (a && b && c) ≡ false
last_false a true true none = absurd cc
last_false true true false none = refl
last_false true false c none = refl
last_false false b c none = refl

-- what a slot gives to the list: nothing, or its record
slot_listed : (meta : QueueMeta) (p : ℕ) (records : List ℕ) (s r : ℕ) (slot : Option (List ℕ)) (rest : List ℕ) → r ≡ record_number meta p s
    → drop (slot_at meta s) records ≡ slot_bytes meta.re_len slot ++ rest
    → ((value : List ℕ) → slot ≡ Some value → (meta.first ≤ r) × (r < meta.current) × (length value ≡ meta.re_len))
    → listed_slot meta p records s ≡ entry r slot
slot_listed meta p records s r None rest number at live =
    let z : ℕ = pad4 (meta.re_len + 1) in
    let one : suc (z - 1) ≡ z = omega arith in
    let byte : slice_index records (slot_at meta s) ≡ 0 =
    byte_at-in records (slot_at meta s) (slot_at meta s) [] 0 (zeros (z - 1) ++ rest) (at ∙ ap (λ n. zeros n ++ rest) (sym one)) (omega arith) in
    ap (λ b. cond b ((NumberKey (record_number meta p s), slice_range records (slot_at meta s + 1) (slot_at meta s + 1 + meta.re_len)) ∷ []) [])
    (last_false (nat_le meta.first (record_number meta p s)) (nat_lt (record_number meta p s) meta.current)
    (has_bit (slice_index records (slot_at meta s)) 0x01) (ap (λ b. has_bit b 0x01) byte))
slot_listed meta p records s r (Some value) rest number at live =
    let is = live value refl in
    let own : ℕ = record_number meta p s in
    let z : ℕ = pad4 (meta.re_len + 1) in
    let pad : List ℕ = zeros (z - 1 - length value) in
    let place : ℕ = slot_at meta s in
    let from : drop place records ≡ (3 ∷ []) ++ (value ++ (pad ++ rest)) = at ∙ ap (λ bs. 3 ∷ bs) (append_assoc value pad rest) in
    let byte : slice_index records place ≡ 3 = byte_at-in records place place [] 3 (value ++ (pad ++ rest)) from (omega arith) in
    let bytes : slice_range records (place + 1) (place + 1 + meta.re_len) ≡ value =
    slice_range-in records place (place + 1) (place + 1 + meta.re_len) (3 ∷ []) value (pad ++ rest) from refl (omega (arith, is.2)) in
    let low : nat_le meta.first own ≡ true = le-leb meta.first own (omega (arith, is.0, number)) in
    let high : nat_lt own meta.current ≡ true = lt-ltb own meta.current (omega (arith, is.1, number)) in
    let valid : has_bit (slice_index records place) 0x01 ≡ true = ap (λ b. has_bit b 0x01) byte in
    let live_now : is_record meta p records s ≡ true =
    ap (λ b. b && nat_lt own meta.current && has_bit (slice_index records place) 0x01) low
    ∙ (ap (λ b. true && b && has_bit (slice_index records place) 0x01) high ∙ ap (λ b. true && true && b) valid) in
    ap (λ b. cond b ((NumberKey own, slice_range records (place + 1) (place + 1 + meta.re_len)) ∷ []) []) live_now
    ∙ (ap (λ bs. (NumberKey own, bs) ∷ []) bytes ∙ ap (λ n. (NumberKey n, value) ∷ []) (sym number))

-- a page without a record gives nothing
none_entries : (f : ℕ → Option (List ℕ)) (a n : ℕ) → list_any is_some (map f (range_with_len a n)) ≡ false
    → flat_map (λ r. entry r (f r)) (range_with_len a n) ≡ []
none_entries f a zero none = refl
none_entries f a (suc n) none =
    elim (f a) as (λ o. ((is_some o || list_any is_some (map f (range_with_len (a + 1) n))) ≡ false)
    → entry a o ++ flat_map (λ r. entry r (f r)) (range_with_len (a + 1) n) ≡ []) [
      | None ↦ λ rest. none_entries f (a + 1) n rest
      | Some value ↦ λ some. absurd cc
    ] none

-- The pages of a queue.

-- metadata says where a list of records begins and ends, and their length
pub record SaysList (meta : QueueMeta) (list : List Pair) : Type 0 where
  pub first : meta.first ≡ first_number list
  pub next : meta.current ≡ next_number 1 list
  pub ascend : AscendFrom 1 list
  pub long : (r : ℕ) (value : List ℕ) → record_of list r ≡ Some value → length value ≡ meta.re_len

fits_one : (re_len : ℕ) (slot : Option (List ℕ)) → ((value : List ℕ) → slot ≡ Some value → length value ≡ re_len) → FitsSlot re_len slot
fits_one re_len None long = tt
fits_one re_len (Some value) long = long value refl

all_fit : (re_len : ℕ) (f : ℕ → Option (List ℕ)) (a n : ℕ) → ((r : ℕ) (value : List ℕ) → f r ≡ Some value → length value ≡ re_len)
    → AllFit re_len (map f (range_with_len a n))
all_fit re_len f a zero long = tt
all_fit re_len f a (suc n) long = (fits_one re_len (f a) (long a), all_fit re_len f (a + 1) n long)

pub slots_on : (size : ℕ) (meta : QueueMeta) (list : List Pair) (p : ℕ) → HasRoom size meta
    → ((r : ℕ) (value : List ℕ) → record_of list r ≡ Some value → length value ≡ meta.re_len)
    → OnPage size meta.re_len (slots_of list meta.per_page p)
slots_on size meta list p room long =
    let first : ℕ = (p - 1) * meta.per_page + 1 in
    let count : length (slots_of list meta.per_page p) ≡ meta.per_page = length-map-range_with_len (record_of list) first meta.per_page in
    record {
      fit = all_fit meta.re_len (record_of list) first meta.per_page long;
      room = let same = ap (λ n. n * pad4 (meta.re_len + 1)) count in omega (arith, same, room.room);
      long = room.long;
    }

-- the records of a page
page_listed : (order : Order) (size : ℕ) (meta : QueueMeta) (list : List Pair) (p : ℕ) → HasRoom size meta → SaysList meta list → p < 2 ^ 32
    → page_records meta p (abstract_page order (queue_page order size meta.re_len p (slots_of list meta.per_page p)))
    ≡ flat_map (λ r. entry r (record_of list r)) (range_with_len ((p - 1) * meta.per_page + 1) meta.per_page)
page_listed order size meta list p room says small =
    let k : ℕ = meta.per_page in
    let first : ℕ = (p - 1) * k + 1 in
    let slots : List (Option (List ℕ)) = slots_of list k p in
    let on : OnPage size meta.re_len slots = slots_on size meta list p room says.long in
    let full : List ℕ = records_page order size meta.re_len p slots in
    let records : List ℕ = flat_map (slot_bytes meta.re_len) slots ++ tail_of size meta.re_len slots in
    elim (cases_Bool (list_any is_some slots)) [
      | inl some ↦
          ap (λ b. page_records meta p (abstract_page order (cond b full (zeros size)))) some
          ∙ (ap (page_records meta p) (records_stand order size meta.re_len p slots on small)
          ∙ flat_range_same (listed_slot meta p records) (λ r. entry r (record_of list r)) 0 first k (λ s low.
          let at : 0 + s ≡ s = omega arith in
          let here : get_or slots s None ≡ record_of list (first + s) =
          get_or-map-range_with_len (record_of list) first k s (first + s) None low refl in
          let count : length slots ≡ k = length-map-range_with_len (record_of list) first k in
          let from = from_slot meta.re_len slots (tail_of size meta.re_len slots) s on.fit (omega (arith, low, count)) in
          ap (listed_slot meta p records) at
          ∙ slot_listed meta p records s (first + s) (record_of list (first + s)) from.0 (omega arith)
          (from.1 ∙ ap (λ o. slot_bytes meta.re_len o ++ from.0) here)
          (λ value is. (
            omega (arith, says.first, first_there list (first + s) value says.ascend is),
            omega (arith, says.next, next_there list (first + s) value says.ascend is),
            says.long (first + s) value is,
          ))))
      | inr none ↦
          ap (λ b. page_records meta p (abstract_page order (cond b full (zeros size)))) none
          ∙ (ap (page_records meta p) (zeros_stand order size) ∙ sym (none_entries (record_of list) first k none))
    ]

-- the pages have room for all records
size_enough : (k : ℕ) (list : List Pair) → 1 ≤ k → AscendFrom 1 list → next_number 1 list ≤ 1 + queue_size k list * k
size_enough k [] some is = omega arith
size_enough k (x ∷ xs) some is =
    let n : ℕ = next_number (number_of x.key + 1) xs - 1 in
    let after : number_of x.key + 1 ≤ next_number (number_of x.key + 1) xs = next_low (number_of x.key + 1) xs is.1 in
    let at : (page_of_record k n - 1) * k + 1 + slot_of k n ≡ n = place_of k n (omega (arith, after, is.0)) in
    let low : slot_of k n < k = slot_low k n some in
    let page : suc (page_of_record k n - 1) ≡ page_of_record k n = omega arith in
    let whole : page_of_record k n * k ≡ k + (page_of_record k n - 1) * k = ap (λ q. q * k) (sym page) ∙ suc-times (page_of_record k n - 1) k in
    omega (arith, at, low, whole, after, is.0)

-- in each file with these pages the queue has the list
pub queue_listed : (meta : QueueMeta) (list : List Pair) (built : Built) (file : File) → HasRoom built.size meta → SaysList meta list
    → IsQueueOn meta list built
    → length built.pages ≤ 2 ^ 32 → HasPages built file → list_of file (QueueFields meta) ≡ listed list
unfolding queue_list
queue_listed meta list built file room says on few has =
    let k : ℕ = meta.per_page in
    let under : ℕ → Entries = λ r. entry r (record_of list r) in
    let last : file.last ≡ queue_size k list = omega (arith, has.last, on.count) in
    flat_range_same (λ p. page_records meta p (page_at file p)) (λ p. flat_map under (range_with_len ((p - 1) * k + 1) k)) 1 1 file.last
    (λ s low.
    let there : 1 + s < length built.pages = omega (arith, low, has.last) in
    ap (page_records meta (1 + s)) (has.same (1 + s) (omega arith) (omega (arith, low))
    ∙ ap (abstract_page built.order) (on.pages (1 + s) (omega arith) there))
    ∙ page_listed built.order built.size meta list (1 + s) room says (omega (arith, there, few)))
    ∙ (blocks under k file.last
    ∙ all_records list 1 (file.last * k) (omega arith) says.ascend
    (let enough = size_enough k list room.some says.ascend in let same = ap (λ n. n * k) last in omega (arith, enough, same)))
