-- A record that is put behind those of a queue.
use Rattle.std.proofs.Common.{◌≡◌, ℕ, ◌+◌, ◌-◌, ◌*◌, ◌<◌, ◌≤◌, Bool, true, false, cond, List, [], ◌∷◌, ◌++◌, length, take, drop, set, get_or, replicate, Option}
use Rattle.std.proofs.Common.{Some, None, arith, refl, sym, ◌∙◌, ap, subst, inl, inr, length-append, is_some, nat_lt}
use Rattle.bdb_mkqueue.proofs.Common.{All, list_any, mul-le-mul_right, cases_eq, cases_lt, le-ltb, lt-ltb, get_or-append_right, get_or-replicate, get_or-set_other, get_or-set_same, get_or_append_left}
use Rattle.bdb_mkqueue.proofs.Common.{length-replicate, length-set, take-append-drop, take_more, get_or-map-range_with_len, length-map-range_with_len, Order, QueueMeta, header_bytes, overwritten}
use Rattle.bdb_mkqueue.proofs.Common.{pad4, zeros, length-overwritten, Pair, Number, AscendFrom, number_of, AreWhole, Built, bytes_of, with_page, written_over, suc-times, written_whole, length-header}
use Rattle.bdb_mkqueue.proofs.Common.{HasRoom, IsQueueOn, KeepsFirst, reached, with_header, with_more, with_record, page_of_record, queue_page, queue_size, record_of, records_header, records_page}
use Rattle.bdb_mkqueue.proofs.Common.{slot_of, slots_of, HasLength, next_number}
use Rattle.std.proofs.lemmas.List.Elements.{All-tail, All-take}
use Rattle.bdb_mkqueue.proofs.ListLemmas.{slots_on}
use Rattle.bdb_mkqueue.proofs.NumberLemmas.{place_of, slot_low}
use Rattle.bdb_mkqueue.proofs.PageLemmas.{page_begun, record_written}
use Rattle.bdb_mkqueue.proofs.RecordLemmas.{ascend_both, next_low, none_past, record_first, record_other}
use Rattle.bdb_mkqueue.proofs.SlotLemmas.{last_page, size-append, size_low, slots_empty, slots_others, slots_own}

-- Pages that are written.

pub header_written : (built : Built) (p : ℕ) (order : Order) (lent new : List ℕ) → AreWhole built → p < length built.pages → 512 ≤ built.size
    → order ≡ built.order → lent ≡ bytes_of built p → new ≡ overwritten lent 0 (header_bytes order (records_header p))
    → written_over built p new ≡ with_header built p
header_written built p order lent new whole low long ordered is wrote =
    let header : List ℕ = header_bytes built.order (records_header p) in
    let same : new ≡ overwritten (bytes_of built p) 0 header =
    wrote ∙ (ap (λ bs. overwritten bs 0 (header_bytes order (records_header p))) is
    ∙ ap (λ o. overwritten (bytes_of built p) 0 (header_bytes o (records_header p))) ordered) in
    let size : length (bytes_of built p) ≡ built.size = whole p low in
    ap (written_over built p) same
    ∙ written_whole built p (overwritten (bytes_of built p) 0 header) whole low
    (length-overwritten (bytes_of built p) 0 header (omega (arith, size, length-header built.order (records_header p), long)) ∙ size)

pub record_put : (meta : QueueMeta) (built : Built) (p slot : ℕ) (value lent new : List ℕ) → AreWhole built → p < length built.pages
    → 28 + slot * pad4 (meta.re_len + 1) + 1 + length value ≤ built.size → lent ≡ bytes_of built p
    → new ≡ overwritten lent (28 + slot * pad4 (meta.re_len + 1)) (3 ∷ value) → written_over built p new ≡ with_record meta built p slot value
record_put meta built p slot value lent new whole low room is wrote =
    let at : ℕ = 28 + slot * pad4 (meta.re_len + 1) in
    let size : length (bytes_of built p) ≡ built.size = whole p low in
    ap (written_over built p) (wrote ∙ ap (λ bs. overwritten bs at (3 ∷ value)) is)
    ∙ written_whole built p (overwritten (bytes_of built p) at (3 ∷ value)) whole low
    (length-overwritten (bytes_of built p) at (3 ∷ value) (omega (arith, size, room)) ∙ size)

-- More zero pages.

pub length-more : (n : ℕ) (built : Built) → length (with_more n built).pages ≡ length built.pages + n
length-more n built = omega (arith, length-append built.pages (replicate n (zeros built.size)), length-replicate n (zeros built.size))

more_old : (n : ℕ) (built : Built) (q : ℕ) → q < length built.pages → bytes_of (with_more n built) q ≡ bytes_of built q
more_old n built q low = get_or_append_left built.pages (replicate n (zeros built.size)) [] q low

more_new : (n : ℕ) (built : Built) (q : ℕ) → length built.pages ≤ q → q < length built.pages + n → bytes_of (with_more n built) q ≡ zeros built.size
more_new n built q high low = grind (arith, get_or-append_right, get_or-replicate)

-- The page of a record is there.

record IsReady (meta : QueueMeta) (done : List Pair) (built : Built) (p : ℕ) : Type 0 where
  count : length built.pages ≡ 1 + p
  page : bytes_of built p ≡ records_page built.order built.size meta.re_len p (slots_of done meta.per_page p)
  others : (q : ℕ) → 1 ≤ q → q < p → bytes_of built q ≡ queue_page built.order built.size meta.re_len q (slots_of done meta.per_page q)

-- a queue of records that ascend and have their length, to which a page is reached that isn't before its last
record CanReach (meta : QueueMeta) (done : List Pair) (built : Built) (p : ℕ) : Type 0 where
  on : IsQueueOn meta done built
  room : HasRoom built.size meta
  ascend : AscendFrom 1 done
  long : (r : ℕ) (value : List ℕ) → record_of done r ≡ Some value → length value ≡ meta.re_len
  page : queue_size meta.per_page done ≤ p
  above : 1 ≤ p

page_if : (b : Bool) (full : List ℕ) (size : ℕ) → b ≡ true → cond b full (zeros size) ≡ full
page_if true full size is = refl
page_if false full size is = absurd cc

zeros_if : (b : Bool) (full : List ℕ) (size : ℕ) → b ≡ false → zeros size ≡ cond b full (zeros size)
zeros_if true full size is = absurd cc
zeros_if false full size is = refl

-- it was there
ready_there : (meta : QueueMeta) (done : List Pair) (built : Built) (p : ℕ) → CanReach meta done built p → p < length built.pages
    → IsReady meta done built p
ready_there meta done built p can low =
    let k : ℕ = meta.per_page in
    let last : p ≡ queue_size k done = omega (arith, low, can.on.count, can.page) in
    let some : list_any is_some (slots_of done k p) ≡ true =
    ap (λ q. list_any is_some (slots_of done k q)) last ∙ last_page k done can.room.some can.ascend (omega (arith, last, can.above)) in
    record {
      count = omega (arith, last, can.on.count);
      page = can.on.pages p can.above low
          ∙ page_if (list_any is_some (slots_of done k p)) (records_page built.order built.size meta.re_len p (slots_of done k p)) built.size some;
      others = λ q one before. can.on.pages q one (omega (arith, before, low));
    }

-- or was added, and zero pages before it
ready_new : (meta : QueueMeta) (done : List Pair) (built : Built) (p : ℕ) → CanReach meta done built p → length built.pages ≤ p
    → IsReady meta done (with_header (with_more (p + 1 - length built.pages) built) p) p
ready_new meta done built p can high =
    let k : ℕ = meta.per_page in
    let n : ℕ = p + 1 - length built.pages in
    let more : Built = with_more n built in
    let count : length more.pages ≡ 1 + p = omega (arith, length-more n built, high) in
    let header : List ℕ = header_bytes built.order (records_header p) in
    let page : List ℕ = overwritten (bytes_of more p) 0 header in
    let past : queue_size k done < p = omega (arith, can.on.count, high) in
    record {
      count = length-set more.pages p page ∙ count;
      page = get_or-set_same more.pages p page [] (omega (arith, count))
          ∙ (ap (λ bs. overwritten bs 0 header) (more_new n built p high (omega (arith, high)))
          ∙ page_begun built.order built.size meta.re_len p (slots_of done k p) (slots_on built.size meta done p can.room can.long)
          (slots_empty k done p can.room.some can.ascend can.above past));
      others = λ q one before.
          get_or-set_other more.pages p q page [] (λ same. omega (arith, same, before))
          ∙ elim (cases_lt q (length built.pages)) [
            | inl low ↦ more_old n built q low ∙ can.on.pages q one low
            | inr new ↦
                more_new n built q new (omega (arith, before, high))
                ∙ zeros_if (list_any is_some (slots_of done k q)) (records_page built.order built.size meta.re_len q (slots_of done k q)) built.size
                (slots_empty k done q can.room.some can.ascend one (omega (arith, new, can.on.count)))
          ];
    }

ready_if : (b : Bool) (meta : QueueMeta) (done : List Pair) (one two : Built) (p : ℕ) → (b ≡ true → IsReady meta done one p)
    → (b ≡ false → IsReady meta done two p) → IsReady meta done (cond b one two) p
ready_if true meta done one two p first second = first refl
ready_if false meta done one two p first second = second refl

ready : (meta : QueueMeta) (done : List Pair) (built : Built) (p : ℕ) → CanReach meta done built p → IsReady meta done (reached built p) p
ready meta done built p can =
    ready_if (nat_lt p (length built.pages)) meta done built (with_header (with_more (p + 1 - length built.pages) built) p) p
    (λ there. elim (cases_lt p (length built.pages)) [
      | inl low ↦ ready_there meta done built p can low
      | inr high ↦ absurd (let none = le-ltb p (length built.pages) high in cc)
    ])
    (λ new. elim (cases_lt p (length built.pages)) [
      | inl low ↦ absurd (let some = lt-ltb p (length built.pages) low in cc)
      | inr high ↦ ready_new meta done built p can high
    ])

-- page 0 stays

first_if : (b : Bool) (old one two : Built) → KeepsFirst old one → KeepsFirst old two → KeepsFirst old (cond b one two)
first_if true old one two first second = first
first_if false old one two first second = second

reached_first : (built : Built) (p : ℕ) → 1 ≤ p → 1 ≤ length built.pages → KeepsFirst built (reached built p)
reached_first built p above some = grind (arith, first_if, get_or-set_other, more_old)

-- The record is put.

put_queue : (meta : QueueMeta) (done : List Pair) (pair : Pair) (mid : Built) (p : ℕ) → IsReady meta done mid p → HasRoom mid.size meta
    → AscendFrom 1 (done ++ (pair ∷ [])) → ((r : ℕ) (value : List ℕ) → record_of done r ≡ Some value → length value ≡ meta.re_len)
    → length pair.value ≡ meta.re_len → p ≡ page_of_record meta.per_page (number_of pair.key)
    → IsQueueOn meta (done ++ (pair ∷ [])) (with_record meta mid p (slot_of meta.per_page (number_of pair.key)) pair.value)
put_queue meta done pair mid p is room ascend long own page_is =
    let k : ℕ = meta.per_page in
    let n : ℕ = number_of pair.key in
    let s : ℕ = slot_of k n in
    let all : List Pair = done ++ (pair ∷ []) in
    let both = ascend_both 1 done (pair ∷ []) ascend in
    let none : record_of done n ≡ None = none_past 1 done n both.0 both.1.0 in
    let after : 1 ≤ next_number 1 done = next_low 1 done both.0 in
    let one : 1 ≤ n = omega (arith, after, both.1.0) in
    let size : queue_size k all ≡ p = size-append k done pair ∙ sym page_is in
    let page : List ℕ = overwritten (bytes_of mid p) (28 + s * pad4 (meta.re_len + 1)) (3 ∷ pair.value) in
    let first : ℕ = (p - 1) * k + 1 in
    let place : first + s ≡ n = ap (λ q. (q - 1) * k + 1 + s) page_is ∙ place_of k n one in
    let slots : List (Option (List ℕ)) = slots_of done k p in
    let slots_long : length slots ≡ k = length-map-range_with_len (record_of done) first k in
    let low : s < k = slot_low k n room.some in
    let empty : get_or slots s None ≡ None = get_or-map-range_with_len (record_of done) first k s n None low place ∙ none in
    let more : slots_of all k p ≡ set slots s (Some pair.value) =
    subst (λ q. slots_of all k q ≡ set (slots_of done k q) s (Some pair.value)) (sym page_is) (slots_own k done pair room.some one none) in
    let some : list_any is_some (slots_of all k p) ≡ true =
    ap (λ q. list_any is_some (slots_of all k q)) (sym size)
    ∙ last_page k all room.some ascend (omega (arith, size, page_is)) in
    let full : List ℕ = records_page mid.order mid.size meta.re_len p (slots_of all k p) in
    let written : page ≡ full =
    ap (λ bs. overwritten bs (28 + s * pad4 (meta.re_len + 1)) (3 ∷ pair.value)) is.page
    ∙ (record_written mid.order mid.size meta.re_len p slots s pair.value (slots_on mid.size meta done p room long)
    (omega (arith, low, slots_long)) empty own
    ∙ ap (records_page mid.order mid.size meta.re_len p) (sym more)) in
    record {
      count = omega (arith, length-set mid.pages p page, is.count, size);
      pages = λ q above below.
          let inside : q ≤ p = omega (arith, below, length-set mid.pages p page, is.count) in
          elim (cases_eq q p) [
            | inl same ↦
                ap (bytes_of (with_page mid p page)) same
                ∙ (get_or-set_same mid.pages p page [] (omega (arith, is.count))
                ∙ (written
                ∙ (sym (page_if (list_any is_some (slots_of all k p)) full mid.size some)
                ∙ ap (λ r. queue_page mid.order mid.size meta.re_len r (slots_of all k r)) (sym same))))
            | inr other ↦
                get_or-set_other mid.pages p q page [] (λ same. other same)
                ∙ (is.others q above (omega (arith, inside, other))
                ∙ ap (queue_page mid.order mid.size meta.re_len q) (sym (slots_others k done pair q above (λ same. other (sym (page_is ∙ same))))))
          ];
    }

-- The record at a place of a list.

abbrev pub no_pair : Pair
no_pair = record { key = Number 0; value = [] }

abbrev pub pair_at : List Pair → ℕ → Pair
pair_at list place = get_or list place no_pair

-- it comes behind those before it
pub taken : (list : List Pair) (place : ℕ) → place < length list → take (place + 1) list ≡ take place list ++ (pair_at list place ∷ [])
taken list place low = take_more list place no_pair low

pub taken_ascend : (list : List Pair) (place : ℕ) → AscendFrom 1 list → place < length list
    → AscendFrom 1 (take place list ++ (pair_at list place ∷ []))
taken_ascend list place is low =
    let cut : take (place + 1) list ++ drop (place + 1) list ≡ list = take-append-drop (place + 1) list in
    subst (AscendFrom 1) (taken list place low)
    (ascend_both 1 (take (place + 1) list) (drop (place + 1) list) (subst (AscendFrom 1) (sym cut) is)).0

-- records have the length of all
pub records_long : (list : List Pair) (re_len r : ℕ) (value : List ℕ) → All (HasLength re_len) list → record_of list r ≡ Some value
    → length value ≡ re_len
records_long [] re_len r value each is = absurd cc
records_long (x ∷ xs) re_len r value each is =
    elim (cases_eq (number_of x.key) r) [
      | inl own ↦
          let value_is : Some x.value ≡ Some value = sym (record_first x xs r own) ∙ is in
          let bytes : x.value ≡ value = cc in
          ap length (sym bytes) ∙ each 0 x (omega arith)
      | inr other ↦ records_long xs re_len r value (All-tail (HasLength re_len) x xs each) (sym (record_other x xs r other) ∙ is)
    ]

-- Of a queue of the records before a place, what is known of the record there.
pub record IsPushed (meta : QueueMeta) (list : List Pair) (place : ℕ) (old : Built) : Type 0 where
  pub ascend : AscendFrom 1 list
  pub long : All (HasLength meta.re_len) list
  pub room : HasRoom old.size meta
  pub there : place < length list
  pub on : IsQueueOn meta (take place list) old

can_reach : (meta : QueueMeta) (list : List Pair) (place : ℕ) (old : Built) → IsPushed meta list place old
    → CanReach meta (take place list) old (page_of_record meta.per_page (number_of (pair_at list place).key))
can_reach meta list place old is =
    let done : List Pair = take place list in
    let both = ascend_both 1 done (pair_at list place ∷ []) (taken_ascend list place is.ascend is.there) in
    record {
      on = is.on;
      room = is.room;
      ascend = both.0;
      long = λ r value at. records_long done meta.re_len r value (All-take (HasLength meta.re_len) place list is.long) at;
      page = size_low meta.per_page done (number_of (pair_at list place).key) is.room.some both.1.0;
      above = omega arith;
    }

pub number_some : (list : List Pair) (place : ℕ) → AscendFrom 1 list → place < length list → 1 ≤ number_of (pair_at list place).key
number_some list place is low =
    let both = ascend_both 1 (take place list) (pair_at list place ∷ []) (taken_ascend list place is low) in
    let after : 1 ≤ next_number 1 (take place list) = next_low 1 (take place list) both.0 in
    omega (arith, after, both.1.0)

-- its page is reached
pub page_there : (meta : QueueMeta) (list : List Pair) (place : ℕ) (old mid : Built) (page : ℕ)
    → IsPushed meta list place old
    → page ≡ page_of_record meta.per_page (number_of (pair_at list place).key) → mid ≡ reached old page → page < length mid.pages
page_there meta list place old mid page is page_is reached_is =
    let k : ℕ = meta.per_page in
    let p : ℕ = page_of_record k (number_of (pair_at list place).key) in
    let all : IsReady meta (take place list) (reached old p) p = ready meta (take place list) old p (can_reach meta list place old is) in
    let count : length mid.pages ≡ 1 + p = ap (λ (b : Built). length b.pages) (reached_is ∙ ap (reached old) page_is) ∙ all.count in
    omega (arith, count, page_is)

reached_size : (old : Built) (p : ℕ) → (reached old p).size ≡ old.size
reached_size old p = grind arith

-- and its slot has room for it
pub slot_room : (meta : QueueMeta) (list : List Pair) (place : ℕ) (old mid : Built) (page slot : ℕ) (value : List ℕ)
    → IsPushed meta list place old → mid ≡ reached old page → slot ≡ slot_of meta.per_page (number_of (pair_at list place).key)
    → value ≡ (pair_at list place).value → 28 + slot * pad4 (meta.re_len + 1) + 1 + length value ≤ mid.size
slot_room meta list place old mid page slot value is reached_is slot_is value_is = grind (arith, slot_low, mul-le-mul_right, reached_size, suc-times)

-- then it is put there
pub pushed : (meta : QueueMeta) (list : List Pair) (place : ℕ) (old mid new : Built) (page slot : ℕ) (value : List ℕ)
    → IsPushed meta list place old → page ≡ page_of_record meta.per_page (number_of (pair_at list place).key)
    → slot ≡ slot_of meta.per_page (number_of (pair_at list place).key) → value ≡ (pair_at list place).value → mid ≡ reached old page
    → new ≡ with_record meta mid page slot value → IsQueueOn meta (take (place + 1) list) new × KeepsFirst old new
pushed meta list place old mid new page slot value is page_is slot_is value_is reached_is new_is =
    let k : ℕ = meta.per_page in
    let done : List Pair = take place list in
    let pair : Pair = pair_at list place in
    let n : ℕ = number_of pair.key in
    let p : ℕ = page_of_record k n in
    let can : CanReach meta done old p = can_reach meta list place old is in
    let there : Built = reached old p in
    let all : IsReady meta done there p = ready meta done old p can in
    let size : there.size ≡ old.size = reached_size old p in
    let same : new ≡ with_record meta there p (slot_of k n) pair.value =
    new_is
    ∙ (ap (λ v. with_record meta mid page slot v) value_is
    ∙ (ap (λ t. with_record meta mid page t pair.value) slot_is
    ∙ (ap (λ q. with_record meta mid q (slot_of k n) pair.value) page_is
    ∙ ap (λ b. with_record meta b p (slot_of k n) pair.value) (reached_is ∙ ap (reached old) page_is)))) in
    let long : length pair.value ≡ meta.re_len = is.long place no_pair is.there in
    let on : IsQueueOn meta (done ++ (pair ∷ [])) (with_record meta there p (slot_of k n) pair.value) =
    put_queue meta done pair there p all (subst (λ m. HasRoom m meta) (sym size) is.room) (taken_ascend list place is.ascend is.there)
    can.long long refl in
    let first : KeepsFirst old there = reached_first old p can.above (omega (arith, can.on.count)) in (
      subst (λ xs. IsQueueOn meta xs new) (sym (taken list place is.there)) (subst (IsQueueOn meta (done ++ (pair ∷ []))) (sym same) on),
      subst (KeepsFirst old) (sym same) (record {
        size = first.size;
        order = first.order;
        first = get_or-set_other there.pages p 0
            (overwritten (bytes_of there p) (28 + slot_of k n * pad4 (meta.re_len + 1)) (3 ∷ pair.value)) []
            (λ none. omega (arith, none, can.above)) ∙ first.first;
      }),
    )
