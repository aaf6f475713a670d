-- The records of a queue, slot by slot and page by page.
use Rattle.std.proofs.Common.{◌≡◌, ℕ, suc, ◌+◌, ◌-◌, ◌*◌, ◌<◌, ◌≤◌, List, [], ◌∷◌, ◌++◌, length, arith, refl, ◌∙◌, ap, inl, inr}
use Rattle.std.specs.List.{flat_map, range_with_len}
use Rattle.std.proofs.Math.Nat.{mul-le-mul_right}
use Rattle.bdb_overflow.specs.of_format.declared.metadata.QueueMeta.{QueueMeta}
use Rattle.bdb_overflow.specs.of_format.Terms.{File, ListKey, NoType, Page, Queue, file_of, listed_slot, pad4, page_at, page_records, queue_list}
use Rattle.std.proofs.lemmas.Bool.{cases_lt}
use Rattle.bdb_overflow.proofs.of_format.FileLemmas.{past_last, last_page}
use Rattle.bdb_queue.specs.Records.{HasSlots, left_from, records_from, slots_from}

-- The slots of a page.

pub none_from : (meta : QueueMeta) (p : ℕ) (records : List ℕ) (slot : ℕ) → meta.per_page ≤ slot → slots_from meta p records slot ≡ []
unfolding slots_from
none_from meta p records slot past =
    ap (λ n. flat_map (listed_slot meta p records) (range_with_len slot n)) (let none : meta.per_page - slot ≡ 0 = omega arith in none)

pub next_from : (meta : QueueMeta) (p : ℕ) (records : List ℕ) (slot : ℕ) → slot < meta.per_page → slots_from meta p records slot
    ≡ listed_slot meta p records slot ++ slots_from meta p records (slot + 1)
unfolding slots_from
next_from meta p records slot inside = grind arith

pub slot_room : (meta : QueueMeta) (records : List ℕ) (slot : ℕ) → slot < meta.per_page → HasSlots meta records
    → (slot + 1) * pad4 (meta.re_len + 1) ≤ length records
slot_room meta records slot inside room = let part : (slot + 1) * pad4 (meta.re_len + 1) ≤ meta.per_page * pad4 (meta.re_len + 1) = mul-le-mul_right
    (pad4 (meta.re_len + 1)) (omega arith) in omega arith

-- The pages of a queue.

pub from_start : (meta : QueueMeta) (p : ℕ) (page : Page) → records_from meta p page 0 ≡ page_records meta p page
unfolding slots_from
from_start meta p (Queue number records) = ap (λ n. flat_map (listed_slot meta p records) (range_with_len 0 n))
    (let whole : meta.per_page - 0 ≡ meta.per_page = omega arith in whole)
from_start meta p page = refl

no_records : (meta : QueueMeta) (p slot : ℕ) (page : Page) → page ≡ NoType → records_from meta p page slot ≡ []
no_records meta p slot page is = ap (λ q. records_from meta p q slot) is

pub none_left : (image : List ℕ) (meta : QueueMeta) (p slot : ℕ) → (file_of image).last < p → left_from (file_of image) meta p slot ≡ []
unfolding left_from
none_left image meta p slot past = grind (arith, no_records, past_last)

pages_from : File → QueueMeta → ℕ → ℕ → List (ListKey × List ℕ)
pages_from file meta p n = flat_map (λ q. page_records meta q (page_at file q)) (range_with_len p n)

-- the records from the first slot of a page on are those of whole pages
from_page : (image : List ℕ) (meta : QueueMeta) (p : ℕ) → left_from (file_of image) meta p 0 ≡ pages_from (file_of image) meta p ((file_of image).last + 1 - p)
unfolding left_from pages_from
from_page image meta p =
    let file : File = file_of image in
    elim (cases_lt file.last p) [
      | inl past ↦ none_left image meta p 0 past ∙ ap (λ n. pages_from file meta p n) (let none : 0 ≡ file.last + 1 - p = omega arith in none)
      | inr low ↦
          ap (λ (records : List (ListKey × List ℕ)). records ++ pages_from file meta (p + 1) (file.last - p)) (from_start meta p (page_at file p))
          ∙ ap (λ n. pages_from file meta p n) (let some : suc (file.last - p) ≡ file.last + 1 - p = omega arith in some)
    ]

-- where a page has no record from a slot on, the next page is the place to go on
pub next_page : (image : List ℕ) (meta : QueueMeta) (p slot : ℕ) → p ≤ (file_of image).last → records_from meta p (page_at (file_of image) p) slot ≡ []
    → left_from (file_of image) meta p slot ≡ left_from (file_of image) meta (p + 1) 0
unfolding left_from pages_from
next_page image meta p slot low none = grind (arith, pages_from, from_page)

-- a record is taken off the front
pub next_record : (file : File) (meta : QueueMeta) (p slot after : ℕ) (entry : ListKey × List ℕ) → records_from meta p (page_at file p) slot ≡ entry
    ∷ records_from meta p (page_at file p) after
    → left_from file meta p slot ≡ entry ∷ left_from file meta p after
unfolding left_from
next_record file meta p slot after entry is = ap (λ (records : List (ListKey × List ℕ)). records ++ flat_map (λ q. page_records meta q (page_at file q))
    (range_with_len (p + 1) (file.last - p))) is

-- all records of a queue
pub whole_queue : (image : List ℕ) (meta : QueueMeta) → left_from (file_of image) meta 1 0 ≡ queue_list (file_of image) meta
unfolding queue_list pages_from
whole_queue image meta = from_page image meta 1 ∙ ap (λ n. pages_from (file_of image) meta 1 n)
    (let same : (file_of image).last + 1 - 1 ≡ (file_of image).last = omega arith in same)

-- which record is next
pub ruleset next_records = (none_left, next_page, next_record, last_page)
