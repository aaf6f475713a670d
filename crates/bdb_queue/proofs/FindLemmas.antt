-- What a queue has under a number: the record of the one slot that has this number, where it's live.
use Rattle.std.proofs.Common.{◌≡◌, ℕ, zero, suc, ◌+◌, ◌/◌, ◌%◌, ◌<◌, ◌≤◌, Bool, List, [], ◌∷◌, ◌++◌, arith, refl, sym, ◌∙◌, ap, inl, inr, ne_eqb}
use Rattle.std.proofs.Common.{eq-eqb, append-nil}
use Rattle.std.specs.List.{filter, flat_map, range_with_len}
use Rattle.std.proofs.lemmas.Bool.{cases_eq, cases_lt}
use Rattle.std.proofs.lemmas.List.Elements.{filter-append}
use Rattle.std.proofs.lemmas.Nat.{div-add-mod', div-mul-add, mod-mul-add, mod_below}
use Rattle.bdb_overflow.specs.of_format.declared.metadata.QueueMeta.{QueueMeta}
use Rattle.bdb_overflow.specs.of_format.Terms.{File, ListKey, NumberKey, Page, Queue, file_of, get, is_key, listed_slot, page_at, page_records, queue_list}
use Rattle.bdb_overflow.specs.of_format.Terms.{record_number}
use Rattle.bdb_overflow.proofs.of_format.FileLemmas.{past_last}
use Rattle.bdb_queue.specs.Records.{data_in, record_in_slot, record_of}

-- Lists in which one part alone counts.

abbrev Entries : Type 0
Entries = List (ListKey × List ℕ)

filter_parts : {X Y : Type 0} (test : Y → Bool) (f : X → List Y) (xs : List X) → filter test (flat_map f xs) ≡ flat_map (λ x. filter test (f x)) xs
filter_parts test f [] = refl
filter_parts test f (x ∷ xs) = filter-append test (f x) (flat_map f xs) ∙ ap (λ ys. filter test (f x) ++ ys) (filter_parts test f xs)

all_empty : {Y : Type 0} (f : ℕ → List Y) (a n : ℕ) → ((x : ℕ) → a ≤ x → x < a + n → f x ≡ []) → flat_map f (range_with_len a n) ≡ []
all_empty f a zero empty = refl
all_empty f a (suc n) empty = grind (arith, all_empty f (a + 1) n (λ x low high. empty x (omega arith) (omega arith)))

only_one : {Y : Type 0} (f : ℕ → List Y) (a n k : ℕ) → a ≤ k → k < a + n → ((x : ℕ) → a ≤ x → x < a + n → (x ≡ k → ⊥) → f x ≡ [])
    → flat_map f (range_with_len a n) ≡ f k
only_one f a zero k low high empty = absurd (omega arith)
only_one f a (suc n) k low high empty =
    elim (cases_eq a k) [
      | inl here ↦
          ap (λ ys. f a ++ ys) (all_empty f (a + 1) n (λ x above below. empty x (omega arith) (omega arith) (λ same. omega arith)))
          ∙ (append-nil (f a) ∙ ap f here)
      | inr other ↦
          ap (λ ys. ys ++ flat_map f (range_with_len (a + 1) n)) (empty a (omega arith) (omega arith) other)
          ∙ only_one f (a + 1) n k (omega arith) (omega arith) (λ x above below differs. empty x (omega arith) (omega arith) differs)
    ]

-- Slots.

abbrev has_number : ℕ → (ListKey × List ℕ) → Bool
has_number number entry = is_key entry.0 (NumberKey number)

other_slot : (meta : QueueMeta) (p : ℕ) (records : List ℕ) (slot number : ℕ) → (record_number meta p slot ≡ number → ⊥)
    → filter (has_number number) (listed_slot meta p records slot) ≡ []
other_slot meta p records slot number other = grind (arith, ne_eqb (record_number meta p slot) number other)

own_slot : (meta : QueueMeta) (p : ℕ) (records : List ℕ) (slot number : ℕ) → record_number meta p slot ≡ number
    → filter (has_number number) (listed_slot meta p records slot) ≡ listed_slot meta p records slot
own_slot meta p records slot number own = grind (arith, eq-eqb (record_number meta p slot) number own)

-- Pages.

other_page : (meta : QueueMeta) (p number : ℕ) (page : Page) → ((slot : ℕ) → slot < meta.per_page → record_number meta p slot ≡ number → ⊥)
    → filter (has_number number) (page_records meta p page) ≡ []
other_page meta p number (Queue n records) other =
    filter_parts (has_number number) (listed_slot meta p records) (range_with_len 0 meta.per_page)
    ∙ all_empty (λ slot. filter (has_number number) (listed_slot meta p records slot)) 0 meta.per_page
    (λ slot low high. other_slot meta p records slot number (other slot (omega arith)))
other_page meta p number page other = refl

own_page : (meta : QueueMeta) (p number slot : ℕ) (page : Page) → slot < meta.per_page → record_number meta p slot ≡ number
    → ((other : ℕ) → other < meta.per_page → (other ≡ slot → ⊥) → record_number meta p other ≡ number → ⊥)
    → filter (has_number number) (page_records meta p page) ≡ record_in_slot meta p page slot
own_page meta p number slot (Queue n records) inside own others =
    filter_parts (has_number number) (listed_slot meta p records) (range_with_len 0 meta.per_page)
    ∙ (only_one (λ s. filter (has_number number) (listed_slot meta p records s)) 0 meta.per_page slot (omega arith) (omega arith)
    (λ s low high differs. other_slot meta p records s number (others s (omega arith) differs))
    ∙ own_slot meta p records slot number own)
own_page meta p number slot page inside own others = refl

-- The place of a number.

-- where a slot of a page has this number
record IsAt (meta : QueueMeta) (index p slot : ℕ) : Type 0 where
  page : index / meta.per_page + 1 ≡ p
  slot_is : index % meta.per_page ≡ slot

place_of : (meta : QueueMeta) (index p slot : ℕ) → 1 ≤ p → slot < meta.per_page → record_number meta p slot ≡ index + 1 → IsAt meta index p slot
place_of meta index p slot low inside own = grind (arith, div-mul-add, mod-mul-add)

number_at : (meta : QueueMeta) (index : ℕ) → record_number meta (index / meta.per_page + 1) (index % meta.per_page) ≡ index + 1
number_at meta index = grind (arith, div-add-mod')

-- The list of a queue.

-- no record has number 0
pub none_under_zero : (file : File) (meta : QueueMeta) → [] ≡ get (queue_list file meta) (NumberKey 0)
unfolding queue_list
none_under_zero file meta = grind (arith, filter_parts, all_empty, other_page)

pub record_under : (image : List ℕ) (meta : QueueMeta) (index : ℕ) → 1 ≤ meta.per_page → data_in (record_of (file_of image) meta index)
    ≡ get (queue_list (file_of image) meta) (NumberKey (index + 1))
unfolding queue_list
record_under image meta index some =
    let file : File = file_of image in
    let number : ℕ = index + 1 in
    let page : ℕ = index / meta.per_page + 1 in
    let slot : ℕ = index % meta.per_page in
    let records : ℕ → Entries = λ p. page_records meta p (page_at file p) in
    let others : (p : ℕ) → 1 ≤ p → p < 1 + file.last → (p ≡ page → ⊥) → filter (has_number number) (records p) ≡ [] =
    λ p low high differs. other_page meta p number (page_at file p) (λ s inside own. differs (sym (place_of meta index p s low inside own).page)) in
    sym (ap data_in (filter_parts (has_number number) records (range_with_len 1 file.last)
    ∙ elim (cases_lt file.last page) [
      | inl past ↦
          all_empty (λ p. filter (has_number number) (records p)) 1 file.last (λ p low high. others p low high (λ same. omega arith))
          ∙ sym (ap (λ q. record_in_slot meta page q slot) (past_last image page past))
      | inr low ↦
          only_one (λ p. filter (has_number number) (records p)) 1 file.last page (omega arith) (omega arith) others
          ∙ own_page meta page number slot (page_at file page) (mod_below index meta.per_page (omega arith)) (number_at meta index)
          (λ s inside differs own. differs (sym (place_of meta index page s (omega arith) inside own).slot_is))
    ]))

-- no record has its place past the last page
pub none_past : (image : List ℕ) (meta : QueueMeta) (index : ℕ) → 1 ≤ meta.per_page → (file_of image).last ≤ index / meta.per_page
    → [] ≡ get (queue_list (file_of image) meta) (NumberKey (index + 1))
none_past image meta index some past =
    sym (ap (λ q. data_in (record_in_slot meta (index / meta.per_page + 1) q (index % meta.per_page)))
    (past_last image (index / meta.per_page + 1) (omega arith)))
    ∙ record_under image meta index some
