-- Laws of a page with an index, and of the rows of its items.
use Rattle.std.proofs.lemmas.Bool.Decides.{nat_tests}
use Rattle.std.proofs.Common.{◌≡◌, ℕ, suc, ◌+◌, ◌<◌, ◌≤◌, List, [], ◌∷◌, length, arith, refl, sym, ◌∙◌, ap, eq-eqb, zero, Bool, cond, slice_get, slice_index}
use Rattle.std.proofs.Common.{replicate, ◌==◌, true, false, Option, Some, None, Ok, option_map, ltb-false}
use Rattle.std.proofs.lemmas.List.{drop-replicate, get_or-replicate, take-replicate}
use Rattle.std.proofs.Math.Dec.{eqb-suc-zero}
use Rattle.std.proofs.lemmas.List.FromFn.{length-map-range_with_len, get_or-map-range_with_len}
use Rattle.std.proofs.lemmas.Option.{slice_get-get_or}
use Rattle.bdb_format.specs.declared.kinds.Order.{Order}
use Rattle.bdb_format.specs.declared.kinds.Order.TheVariants.{Big, Little}
use Rattle.bdb_format.specs.declared.metadata.FileKind.{FileKind}
use Rattle.bdb_format.specs.declared.pages.PageType.TheVariants.{Overflow as OverflowPage}
use Rattle.bdb_format.specs.Terms.{Row, answer, body_code, byte_at, entries_of, field_rows, first_row, four_at, header_of, identity_rows, is_queue}
use Rattle.bdb_format.specs.Terms.{is_queue_type, is_tree_type, is_zero, listed, may_have_type, metadata_rows, no_header, number, number_at, offset_of, two_at, type_of}
use Rattle.std.proofs.lemmas.Bool.{and_parts, eqb-true}
use Rattle.bdb_format.specs.declared.metadata.FileKind.TheVariants.{Btree, Hash, Queue}

pub header_listed : {I : Type 0} (order : Order) (page : List ℕ) (item_at : ℕ → I) → (listed order page item_at).header ≡ header_of order page
unfolding listed
header_listed order page item_at = refl

pub length_items : {I : Type 0} (order : Order) (page : List ℕ) (item_at : ℕ → I) → length (listed order page item_at).items ≡ entries_of order page
unfolding listed
length_items order page item_at = length-map-range_with_len item_at 0 (entries_of order page)

pub get_item : {I : Type 0} (order : Order) (page : List ℕ) (item_at : ℕ → I) (i : ℕ) → i < entries_of order page
    → slice_get (listed order page item_at).items i ≡ Some (item_at i)
unfolding listed
get_item order page item_at i lt =
    slice_get-get_or _ i (item_at i) (omega (arith, length_items order page item_at))
    ∙ ap (λ x. Some x) (get_or-map-range_with_len item_at 0 (entries_of order page) i i (item_at i) lt (omega arith))

-- an entry of the index
pub index_offset : {I : Type 0} (order : Order) (page : List ℕ) (item_at : ℕ → I) (i : ℕ) → i < entries_of order page
    → slice_index (listed order page item_at).offsets i ≡ offset_of order page i
unfolding listed
index_offset order page item_at i lt = get_or-map-range_with_len (offset_of order page) 0 (entries_of order page) i i 0 lt (omega arith)

-- A zero page.

zeros_are : (page : List ℕ) → is_zero page ≡ true → page ≡ replicate (length page) 0
zeros_are [] zeros = refl
zeros_are (byte ∷ bytes) zeros = grind (arith, nat_tests, zeros_are bytes)

zero_number : (n : ℕ) (order : Order) (k at : ℕ) → at + n ≤ k → number_at n order (replicate k 0) at ≡ number order (replicate n 0)
unfolding number_at
zero_number n order k at inside = grind (arith, drop-replicate, take-replicate)

zero_four : (order : Order) (k at : ℕ) → at + 4 ≤ k → four_at order (replicate k 0) at ≡ 0
zero_four Little k at inside = zero_number 4 Little k at inside
zero_four Big k at inside = zero_number 4 Big k at inside

zero_two : (order : Order) (k at : ℕ) → at + 2 ≤ k → two_at order (replicate k 0) at ≡ 0
zero_two Little k at inside = zero_number 2 Little k at inside
zero_two Big k at inside = zero_number 2 Big k at inside

-- the header of a zero page is 0 in all fields
pub zero_header : (order : Order) (page : List ℕ) → 26 ≤ length page → is_zero page ≡ true → no_header ≡ header_of order page
zero_header order page long zeros = sym (ap (header_of order) (zeros_are page zeros) ∙ of (length page) long)
  where
    of : (k : ℕ) → 26 ≤ k → header_of order (replicate k 0) ≡ no_header
    of k room =
        rw (
          zero_four order k 8 (omega arith),
          zero_four order k 12 (omega arith),
          zero_four order k 16 (omega arith),
          zero_two order k 20 (omega arith),
          zero_two order k 22 (omega arith),
          get_or-replicate {A = ℕ} k 24 0 0 (omega arith),
          get_or-replicate {A = ℕ} k 25 0 0 (omega arith),
        ) refl

-- Tables.

-- where no row holds, the answer is the value
pub answer_value : {Code T : Type 0} (rows : List (Row Code)) (value : T) → first_row rows ≡ None → answer rows value ≡ Ok value
answer_value [] value none = refl
answer_value (row ∷ rows) value none = grind (arith, answer_value rows value)

-- a code that was mapped from nothing
pub map_none : {A B : Type 0} (f : A → B) (x : Option A) → option_map f x ≡ None → x ≡ None
map_none f None none = refl
map_none f (Some x) none = absurd cc

-- a page above 0 has a type of its kind of file
pub later_type : (kind : FileKind) (n byte : ℕ) → may_have_type kind (suc n) byte ≡ cond (is_queue kind) (is_queue_type byte) (is_tree_type byte)
later_type kind n byte = ap (λ b. cond b (byte == type_of kind) (cond (is_queue kind) (is_queue_type byte) (is_tree_type byte))) (eqb-suc-zero n)

-- metadata that has its number and its type is judged by its fields
pub metadata_code : (order : Order) (page : List ℕ) (number last : ℕ) (kind : FileKind) (is_type : ℕ → Bool)
    → first_row (identity_rows order page number is_type) ≡ None
    → byte_at page 25 ≡ type_of kind → first_row (metadata_rows order page number last kind) ≡ first_row (field_rows order page number last kind)
unfolding metadata_rows
metadata_code order page number last kind is_type passed is = grind (arith, eq-eqb (byte_at page 25) (type_of kind) is)

-- a byte of a page of zeros
pub zero_byte : (page : List ℕ) (k : ℕ) → is_zero page ≡ true → byte_at page k ≡ 0
zero_byte [] k zeros = refl
zero_byte (b ∷ page) zero zeros = eqb-true b 0 (and_parts (b == 0) (is_zero page) zeros).0
zero_byte (b ∷ page) (suc k) zeros = zero_byte page k (and_parts (b == 0) (is_zero page) zeros).1

-- the type of page 0
pub some_type : (kind : FileKind) → 8 ≤ type_of kind
some_type Btree = omega arith
some_type Hash = omega arith
some_type Queue = omega arith

-- the bytes of a page of a chain lie on it
room_of : (past : Bool) → cond {A = Option ℕ} past (Some 25) None ≡ None → past ≡ false
room_of true none = absurd cc
room_of false none = refl

pub chain_room : (order : Order) (page : List ℕ) → body_code order page OverflowPage ≡ None → 26 + two_at order page 22 ≤ length page
chain_room order page none = ltb-false (length page) (26 + two_at order page 22) (room_of _ none)
