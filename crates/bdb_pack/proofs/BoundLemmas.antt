-- A page is begun where no row holds for its items, and its high free offset is the least of their offsets.
use Rattle.std.proofs.Common.{◌≡◌, ℕ, zero, suc, ◌+◌, ◌≤◌, Bool, true, false, List, [], ◌∷◌, length, None, arith, refl, nat_le, nat_lt, ◌||◌, option_map}
use Rattle.bdb_pack.proofs.Common.{ltb-false, or_parts, nat_tests, Order, ItemFault, Offset, byte_at, entries_of, first_row, hash_rows, index_end, internal_rows, item_code, item_row, leaf_rows}
use Rattle.bdb_pack.proofs.Common.{offset_of, page_type, recno_rows, ◌:?◌, PageType, size_bounds, RowsBegin, high_free_of}
use Rattle.bdb_layout.specs.of_format.declared.pages.PageType.TheVariants.{Hash as HashPage, Internal as InternalPage, Leaf as LeafPage, RecnoInternal as RecnoInternalPage}
use Rattle.bdb_pack.proofs.RowsLemmas.{none_of_three}

-- an offset between the index and the page's end
record Bound (order : Order) (page : List ℕ) (at : ℕ) : Type 0 where
  low : index_end order page ≤ at
  high : at ≤ length page

above : (a b : ℕ) → nat_le a b ≡ false → b ≤ a
above a b is = grind (arith, nat_tests)

by_size : (order : Order) (page : List ℕ) (at more : ℕ) → (nat_lt at (index_end order page) || nat_lt (length page) (at + more)) ≡ false → Bound order page at
by_size order page at more is = grind (arith, or_parts, ltb-false)

first_two : (a b c : Bool) → (a || b || c) ≡ false → (a ≡ false) × (b ≡ false)
first_two true b c is = absurd cc
first_two false true c is = absurd cc
first_two false false c is = (refl, refl)

one_none : (a : Bool) → option_map item_code (first_row {Code = ItemFault} (Offset :? a ∷ [])) ≡ None → a ≡ false
one_none true none = absurd cc
one_none false none = refl

hash_bound : (order : Order) (page : List ℕ) (i : ℕ) → item_row HashPage order page i ≡ None → Bound order page (offset_of order page i)
unfolding hash_rows
hash_bound order page i none = grind (arith, first_two, none_of_three, ltb-false, above)

leaf_bound : (order : Order) (page : List ℕ) (i : ℕ) → item_row LeafPage order page i ≡ None → Bound order page (offset_of order page i)
unfolding leaf_rows
leaf_bound order page i none = by_size order page (offset_of order page i) 3 (none_of_three _ _ _ none).0

internal_bound : (order : Order) (page : List ℕ) (i : ℕ) → item_row InternalPage order page i ≡ None → Bound order page (offset_of order page i)
unfolding internal_rows
internal_bound order page i none = by_size order page (offset_of order page i) 12 (none_of_three _ _ _ none).0

recno_bound : (order : Order) (page : List ℕ) (i : ℕ) → item_row RecnoInternalPage order page i ≡ None → Bound order page (offset_of order page i)
unfolding recno_rows
recno_bound order page i none = by_size order page (offset_of order page i) 8 (one_none _ none)

bound : (t : PageType) (order : Order) (page : List ℕ) (i : ℕ) → item_row t order page i ≡ None → Bound order page (offset_of order page i)
bound HashPage order page i none = hash_bound order page i none
bound InternalPage order page i none = internal_bound order page i none
bound RecnoInternalPage order page i none = recno_bound order page i none
bound t order page i none = leaf_bound order page i none

pub rows_begin : RowsBegin
rows_begin order page size type items above_all least empty =
    let t : PageType = page_type (byte_at page 25) in
    let bounds = size_bounds (length page) size in
    let within : Bound order page (high_free_of order page) = of (entries_of order page) refl in
    record { size = size; type = type; room = within.low; high = within.high; above = above_all; least = least; empty = empty; items = items }
  where
    of : (n : ℕ) → entries_of order page ≡ n → Bound order page (high_free_of order page)
    of zero none =
        let bounds = size_bounds (length page) size in
        let top : high_free_of order page ≡ length page = empty none in
        record { low = omega (arith, bounds.0, top, none); high = omega (arith, top) }
    of (suc m) some =
        let one = least (omega (arith, some)) in
        let there = bound (page_type (byte_at page 25)) order page one.0 (items one.0 one.1) in
        record { low = omega (arith, there.low, one.2); high = omega (arith, there.high, one.2) }
