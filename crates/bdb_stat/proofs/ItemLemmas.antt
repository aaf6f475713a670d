-- The items of pages, by the places where they begin.
use Rattle.std.proofs.Common.{◌≡◌, ◌∙◌, inl, inr, ℕ, zero, suc, ◌+◌, ◌-◌, ◌*◌, ◌<◌, ◌≤◌, false, List, length, refl, sym, ap, arith}
use Rattle.std.specs.Prelude.{◌==◌, cond, None, get_or, slice_index}
use Rattle.std.proofs.lemmas.Bool.{cases_lt, ne_eqb}
use Rattle.std.proofs.lemmas.Bool.Decides.{nat_tests}
use Rattle.std.proofs.lemmas.List.FromFn.{length-map-range_with_len}
use Rattle.bdb_law_turned.proofs.of_format.PageLemmas.{index_offset}
use Rattle.bdb_law_turned.specs.of_format.declared.kinds.Order.{Order}
use Rattle.bdb_law_turned.specs.of_format.Terms.{entries_of, first_row, hash_end, hash_item_at, hash_rows, index_end, listed, listed_code, offset_of}
use Rattle.bdb_law_turned.specs.of_format.declared.pages.PageType.TheVariants.{Hash as HashPage}
use Rattle.bdb_law_turned.proofs.of_form.EndLemmas.{has_rows, listed_index}
use Rattle.bdb_law_turned.proofs.of_layout.RowLemmas.{hash_fits}
use Rattle.bdb_law_turned.specs.of_layout.Fits.{FitsHash}
use Rattle.bdb_stat.specs.Unused.{hash_unused, item_unused, listed_unused, places_outside}
use Rattle.bdb_law_turned.proofs.ListedLemmas.{item_in}
use Rattle.bdb_stat.proofs.PlaceLemmas.{all_outside, is_inside, is_outside, none_outside, outside_parts, same_outside}
use Rattle.bdb_stat.specs.Ends.{lowest}

-- a page with an index, by the ends of its items
listed_is : {I : Type 0} (order : Order) (page : List ℕ) (item_at : ℕ → I) (size : ℕ) (end other : ℕ → ℕ)
    → ((i : ℕ) → i < entries_of order page → end i ≡ other i)
    → listed_unused size (listed order page item_at) end ≡ places_outside (index_end order page) size (entries_of order page) (offset_of order page) other
unfolding listed_unused listed
listed_is order page item_at size end other ends =
    let n : ℕ = entries_of order page in
    let offsets : List ℕ = (listed order page item_at).offsets in
    let many : length offsets ≡ n = length-map-range_with_len (offset_of order page) 0 n in
    ap (λ m. places_outside (26 + 2 * m) size m (λ i. slice_index offsets i) end) many
    ∙ same_outside (26 + 2 * n) size n (λ i. slice_index offsets i) end (offset_of order page) other (λ i lt. index_offset order page item_at i lt) ends

-- its items end where what they hold says
pub items_outside : {I : Type 0} (item_end : ℕ → I → ℕ) (none : I) (order : Order) (page : List ℕ) (item_at : ℕ → I) (end : ℕ → ℕ)
    → ((i : ℕ) → i < entries_of order page → item_end (offset_of order page i) (item_at i) ≡ end (offset_of order page i))
    → places_outside (index_end order page) (length page) (entries_of order page) (offset_of order page) (λ i. end (offset_of order page i))
    ≡ item_unused (length page) item_end none (listed order page item_at)
items_outside item_end none order page item_at end ends =
    let p = listed order page item_at in
    sym (listed_is order page item_at (length page) (λ i. item_end (slice_index p.offsets i) (get_or p.items i none)) (λ i. end (offset_of order page i))
    (λ i lt. ap (λ (at : ℕ). item_end at (get_or p.items i none)) (index_offset order page item_at i lt)
    ∙ (ap (item_end (offset_of order page i)) (item_in order page item_at none i lt) ∙ ends i lt)))

-- Hash pages: items lie one after another down from the page's end.

abbrev end_before : ℕ → (ℕ → ℕ) → ℕ → ℕ
end_before size begin i = cond (i == 0) size (begin (i - 1))

abbrev AreTiled : ℕ → (ℕ → ℕ) → ℕ → Type 0
AreTiled size begin n = (i : ℕ) → i < n → begin i < lowest size begin i

tile_end : (size : ℕ) (begin : ℕ → ℕ) (i : ℕ) → end_before size begin i ≡ lowest size begin i
tile_end size begin zero = refl
tile_end size begin (suc i) = let some : (suc i == 0) ≡ false = ne_eqb (suc i) 0 (λ none. omega arith) in rw some (ap begin (omega arith))

falls : (size : ℕ) (begin : ℕ → ℕ) (n i : ℕ) → AreTiled size begin n → i < n → lowest size begin n ≤ begin i
falls size begin zero i tiled lt = absurd (omega arith)
falls size begin (suc m) i tiled lt =
    elim (cases_lt i m) [
      | inl before ↦
          let above : lowest size begin m ≤ begin i = falls size begin m i (λ j low. tiled j (omega arith)) before in
          let next : begin m < lowest size begin m = tiled m (omega arith) in
          omega arith
      | inr last ↦ let same : begin m ≡ begin i = ap begin (omega arith) in omega arith
    ]

record Holds (size : ℕ) (begin : ℕ → ℕ) (n k : ℕ) : Type 0 where
  item : ℕ
  there : item < n
  low : begin item ≤ k
  high : k < lowest size begin item

held : (size : ℕ) (begin : ℕ → ℕ) (n k : ℕ) → lowest size begin n ≤ k → k < size → Holds size begin n k
held size begin zero k low high = absurd (omega arith)
held size begin (suc m) k low high =
    elim (cases_lt k (lowest size begin m)) [
      | inl here ↦ record { item = m; there = omega arith; low = low; high = here }
      | inr above ↦
          let rest : Holds size begin m k = held size begin m k above high in
          record { item = rest.item; there = omega (arith, rest.there); low = rest.low; high = rest.high }
    ]

lowest_in : (size : ℕ) (begin : ℕ → ℕ) (n : ℕ) → AreTiled size begin n → lowest size begin n ≤ size
lowest_in size begin zero tiled = omega arith
lowest_in size begin (suc m) tiled =
    let rest : lowest size begin m ≤ size = lowest_in size begin m (λ j low. tiled j (omega arith)) in
    let next : begin m < lowest size begin m = tiled m (omega arith) in
    omega arith

below_tiles : (from size n : ℕ) (begin : ℕ → ℕ) → AreTiled size begin n → from ≤ lowest size begin n
    → places_outside from size n begin (end_before size begin) ≡ lowest size begin n - from
below_tiles from size n begin tiled room =
    outside_parts from (lowest size begin n) size n begin (end_before size begin) room (lowest_in size begin n tiled)
    ∙ (ap (λ (m : ℕ). m + places_outside (lowest size begin n) size n begin (end_before size begin))
    (all_outside from (lowest size begin n) n begin (end_before size begin)
    (λ k low high. is_outside n begin (end_before size begin) k
    (λ i lt begins ends. let above : lowest size begin n ≤ begin i = falls size begin n i tiled lt in omega arith)))
    ∙ (ap (λ (m : ℕ). lowest size begin n - from + m)
    (none_outside (lowest size begin n) size n begin (end_before size begin)
    (λ k low high. let it : Holds size begin n k = held size begin n k low high in
    is_inside n begin (end_before size begin) k it.item it.there it.low (let end : end_before size begin it.item
    ≡ lowest size begin it.item = tile_end size begin it.item in omega (arith, it.high))))
    ∙ omega arith))

hash_tiled : (order : Order) (page : List ℕ) (n : ℕ) → ((i : ℕ) → i < n → first_row (hash_rows order page i) ≡ None)
    → AreTiled (length page) (offset_of order page) n
hash_tiled order page n rows = λ i lt.
    let fits : FitsHash order page (offset_of order page i) (hash_end order page i) = hash_fits order page i (rows i lt) in
    let end : end_before (length page) (offset_of order page) i ≡ lowest (length page) (offset_of order page) i = tile_end (length page) (offset_of order page)
    i in
    omega (arith, fits.begins)

hash_behind : (order : Order) (page : List ℕ) (i : ℕ) → first_row (hash_rows order page i) ≡ None → index_end order page ≤ offset_of order page i
unfolding hash_rows
hash_behind order page i none = grind (arith, nat_tests, none)

pub no_lowest : (size n : ℕ) (begin : ℕ → ℕ) → n ≡ 0 → size ≡ lowest size begin n
no_lowest size n begin none = sym (ap (lowest size begin) none)

pub last_lowest : (size n : ℕ) (begin : ℕ → ℕ) → (n ≡ 0 → ⊥) → begin (n - 1) ≡ lowest size begin n
last_lowest size zero begin some = absurd (some refl)
last_lowest size (suc m) begin some = ap begin (omega arith)

pub hash_index : (order : Order) (page : List ℕ) → listed_code order page HashPage ≡ None → index_end order page ≤ length page
hash_index order page none = listed_index HashPage order page none

-- where the last item begins, or else the page's end, is behind the index
pub lowest_behind : (order : Order) (page : List ℕ) → listed_code order page HashPage ≡ None
    → index_end order page ≤ lowest (length page) (offset_of order page) (entries_of order page)
lowest_behind order page none = by (entries_of order page) (λ i lt. hash_behind order page i (has_rows order page HashPage none i lt))
  where
    by : (n : ℕ) → ((i : ℕ) → i < n → index_end order page ≤ offset_of order page i) → index_end order page ≤ lowest (length page) (offset_of order page) n
    by zero behind = listed_index HashPage order page none
    by (suc m) behind = behind m (omega arith)

-- and what lies between is unused
pub hash_outside : (order : Order) (page : List ℕ) → listed_code order page HashPage ≡ None
    → lowest (length page) (offset_of order page) (entries_of order page) - index_end order page
    ≡ hash_unused (length page) (listed order page (hash_item_at order page))
hash_outside order page none =
    let n : ℕ = entries_of order page in
    let p = listed order page (hash_item_at order page) in
    sym (listed_is order page (hash_item_at order page) (length page) (λ i. cond (i == 0) (length page) (slice_index p.offsets (i - 1)))
    (end_before (length page) (offset_of order page)) (λ i lt. ends i lt)
    ∙ below_tiles (index_end order page) (length page) n (offset_of order page) (hash_tiled order page n (has_rows order page HashPage none))
    (lowest_behind order page none))
  where
    ends : (i : ℕ) → i < entries_of order page
        → cond (i == 0) (length page) (slice_index (listed order page (hash_item_at order page)).offsets (i - 1))
        ≡ end_before (length page) (offset_of order page) i
    ends zero lt = refl
    ends (suc i) lt =
        ap (cond (suc i == 0) (length page)) (index_offset order page (hash_item_at order page) (suc i - 1) (omega arith))
