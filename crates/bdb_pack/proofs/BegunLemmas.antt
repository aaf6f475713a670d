-- A page that takes an item goes on to take items.
use Rattle.std.proofs.Common.{◌≡◌, ◌⊎◌, ℕ, ◌+◌, ◌-◌, ◌<◌, ◌≤◌, true, cond, List, [], length, drop, None, arith, sym, ◌∙◌, ap, subst, inl, inr}
use Rattle.bdb_pack.proofs.Common.{cases_order, eqb-true, Order, byte_at, entries_of, hash_end, index_end, is_page_size, item_row, offset_of, pad4, page_type, get_or-set_same, above, Built, bytes_of}
use Rattle.bdb_pack.proofs.Common.{with_page, HasPlaceOn, HasRoomOn, IsBegunOn, holds_on, with_item_on, HasPlace, IsWritable, OnHash, OnInternal, OnLeaf, OnRecno, PageItem, extent, holds_item}
use Rattle.bdb_pack.proofs.Common.{is_hash_type, item_bytes, takes_items, BegunStays, IsBegun, high_free_of, page_and_item, place_below}
use Rattle.bdb_pack.proofs.KeptLemmas.{IsKept, rows_same}
use Rattle.bdb_pack.proofs.NewRowLemmas.{IsNew, hash_least, hash_row_none, internal_row_none, leaf_row_none, recno_row_none}
use Rattle.bdb_pack.proofs.OpenLemmas.{open_is}
use Rattle.bdb_pack.proofs.PlacedLemmas.{IsEntered, IsPlaced, extent-le, is_below}
use Rattle.bdb_pack.proofs.RowsLemmas.{least_is_last}
use Rattle.bdb_pack.proofs.StandingLemmas.{end_same}
use Rattle.bdb_pack.proofs.TypeLemmas.{cases_leaf, hash_page}

-- the rows of an item that stays
pub still_none : (order : Order) (page new : List ℕ) (at high i : ℕ) → IsBegun order page → IsEntered order page new at high
    → drop (high_free_of order page) new ≡ drop (high_free_of order page) page
    → index_end order new ≤ high_free_of order page → i < entries_of order page → item_row (page_type (byte_at new 25)) order new i ≡ None
still_none order page new at high i begun is body end low =
    let up : high_free_of order page ≤ offset_of order page i = begun.above i low in
    let room : index_end order page ≤ high_free_of order page = begun.room in
    let kept : IsKept order page new i = record {
      high = high_free_of order page;
      long = is.long;
      type = is.type;
      body = body;
      low = up;
      offset = is.index i low;
      before = is.index (i - 1) (omega (arith, low));
      now = above (offset_of order page i) (index_end order new) (omega (arith, up, end));
      once = above (offset_of order page i) (index_end order page) (omega (arith, up, room));
    } in
    ap (λ b. item_row (page_type b) order new i) is.type ∙ (rows_same order page new i (page_type (byte_at page 25)) kept ∙ begun.items i low)

-- the rows of the item that was placed
new_none : (order : Order) (page new : List ℕ) (index at : ℕ) (item : PageItem) (rest : List ℕ) → byte_at new 25 ≡ byte_at page 25
    → holds_item (byte_at page 25) item ≡ true → IsWritable item
    → HasPlace (byte_at page 25) index item → IsNew order new index at (item_bytes order item) rest
    → (is_hash_type (byte_at page 25) ≡ true → (hash_end order new index ≡ at + length (item_bytes order item))
    × (0 < index → at + length (item_bytes order item) ≤ offset_of order new (index - 1)))
    → item_row (page_type (byte_at page 25)) order new index ≡ None
new_none order page new index at (OnLeaf item) rest type holds fits place is ends = grind (arith, leaf_row_none, cases_leaf)
new_none order page new index at (OnInternal item) rest type holds fits place is ends =
    ap (λ b. item_row (page_type b) order new index) (eqb-true (byte_at page 25) 3 holds)
    ∙ internal_row_none order new index at item.child item.count item.key rest is fits.0
new_none order page new index at (OnRecno item) rest type holds fits place is ends =
    ap (λ b. item_row (page_type b) order new index) (eqb-true (byte_at page 25) 4 holds) ∙ recno_row_none order new index at item rest is
new_none order page new index at (OnHash content) rest type holds fits place is ends = grind (arith, hash_page, hash_row_none, hash_least)

-- the page with one more entry, whose items lie from a high free offset on
pub grown_stays : (order : Order) (page new : List ℕ) (at high : ℕ) → IsBegun order page → IsEntered order page new at high
    → drop (high_free_of order page) new ≡ drop (high_free_of order page) page
    → index_end order new ≤ high → high ≤ high_free_of order page → high ≤ at → (i : ℕ) × (i < entries_of order new) × (offset_of order new i ≡ high)
    → item_row (page_type (byte_at new 25)) order new (entries_of order page) ≡ None → IsBegun order new
grown_stays order page new at high begun is body end low up least none =
    let n : ℕ = entries_of order page in
    let top : high_free_of order page ≤ length page = begun.high in
    let cases : (i : ℕ) → i < entries_of order new → (i < n) ⊎ (i ≡ n) =
    λ i under. elim (cases_order i n) [ inl same ↦ inr same | inr (inl below) ↦ inl below | inr (inr over) ↦ absurd (omega (arith, is.entries)) ] in
    record {
      size = ap is_page_size is.long ∙ begun.size;
      type = ap takes_items is.type ∙ begun.type;
      room = omega (arith, end, is.top);
      high = omega (arith, is.top, is.long);
      above = λ i under. elim (cases i under) [
        | inl below ↦ let kept = begun.above i below in omega (arith, is.top, is.index i below)
        | inr same ↦ let e : offset_of order new i ≡ at = ap (offset_of order new) same ∙ is.last in omega (arith, is.top)
      ];
      least = λ some. (least.0, least.1, least.2 ∙ sym is.top);
      empty = λ none_left. absurd (omega (arith, is.entries));
      items = λ i under. elim (cases i under) [
        | inl below ↦ still_none order page new at high i begun is body (omega arith) below
        | inr same ↦ ap (item_row (page_type (byte_at new 25)) order new) same ∙ none
      ];
    }

pub begun_stays : BegunStays
begun_stays order page item begun holds fits place room =
    let piece : List ℕ = item_bytes order item in
    let more : length piece ≤ extent (byte_at page 25) (length piece) = extent-le (byte_at page 25) (length piece) in
    let high : high_free_of order page ≤ length page = begun.high in
    let at : ℕ = place_below order page (length piece) in
    let new : List ℕ = page_and_item order page piece in
    let is : IsPlaced order page new at piece = is_below order page piece (open_is order page begun) room in
    let n : ℕ = entries_of order page in
    let end : index_end order new ≤ at = omega (arith, room, is.entry.entries) in
    let ends : is_hash_type (byte_at page 25) ≡ true → (hash_end order new n ≡ at + length piece) × (0 < n → at + length piece ≤ offset_of order new (n - 1)) =
    λ hash.
    let whole : extent (byte_at page 25) (length piece) ≡ length piece = ap (λ b. cond b (length piece) (pad4 (length piece))) hash in
    let top : at + length piece ≡ high_free_of order page = omega (arith, room, whole) in (
      end_same order new page n n is.entry.long is.entry.index (omega arith) ∙ (least_is_last order page begun (hash_page (byte_at page 25) hash) ∙ sym top),
      λ some. let up = begun.above (n - 1) (omega (arith, some)) in omega (arith, up, top, is.entry.index (n - 1) (omega (arith, some))),
    ) in
    let fresh : IsNew order new n at piece (drop (at + length piece) page) =
    record { here = is.here; offset = is.entry.last; end = end; room = omega (arith, is.entry.long, room) } in
    grown_stays order page new at at begun is.entry is.body end (omega arith) (omega arith) (n, (omega (arith, is.entry.entries)), is.entry.last)
    (ap (λ b. item_row (page_type b) order new n) is.entry.type ∙ new_none order page new n at item _ is.entry.type holds fits place fresh ends)

-- Pages among others.

-- a page that is written over by a begun one
pub begun_on : (built : Built) (p : ℕ) (page : List ℕ) → p < length built.pages → IsBegun built.order page → IsBegunOn (with_page built p page) p
begun_on built p page low begun = subst (IsBegun built.order) (sym (get_or-set_same built.pages p page [] low)) begun

-- a page that takes an item in its place
pub begun_with : (built : Built) (p : ℕ) (item : PageItem) → p < length built.pages → IsBegunOn built p → holds_on built p item ≡ true
    → IsWritable item → HasPlaceOn built p item → HasRoomOn built p (item_bytes built.order item)
    → IsBegunOn (with_item_on built p (item_bytes built.order item)) p
begun_with built p item low begun holds fits place room =
    begun_on built p (page_and_item built.order (bytes_of built p) (item_bytes built.order item)) low
    (begun_stays built.order (bytes_of built p) item begun holds fits place room)
