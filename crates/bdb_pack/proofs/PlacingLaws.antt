-- The bytes of a page stand, after an item is placed, for the page with the item at its end.
use Rattle.std.proofs.Common.{◌≡◌, ℕ, ◌+◌, ◌<◌, ◌≤◌, true, false, List, length, arith, ◌∙◌, ◌==◌}
use Rattle.bdb_pack.proofs.Common.{eqb-true, Order, RecnoItem, Content, InternalItem, IsHashContent, IsLeafContent, Item, abstract_page, byte_at, entries_of, hash_end, hash_item_at, internal_item_at}
use Rattle.bdb_pack.proofs.Common.{leaf_item_at, listed, page_as, page_type, recno_item_at, IsWritable, OnHash, OnInternal, OnLeaf, OnRecno, PageItem, holds_item, is_hash_type, is_leaf_type}
use Rattle.bdb_pack.proofs.Common.{item_bytes, IsBegun, ItemsArePlaced, high_free_of, page_with, with_item}
use Rattle.bdb_pack.proofs.OpenLemmas.{open_is}
use Rattle.bdb_pack.proofs.PlacedLemmas.{IsPlaced, extent-le, is_below}
use Rattle.bdb_pack.proofs.StandingLemmas.{end_same, hash_here, hash_item_same, internal_here, internal_item_same, leaf_here, leaf_item_same, listed_more, recno_here, recno_item_same, typed}
use Rattle.bdb_pack.proofs.TypeLemmas.{cases_hash, cases_leaf, hash_page}
use Rattle.bdb_pack.proofs.RowsLemmas.{least_is_last}

-- what is known of a page and of the page with an item
record Grown (order : Order) (page new : List ℕ) (at : ℕ) (piece : List ℕ) : Type 0 where
  begun : IsBegun order page
  is : IsPlaced order page new at piece
  room : at + length piece ≤ high_free_of order page
  long : 25 < length page

-- both pages are of a type
both : (order : Order) (page new : List ℕ) (at : ℕ) (piece : List ℕ) (byte : ℕ) → Grown order page new at piece → (byte == 0) ≡ false → byte_at page 25 ≡ byte
    → (abstract_page order page ≡ page_as order page (page_type byte)) × (abstract_page order new ≡ page_as order new (page_type byte))
both order page new at piece byte grown some is = grind (arith, typed)

leaf_grows : (order : Order) (page new : List ℕ) (at : ℕ) (item : Item) → Grown order page new at (item_bytes order (OnLeaf item)) → IsLeafContent item.content
    → listed order new (leaf_item_at order new) ≡ with_item (listed order page (leaf_item_at order page)) at at item
leaf_grows order page new at item grown fits = grind (arith, listed_more, leaf_item_same, leaf_here)

internal_grows : (order : Order) (page new : List ℕ) (at : ℕ) (item : InternalItem) → Grown order page new at (item_bytes order (OnInternal item))
    → IsWritable (OnInternal item)
    → listed order new (internal_item_at order new) ≡ with_item (listed order page (internal_item_at order page)) at at item
internal_grows order page new at item grown fits = grind (arith, listed_more, internal_item_same, internal_here)

recno_grows : (order : Order) (page new : List ℕ) (at : ℕ) (item : RecnoItem) → Grown order page new at (item_bytes order (OnRecno item))
    → IsWritable (OnRecno item)
    → listed order new (recno_item_at order new) ≡ with_item (listed order page (recno_item_at order page)) at at item
recno_grows order page new at item grown fits = grind (arith, listed_more, recno_item_same, recno_here)

hash_grows : (order : Order) (page new : List ℕ) (at : ℕ) (content : Content) → Grown order page new at (item_bytes order (OnHash content))
    → IsWritable (OnHash content)
    → hash_end order page (entries_of order page) ≡ at + length (item_bytes order (OnHash content))
    → listed order new (hash_item_at order new) ≡ with_item (listed order page (hash_item_at order page)) at at (record { content = content; deleted = false })
hash_grows order page new at content grown fits end =
    let is = grown.is in
    listed_more order page new at at (hash_item_at order new) (hash_item_at order page) (record { content = content; deleted = false }) is.entry
    (λ k low. hash_item_same order new page (high_free_of order page) k is.body (is.entry.index k low)
    (end_same order new page k (entries_of order page) is.entry.long is.entry.index (omega (arith, low))) (grown.begun.above k low))
    (hash_here order new (entries_of order page) at content _ fits (let high = grown.begun.high in let room = grown.room in omega (arith, is.entry.long))
    is.here is.entry.last
    (end_same order new page (entries_of order page) (entries_of order page) is.entry.long is.entry.index (omega arith) ∙ end))

leaf_type_placed : (order : Order) (page new : List ℕ) (at : ℕ) (item : Item) → Grown order page new at (item_bytes order (OnLeaf item))
    → is_leaf_type (byte_at page 25) ≡ true → IsLeafContent item.content
    → abstract_page order new ≡ page_with (abstract_page order page) at (OnLeaf item)
leaf_type_placed order page new at item grown holds fits = grind (arith, leaf_grows, cases_leaf, both)

hash_type_placed : (order : Order) (page new : List ℕ) (at : ℕ) (content : Content) → Grown order page new at (item_bytes order (OnHash content))
    → is_hash_type (byte_at page 25) ≡ true → IsHashContent content
    → at + length (item_bytes order (OnHash content)) ≡ high_free_of order page
    → abstract_page order new ≡ page_with (abstract_page order page) at (OnHash content)
hash_type_placed order page new at content grown holds fits end = grind (arith, hash_page, hash_grows, least_is_last, cases_hash, both)

placed_by : (order : Order) (page new : List ℕ) (at : ℕ) (item : PageItem) → Grown order page new at (item_bytes order item)
    → holds_item (byte_at page 25) item ≡ true → IsWritable item
    → (is_hash_type (byte_at page 25) ≡ true → at + length (item_bytes order item) ≡ high_free_of order page)
    → abstract_page order new ≡ page_with (abstract_page order page) at item
placed_by order page new at (OnLeaf item) grown holds fits end = leaf_type_placed order page new at item grown holds fits
placed_by order page new at (OnInternal item) grown holds fits end = grind (arith, both, eqb-true, internal_grows)
placed_by order page new at (OnRecno item) grown holds fits end = grind (arith, both, eqb-true, recno_grows)
placed_by order page new at (OnHash content) grown holds fits end = hash_type_placed order page new at content grown holds fits (end holds)

pub items_are_placed : ItemsArePlaced
items_are_placed order page item begun holds fits room = grind (arith, open_is, extent-le, is_below, placed_by)
