-- Laws that several crates use.
use Rattle.std.proofs.Common.{◌≡◌, ℕ, ◌<◌, List, get_or, arith, ap}
use Rattle.std.proofs.lemmas.List.FromFn.{get_or-map-range_with_len}
use Rattle.bdb_format.specs.declared.kinds.Order.{Order}
use Rattle.bdb_format.specs.Terms.{entries_of, is_deleted, kind_at, leaf_content, leaf_item_at, listed, no_item, offset_of}

-- an item of a leaf is what stands at its offset
pub leaf_item_is : (order : Order) (page : List ℕ) (i : ℕ) → i < entries_of order page → get_or (listed order page (leaf_item_at order page)).items i no_item
    ≡ leaf_item_at order page i
unfolding listed
leaf_item_is order page i there = get_or-map-range_with_len (leaf_item_at order page) 0 (entries_of order page) i i no_item there (omega arith)

-- two entries of one offset are the same item
pub one_offset : (order : Order) (page : List ℕ) (i j : ℕ) → offset_of order page i ≡ offset_of order page j
    → leaf_item_at order page i ≡ leaf_item_at order page j
unfolding leaf_item_at
one_offset order page i j same = ap (λ at. record { content = leaf_content order page at (kind_at page at); deleted = is_deleted page at }) same
