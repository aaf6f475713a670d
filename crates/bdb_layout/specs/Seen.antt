-- What the values of the code are in the definitions: items without where their bytes lie in memory.
use Rattle.std.specs.Prelude.{ℕ, List, false, Result, Ok, Err, ◌≡◌}
use Rattle.std.specs.declared.cmp.Ordering.{Ordering}
use Rattle.std.specs.declared.cmp.Ordering.TheVariants.{Less as Below, Equal, Greater}
use Rattle.bdb_format.specs.declared.kinds.Order.{Order}
use Rattle.bdb_format.specs.declared.pages.ItemFault.{ItemFault}
use Rattle.bdb_format.specs.Terms.{Chain, Content, Inline, InternalItem, Item, Less, Set, Tree}
use Rattle.bdb_layout.specs.declared.items.Content.{Content as CodeContent}
use Rattle.bdb_layout.specs.declared.items.Content.TheVariants.{Inline as OnPage, Set as SetOnPage, Overflow as OnChain, OffPage as OnTree}
use Rattle.bdb_layout.specs.declared.items.LeafItem.{LeafItem}
use Rattle.bdb_layout.specs.declared.items.LeafItem.TheVariants.{Inline as LeafInline, Duplicates, Overflow as LeafOverflow}
use Rattle.bdb_layout.specs.declared.items.InternalKey.{InternalKey}
use Rattle.bdb_layout.specs.declared.items.InternalKey.TheVariants.{Inline as KeyInline, Overflow as KeyOverflow}
use Rattle.bdb_layout.specs.declared.items.InternalItem.{InternalItem as CodeInternalItem}
use Rattle.bdb_layout.specs.declared.items.HashItem.{HashItem}
use Rattle.bdb_layout.specs.declared.items.HashItem.TheVariants.{Inline as HashInline, Set as HashSet, Overflow as HashOverflow, OffPage}

abbrev pub content_seen : CodeContent → Content
content_seen (OnPage bytes) = Inline bytes.now
content_seen (SetOnPage set) = Set set.blocks
content_seen (OnChain head total) = Chain head total
content_seen (OnTree root) = Tree root

abbrev pub leaf_item_seen : LeafItem → Item
leaf_item_seen (LeafInline bytes deleted) = record { content = Inline bytes.now; deleted = deleted }
leaf_item_seen (Duplicates root deleted) = record { content = Tree root; deleted = deleted }
leaf_item_seen (LeafOverflow head total deleted) = record { content = Chain head total; deleted = deleted }

abbrev pub key_seen : InternalKey → Content
key_seen (KeyInline bytes) = Inline bytes.now
key_seen (KeyOverflow head total) = Chain head total

abbrev pub internal_item_seen : CodeInternalItem → InternalItem
internal_item_seen item = record { child = item.child; count = item.count; key = key_seen item.key }

abbrev pub hash_content_seen : HashItem → Content
hash_content_seen (HashInline bytes) = Inline bytes.now
hash_content_seen (HashSet set) = Set set.blocks
hash_content_seen (HashOverflow head total) = Chain head total
hash_content_seen (OffPage root) = Tree root

abbrev pub hash_item_seen : HashItem → Item
hash_item_seen item = record { content = hash_content_seen item; deleted = false }

-- the set that an item holds, if it holds one, is spelled in this order
abbrev pub HasOrder : Order → HashItem → Type 0
HasOrder order (HashSet set) = set.order ≡ order
HasOrder order (HashInline bytes) = Unit {0}
HasOrder order (HashOverflow head total) = Unit {0}
HasOrder order (OffPage root) = Unit {0}

-- the same of what an item holds
abbrev pub HoldsOrder : Order → CodeContent → Type 0
HoldsOrder order (SetOnPage set) = set.order ≡ order
HoldsOrder order (OnPage bytes) = Unit {0}
HoldsOrder order (OnChain head total) = Unit {0}
HoldsOrder order (OnTree root) = Unit {0}

-- an answer with its item as it is seen
abbrev pub answer_seen : {T S : Type 0} → (T → S) → Result T ItemFault → Result S ItemFault
answer_seen view (Ok item) = Ok (view item)
answer_seen view (Err fault) = Err fault

-- the answer of a comparison of two keys
abbrev pub OrderingIs : Ordering → List ℕ → List ℕ → Type 0
OrderingIs Below a b = Less a b
OrderingIs Equal a b = a ≡ b
OrderingIs Greater a b = Less b a
