use Rattle.std.proofs.Common.{List, ℕ, ◌++◌, sym, ◌∙◌, ap}
use Rattle.bdb_mkleaves.proofs.Common.{Inline, leaf_item_seen}
use Rattle.bdb_mkleaves.proofs.LevelTakeLemmas.{key_read, no_tree, row_read}
use Rattle.bdb_mkleaves.proofs.levels.key_of_leaf.Goals as goal

pub known_leaf_item-requires-clause-sound : goal.known_leaf_item-requires-clause-sound
known_leaf_item-requires-clause-sound c =
    row_read c.args.pages.now c.args.leaf c.requires.0 _ _ c.requires.1 c.order-order.ensures.order c.page-page.ensures.bytes

pub unreachable-requires : goal.unreachable-requires
unreachable-requires c =
    no_tree c.args.pages.now c.in-Duplicates.root c.requires.0
    (key_read c.args.pages.now c.args.leaf c.requires.0 _ _ _ c.requires.1 c.order-order.ensures.order c.page-page.ensures.bytes
    (ap leaf_item_seen (sym c.in-Duplicates.is) ∙ c.known_leaf_item.ensures))
    c.requires.1.stands

pub returns-in_ok-extend_from_slice-in-Inline : goal.returns-in_ok-extend_from_slice-in-Inline
returns-in_ok-extend_from_slice-in-Inline c = λ key begins.
    ap (λ bytes. Inline bytes) (c.in_ok-extend_from_slice-in-Inline.ensures.items
    ∙ ap (λ (bytes : List ℕ). bytes ++ c.in-Inline.bytes.now) c.clear.ensures.items)
    ∙ key_read c.args.pages.now c.args.leaf key _ _ _ begins c.order-order.ensures.order c.page-page.ensures.bytes
    (ap leaf_item_seen (sym c.in-Inline.is) ∙ c.known_leaf_item.ensures)

pub returns-in-Overflow : goal.returns-in-Overflow
returns-in-Overflow c = λ key begins.
    key_read c.args.pages.now c.args.leaf key _ _ _ begins c.order-order.ensures.order c.page-page.ensures.bytes
    (ap leaf_item_seen (sym c.in-Overflow.is) ∙ c.known_leaf_item.ensures)
