use Rattle.std.proofs.Common.{sym, ◌∙◌, ap, length}
use Rattle.bdb_pack.proofs.Common.{leaf_bytes, leaf_item_seen, length-leaf_chain, length-leaf_inline, length-leaf_tree}
use Rattle.bdb_pack.proofs.pages.leaf_length.Goals as goal

pub returns-in-Inline : goal.returns-in-Inline
returns-in-Inline c = λ order. c.followed.ensures.long ∙ sym (length-leaf_inline order c.in-Inline.bytes.now c.in-Inline.deleted)
    ∙ ap (λ i. length (leaf_bytes order (leaf_item_seen i))) (sym c.in-Inline.is)

pub returns-in-Duplicates : goal.returns-in-Duplicates
returns-in-Duplicates c = λ order. sym (length-leaf_tree order c.in-Duplicates.root c.in-Duplicates.deleted)
    ∙ ap (λ i. length (leaf_bytes order (leaf_item_seen i))) (sym c.in-Duplicates.is)

pub returns-in-Overflow : goal.returns-in-Overflow
returns-in-Overflow c = λ order. sym (length-leaf_chain order c.in-Overflow.head c.in-Overflow.total c.in-Overflow.deleted)
    ∙ ap (λ i. length (leaf_bytes order (leaf_item_seen i))) (sym c.in-Overflow.is)
