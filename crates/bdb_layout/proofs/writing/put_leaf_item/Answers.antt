use Rattle.std.proofs.Common.{ap, ◌∙◌, arith}
use Rattle.bdb_format.specs.Terms.{leaf_bytes, overwritten}
use Rattle.bdb_layout.proofs.WritingLemmas.{length-leaf_inline, length-leaf_tree, length-leaf_chain, leaf_tree-is}
use Rattle.bdb_layout.proofs.writing.put_leaf_item.Goals as goal

pub put_on_page-requires-clause-room : goal.put_on_page-requires-clause-room
put_on_page-requires-clause-room c =
    let room = rw c.in-Inline.is at c.requires.room in
    omega (arith, room, length-leaf_inline c.args.order c.in-Inline.bytes.now c.in-Inline.deleted)

pub put_off_page-requires : goal.put_off_page-requires
put_off_page-requires c =
    let room = rw c.in-Duplicates.is at c.requires.room in
    omega (arith, room, length-leaf_tree c.args.order c.in-Duplicates.root c.in-Duplicates.deleted)

pub put_off_page-requires-in-Overflow : goal.put_off_page-requires-in-Overflow
put_off_page-requires-in-Overflow c =
    let room = rw c.in-Overflow.is at c.requires.room in
    omega (arith, room, length-leaf_chain c.args.order c.in-Overflow.head c.in-Overflow.total c.in-Overflow.deleted)

-- What was written is the item, since `kind_byte` gives its kind.
pub returns-in-Inline : goal.returns-in-Inline
unfolding leaf_bytes
returns-in-Inline c = rw c.in-Inline.is (rw c.kind_byte-kind.ensures at c.put_on_page.ensures)

pub returns-in-Duplicates : goal.returns-in-Duplicates
returns-in-Duplicates c =
    let written = rw c.kind_byte-kind-in-Duplicates.ensures at c.put_off_page.ensures in
    rw c.in-Duplicates.is (written ∙ ap (overwritten c.args.page.now c.args.at) (leaf_tree-is c.args.order c.in-Duplicates.root c.in-Duplicates.deleted))

pub returns-in-Overflow : goal.returns-in-Overflow
unfolding leaf_bytes
returns-in-Overflow c = rw c.in-Overflow.is (rw c.kind_byte-kind-in-Overflow.ensures at c.put_off_page-in-Overflow.ensures)
