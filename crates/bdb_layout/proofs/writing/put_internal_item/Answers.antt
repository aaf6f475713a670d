use Rattle.std.proofs.Common.{arith}
use Rattle.bdb_layout.proofs.WritingLemmas.{length-internal_inline, length-internal_chain, wrote_internal_inline, wrote_internal_chain}
use Rattle.bdb_layout.proofs.writing.put_internal_item.Goals as goal

pub put_internal_start-requires : goal.put_internal_start-requires
put_internal_start-requires c =
    let room = rw c.in-Inline.is at c.requires.room in
    omega (arith, room, length-internal_inline c.args.order c.args.item.now.child c.args.item.now.count c.in-Inline.key.now)

pub put_bytes-requires : goal.put_bytes-requires
put_bytes-requires c =
    let room = rw c.in-Inline.is at c.requires.room in
    omega (arith, room, length-internal_inline c.args.order c.args.item.now.child c.args.item.now.count c.in-Inline.key.now)

pub put_internal_start-requires-in-Overflow : goal.put_internal_start-requires-in-Overflow
put_internal_start-requires-in-Overflow c =
    let room = rw c.in-Overflow.is at c.requires.room in
    omega (arith, room, length-internal_chain c.args.order c.args.item.now.child c.args.item.now.count c.in-Overflow.head c.in-Overflow.total)

pub put_off_page-requires : goal.put_off_page-requires
put_off_page-requires c =
    let room = rw c.in-Overflow.is at c.requires.room in
    omega (arith, room, length-internal_chain c.args.order c.args.item.now.child c.args.item.now.count c.in-Overflow.head c.in-Overflow.total)

-- The key stands right behind the start.
pub returns-in-Inline : goal.returns-in-Inline
returns-in-Inline c =
    let room = rw c.in-Inline.is at c.requires.room in
    let item = c.args.item.now in
    rw c.in-Inline.is (wrote_internal_inline c.args.order item.child item.count c.in-Inline.key.now c.args.page.now c.put_internal_start.new.page
    c.put_bytes.new.page c.args.at c.put_internal_start.ensures c.put_bytes.ensures room)

pub returns-in-Overflow : goal.returns-in-Overflow
returns-in-Overflow c =
    let room = rw c.in-Overflow.is at c.requires.room in
    let item = c.args.item.now in
    rw c.in-Overflow.is (wrote_internal_chain c.args.order item.child item.count c.in-Overflow.head c.in-Overflow.total c.args.page.now
    c.put_internal_start-in-Overflow.new.page c.put_off_page.new.page c.args.at c.put_internal_start-in-Overflow.ensures c.put_off_page.ensures room)
