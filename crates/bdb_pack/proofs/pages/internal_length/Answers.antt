use Rattle.std.proofs.Common.{sym, ◌∙◌, ap, length}
use Rattle.bdb_pack.proofs.Common.{internal_bytes, key_seen, length-internal_chain, length-internal_inline}
use Rattle.bdb_pack.proofs.pages.internal_length.Goals as goal

pub returns-in-Inline : goal.returns-in-Inline
returns-in-Inline c = λ order.
    c.followed.ensures.long ∙ sym (length-internal_inline order c.args.item.now.child c.args.item.now.count c.in-Inline.key.now)
    ∙ ap (λ k. length (internal_bytes order (record { child = c.args.item.now.child; count = c.args.item.now.count; key = key_seen k }))) (sym c.in-Inline.is)

pub returns-in-Overflow : goal.returns-in-Overflow
returns-in-Overflow c = λ order.
    sym (length-internal_chain order c.args.item.now.child c.args.item.now.count c.in-Overflow.head c.in-Overflow.total)
    ∙ ap (λ k. length (internal_bytes order (record { child = c.args.item.now.child; count = c.args.item.now.count; key = key_seen k }))) (sym c.in-Overflow.is)
