use Rattle.std.proofs.Common.{length, subst, sym, arith, ap}
use Rattle.bdb_pack.proofs.Common.{IsKey, internal_bytes, key_seen, length-internal_inline}
use Rattle.bdb_pack.proofs.pages.fit_internal.Goals as goal

pub returns-in-Inline : goal.returns-in-Inline
returns-in-Inline c =
    let item = c.args.item.now in
    let long = length-internal_inline c.args.order item.child item.count c.in-Inline.field-0.now in
    let same = ap (λ k. length (internal_bytes c.args.order (record { child = item.child; count = item.count; key = key_seen k }))) c.in-Inline.is in
    subst (λ k. IsKey (key_seen k)) (sym c.in-Inline.is) (omega (arith, c.requires, long, same))
