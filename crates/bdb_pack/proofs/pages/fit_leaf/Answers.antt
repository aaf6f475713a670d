use Rattle.std.proofs.Common.{◌≤◌, length, subst, sym, arith}
use Rattle.bdb_pack.proofs.Common.{IsLeafContent, leaf_bytes, leaf_item_seen, length-leaf_inline}
use Rattle.bdb_pack.proofs.pages.fit_leaf.Goals as goal

pub returns-in-Inline : goal.returns-in-Inline
returns-in-Inline c =
    let short = subst (λ i. length (leaf_bytes c.args.order (leaf_item_seen i)) ≤ 32768) c.in-Inline.is c.requires in
    let long = length-leaf_inline c.args.order c.in-Inline.bytes.now c.in-Inline.deleted in
    subst (λ i. IsLeafContent (leaf_item_seen i).content) (sym c.in-Inline.is) (omega (arith, short, long))
