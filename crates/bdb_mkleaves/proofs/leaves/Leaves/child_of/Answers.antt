use Rattle.std.proofs.Common.{sym, ◌∙◌, ap}
use Rattle.bdb_mkleaves.proofs.Common.{two_at, bytes_of, leaf_child, count_of, Child}
use Rattle.bdb_mkleaves.proofs.EntryLemmas.{entries_held}
use Rattle.bdb_mkleaves.proofs.leaves.Leaves.child_of.Goals as goal

pub returns-then-counted : goal.returns-then-counted
returns-then-counted c = λ previous next entries holds.
    let order = c.args.pages.now.order in
    let page = bytes_of c.args.pages.now c.args.leaf in
    let n = c.from-entries.ensures
    ∙ (c.u16_at.ensures
    ∙ (ap (λ o. two_at o c.page.result.now 20) c.order-order.ensures.order
    ∙ (ap (λ bs. two_at order bs 20) c.page.ensures.bytes
    ∙ entries_held c.args.self.now.leaf_type order page c.args.leaf previous next entries holds))) in
    ap (λ k. let r : Child = record { page = c.args.leaf; count = k; leaf = c.args.leaf } in r)
    (c.count-count.ensures ∙ ap (count_of c.args.self.now.leaf_type) n)
    ∙ ap (λ b. leaf_child c.args.self.now.leaf_type b c.args.leaf entries) (sym c.if-counted.true)
