use Rattle.std.proofs.Common.{arith, sym, ◌∙◌, ap, subst}
use Rattle.bdb_apart.specs.Rows.{IsAt, first_from, row_left}
use Rattle.bdb_apart.proofs.RowLemmas.{row_at, row_is}
use Rattle.bdb_apart.proofs.rows.Rows.row.Goals as goal

-- The walk begins at the first page below.
pub invariant_of-result : goal.invariant_of-result
invariant_of-result c =
    subst (λ xs. IsAt xs c.deref-2.result.now c.args.meta c.first.result) (sym c.deref.ensures.value)
    (subst (λ ys. IsAt c.self.inside.above.items ys c.args.meta c.first.result) (sym c.deref-2.ensures.value)
    (row_at c.self.inside.above.items c.self.inside.first.items c.self.inside.next.items c.args.meta c.first.result c.self.invariant.rows
    (c.first.ensures ∙ ap (λ xs. first_from xs c.args.meta 0) (sym c.self.view_is))))

pub returns : goal.returns
returns c =
    ap (λ xs. row_left xs c.args.meta c.first.result) (c.deref.ensures.value ∙ c.self.view_is)
    ∙ (ap (row_left c.args.self.now c.args.meta) c.first.ensures ∙ row_is c.args.self.now c.args.meta 0 (omega arith))
