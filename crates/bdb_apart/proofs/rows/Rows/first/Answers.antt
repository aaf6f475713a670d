use Rattle.std.proofs.Common.{◌≡◌, ◌≤◌, None, arith, length, sym, subst}
use Rattle.bdb_apart.specs.Rows.{first_from}
use Rattle.bdb_apart.proofs.RowLemmas.{first_past}
use Rattle.bdb_apart.proofs.rows.Rows.first.Goals as goal

-- No page is below one that isn't there.
pub returns-else-meta-len : goal.returns-else-meta-len
returns-else-meta-len c =
    let past : length c.self.inside.above.items ≤ c.args.meta = omega (arith, c.if-meta-len.false, c.len.ensures, c.self.invariant.rows.first_len) in
    sym (subst (λ xs. first_from xs c.args.meta 0 ≡ None) c.self.view_is (first_past c.self.inside.above.items c.args.meta c.self.invariant.within past))
