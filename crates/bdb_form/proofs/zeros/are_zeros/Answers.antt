use Rattle.std.proofs.Common.{sym, ◌∙◌}
use Rattle.bdb_form.proofs.ZeroLemmas.{shifted}
use Rattle.bdb_form.proofs.zeros.are_zeros.Goals as goal

-- The first is 0, and each other the one before it.
pub returns-then-bytes-eq0 : goal.returns-then-bytes-eq0
returns-then-bytes-eq0 c = c.eq.ensures ∙ shifted c.args.bytes.now c.if-bytes-eq0.true (sym c.is_empty.ensures ∙ c.if-is_empty.false)
