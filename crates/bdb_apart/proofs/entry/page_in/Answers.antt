use Rattle.std.proofs.Common.{Some, None, cond, length, arith, sym, ◌∙◌, ap}
use Rattle.std.proofs.lemmas.Bool.{eq-eqb}
use Rattle.std.proofs.lemmas.List.{take_all}
use Rattle.bdb_rescue.specs.of_format.Terms.{number, number_at}
use Rattle.bdb_rescue.specs.of_format.declared.kinds.Order.TheVariants.{Big}
use Rattle.bdb_apart.proofs.entry.page_in.Goals as goal

-- The four bytes are all.
pub returns : goal.returns
unfolding number_at
returns c =
    ap Some (c.u32_at.ensures ∙ ap (number Big) (take_all 4 c.args.bytes.now (omega (arith, c.requires))))
    ∙ sym (ap (λ b. cond b (Some (number Big c.args.bytes.now)) None) (eq-eqb (length c.args.bytes.now) 4 c.requires))
