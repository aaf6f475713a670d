use Rattle.std.proofs.Common.{List, ℕ, slice_get, ap, arith, length, length-drop, sym, ◌∙◌}
use Rattle.std.proofs.lemmas.Option.{slice_get_past}
use Rattle.bdb_tool_words.specs.Arguments.{Arguments}
use Rattle.bdb_tool_words.proofs.ReadLemmas.{slice_get-drop}
use Rattle.bdb_tool_words.proofs.options.Arguments.operand.Goals as goal

pub overflow_add-self-inside : goal.overflow_add-self-inside
overflow_add-self-inside c =
    let operands_are = ap (λ (it : Arguments). it.operands) (sym c.self.view_is) ∙ c.self.invariant.operands_are in
    omega (
      arith,
      c.if-i-operand_count.true,
      c.operand_count.ensures,
      ap length operands_are,
      length-drop c.self.inside.first c.self.inside.words.now,
      c.self.invariant.within,
    )

pub returns-then-i-operand_count : goal.returns-then-i-operand_count
returns-then-i-operand_count c =
    let operands_are = ap (λ (it : Arguments). it.operands) (sym c.self.view_is) ∙ c.self.invariant.operands_are in
    c.get.ensures ∙ sym (slice_get-drop c.self.inside.words.now c.self.inside.first c.args.i)
    ∙ ap (λ (operands : List (List ℕ)). slice_get operands c.args.i) (sym operands_are)

pub returns-else-i-operand_count : goal.returns-else-i-operand_count
returns-else-i-operand_count c =
    sym (slice_get_past c.args.self.now.operands c.args.i (omega (arith, c.operand_count.ensures, c.if-i-operand_count.false)))
