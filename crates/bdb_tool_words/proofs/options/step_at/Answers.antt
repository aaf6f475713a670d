use Rattle.std.proofs.Common.{arith, false, refl, sym, true, ◌+◌, ◌∙◌}
use Rattle.std.proofs.lemmas.Option.{slice_get_within}
use Rattle.bdb_tool_words.specs.ArgumentsSeen.{option_seen}
use Rattle.bdb_tool_words.proofs.StepLemmas.{option_test, past_place, step_ends, step_lacks, step_operand, step_plain, step_unknown, step_valued}
use Rattle.bdb_tool_words.proofs.options.step_at.Goals as goal

pub returns-in_default : goal.returns-in_default
returns-in_default c = rw (past_place c.args.words.now c.args.at c.in_default.ensures) refl

pub overflow_add-result : goal.overflow_add-result
overflow_add-result c = omega (arith, slice_get_within c.args.words.now c.args.at c.in-Some.word.now (sym c.in-Some.ensures))

pub returns-then-eq : goal.returns-then-eq
returns-then-eq c =
    step_ends _ c.args.words.now c.args.at c.in-Some.word.now c.in-Some.ensures (rw c.as_slice.ensures at (sym c.if-eq.ensures))

pub returns-then-not-starts_with : goal.returns-then-not-starts_with
returns-then-not-starts_with c =
    step_operand _ c.args.words.now c.args.at c.in-Some.word.now c.in-Some.ensures (rw c.as_slice.ensures at (sym c.if-eq.ensures))
    (option_test c.in-Some.word.now false (sym c.starts_with.ensures.value ∙ c.if-not-starts_with.true))

pub returns-in_err-option_named : goal.returns-in_err-option_named
returns-in_err-option_named c =
    rw c.from_residual.ensures (step_unknown _ c.args.words.now c.args.at c.in-Some.word.now record {
      there = c.in-Some.ensures;
      not_end = rw c.as_slice.ensures at (sym c.if-eq.ensures);
      is = option_test c.in-Some.word.now true (sym c.starts_with.ensures.value ∙ c.if-not-starts_with.false);
      row_is = c.in_err-option_named.ensures;
    })

pub overflow_add-result-in-Flag : goal.overflow_add-result-in-Flag
overflow_add-result-in-Flag c = omega (arith, slice_get_within c.args.words.now c.args.at c.in-Some.word.now (sym c.in-Some.ensures))

pub overflow_add-at : goal.overflow_add-at
overflow_add-at c = omega (arith, slice_get_within c.args.words.now c.args.at c.in-Some.word.now (sym c.in-Some.ensures))

pub returns-in_err-value-in-Valued : goal.returns-in_err-value-in-Valued
returns-in_err-value-in-Valued c =
    rw c.from_residual-in_err-value-in-Valued.ensures (step_lacks _ c.args.words.now c.args.at c.in-Some.word.now (option_seen c.in_ok-option_named.field-0) record {
      there = c.in-Some.ensures;
      not_end = rw c.as_slice.ensures at (sym c.if-eq.ensures);
      is = option_test c.in-Some.word.now true (sym c.starts_with.ensures.value ∙ c.if-not-starts_with.false);
      row_is = c.in_ok-option_named.ensures;
    }
    (rw c.in-Valued.is refl) c.in_err-value-in-Valued.ensures)

pub overflow_add-result-in-Valued : goal.overflow_add-result-in-Valued
overflow_add-result-in-Valued c =
    omega (arith, slice_get_within c.args.words.now (c.args.at + 1) c.in_ok-value-in-Valued.value.now (sym c.in_ok-value-in-Valued.ensures))

pub returns-in-Flag : goal.returns-in-Flag
returns-in-Flag c =
    let within = slice_get_within c.args.words.now c.args.at c.in-Some.word.now (sym c.in-Some.ensures) in (
      omega arith,
      omega arith,
      step_plain _ c.args.words.now c.args.at c.in-Some.word.now (option_seen c.in_ok-option_named.field-0) record {
        there = c.in-Some.ensures;
        not_end = rw c.as_slice.ensures at (sym c.if-eq.ensures);
        is = option_test c.in-Some.word.now true (sym c.starts_with.ensures.value ∙ c.if-not-starts_with.false);
        row_is = c.in_ok-option_named.ensures;
      }
          (rw c.in-Flag.is refl),
    )

pub returns-in_ok-value-in-Valued : goal.returns-in_ok-value-in-Valued
returns-in_ok-value-in-Valued c =
    let within = slice_get_within c.args.words.now (c.args.at + 1) c.in_ok-value-in-Valued.value.now (sym c.in_ok-value-in-Valued.ensures) in (
      omega arith,
      omega arith,
      step_valued _ c.args.words.now c.args.at c.in-Some.word.now (option_seen c.in_ok-option_named.field-0) c.in_ok-value-in-Valued.value.now record {
        there = c.in-Some.ensures;
        not_end = rw c.as_slice.ensures at (sym c.if-eq.ensures);
        is = option_test c.in-Some.word.now true (sym c.starts_with.ensures.value ∙ c.if-not-starts_with.false);
        row_is = c.in_ok-option_named.ensures;
      }
          (rw c.in-Valued.is refl) c.in_ok-value-in-Valued.ensures,
    )
