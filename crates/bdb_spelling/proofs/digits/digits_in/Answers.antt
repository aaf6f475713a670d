use Rattle.std.proofs.Common.{sym, ◌∙◌, arith}
use Rattle.std.proofs.lemmas.Bool.{lt-ltb}
use Rattle.bdb_spelling.proofs.DigitLemmas.{digit_more, next_below, next_fits}
use Rattle.bdb_spelling.proofs.digits.digits_in.Goals as goal

pub overflow_mul-number : goal.overflow_mul-number
overflow_mul-number c =
    let fits = next_fits c.args.base c.loop-byte.number c.loop-byte.byte-index c.in-Some.value c.requires.small (omega arith) c.loop-byte.invariant.below
    c.if-value-base.true in
    omega arith

pub overflow_add-number : goal.overflow_add-number
overflow_add-number c =
    let fits = next_fits c.args.base c.loop-byte.number c.loop-byte.byte-index c.in-Some.value c.requires.small (omega arith) c.loop-byte.invariant.below
    c.if-value-base.true in
    omega arith

pub loop-byte-preserved : goal.loop-byte-preserved
loop-byte-preserved c = record {
  same =
      c.loop-byte.invariant.same
      ∙ digit_more c.args.base c.loop-byte.number c.args.text.now c.loop-byte.byte-index c.in-Some.value c.loop-byte-test.true (sym c.digit_value.ensures
      ∙ c.in-Some.is) (lt-ltb c.in-Some.value c.args.base c.if-value-base.true);
  below = next_below c.args.base c.loop-byte.number c.loop-byte.byte-index c.in-Some.value c.requires.small c.loop-byte.invariant.below c.if-value-base.true;
}
