use Rattle.std.proofs.Common.{arith}
use Rattle.bdb_tool_lines.proofs.DigitLemmas.{last_digit, next_digit}
use Rattle.bdb_tool_lines.proofs.digits.Digits.of.Goals as goal

pub returns-then-left-eq0 : goal.returns-then-left-eq0
returns-then-left-eq0 c =
    last_digit c.args.number c.digits.bytes c.digits.start c.digits.left (omega (arith, c.if-left-eq0.true)) c.digits.invariant.spelled

pub digits-preserved : goal.digits-preserved
digits-preserved c = record {
  spelled =
      next_digit c.args.number c.digits.bytes c.digits.start c.digits.left (omega (arith, c.ranges.number.fits)) c.digits.invariant.under
      (omega (arith, c.if-left-eq0.false)) c.digits.invariant.spelled;
  under = let under = c.digits.invariant.under in omega arith;
}
