use Rattle.std.specs.Prelude.{ℕ, ◌≤◌, List}
use Rattle.bdb_tool_lines.proofs.DigitLemmas.{IsSpelled}
use Rattle.bdb_tool_lines.proofs.digits.Digits.of.Given as goal

-- What is left is spelled before what stands at the end of the bytes.
pub record Left (number : ℕ) (bytes : List ℕ) (start left : ℕ) : Type 0 where
  pub spelled : IsSpelled number bytes start left
  pub under : left ≤ number

abbrev pub invariant-digits : goal.invariant-digits
invariant-digits l = Left l.number l.bytes l.start l.left

abbrev pub decreases-digits : goal.decreases-digits
decreases-digits l = l.start
