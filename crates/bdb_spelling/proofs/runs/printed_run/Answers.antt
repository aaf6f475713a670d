use Rattle.std.proofs.Common.{◌≡◌, ℕ, ◌<◌, List, [], ◌∷◌, length, take, set, true, refl, arith}
use Rattle.bdb_spelling.proofs.RunLemmas.{plain_read, unit_read, unit_refused}
use Rattle.bdb_spelling.proofs.runs.printed_run.Goals as goal

pub returns-then-plain-gt0-clause-value : goal.returns-then-plain-gt0-clause-value
returns-then-plain-gt0-clause-value c = plain_read c.args.text.now c.plain_len-plain.result c.plain_len-plain.ensures.plain

pub returns-in_err-first-clause-value : goal.returns-in_err-first-clause-value
returns-in_err-first-clause-value c = rw c.from_residual.ensures (unit_refused true c.args.text.now c.requires.some c.in_err-first.ensures)

first_of_set : (bytes : List ℕ) (byte : ℕ) → 0 < length bytes → take 1 (set bytes 0 byte) ≡ byte ∷ []
first_of_set [] byte some = absurd (omega arith)
first_of_set (x ∷ bytes) byte some = refl

pub returns-clause-value : goal.returns-clause-value
returns-clause-value c = rw (first_of_set c.args.piece.now c.in_ok-first.first.byte (omega arith)) (unit_read true c.args.text.now _ _ c.in_ok-first.ensures)
