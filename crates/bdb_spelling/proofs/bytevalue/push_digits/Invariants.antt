use Rattle.std.proofs.Common.{◌≡◌, ◌≤◌, ◌-◌, ◌++◌, length, take, false}
use Rattle.bdb_text_format.specs.Terms.{spelling}
use Rattle.bdb_spelling.proofs.bytevalue.push_digits.Given as goal

-- the first bytes are spelled
abbrev pub invariant-loop-done : goal.invariant-loop-done
invariant-loop-done l = (l.done ≤ length l.bytes) × (l.text ≡ l.fn.text ++ spelling false (take l.done l.bytes))

abbrev pub decreases-loop-done : goal.decreases-loop-done
decreases-loop-done l = length l.bytes - l.done
