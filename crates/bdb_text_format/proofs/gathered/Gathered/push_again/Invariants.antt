use Rattle.std.proofs.Common.{◌≡◌, ◌-◌, drop, take}
use Rattle.bdb_text_format.specs.Terms.{placed_key, with_again}
use Rattle.bdb_text_format.proofs.gathered.Gathered.push_again.Given as goal

-- The key stands there with the data passed.
abbrev pub invariant-loop-i : goal.invariant-loop-i
invariant-loop-i l = l.self ≡ with_again (placed_key l.fn.self.bytes l.fn.key) (take (l.i - l.fn.from) (drop l.fn.from l.fn.self.pairs)) l.fn.self
