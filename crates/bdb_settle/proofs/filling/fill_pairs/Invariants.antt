use Rattle.std.proofs.Common.{◌≡◌, take}
use Rattle.bdb_mktree.specs.of_text_format.Terms.{slice_seen}
use Rattle.bdb_settle.specs.Loaded.{filled_pairs}
use Rattle.bdb_settle.proofs.filling.fill_pairs.Given as goal

-- The pairs so far are there, filled up.
abbrev pub invariant-loop-i : goal.invariant-loop-i
invariant-loop-i l = l.all ≡ filled_pairs l.settings (take l.i (slice_seen l.pairs))
