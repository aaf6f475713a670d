use Rattle.std.proofs.Common.{◌≡◌, ◌++◌, map}
use Rattle.bdb_onto.specs.Bases.{text_pair}
use Rattle.bdb_tool_build.proofs.base.listed_pairs.Given as goal

-- The pairs so far stand before those that are left.
abbrev pub invariant-loop-key : goal.invariant-loop-key
invariant-loop-key l = map text_pair l.fn.list ≡ l.pairs ++ map text_pair l.key-iterator
