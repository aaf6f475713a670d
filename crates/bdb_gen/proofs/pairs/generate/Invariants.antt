use Rattle.std.proofs.Common.{◌≡◌, ◌<◌, ◌^◌}
use Rattle.bdb_gen.specs.Generated.{generated, number_from}
use Rattle.bdb_gen.proofs.pairs.generate.Given as goal

-- the pairs so far, and the number of the next one
abbrev pub invariant-loop-i : goal.invariant-loop-i
invariant-loop-i l = record {
  pairs : l.list ≡ generated l.kind l.fn.seed l.i;
  number : l.x ≡ number_from l.fn.seed l.i;
  below : l.x < 2 ^ 31;
}
