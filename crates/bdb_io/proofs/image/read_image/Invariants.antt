use Rattle.std.proofs.Common.{◌≤◌, ◌+◌, ◌-◌, length}
use Rattle.std.specs.Io.KnownBytes.{Consumes}
use Rattle.bdb_io.proofs.image.read_image.Given as goal

-- the bytes so far came from the source, and are within the limit
abbrev pub invariant-read : goal.invariant-read
invariant-read g l = record {
  taken : Consumes (g.S.Source.left l.fn.source) (g.S.Source.left l.source) l.bytes;
  bound : length l.bytes ≤ l.limit;
  later : g.S.Source.faults l.fn.source ≤ g.S.Source.faults l.source;
}

-- how many more bytes may come
abbrev pub decreases-read : goal.decreases-read
decreases-read g l = l.limit + 1 - length l.bytes
