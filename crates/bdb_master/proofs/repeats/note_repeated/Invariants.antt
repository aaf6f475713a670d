use Rattle.std.proofs.Common.{◌≡◌}
use Rattle.bdb_btree.specs.Held.{AreKeyed}
use Rattle.bdb_format.specs.Terms.{file_of}
use Rattle.bdb_master.proofs.RepeatLemmas.{IsNoted}
use Rattle.bdb_master.proofs.repeats.note_repeated.Given as goal

-- Of the pairs that were passed those that repeat a key are noted; the items of the others name what is there.
abbrev pub invariant-loop-pair : goal.invariant-loop-pair
invariant-loop-pair g l = record {
  noted : IsNoted (g.F.FaultSink.has_noted l.fn.found) (g.F.FaultSink.has_noted l.found) l.names.keys (file_of l.fn.forest) l.fn.pairs l.pair-iterator;
  keyed : AreKeyed (file_of l.fn.forest) l.pair-iterator;
  image : l.names.image ≡ l.fn.forest;
}
