use Rattle.bdb_hash.proofs.KeptLemmas.{IsKeeping}
use Rattle.bdb_hash.proofs.strays.note_page.Given as goal

-- All but those that are left are noted.
abbrev pub invariant-loop-pair : goal.invariant-loop-pair
invariant-loop-pair g l =
    IsKeeping l.twice l.fn.keys l.keys l.fn.known l.known (g.F.FaultSink.has_noted l.fn.found) (g.F.FaultSink.has_noted l.found) l.fn.page l.pair-iterator
