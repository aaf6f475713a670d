use Rattle.std.proofs.Common.{◌≡◌, ◌≤◌, ◌*◌, ◌^◌, take, sum_by}
use Rattle.bdb_need.proofs.Common.{slice_seen, chain_pages, values_in, filled_pairs}
use Rattle.bdb_need.proofs.RecordLemmas.{RecordsPassed}
use Rattle.bdb_need.proofs.records.record_pages.Given as goal

-- The records passed are counted, and their chains.
abbrev pub invariant-loop-i : goal.invariant-loop-i
invariant-loop-i l =
    RecordsPassed l.size (filled_pairs l.settings (slice_seen l.pairs)) l.i l.next l.open
    × ((l.chains ≡ sum_by (chain_pages l.size) (take l.i (values_in (filled_pairs l.settings (slice_seen l.pairs))))) × (l.chains ≤ l.i * 2 ^ 32))
