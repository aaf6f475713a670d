use Rattle.std.proofs.Common.{◌+◌, ◌-◌}
use Rattle.bdb_faults.specs.Notes.{NotesAll}
use Rattle.bdb_faults.specs.of_format.Terms.{by_page, tail_rows}
use Rattle.bdb_faults.specs.of_format.Verdict.{holding}
use Rattle.bdb_image.proofs.open.note_tail.Given as goal

-- The pages passed that aren't zero pages are noted.
abbrev pub invariant-loop-number : goal.invariant-loop-number
invariant-loop-number g l =
    NotesAll (g.F.FaultSink.has_noted l.fn.found) (g.F.FaultSink.has_noted l.found)
    (by_page 1 (l.head.last + 1) (l.number - (l.head.last + 1)) (λ p. holding (tail_rows l.head l.image p)))
