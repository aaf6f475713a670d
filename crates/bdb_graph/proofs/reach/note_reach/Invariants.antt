use Rattle.std.proofs.Common.{◌≡◌, ◌+◌, ◌-◌, length}
use Rattle.bdb_image.specs.of_faults.Notes.{NotesAll}
use Rattle.bdb_graph.specs.Marks.{AreSettled}
use Rattle.bdb_image.specs.of_format.Terms.{by_page, file_of, reach_rows}
use Rattle.bdb_image.specs.of_format.Verdict.{holding}
use Rattle.bdb_graph.proofs.reach.note_reach.Given as goal

-- The pages passed that don't reach are noted, and the marks are right.
pub record IsPassed (noted : Type 0) (marks : Type 0) (same : Type 0) : Type 0 where
  pub faults : noted
  pub settled : marks
  pub len : same

abbrev pub invariant-loop-page : goal.invariant-loop-page
invariant-loop-page g l =
    IsPassed
    (NotesAll (g.F.FaultSink.has_noted l.fn.found) (g.F.FaultSink.has_noted l.found) (by_page 5 1 (l.page - 1) (λ p. holding (reach_rows (file_of l.roles) p))))
    (AreSettled (file_of l.roles) l.marks.items) (length l.marks.items ≡ (file_of l.roles).last + 1)
