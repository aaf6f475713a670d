use Rattle.std.proofs.Common.{◌-◌}
use Rattle.bdb_image.specs.of_faults.Notes.{NotesAll}
use Rattle.bdb_image.specs.of_format.Terms.{by_page, file_of, ownership_rows}
use Rattle.bdb_image.specs.of_format.Verdict.{holding}
use Rattle.bdb_graph.specs.Owned.{AreFew}
use Rattle.bdb_graph.proofs.owned.note_owners.Given as goal

-- The rows of ownership that hold at the pages passed are noted, and where none does there are few owners.
pub record IsNoted (noted : Type 0) (counted : Type 0) : Type 0 where
  pub rows : noted
  pub few : counted

abbrev pub invariant-loop-page : goal.invariant-loop-page
invariant-loop-page g l =
    IsNoted
    (NotesAll (g.F.FaultSink.has_noted l.fn.found) (g.F.FaultSink.has_noted l.found)
    (by_page 4 1 (l.page - 1) (λ p. holding (ownership_rows (file_of l.roles) p))))
    (AreFew (file_of l.roles) l.page)
