use Rattle.std.proofs.Common.{◌≡◌, ◌+◌, ◌-◌, length}
use Rattle.bdb_graph.specs.Leaps.{AreKnownIfAny}
use Rattle.bdb_graph.specs.Tallies.{AreTallies}
use Rattle.bdb_graph.specs.Walked.{AreKinds}
use Rattle.bdb_image.specs.of_faults.Notes.{NotesAll}
use Rattle.bdb_graph.proofs.TallyLemmas.{held_below}
use Rattle.bdb_image.specs.of_format.Terms.{by_page, file_of, reference_rows}
use Rattle.bdb_image.specs.of_format.Verdict.{holding}
use Rattle.bdb_graph.proofs.tally.note_references.Given as goal

-- The references of the pages passed are counted and those noted that don't fit, a step for each page.
pub record IsTallied (same : Type 0) (tallied : Type 0) (told : Type 0) (named : Type 0) (noted : Type 0) (cost : Type 0) : Type 0 where
  pub len : same
  pub all : tallied
  pub known : told
  pub kinds : named
  pub faults : noted
  pub steps : cost

abbrev pub invariant-loop-page : goal.invariant-loop-page
invariant-loop-page g l =
    IsTallied (length l.tallies.items ≡ l.pages) (AreTallies l.tallies.items (held_below (file_of l.formed) l.page))
    (AreKnownIfAny (file_of l.formed) l.tallies.items l.known)
    (AreKinds l.kinds (held_below (file_of l.formed) l.page)) (NotesAll (g.F.FaultSink.has_noted l.fn.found) (g.F.FaultSink.has_noted l.found)
    (by_page 3 0 (l.page - 0) (λ p. holding (reference_rows (file_of l.formed) p))))
    (l.steps ≡ l.fn.steps + l.page)
