use Rattle.std.proofs.Common.{◌≡◌, ◌+◌, List, ◌++◌, map}
use Rattle.bdb_graph.specs.Leaps.{AreKnownIfAny}
use Rattle.bdb_graph.specs.Tallies.{AreTallies, owner}
use Rattle.bdb_graph.specs.Walked.{AreKinds}
use Rattle.bdb_image.specs.Noted.{misfits_of}
use Rattle.bdb_image.specs.of_format.Terms.{Owner, file_of, fit_code, refs}
use Rattle.bdb_graph.proofs.TableLemmas.{IsRead}
use Rattle.bdb_graph.proofs.tally.tally_page.Given as goal

-- The references so far are noted and judged, and those that are left follow them, before those to the buckets of a table.
pub record IsTallied (whole : Type 0) (noted : Type 0) (told : Type 0) (named : Type 0) (judged : Type 0) (cost : Type 0) : Type 0 where
  pub parts : whole
  pub tallied : noted
  pub known : told
  pub kinds : named
  pub misfits : judged
  pub steps : cost

abbrev pub invariant-loop-reference : goal.invariant-loop-reference
invariant-loop-reference g l =
    IsTallied (IsRead (refs (file_of l.formed) l.holder) l.yielded l.reference-iterator l.buckets)
    ((os : List Owner) → AreTallies l.fn.tallies os → AreTallies l.tallies (os ++ map (owner l.holder) l.yielded))
    (AreKnownIfAny (file_of l.formed) l.tallies l.known)
    ((os : List Owner) → AreKinds l.fn.kinds os → AreKinds l.kinds (os ++ map (owner l.holder) l.yielded))
    (l.misfits ≡ misfits_of (fit_code (file_of l.formed) l.holder) l.yielded)
    (l.steps ≡ l.fn.steps + 1)
