use Rattle.bdb_recno.proofs.ContentsLemmas.{all_noted}
use Rattle.bdb_recno.proofs.contents.note_contents.Goals as goal

-- The counts and the lengths that were noted are the faults of the contents.
pub returns : goal.returns
returns g c =
    all_noted (g.F.FaultSink.has_noted c.args.found.now) (g.F.FaultSink.has_noted c.note_counts.new.found)
    (g.F.FaultSink.has_noted c.note_lengths.new.found) c.args.linked.now c.args.meta.now c.pages_of-forest.ensures.forest c.requires.meta c.requires.recno
    (rw c.pages_of-forest.ensures.pages at c.in_ok-note_counts.ensures.noted) (rw c.pages_of-forest.ensures.pages at c.in_ok-note_lengths.ensures)
