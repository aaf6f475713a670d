use Rattle.std.proofs.Common.{[], cond, subst, sym}
use Rattle.bdb_faults.specs.Notes.{NotesAll}
use Rattle.bdb_ranks.specs.of_format.declared.rows.ContentsRow.TheVariants.{Count}
use Rattle.bdb_ranks.specs.of_format.Terms.{file_of, has_wrong_count, inner_pages, page_at}
use Rattle.bdb_btree.specs.Noted.{faults_at}
use Rattle.bdb_btree.proofs.contents.note_counted.Goals as goal

pub returns-in_ok-note_counts : goal.returns-in_ok-note_counts
returns-in_ok-note_counts g c =
    subst (λ b. NotesAll (g.F.FaultSink.has_noted c.args.found.now) (g.F.FaultSink.has_noted c.note_counts.new.found)
    (cond b (faults_at Count (λ p. has_wrong_count (file_of c.args.forest.now) (page_at (file_of c.args.forest.now) p))
    (inner_pages (file_of c.args.forest.now) c.args.root)) [])) (sym c.if-keeps_counts.true) c.in_ok-note_counts.ensures.noted
