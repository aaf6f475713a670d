use Rattle.std.proofs.Common.{◌≡◌, ap, arith, sym, ◌∙◌}
use Rattle.bdb_recno.specs.of_format.Terms.{file_of}
use Rattle.bdb_recno.specs.of_image.Linked.{meta_pages}
use Rattle.bdb_recno.specs.of_image.Metas.{meta_seen}
use Rattle.bdb_recno.proofs.of_faults.SinkLemmas.{notes_none}
use Rattle.bdb_any_order.specs.Noted.{asked_on, is_asked, is_master}
use Rattle.bdb_any_order.proofs.DatabaseLemmas.{database_more, database_passed, master_there}
use Rattle.bdb_recno.proofs.of_tree.ListedLemmas.{no_more}
use Rattle.bdb_check.proofs.contents.note_databases.Goals as goal
use Rattle.bdb_check.proofs.contents.note_databases.Goals.{then-is_asked+in_ok-note_database, else-is_asked}

pub loop-i-preserved : goal.loop-i-preserved
loop-i-preserved g c =
    let master : is_master (file_of c.args.linked.now) c.meta-page.result.0 ≡ c.is_master.result =
    master_there (file_of c.args.linked.now) c.meta-page.result.0 (meta_seen c.meta-page.result.1) c.meta-page.ensures.fields ∙ sym c.is_master.ensures in
    let asked : is_asked c.args.which (is_master (file_of c.args.linked.now) c.meta-page.result.0) ≡ c.is_asked.result =
    ap (is_asked c.args.which) master ∙ sym c.is_asked.ensures in
    elim c.if-is_asked.branch [
      | then-is_asked+in_ok-note_database w ↦ record {
        noted = rw w.found-is (database_more (g.F.FaultSink.has_noted c.args.found.now) (g.F.FaultSink.has_noted c.loop-i.found)
            (g.F.FaultSink.has_noted w.note_database.new.found) (file_of c.args.linked.now) c.args.which c.loop-i.i c.meta-page.result.0
            (meta_seen c.meta-page.result.1) c.meta-page.ensures.number c.meta-page.ensures.fields (asked ∙ w.if-is_asked.true) c.loop-i.invariant.noted
            w.in_ok-note_database.ensures.noted);
        known = w.known-is ∙ (w.in_ok-note_database.ensures.known ∙ c.loop-i.invariant.known);
        chains = w.chains-is ∙ (w.in_ok-note_database.ensures.chains ∙ c.loop-i.invariant.chains);
      }
      | else-is_asked w ↦ record {
        noted = rw w.found-is (database_passed (g.F.FaultSink.has_noted c.args.found.now) (g.F.FaultSink.has_noted c.loop-i.found)
            (file_of c.args.linked.now) c.args.which c.loop-i.i c.meta-page.result.0 c.meta-page.ensures.number (asked ∙ w.if-is_asked.false)
            c.loop-i.invariant.noted);
        known = w.known-is ∙ c.loop-i.invariant.known;
        chains = w.chains-is ∙ c.loop-i.invariant.chains;
      }
    ]

pub loop-i-init : goal.loop-i-init
loop-i-init g c = record {
  noted = notes_none (g.F.FaultSink.has_noted c.args.found.now);
  known = c.requires.known;
  chains = c.requires.chains;
}

pub returns-clause-noted : goal.returns-clause-noted
returns-clause-noted g c =
    no_more (g.F.FaultSink.has_noted c.args.found.now) (g.F.FaultSink.has_noted c.loop-i.found) (asked_on c.args.which (file_of c.args.linked.now))
    (meta_pages (file_of c.args.linked.now)) c.loop-i.i (omega arith) c.loop-i.invariant.noted
