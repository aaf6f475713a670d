use Rattle.bdb_check.proofs.WholeLemmas.{contents_whole, master_whole, no_structure_noted, none_so_far, not_all_none, structure_whole}
use Rattle.bdb_check.proofs.check.note_file.Goals as goal
use Rattle.bdb_check.proofs.check.note_file.Goals.{then-is_empty+in_ok-found, else-is_empty}

pub returns-then-not-is_empty-clause-noted : goal.returns-then-not-is_empty-clause-noted
returns-then-not-is_empty-clause-noted g c =
    structure_whole c.args.rows c.args.linked.now (g.F.FaultSink.has_noted c.args.found) (g.F.FaultSink.has_noted c.note_structure.new.found) c.requires
    c.in_ok-note_structure.ensures c.is_empty.result c.if-not-is_empty.true c.is_empty.ensures

pub returns-then-not-is_empty-clause-entries : goal.returns-then-not-is_empty-clause-entries
returns-then-not-is_empty-clause-entries g c none =
    absurd (not_all_none c.args.rows c.args.linked.now (g.F.FaultSink.has_noted c.args.found) (g.F.FaultSink.has_noted c.note_structure.new.found) c.requires
    c.in_ok-note_structure.ensures c.is_empty.result c.if-not-is_empty.true c.is_empty.ensures none)

pub master_entries-requires : goal.master_entries-requires
master_entries-requires g c =
    no_structure_noted c.args.rows c.args.linked.now (g.F.FaultSink.has_noted c.args.found) (g.F.FaultSink.has_noted c.note_structure.new.found) c.requires
    c.in_ok-note_structure.ensures c.is_empty.result c.if-not-is_empty.false c.is_empty.ensures

pub note_master-requires-clause-structure : goal.note_master-requires-clause-structure
note_master-requires-clause-structure g c =
    no_structure_noted c.args.rows c.args.linked.now (g.F.FaultSink.has_noted c.args.found) (g.F.FaultSink.has_noted c.note_structure.new.found) c.requires
    c.in_ok-note_structure.ensures c.is_empty.result c.if-not-is_empty.false c.is_empty.ensures

pub note_contents-requires-clause-stage : goal.note_contents-requires-clause-stage
note_contents-requires-clause-stage g c =
    no_structure_noted c.args.rows c.args.linked.now (g.F.FaultSink.has_noted c.args.found) (g.F.FaultSink.has_noted c.note_structure.new.found) c.requires
    c.in_ok-note_structure.ensures c.is_empty.result c.if-not-is_empty.false c.is_empty.ensures

pub note_contents-requires-clause-begun : goal.note_contents-requires-clause-begun
note_contents-requires-clause-begun g c =
    none_so_far c.args.rows c.args.linked.now (g.F.FaultSink.has_noted c.args.found) (g.F.FaultSink.has_noted c.note_structure.new.found) c.requires
    c.in_ok-note_structure.ensures (g.F.FaultSink.has_noted c.note_master.new.found)
    (no_structure_noted c.args.rows c.args.linked.now (g.F.FaultSink.has_noted c.args.found) (g.F.FaultSink.has_noted c.note_structure.new.found) c.requires
    c.in_ok-note_structure.ensures c.is_empty.result c.if-not-is_empty.false c.is_empty.ensures) c.in_ok-note_master.ensures c.is_empty-2.result
    c.if-is_empty.true c.is_empty-2.ensures

pub returns-clause-noted : goal.returns-clause-noted
returns-clause-noted g c =
    let none =
    no_structure_noted c.args.rows c.args.linked.now (g.F.FaultSink.has_noted c.args.found) (g.F.FaultSink.has_noted c.note_structure.new.found) c.requires
    c.in_ok-note_structure.ensures c.is_empty.result c.if-not-is_empty.false c.is_empty.ensures in
    elim c.if-is_empty.branch [
      | then-is_empty+in_ok-found w ↦ rw w.found-is (contents_whole c.args.rows c.args.linked.now (g.F.FaultSink.has_noted c.args.found)
          (g.F.FaultSink.has_noted c.note_structure.new.found) c.requires c.in_ok-note_structure.ensures (g.F.FaultSink.has_noted c.note_master.new.found) none
          c.in_ok-note_master.ensures (g.F.FaultSink.has_noted w.in_ok-found.found) c.is_empty-2.result w.if-is_empty.true c.is_empty-2.ensures
          w.in_ok-found.ensures)
      | else-is_empty w ↦ rw w.found-is (master_whole c.args.rows c.args.linked.now (g.F.FaultSink.has_noted c.args.found)
          (g.F.FaultSink.has_noted c.note_structure.new.found) c.requires c.in_ok-note_structure.ensures (g.F.FaultSink.has_noted c.note_master.new.found) none
          c.in_ok-note_master.ensures c.is_empty-2.result w.if-is_empty.false c.is_empty-2.ensures)
    ]
