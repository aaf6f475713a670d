use Rattle.std.proofs.Common.{arith, subst, option_map}
use Rattle.std.proofs.lemmas.List.{take_all}
use Rattle.bdb_format.specs.Terms.{fault_seen, file_of}
use Rattle.bdb_btree.specs.of_faults.Notes.{NotesAll}
use Rattle.bdb_btree.proofs.of_faults.SinkLemmas.{notes_none}
use Rattle.bdb_master.specs.Entries.{by_target}
use Rattle.bdb_master.proofs.TargetLemmas.{target_more}
use Rattle.bdb_master.proofs.targets.note_targets.Goals as goal

pub loop-entry-init : goal.loop-entry-init
loop-entry-init g c = notes_none (g.F.FaultSink.has_noted c.args.found.now)

pub loop-entry-preserved : goal.loop-entry-preserved
loop-entry-preserved g c =
    target_more (g.F.FaultSink.has_noted c.args.found.now) (g.F.FaultSink.has_noted c.loop-entry.found) (g.F.FaultSink.has_noted c.note_given.new.found)
    (file_of c.args.linked.now) c.args.entries.now
    c.loop-entry.entry-index c.entry-item.result c.page.result c.names.result (option_map fault_seen c.target_fault.result)
    (omega arith) c.entry-item.is c.page.ensures
    c.names.ensures c.target_fault.ensures c.loop-entry.invariant c.in_ok-note_given.ensures

pub returns : goal.returns
returns g c =
    subst (λ es. NotesAll (g.F.FaultSink.has_noted c.args.found.now) (g.F.FaultSink.has_noted c.loop-entry.found) (by_target (file_of c.args.linked.now) es))
    (take_all c.loop-entry.entry-index c.args.entries.now (omega arith)) c.loop-entry.invariant
