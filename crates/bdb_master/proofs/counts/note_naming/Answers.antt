use Rattle.std.proofs.Common.{◌+◌, arith, option_map, option_to_list}
use Rattle.bdb_format.specs.Terms.{fault_seen, file_of}
use Rattle.bdb_btree.specs.of_image.Linked.{meta_pages}
use Rattle.bdb_btree.proofs.of_faults.SinkLemmas.{notes_none}
use Rattle.bdb_master.specs.Entries.{naming_fault}
use Rattle.bdb_master.proofs.CountLemmas.{count_read, naming_more}
use Rattle.bdb_btree.proofs.of_tree.ListedLemmas.{no_more}
use Rattle.bdb_master.proofs.counts.note_naming.Goals as goal

pub loop-i-init : goal.loop-i-init
loop-i-init g c = notes_none (g.F.FaultSink.has_noted c.args.found.now)

pub loop-i-preserved : goal.loop-i-preserved
loop-i-preserved g c =
    naming_more (g.F.FaultSink.has_noted c.args.found.now) (g.F.FaultSink.has_noted c.loop-i.found) (g.F.FaultSink.has_noted c.note_given.new.found)
    (file_of c.args.linked.now) c.args.entries.now c.loop-i.i
    c.meta-number.result.0 c.index.result.now (option_map fault_seen c.count_fault.result) c.meta-number.ensures.number
    (count_read c.in_ok-counts.counts.items (c.head.result.last + 1) c.meta-number.result.0 c.index.result.now c.args.entries.now c.in_ok-counts.ensures
    (omega (arith, c.meta-number.ensures.inside, c.head.ensures.last)) c.index.ensures)
    c.count_fault.ensures
    c.loop-i.invariant c.in_ok-note_given.ensures

pub returns-clause-noted : goal.returns-clause-noted
returns-clause-noted g c =
    no_more (g.F.FaultSink.has_noted c.args.found.now) (g.F.FaultSink.has_noted c.loop-i.found) (λ p. option_to_list (naming_fault c.args.entries.now p))
    (meta_pages (file_of c.args.linked.now))
    c.loop-i.i (omega arith) c.loop-i.invariant
