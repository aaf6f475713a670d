use Rattle.std.proofs.Common.{◌≡◌, ◌∙◌, ap, arith, subst}
use Rattle.bdb_faults.specs.Notes.{NotesAll}
use Rattle.bdb_faults.proofs.SinkLemmas.{notes_more}
use Rattle.bdb_overflow.specs.of_form.Seen.{page_seen}
use Rattle.bdb_overflow.specs.of_format.declared.references.Sort.TheVariants.{DuplicateRoot}
use Rattle.bdb_overflow.specs.of_format.Terms.{File, Page, file_of, page_at}
use Rattle.bdb_tree.specs.Noted.{data_faults, data_root, pair_count, root_faults, set_faults}
use Rattle.bdb_tree.proofs.RootLemmas.{data_root_tree}
use Rattle.bdb_tree.proofs.trees.note_sets.Goals as goal

pub note_tree-requires-clause-root : goal.note_tree-requires-clause-root
note_tree-requires-clause-root g c =
    data_root_tree c.args.forest.now c.args.page c.loop-i.i
    (page_seen c.page-view.result) c.data_root.result c.requires.forest c.requires.there c.page-view.ensures.page
    (omega (arith, c.pairs-i-end.ensures)) c.data_root.ensures

pub loop-i-preserved : goal.loop-i-preserved
loop-i-preserved g c =
    let file : File = file_of c.args.forest.now in
    let page : Page = page_at file c.args.page in
    let root : c.data_root.result ≡ data_root page c.loop-i.i = c.data_root.ensures ∙ ap (λ q. data_root q c.loop-i.i) c.page-view.ensures.page in
    notes_more (g.F.FaultSink.has_noted c.args.found.now) (g.F.FaultSink.has_noted c.loop-i.found) (g.F.FaultSink.has_noted c.note_tree.new.found)
    (data_faults file page) 0 c.loop-i.i c.loop-i.i (omega arith) c.loop-i.invariant
    (subst (λ r. NotesAll (g.F.FaultSink.has_noted c.loop-i.found) (g.F.FaultSink.has_noted c.note_tree.new.found) (root_faults file DuplicateRoot r)) root
    c.in_ok-note_tree.ensures)

-- All pairs are passed.
pub returns : goal.returns
returns g c =
    let file : File = file_of c.args.forest.now in
    subst (λ n. NotesAll (g.F.FaultSink.has_noted c.args.found.now) (g.F.FaultSink.has_noted c.loop-i.found) (set_faults file (page_at file c.args.page) n))
    (omega arith ∙ (c.pairs-i-end.ensures ∙ ap pair_count c.page-view.ensures.page)) c.loop-i.invariant
