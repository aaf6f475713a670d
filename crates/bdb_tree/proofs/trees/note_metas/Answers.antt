use Rattle.std.proofs.Common.{◌≡◌, ◌∙◌, List, ℕ, ap, arith, subst, sym, IfSome, Option}
use Rattle.bdb_faults.specs.Notes.{NotesAll}
use Rattle.bdb_overflow.specs.of_format.declared.references.Sort.TheVariants.{Root}
use Rattle.bdb_overflow.specs.of_format.Terms.{File, file_of, page_at}
use Rattle.bdb_overflow.specs.of_image.Linked.{meta_pages}
use Rattle.bdb_tree.specs.Noted.{meta_faults, meta_root, root_faults}
use Rattle.bdb_tree.specs.Trees.{IsTreePage}
use Rattle.bdb_tree.proofs.ListedLemmas.{no_more, one_more}
use Rattle.bdb_tree.proofs.RootLemmas.{meta_root_tree}
use Rattle.bdb_tree.proofs.trees.note_metas.Goals as goal

pub note_tree-requires-clause-root : goal.note_tree-requires-clause-root
note_tree-requires-clause-root g c =
    subst (λ (image : List ℕ). IfSome c.meta_root.result (IsTreePage (file_of image))) (sym c.forest-forest.ensures)
    (meta_root_tree c.args.linked.now c.meta-meta.result.0 c.meta_root.result c.meta-meta.ensures.forest c.meta-meta.ensures.inside
    (c.meta_root.ensures ∙ ap meta_root (sym c.meta-meta.ensures.fields)))

pub loop-i-preserved : goal.loop-i-preserved
loop-i-preserved g c =
    let file : File = file_of c.args.linked.now in
    let root : c.meta_root.result ≡ meta_root (page_at file c.meta-meta.result.0) = c.meta_root.ensures ∙ ap meta_root (sym c.meta-meta.ensures.fields) in
    one_more (g.F.FaultSink.has_noted c.args.found.now) (g.F.FaultSink.has_noted c.loop-i.found) (g.F.FaultSink.has_noted c.note_tree.new.found)
    (meta_faults file) (meta_pages file) c.loop-i.i c.meta-meta.result.0 c.meta-meta.ensures.number c.loop-i.invariant
    (subst (λ (root : Option ℕ). NotesAll (g.F.FaultSink.has_noted c.loop-i.found) (g.F.FaultSink.has_noted c.note_tree.new.found) (root_faults file Root root))
    root
    (subst (λ (image : List ℕ). NotesAll (g.F.FaultSink.has_noted c.loop-i.found) (g.F.FaultSink.has_noted c.note_tree.new.found)
    (root_faults (file_of image) Root c.meta_root.result)) c.forest-forest.ensures c.in_ok-note_tree.ensures))

pub returns-clause-noted : goal.returns-clause-noted
returns-clause-noted g c =
    let file : File = file_of c.args.linked.now in
    no_more (g.F.FaultSink.has_noted c.args.found.now) (g.F.FaultSink.has_noted c.loop-i.found) (meta_faults file) (meta_pages file) c.loop-i.i (omega arith)
    c.loop-i.invariant
