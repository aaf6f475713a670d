use Rattle.std.proofs.Common.{◌∙◌, [], ◌∷◌, ◌++◌, List, ℕ, ap, append-nil, append_assoc, subst, sym}
use Rattle.bdb_faults.specs.Notes.{NotesAll}
use Rattle.bdb_faults.proofs.SinkLemmas.{notes_none}
use Rattle.bdb_tree.specs.of_format.Terms.{file_of, has_wrong_record, is_fixed, leaves}
use Rattle.bdb_recno.specs.Noted.{length_faults}
use Rattle.bdb_tree.specs.of_format.declared.rows.ContentsRow.TheVariants.{RecordLength}
use Rattle.bdb_recno.proofs.ContentsLemmas.{lengths_noted}
use Rattle.bdb_recno.proofs.NotedLemmas.{page_noted}
use Rattle.bdb_recno.proofs.PageLemmas.{turned_leaf}
use Rattle.bdb_recno.proofs.lengths.note_lengths.Goals as goal

pub loop-leaf-init : goal.loop-leaf-init
loop-leaf-init g c =
    ([], c.into_iter-leaf-iterator.ensures.into_iter_gives ∙ c.tree_leaves-leaf-items.ensures.leaves, notes_none (g.F.FaultSink.has_noted c.args.found.now))

pub has_wrong_record-wrong-requires-clause-leaf : goal.has_wrong_record-wrong-requires-clause-leaf
has_wrong_record-wrong-requires-clause-leaf g c =
    turned_leaf c.args.forest.now c.args.meta.now.root c.loop-leaf.invariant.0 c.next.new.self c.in-Some.leaf c.number-page.result c.requires.forest
    c.requires.recno (ap (λ left. c.loop-leaf.invariant.0 ++ left) (sym c.in-Some.ensures.steps) ∙ c.loop-leaf.invariant.1) c.number-page.ensures

pub loop-leaf-preserved : goal.loop-leaf-preserved
loop-leaf-preserved g c = (
  c.loop-leaf.invariant.0 ++ (c.in-Some.leaf ∷ []),
  append_assoc c.loop-leaf.invariant.0 (c.in-Some.leaf ∷ []) c.next.new.self
      ∙ (ap (λ left. c.loop-leaf.invariant.0 ++ left) (sym c.in-Some.ensures.steps) ∙ c.loop-leaf.invariant.1),
  page_noted (g.F.FaultSink.has_noted c.args.found.now) (g.F.FaultSink.has_noted c.loop-leaf.found) (g.F.FaultSink.has_noted c.note_if.new.found)
      (file_of c.args.forest.now) RecordLength (has_wrong_record (file_of c.args.forest.now) c.args.meta.now) c.loop-leaf.invariant.0 c.in-Some.leaf
      c.number-page.result c.has_wrong_record-wrong.result c.number-page.ensures c.has_wrong_record-wrong.ensures c.loop-leaf.invariant.2
      c.in_ok-note_if.ensures.noted,
)

pub returns : goal.returns
returns g c =
    lengths_noted (g.F.FaultSink.has_noted c.args.found.now) (g.F.FaultSink.has_noted c.loop-leaf.found) (is_fixed c.args.meta.now)
    (length_faults (file_of c.args.forest.now) c.args.meta.now (leaves (file_of c.args.forest.now) c.args.meta.now.root))
    (sym c.is_fixed.ensures ∙ c.if-not-is_fixed.false)
    (subst (λ (pages : List ℕ). NotesAll (g.F.FaultSink.has_noted c.args.found.now) (g.F.FaultSink.has_noted c.loop-leaf.found)
    (length_faults (file_of c.args.forest.now) c.args.meta.now pages))
    (sym (append-nil c.loop-leaf.invariant.0) ∙ (ap (λ left. c.loop-leaf.invariant.0 ++ left) (sym c.in-None.ensures.steps.0) ∙ c.loop-leaf.invariant.1))
    c.loop-leaf.invariant.2)
