use Rattle.std.proofs.Common.{◌+◌, List, ℕ, subst}
use Rattle.bdb_faults.specs.Notes.{NotesAll}
use Rattle.bdb_faults.proofs.SinkLemmas.{notes_both, notes_same}
use Rattle.std.specs.List.{flat_map, range_with_len}
use Rattle.bdb_overflow.specs.of_format.Terms.{file_of, tree_faults}
use Rattle.bdb_overflow.specs.of_image.Linked.{meta_pages}
use Rattle.bdb_tree.specs.Noted.{by_part, held_sets, meta_faults}
use Rattle.bdb_tree.proofs.NotedLemmas.{parts_noted}
use Rattle.bdb_tree.proofs.check.note_trees.Goals as goal

pub returns : goal.returns
returns g c =
    let image : List ℕ = c.args.linked.now in
    notes_same (g.F.FaultSink.has_noted c.args.found.now) (g.F.FaultSink.has_noted c.note_all_sets.new.found) (by_part (file_of image))
    (tree_faults (file_of image))
    (notes_both (g.F.FaultSink.has_noted c.args.found.now) (g.F.FaultSink.has_noted c.note_metas.new.found) (g.F.FaultSink.has_noted c.note_all_sets.new.found)
    (flat_map (meta_faults (file_of image)) (meta_pages (file_of image))) (flat_map (held_sets (file_of image)) (range_with_len 0 ((file_of image).last + 1)))
    c.in_ok-note_metas.ensures.noted
    (subst (λ (image : List ℕ). NotesAll (g.F.FaultSink.has_noted c.note_metas.new.found) (g.F.FaultSink.has_noted c.note_all_sets.new.found)
    (flat_map (held_sets (file_of image)) (range_with_len 0 ((file_of image).last + 1)))) c.forest.ensures c.in_ok-note_all_sets.ensures))
    (parts_noted image c.note_metas.ensures.forest)
