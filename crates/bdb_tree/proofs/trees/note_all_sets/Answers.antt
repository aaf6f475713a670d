use Rattle.std.proofs.Common.{◌≡◌, ◌∙◌, ◌+◌, arith, subst, sym}
use Rattle.std.specs.List.{flat_map, range_with_len}
use Rattle.bdb_faults.specs.Notes.{NotesAll}
use Rattle.bdb_faults.proofs.SinkLemmas.{notes_more, notes_none}
use Rattle.bdb_overflow.specs.of_format.Terms.{File, file_of}
use Rattle.bdb_tree.specs.Noted.{held_sets}
use Rattle.bdb_tree.proofs.NotedLemmas.{no_set_faults}
use Rattle.bdb_tree.proofs.trees.note_all_sets.Goals as goal

pub returns-then-not-has_sets : goal.returns-then-not-has_sets
returns-then-not-has_sets g c =
    subst (NotesAll (g.F.FaultSink.has_noted c.args.found.now) (g.F.FaultSink.has_noted c.args.found.now))
    (sym (no_set_faults c.args.forest.now c.has_sets.ensures.forest (sym c.has_sets.ensures.sets ∙ cc)))
    (notes_none (g.F.FaultSink.has_noted c.args.found.now))

pub loop-page-preserved : goal.loop-page-preserved
loop-page-preserved g c =
    notes_more (g.F.FaultSink.has_noted c.args.found.now) (g.F.FaultSink.has_noted c.loop-page.found)
    (g.F.FaultSink.has_noted c.note_sets.new.found) (held_sets (file_of c.args.forest.now)) 0 c.loop-page.page c.loop-page.page (omega arith)
    c.loop-page.invariant c.in_ok-note_sets.ensures

-- The last page is passed.
pub returns : goal.returns
returns g c =
    let file : File = file_of c.args.forest.now in
    let last : c.head-page-end.result.last ≡ file.last =
    c.head-page-end.ensures.last in
    let all : c.loop-page.page ≡ file.last + 1 = omega arith in
    subst (λ n. NotesAll (g.F.FaultSink.has_noted c.args.found.now) (g.F.FaultSink.has_noted c.loop-page.found)
    (flat_map (held_sets file) (range_with_len 0 n))) all c.loop-page.invariant
