use Rattle.std.proofs.Common.{◌≡◌, ◌∙◌, List, ℕ, ap, map, refl, subst, sym}
use Rattle.bdb_faults.specs.Notes.{Notes}
use Rattle.bdb_ranks.specs.of_format.Terms.{File, file_of, tree_pairs}
use Rattle.bdb_ranks.specs.of_image.Linked.{IsForest}
use Rattle.bdb_btree.specs.Held.{FitsPassed, pair_held, passed_seen, stored_as, tree_items}
use Rattle.bdb_btree.specs.Rows.{next_pair, pair_faults}
use Rattle.bdb_btree.proofs.FallLemmas.{root_ordered}
use Rattle.bdb_btree.proofs.HeldLemmas.{hold_more, hold_none}
use Rattle.bdb_btree.proofs.RowLemmas.{pass_all}
use Rattle.bdb_btree.proofs.pair_rows.note_pairs.Goals as goal

pub loop-pair-init : goal.loop-pair-init
loop-pair-init g c =
    let file : File = file_of c.args.known.now in
    record {
      held =
          hold_none c.args.known.now c.args.rules c.args.root c.into_iter-pair-iterator.result c.new-passed.result
          (g.F.FaultSink.has_noted c.args.found.now) (subst IsForest c.forest-forest.ensures c.head.ensures.forest) c.requires.root
          (c.into_iter-pair-iterator.ensures.into_iter_gives
          ∙ (c.tree_items-pair-items.ensures ∙ ap (λ (image : List ℕ). tree_items (file_of image) c.args.root) c.forest-forest.ensures))
          (c.new-passed.ensures.none file) (c.new-passed.ensures.fits file);
      same = refl;
    }

pub loop-pair-preserved : goal.loop-pair-preserved
loop-pair-preserved g c =
    let file : File = file_of c.args.known.now in
    let same = c.loop-pair.invariant.same in
    record {
      held =
          hold_more file c.args.rules (tree_pairs file c.args.root) c.loop-pair.pair-iterator c.next.new.self (pair_held c.in-Some.pair)
          c.loop-pair.passed c.see.new.self (g.F.FaultSink.has_noted c.args.found.now) (g.F.FaultSink.has_noted c.loop-pair.found)
          (g.F.FaultSink.has_noted c.note.new.found) c.loop-pair.invariant.held c.in-Some.ensures.steps
          (subst (λ (image : List ℕ). passed_seen (file_of image) c.see.new.self
          ≡ next_pair (file_of image) c.args.rules.sorted (passed_seen (file_of image) c.loop-pair.passed)
          (stored_as (file_of image) (pair_held c.in-Some.pair))) same c.in_ok-see.ensures.next)
          (subst (λ (image : List ℕ). FitsPassed (file_of image) c.see.new.self) same c.in_ok-see.ensures.passed)
          (subst (λ (image : List ℕ). Notes (g.F.FaultSink.has_noted c.loop-pair.found) (g.F.FaultSink.has_noted c.note.new.found)
          (pair_faults (file_of image) c.args.rules (passed_seen (file_of image) c.see.new.self)
          (stored_as (file_of image) (pair_held c.in-Some.pair)))) c.forest-forest.ensures c.in_ok-note.ensures);
      same = c.in_ok-see.ensures.same ∙ same;
    }

pub returns-clause-order : goal.returns-clause-order
returns-clause-order g c =
    let file : File = file_of c.args.known.now in
    λ is. root_ordered c.args.known.now c.args.root c.args.rules.sorted (passed_seen file c.loop-pair.passed)
    (pass_all file c.args.rules (tree_pairs file c.args.root) (map (stored_as file) c.loop-pair.pair-iterator) (passed_seen file c.loop-pair.passed)
    (g.F.FaultSink.has_noted c.args.found.now) (g.F.FaultSink.has_noted c.loop-pair.found) c.loop-pair.invariant.held.to
    (ap (map (stored_as file)) c.in-None.ensures.steps.0))
    (sym c.is_ordered.ensures ∙ is)
