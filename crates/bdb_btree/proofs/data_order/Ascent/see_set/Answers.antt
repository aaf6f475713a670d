use Rattle.std.proofs.Common.{◌≡◌, ◌∙◌, List, ℕ, ap, refl, subst, sym, fold}
use Rattle.bdb_ranks.specs.of_format.Terms.{File, file_of, tree_entries}
use Rattle.bdb_ranks.specs.of_layout.Seen.{leaf_item_seen}
use Rattle.bdb_ranks.specs.of_overflow.Held.{FitsAny, FitsHeld, value_held}
use Rattle.bdb_ranks.specs.of_tree.Entries.{AreFit}
use Rattle.bdb_ranks.proofs.of_tree.EntryLemmas.{all_values, rest_fit}
use Rattle.bdb_btree.specs.Held.{run_seen}
use Rattle.bdb_btree.specs.Runs.{follow}
use Rattle.bdb_btree.proofs.HeldLemmas.{first_entry_fits, set_more, set_passed}
use Rattle.bdb_btree.proofs.data_order.Ascent.see_set.Goals as goal

pub loop-entry-init : goal.loop-entry-init
loop-entry-init c =
    let file : File = file_of c.args.known.now in
    record {
      run =
          ap (fold follow (run_seen file c.args.self.now)) (all_values file c.args.root c.into_iter-entry-iterator.result
          (c.into_iter-entry-iterator.ensures.into_iter_gives
          ∙ (c.tree_entries-entry-items.ensures.entries ∙ ap (λ (image : List ℕ). tree_entries (file_of image) c.args.root) c.forest.ensures)));
      fits = c.requires.last;
      entries =
          subst (AreFit file) (sym c.into_iter-entry-iterator.ensures.into_iter_gives)
          (subst (λ (image : List ℕ). AreFit (file_of image) c.tree_entries-entry-items.result) c.forest.ensures c.tree_entries-entry-items.ensures.fit);
      same = refl;
    }

pub follow-requires-clause-value : goal.follow-requires-clause-value
follow-requires-clause-value c =
    subst (λ (image : List ℕ). FitsHeld (file_of image) c.leaf_held.result) (sym c.loop-entry.invariant.same)
    (c.leaf_held.ensures.fits (file_of c.args.known.now)
    (first_entry_fits (file_of c.args.known.now) (leaf_item_seen c.in-Some.entry) c.next.new.self c.loop-entry.entry-iterator c.in-Some.ensures.steps
    c.loop-entry.invariant.entries))

pub loop-entry-preserved-in-Continue-1 : goal.loop-entry-preserved-in-Continue-1
loop-entry-preserved-in-Continue-1 c =
    let file : File = file_of c.args.known.now in
    let same = c.loop-entry.invariant.same in
    record {
      run =
          set_more file (run_seen file c.loop-entry.self) (run_seen file c.follow.new.self) _ (leaf_item_seen c.in-Some.entry) c.next.new.self
          c.loop-entry.entry-iterator (value_held file c.leaf_held.result) c.in-Some.ensures.steps (sym c.if-not-is_deleted.ensures)
          (c.leaf_held.ensures.value file)
          (subst (λ (image : List ℕ). run_seen (file_of image) c.follow.new.self
          ≡ follow (run_seen (file_of image) c.loop-entry.self) (value_held (file_of image) c.leaf_held.result)) same c.in_ok-follow.ensures.run)
          c.loop-entry.invariant.run;
      fits = subst (λ (image : List ℕ). FitsAny (file_of image) c.follow.new.self.last) same c.in_ok-follow.ensures.fits;
      entries =
          rest_fit file (leaf_item_seen c.in-Some.entry) c.next.new.self c.loop-entry.entry-iterator c.in-Some.ensures.steps
          c.loop-entry.invariant.entries;
      same = c.in_ok-follow.ensures.same ∙ same;
    }

-- A deleted entry gives nothing.
pub loop-entry-preserved : goal.loop-entry-preserved
loop-entry-preserved c =
    let file : File = file_of c.args.known.now in
    record {
      run =
          set_passed file (run_seen file c.loop-entry.self) _ (leaf_item_seen c.in-Some.entry) c.next.new.self c.loop-entry.entry-iterator
          c.in-Some.ensures.steps (sym c.if-not-is_deleted.ensures) c.loop-entry.invariant.run;
      fits = c.loop-entry.invariant.fits;
      entries =
          rest_fit file (leaf_item_seen c.in-Some.entry) c.next.new.self c.loop-entry.entry-iterator c.in-Some.ensures.steps
          c.loop-entry.invariant.entries;
      same = c.loop-entry.invariant.same;
    }
