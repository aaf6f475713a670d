use Rattle.std.proofs.Common.{◌≡◌, ◌∙◌, List, ℕ, ap, refl, subst, sym, option_map}
use Rattle.bdb_ranks.specs.of_format.Terms.{File, ascends, file_of, tree_entries}
use Rattle.bdb_ranks.specs.of_layout.Seen.{leaf_item_seen}
use Rattle.bdb_ranks.specs.of_overflow.Held.{FitsHeld, value_held}
use Rattle.bdb_ranks.specs.of_tree.Entries.{AreFit}
use Rattle.bdb_ranks.proofs.of_tree.EntryLemmas.{all_values, rest_fit}
use Rattle.bdb_hash.specs.SetOrder.{follows}
use Rattle.bdb_hash.proofs.SetOrderLemmas.{first_fits, set_more, set_passed}
use Rattle.bdb_hash.proofs.set_order.set_ascends.Goals as goal

pub loop-entry-init : goal.loop-entry-init
loop-entry-init c =
    let file : File = file_of c.args.known.now in
    record {
      ascends =
          ap ascends (all_values file c.args.root c.into_iter-entry-iterator.result
          (c.into_iter-entry-iterator.ensures.into_iter_gives
          ∙ (c.tree_entries-entry-items.ensures.entries ∙ ap (λ (image : List ℕ). tree_entries (file_of image) c.args.root) c.forest.ensures)));
      fits = tt;
      entries =
          subst (AreFit file) (sym c.into_iter-entry-iterator.ensures.into_iter_gives)
          (subst (λ (image : List ℕ). AreFit (file_of image) c.tree_entries-entry-items.result) c.forest.ensures c.tree_entries-entry-items.ensures.fit);
      same = refl;
    }

pub follows-requires-clause-value : goal.follows-requires-clause-value
follows-requires-clause-value c =
    subst (λ (image : List ℕ). FitsHeld (file_of image) c.leaf_held-value.result) (sym c.loop-entry.invariant.same)
    (c.leaf_held-value.ensures.fits (file_of c.args.known.now)
    (first_fits (file_of c.args.known.now) (leaf_item_seen c.in-Some.entry) c.next.new.self c.loop-entry.entry-iterator c.in-Some.ensures.steps
    c.loop-entry.invariant.entries))

pub loop-entry-preserved-then-not-is_deleted : goal.loop-entry-preserved-then-not-is_deleted
loop-entry-preserved-then-not-is_deleted c =
    let file : File = file_of c.args.known.now in
    let same = c.loop-entry.invariant.same in
    let fits =
    c.leaf_held-value.ensures.fits file
    (first_fits file (leaf_item_seen c.in-Some.entry) c.next.new.self c.loop-entry.entry-iterator c.in-Some.ensures.steps
    c.loop-entry.invariant.entries) in
    record {
      ascends =
          set_more file (option_map (value_held file) c.loop-entry.last) (value_held file c.leaf_held-value.result) (leaf_item_seen c.in-Some.entry)
          c.next.new.self c.loop-entry.entry-iterator _ c.in-Some.ensures.steps (sym c.if-not-is_deleted.ensures) (c.leaf_held-value.ensures.value file)
          (subst (λ (image : List ℕ). follows (option_map (value_held (file_of image)) c.loop-entry.last) (value_held (file_of image) c.leaf_held-value.result)
          ≡ c.in_ok-follows.field-0) same
          (sym c.in_ok-follows.ensures.follows) ∙ c.if-not-branch.false)
          c.loop-entry.invariant.ascends;
      fits = fits;
      entries =
          rest_fit file (leaf_item_seen c.in-Some.entry) c.next.new.self c.loop-entry.entry-iterator c.in-Some.ensures.steps
          c.loop-entry.invariant.entries;
      same = c.in_ok-follows.ensures.same ∙ same;
    }

-- A deleted entry gives nothing.
pub loop-entry-preserved : goal.loop-entry-preserved
loop-entry-preserved c =
    let file : File = file_of c.args.known.now in
    record {
      ascends =
          set_passed file (option_map (value_held file) c.loop-entry.last) (leaf_item_seen c.in-Some.entry) c.next.new.self c.loop-entry.entry-iterator _
          c.in-Some.ensures.steps (sym c.if-not-is_deleted.ensures) c.loop-entry.invariant.ascends;
      fits = c.loop-entry.invariant.fits;
      entries =
          rest_fit file (leaf_item_seen c.in-Some.entry) c.next.new.self c.loop-entry.entry-iterator c.in-Some.ensures.steps
          c.loop-entry.invariant.entries;
      same = c.loop-entry.invariant.same;
    }
