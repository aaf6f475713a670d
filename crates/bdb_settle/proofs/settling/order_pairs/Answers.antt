use Rattle.std.proofs.Common.{List, ℕ, ◌∙◌, subst, sym}
use Rattle.std.specs.List.Sorted.{IsSortedBy}
use Rattle.bdb_mktree.specs.of_text_format.Terms.{ArePlaced}
use Rattle.bdb_mktree.specs.of_text_format.declared.pairs.TextPair.{TextPair}
use Rattle.bdb_settle.specs.Settling.{pair_before, place_before}
use Rattle.bdb_settle.proofs.PlaceLemmas.{pairs_settled, sorted_places}
use Rattle.bdb_settle.proofs.settling.order_pairs.Goals as goal

pub settle_sorted-requires-clause-sorted : goal.settle_sorted-requires-clause-sorted
settle_sorted-requires-clause-sorted c =
    subst (λ (run : List ℕ). IsSortedBy (place_before c.args.settings.now run) c.into_placed-bytes.result.places.items) (sym c.as_slice.ensures.value)
    (sorted_places c.args.settings.now c.into_placed-bytes.result.bytes.items c.into_placed-bytes.result.places.items
    (subst (λ (ps : List TextPair). IsSortedBy (pair_before c.args.settings.now) ps) (sym c.into_placed-bytes.ensures.pairs)
    c.in_ok-sorted_pairs.ensures.ascend))

pub settle_sorted-requires-clause-placed : goal.settle_sorted-requires-clause-placed
settle_sorted-requires-clause-placed c =
    subst (λ (bytes : List ℕ). ArePlaced bytes c.into_placed-bytes.result.places.items) (sym c.as_slice.ensures.value) c.into_placed-bytes.ensures.placed

-- The list of sorted pairs is that of the pairs as they came.
pub returns : goal.returns
returns c =
    c.from_placed.ensures
    ∙ pairs_settled c.args.settings.now c.into_placed-bytes.result.bytes.items c.as_slice.result.now c.into_placed-bytes.result.places.items
    c.settle_sorted.new.places.items c.args.pairs c.in_ok-sorted_pairs.field-0 c.as_slice.ensures.value c.in_ok-sorted_pairs.ensures
    c.into_placed-bytes.ensures.pairs c.settle_sorted.ensures.list
