use Rattle.std.proofs.Common.{refl}
use Rattle.std.proofs.lemmas.List.Sorted.{All-permutation}
use Rattle.std.proofs.lemmas.Result.{IfOk-weaker}
use Rattle.bdb_mktree.specs.of_text_format.Terms.{IsPlaced}
use Rattle.bdb_settle.proofs.PlaceLemmas.{sorted_of, sorted_still}
use Rattle.bdb_settle.proofs.settling.sorted_pairs.Goals as goal

-- The pairs lie in their order already.
pub returns-then-are_sorted : goal.returns-then-are_sorted
returns-then-are_sorted c =
    sorted_still c.args.settings.now c.into_placed-bytes.result.bytes.items c.as_slice.result.now c.into_placed-bytes.result.places.items
    c.as_slice-2.result.now c.args.pairs c.from_placed.result c.as_slice.ensures.value c.as_slice-2.ensures.value
    (c.are_sorted.ensures c.if-are_sorted.true) c.into_placed-bytes.ensures.pairs c.from_placed.ensures

-- They stand as their places lie.
pub moved-requires : goal.moved-requires
moved-requires c =
    All-permutation (IsPlaced c.into_placed-bytes.result.bytes.items) c.into_placed-bytes.result.places.items c.sort_places.new.places.items
    c.sort_places.ensures.moved c.into_placed-bytes.ensures.placed

pub returns : goal.returns
returns c =
    IfOk-weaker c.moved.result _ _
    (λ sorted is. sorted_of c.args.settings.now c.into_placed-bytes.result.bytes.items c.as_slice-3.result.now c.into_placed-bytes.result.bytes.items
    c.into_placed-bytes.result.places.items c.sort_places.new.places.items c.sort_places.new.places.items c.args.pairs sorted c.as_slice-3.ensures.value
    refl refl c.sort_places.ensures.moved c.in_ok-sort_places.ensures.sorted c.sort_places.ensures.stable c.into_placed-bytes.ensures.pairs is)
    c.moved.ensures
