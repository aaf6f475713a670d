-- How many pages leaves and their finished tree have.
use Rattle.std.proofs.Common.{◌≡◌, ℕ, ◌+◌, Bool, true, false, if◌then◌else◌, List, [], ◌∷◌, ◌++◌, length, map, arith, refl, sym, ◌∙◌, ap, subst, length-append, flat_map, sum_by}
use Rattle.bdb_mkleaves.proofs.Common.{append_assoc, map-append, sum_by_push, AreSpreadOver, FilledNow, SpreadNow, has_room, Placed, unit_of, own_pages, unit_cost}
use Rattle.bdb_mkleaves.specs.Counted.{BegunLeavesAreCounted, CountedNow, FinishedTreesHaveSize, PushedUnitsAreCounted}
use Rattle.bdb_mkleaves.proofs.NodesLemmas.{all_units}
use Rattle.bdb_mkleaves.proofs.PushedLaws.{pushed_units_spread}
use Rattle.bdb_mkleaves.proofs.TreeCountLemmas.{finished_trees_are_counted}

pub begun_leaves_are_counted : BegunLeavesAreCounted
begun_leaves_are_counted sorted leaves built before filled one = record { filled = filled; spread = refl; count = omega (arith, one) }

pub pushed_units_are_counted : PushedUnitsAreCounted
pushed_units_are_counted sorted leaves next old new before closed units unit counted put added =
    by_room (has_room leaves old (unit_cost old.size unit)) (put.filled before closed units counted.filled)
    (pushed_units_spread leaves next old new before closed units unit counted.filled counted.spread put) added
  where
    size : new.size ≡ old.size
    size = put.kept.size

    all : List Placed
    all = flat_map (λ leaf. leaf) closed ++ units

    -- what the units have of their own, by the size of a page
    own : ℕ → List Placed → ℕ
    own n us = sum_by (own_pages n sorted) (map unit_of us)

    one_more : (us : List Placed) → own new.size (us ++ (put.placed ∷ [])) ≡ own old.size us + own_pages old.size sorted unit
    one_more us =
        ap (λ n. own n (us ++ (put.placed ∷ []))) size
        ∙ (ap (sum_by (own_pages old.size sorted)) (map-append unit_of us (put.placed ∷ []))
        ∙ (sum_by_push (own_pages old.size sorted) (map unit_of us) (unit_of put.placed)
        ∙ ap (λ u. own old.size us + own_pages old.size sorted u) put.is))

    by_room : (b : Bool) → FilledNow b next new before closed units put.placed → SpreadNow b old.size closed units put.placed
        → length new.pages ≡ length old.pages + (if b then 0 else 1) + own_pages old.size sorted unit
        → CountedNow b sorted next new before closed units put.placed
    by_room true filled spread more = record {
      filled = filled;
      spread = subst (λ n. AreSpreadOver n closed (units ++ (put.placed ∷ []))) (sym size) spread;
      count =
          let was = counted.count in
          omega (arith, was, more, one_more all, ap (own new.size) (append_assoc (flat_map (λ leaf. leaf) closed) units (put.placed ∷ [])));
    }
    by_room false filled spread more = record {
      filled = filled;
      spread = subst (λ n. AreSpreadOver n (closed ++ (units ∷ [])) (put.placed ∷ [])) (sym size) spread;
      count =
          let was = counted.count in
          omega (
            arith,
            was,
            more,
            one_more all,
            ap (λ us. own new.size (us ++ (put.placed ∷ []))) (all_units closed units),
            length-append closed (units ∷ []),
          );
    }

pub finished_trees_have_size : FinishedTreesHaveSize
finished_trees_have_size sorted leaves old new counted before closed units root so_far has =
    let was = so_far.count in
    let tree = finished_trees_are_counted leaves old new counted before closed units root so_far.filled so_far.spread has in
    omega (arith, was, tree)
