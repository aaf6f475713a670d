-- Units that are pushed are spread over their leaves.
use Rattle.std.proofs.Common.{◌≡◌, ℕ, ◌+◌, ◌<◌, ◌≤◌, Bool, true, false, List, [], ◌∷◌, ◌++◌, map, arith, refl, sym, ◌∙◌, ap, All, flat_map, sum_by}
use Rattle.bdb_mkleaves.proofs.Common.{leb-false, leb-true, append_assoc, map-append, All-head, All-tail, sum_by-append, sum_by-cons, Order, all_right, AreWhole, Built, bytes_of, AreFilled}
use Rattle.bdb_mkleaves.proofs.Common.{PushedUnitsSpread, SpreadNow, entry_cost, room_of, has_room, IsPlacedBySize, Placed, entries_of, unit_of, spread_units, TreeUnit, page_room, unit_cost, Leaves}
use Rattle.bdb_mkleaves.proofs.NodesLemmas.{all_units}
use Rattle.bdb_mkleaves.proofs.PlacedCostLemmas.{units_cost}
use Rattle.bdb_mkleaves.proofs.SpreadLemmas.{IsSpreadOn, spread_more}

-- what the entries of some units take
costs_of : (order : Order) (size : ℕ) (units : List Placed) → All (IsPlacedBySize size) units
    → sum_by (entry_cost order) (flat_map entries_of units) ≡ sum_by (unit_cost size) (map unit_of units)
costs_of order size [] sizes = refl
costs_of order size (unit ∷ units) sizes =
    omega (
      arith,
      sum_by-append (entry_cost order) (entries_of unit) (flat_map entries_of units),
      units_cost order size unit (All-head (IsPlacedBySize size) unit units sizes),
      costs_of order size units (All-tail (IsPlacedBySize size) unit units sizes),
      sum_by-cons (unit_cost size) (unit_of unit) (map unit_of units),
    )

-- the last leaf has the room that its units leave
leaf_left : (leaves : Leaves) (built : Built) (before : ℕ) (closed : List (List Placed)) (units : List Placed)
    → AreFilled leaves built before closed units → AreWhole built
    → room_of built.order (bytes_of built leaves.last) + sum_by (unit_cost built.size) (map unit_of units) ≡ page_room built.size
leaf_left leaves built before closed units filled whole =
    let room = filled.hold.last_holds.room in
    let sizes = all_right (IsPlacedBySize built.size) (flat_map (λ leaf. leaf) closed) units filled.sizes in
    omega (arith, room, whole leaves.last filled.hold.there, costs_of built.order built.size units sizes)

pub pushed_units_spread : PushedUnitsSpread
pushed_units_spread leaves next old new before closed units unit filled spread put = by_room (has_room leaves old (unit_cost size unit)) refl
  where
    size : ℕ
    size = old.size

    all : List Placed
    all = flat_map (λ leaf. leaf) closed ++ units

    step : IsSpreadOn size (map unit_of all) unit (map (map unit_of) closed) (map unit_of units)
    step = spread_more size (map unit_of all) unit (map (map unit_of) closed) (map unit_of units)
        (spread ∙ map-append (map unit_of) closed (units ∷ []))

    left : room_of old.order (bytes_of old leaves.last) + sum_by (unit_cost size) (map unit_of units) ≡ page_room size
    left = leaf_left leaves old before closed units filled put.whole

    with_unit : (us : List Placed) → map unit_of (us ++ (put.placed ∷ [])) ≡ map unit_of us ++ (unit ∷ [])
    with_unit us = map-append unit_of us (put.placed ∷ []) ∙ ap (λ u. map unit_of us ++ (u ∷ [])) put.is

    by_room : (b : Bool) → has_room leaves old (unit_cost size unit) ≡ b → SpreadNow b size closed units put.placed
    by_room true test =
        let fits : unit_cost size unit ≤ room_of old.order (bytes_of old leaves.last) = leb-true _ _ test in
        ap (λ us. spread_units size (map unit_of us)) (sym (append_assoc (flat_map (λ leaf. leaf) closed) units (put.placed ∷ [])))
        ∙ (ap (spread_units size) (with_unit all)
        ∙ (step.more (omega (arith, fits, left))
        ∙ (ap (λ (last : List TreeUnit). map (map unit_of) closed ++ (last ∷ [])) (sym (with_unit units))
        ∙ sym (map-append (map unit_of) closed ((units ++ (put.placed ∷ [])) ∷ [])))))
    by_room false test =
        let full : room_of old.order (bytes_of old leaves.last) < unit_cost size unit = leb-false _ _ test in
        ap (λ us. spread_units size (map unit_of (us ++ (put.placed ∷ [])))) (all_units closed units)
        ∙ (ap (spread_units size) (with_unit all)
        ∙ (step.next (omega (arith, full, left))
        ∙ (ap (λ u. map (map unit_of) closed ++ (map unit_of units ∷ (u ∷ []) ∷ [])) (sym put.is)
        ∙ (sym (map-append (map unit_of) closed (units ∷ (put.placed ∷ []) ∷ []))
        ∙ ap (map (map unit_of)) (sym (append_assoc closed (units ∷ []) ((put.placed ∷ []) ∷ [])))))))
