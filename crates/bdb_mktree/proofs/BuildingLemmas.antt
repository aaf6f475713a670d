-- Trees that are being built: the units that are read from their leaves, and one more.
use Rattle.std.proofs.Common.{Bool, ◌≡◌, ℕ, ◌+◌, ◌<◌, ◌≤◌, true, false, List, [], ◌∷◌, ◌++◌, length, map, arith, refl, sym, ◌∙◌, ap, subst, inl, inr, length-append, ◌⊎◌, All, flat_map}
use Rattle.bdb_mktree.proofs.Common.{append_assoc, map-append, All-head, All-nil, All-push, All-tail, Contains-append_right, Kind, Settings, File, is_page_size, map_joined, IsLater, Built}
use Rattle.bdb_mktree.proofs.Common.{file_so_far, AreFilled, IsPushed, rest_of, AreLaid, KeepsBefore, KeepsOthers, LeavesFrom, first_of, has_room, first_leaf, numbers_of, placed_on, HoldsUnits}
use Rattle.bdb_mktree.proofs.Common.{LeafUnits, Placed, PlacedEntry, PlacedPairs, PlacedTree, StandsPlaced, entries_of, has_wrong_root, pages_of, unit_of, IsKeyedPushed, EntryUnit, TreeUnit}
use Rattle.bdb_mktree.proofs.Common.{unit_cost, units_on, LeafType, Leaves, begun_leaves_are_counted, pushed_units_are_counted, all_joined, laid_leaves, all_units, is_one, Building, all_placed}
use Rattle.bdb_mktree.proofs.Common.{units_of, IsNext, IsTreeKind, KeysAscend, Suits, leaf_type_of, TreeBuilder}
use Rattle.bdb_mkleaves.proofs.of_pack.ImageLemmas.{counted_so_far, page_so_far}
use Rattle.bdb_text_format.proofs.of_format.MemberLemmas.{first_member}
use Rattle.bdb_mkleaves.specs.Counted.{AreCounted, CountedNow}
use Rattle.bdb_mkleaves.proofs.FilledLemmas.{later_self}
use Rattle.bdb_mkleaves.proofs.NumberedLemmas.{AreNumbered, are_numbered}
use Rattle.bdb_mkleaves.proofs.LaidLemmas.{hold_units}
use Rattle.bdb_mkleaves.proofs.MovedLemmas.{any_order}
use Rattle.bdb_mkleaves.proofs.PlacedLaws.{units_are_read}

-- The units that are read.

-- the leaves of the file so far hold the units that were put on them
pub leaves_hold : (leaves : Leaves) (built : Built) (before : ℕ) (closed : List (List Placed)) (units : List Placed)
    → AreFilled leaves built before closed units → All (HoldsUnits leaves.leaf_type (file_so_far built)) (placed_on leaves closed units)
leaves_hold leaves built before closed units filled =
    let g : File = file_so_far built in
    let type : LeafType = leaves.leaf_type in
    let known : AreNumbered leaves built before closed units = are_numbered leaves built before closed units filled in
    let there : 1 ≤ length built.pages = let last = filled.hold.there in omega (arith, last) in
    let laid : AreLaid type g 0 (placed_on leaves closed units) =
    laid_leaves type built g 0 (numbers_of leaves) (closed ++ (units ∷ []))
    (any_order type built 0 (numbers_of leaves) (map (λ us. flat_map entries_of us) (closed ++ (units ∷ []))) 0 known.from)
    (λ p at. inl (page_so_far built p (known.within p at).1))
    (all_joined (StandsPlaced type g) (λ (leaf : LeafUnits). leaf.units) (placed_on leaves closed units)
    (rw known.units_are ((filled.stands g (counted_so_far built there) (later_self built (rest_of before leaves built))).placed))) in
    hold_units type g 0 (placed_on leaves closed units) laid

read_on : (g : File) (kind : Kind) (placed : List LeafUnits) → IsTreeKind kind → All (HoldsUnits (leaf_type_of kind) g) placed
    → flat_map (units_on g kind) (pages_of placed) ≡ flat_map (λ (leaf : LeafUnits). map unit_of leaf.units) placed
read_on g kind [] is all = refl
read_on g kind (leaf ∷ placed) is all =
    let here : units_on g kind leaf.page ≡ map unit_of leaf.units =
    elim is [
      | inl btree ↦
          cc (
            btree,
            (units_are_read g leaf).0
                (subst (λ k. HoldsUnits (leaf_type_of k) g leaf) btree (All-head (HoldsUnits (leaf_type_of kind) g) leaf placed all)),
          )
      | inr recno ↦
          cc (
            recno,
            (units_are_read g leaf).1
                (subst (λ k. HoldsUnits (leaf_type_of k) g leaf) recno (All-head (HoldsUnits (leaf_type_of kind) g) leaf placed all)),
          )
    ] in
    ap (λ us. us ++ flat_map (units_on g kind) (pages_of placed)) here
    ∙ ap (λ us. map unit_of leaf.units ++ us) (read_on g kind placed is (All-tail (HoldsUnits (leaf_type_of kind) g) leaf placed all))

-- they are those that were put there
pub units_read : (leaves : Leaves) (built : Built) (before : ℕ) (closed : List (List Placed)) (units : List Placed) (kind : Kind) → IsTreeKind kind
    → leaves.leaf_type ≡ leaf_type_of kind → AreFilled leaves built before closed units
    → flat_map (units_on (file_so_far built) kind) (numbers_of leaves) ≡ map unit_of (all_placed closed units)
units_read leaves built before closed units kind is type filled =
    let known = are_numbered leaves built before closed units filled in
    ap (flat_map (units_on (file_so_far built) kind)) (sym known.pages_are)
    ∙ (cc (
      read_on (file_so_far built) kind (placed_on leaves closed units) is
          (subst (λ t. All (HoldsUnits t (file_so_far built)) (placed_on leaves closed units)) type (leaves_hold leaves built before closed units filled)),
      map_joined unit_of (λ (leaf : LeafUnits). leaf.units) (placed_on leaves closed units),
      known.units_are,
    ))

pub building_read : (builder : TreeBuilder) (built : Built) → (building : Building builder built)
    → units_of builder built ≡ map unit_of (all_placed building.closed building.units)
building_read builder built building =
    units_read builder.leaves built (first_leaf builder.leaves) building.closed building.units builder.settings.kind building.kind building.type
    building.counted.filled

-- The first leaf.

none_closed : (type : LeafType) (built : Built) (closed : List ℕ) (last : ℕ) → LeavesFrom type built 0 closed [] last → closed ≡ []
none_closed type built [] last from = refl
none_closed type built (p ∷ ps) last from = absurd from

pub first_begun : (leaves : Leaves) (built : Built) (before : ℕ) → AreFilled leaves built before [] [] → leaves.last ≡ before
    → first_leaf leaves ≡ before
first_begun leaves built before filled is =
    ap (λ ps. first_of ps leaves.last) (none_closed leaves.leaf_type built leaves.closed.items leaves.last filled.hold.closed_hold) ∙ is

pub begun_building : (builder : TreeBuilder) (built : Built) → IsTreeKind builder.settings.kind → is_page_size built.size ≡ true
    → built.size ≡ builder.settings.page_size → built.order ≡ builder.settings.order → builder.leaves.leaf_type ≡ leaf_type_of builder.settings.kind
    → AreFilled builder.leaves built (first_leaf builder.leaves) [] [] → length built.pages ≡ first_leaf builder.leaves + 1 → Building builder built
begun_building builder built kind legal size order type filled count = grind (arith, begun_leaves_are_counted, All-nil)

-- pages before the first leaf stay
pub before_kept : (leaves : Leaves) (old new : Built) (before : ℕ) (closed : List (List Placed)) (units : List Placed)
    → AreFilled leaves old before closed units → KeepsOthers leaves.last old new → KeepsBefore before old new
before_kept leaves old new before closed units filled kept = grind (arith, is_one, Contains-append_right, first_member)

-- One more unit.

no_root : (g : File) (sorted : Bool) (value : List ℕ) (deleted : Bool) (placed : Placed) → unit_of placed ≡ EntryUnit value deleted
    → has_wrong_root g sorted placed ≡ false
no_root g sorted value deleted (PlacedEntry entry) is = refl
no_root g sorted value deleted (PlacedPairs key first more) is = cc
no_root g sorted value deleted (PlacedTree key root values) is = cc

-- a record has no tree of data
pub entry_keyed : (leaves next : Leaves) (old new : Built) (sorted : Bool) (value : List ℕ) (deleted : Bool)
    → IsPushed leaves next old new (EntryUnit value deleted) → IsKeyedPushed leaves next old new sorted (EntryUnit value deleted)
entry_keyed leaves next old new sorted value deleted put =
    record {
      pushed = put;
      right = λ before closed units filled g counted later. no_root g sorted value deleted put.placed put.is;
      count = put.count sorted refl;
    }

pub building_pushed : (builder : TreeBuilder) (next : Leaves) (old new : Built) (unit : TreeUnit) → Building builder old
    → IsKeyedPushed builder.leaves next old new builder.settings.sorted unit → Suits builder.settings unit
    → IsNext builder.settings (units_of builder old) unit
    → Building (record builder { leaves = next }) new
    × (units_of (record builder { leaves = next }) new ≡ units_of builder old ++ (unit ∷ []))
building_pushed builder next old new unit building put suits after =
    by_room (has_room builder.leaves old (unit_cost old.size unit))
    (pushed_units_are_counted settings.sorted builder.leaves next old new first building.closed building.units unit building.counted put.pushed put.count)
  where
    settings : Settings
    settings = builder.settings

    first : ℕ
    first = first_leaf builder.leaves

    placed : Placed
    placed = put.pushed.placed

    before : List Placed
    before = all_placed building.closed building.units

    type : next.leaf_type ≡ leaf_type_of settings.kind
    type = put.pushed.type ∙ building.type

    -- with the units in this form
    with : (closed : List (List Placed)) (units : List Placed) → AreCounted settings.sorted next new first closed units
        → (closed ≡ []) ⊎ (0 < length units)
        → all_placed closed units ≡ before ++ (placed ∷ [])
        → Building (record builder { leaves = next }) new
        × (units_of (record builder { leaves = next }) new ≡ units_of builder old ++ (unit ∷ []))
    with closed units counted some all =
        let same : map unit_of (all_placed closed units) ≡ map unit_of before ++ (unit ∷ []) =
        ap (map unit_of) all ∙ (map-append unit_of before (placed ∷ []) ∙ ap (λ u. map unit_of before ++ (u ∷ [])) put.pushed.is) in
        let read = building_read builder old building in (
          record {
            kind = building.kind;
            legal = subst (λ n. is_page_size n ≡ true) (sym put.pushed.kept.size) building.legal;
            size = put.pushed.kept.size ∙ building.size;
            order = put.pushed.kept.order ∙ building.order;
            type = type;
            closed = closed;
            units = units;
            counted = subst (λ n. AreCounted settings.sorted next new n closed units) (sym put.pushed.first) counted;
            some = some;
            suit = subst (All (Suits settings)) (sym same) (All-push (Suits settings) (map unit_of before) unit building.suit suits);
            keys = λ is. subst (λ us. KeysAscend settings us) (ap (λ us. us ++ (unit ∷ [])) read ∙ sym same) after is;
            roots = λ g has_pages later.
                let now : IsLater (rest_of first next new) (file_so_far new) g =
                subst (λ n. IsLater (rest_of n next new) (file_so_far new) g) put.pushed.first later in
                subst (All (λ u. has_wrong_root g settings.sorted u ≡ false)) (sym all)
                (All-push (λ u. has_wrong_root g settings.sorted u ≡ false) before placed
                (building.roots g has_pages (put.pushed.stays first building.closed building.units building.counted.filled g now))
                (put.right first building.closed building.units building.counted.filled g has_pages now));
          },
          units_read next new first closed units settings.kind building.kind type counted.filled ∙ (same ∙ ap (λ us. us ++ (unit ∷ [])) (sym read)),
        )

    by_room : (b : Bool) → CountedNow b settings.sorted next new first building.closed building.units placed
        → Building (record builder { leaves = next }) new
        × (units_of (record builder { leaves = next }) new ≡ units_of builder old ++ (unit ∷ []))
    by_room true counted =
        with building.closed (building.units ++ (placed ∷ [])) counted (inr (omega (arith, length-append building.units (placed ∷ []))))
        (sym (append_assoc (flat_map (λ leaf. leaf) building.closed) building.units (placed ∷ [])))
    by_room false counted =
        with (building.closed ++ (building.units ∷ [])) (placed ∷ []) counted (inr (omega arith))
        (ap (λ us. us ++ (placed ∷ [])) (all_units building.closed building.units))
