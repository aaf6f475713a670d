-- A unit that is pushed: the last leaf has room for it, or a new one.
use Rattle.std.proofs.Common.{Bool, ◌≡◌, ℕ, suc, ◌+◌, ◌-◌, ◌<◌, ◌≤◌, true, false, if◌then◌else◌, List, [], ◌∷◌, ◌++◌, length, map, arith, refl, sym, ◌∙◌, ap}
use Rattle.std.proofs.Common.{subst, inl, inr, length-append, true≢false, ◌⊎◌, ◌/◌, ◌%◌, ◌&&◌, nat_lt, get_or, take, All, flat_map}
use Rattle.bdb_mkleaves.proofs.Common.{take_all, sum_by-cons, cases_lt, leb-false, le-ltb, leb-true, lt-ltb, File, is_page_size, size_bounds, all_right, AreWhole, Built, bytes_of, file_so_far}
use Rattle.bdb_mkleaves.proofs.Common.{counted_so_far, AreFilled, AreSomeFilled, FilledNow, IsPushed, IsReady, IsUnitPut, UnitsFit, rest_of, room_of, AreSomeLeaves, HasRoomNow, KeepsOthers, has_room}
use Rattle.bdb_mkleaves.proofs.Common.{Placed, PlacedEntry, PlacedPairs, PlacedTree, StandsPlaced, ValueItem, entries_of, further_entries, unit_of, IsPut, ArePairsPut, HasWholePairs, more_cost}
use Rattle.bdb_mkleaves.proofs.Common.{pairs_cost, own_pages, EntryUnit, KeyedUnit, TreeUnit, has_own_tree, page_room, set_cost, unit_cost, unit_has_tree, value_cost, Pairs, Leaves}
use Rattle.std.specs.Cmp.Derive.{both_true}
use Rattle.bdb_mkleaves.proofs.FilledLemmas.{entry_is_unit, later_self, pairs_are_unit}
use Rattle.bdb_mkleaves.proofs.PairsLemmas.{cost_left, cost_more}
use Rattle.bdb_mkleaves.proofs.RestLemmas.{leaf_opened, unit_added}
use Rattle.bdb_mkleaves.proofs.StayLemmas.{first_now, stays_now}

-- The last leaf that has room.

pub some_leaves : (leaves : Leaves) (built : Built) (before : ℕ) (closed : List (List Placed)) (units : List Placed)
    → AreFilled leaves built before closed units → AreSomeLeaves leaves built
some_leaves leaves built before closed units filled =
    record { closed = map (flat_map entries_of) closed; entries = flat_map entries_of units; hold = filled.hold }

-- a last leaf that has no room has a unit
some_units : (leaves : Leaves) (built : Built) (cost before : ℕ) (closed : List (List Placed)) (units : List Placed)
    → AreFilled leaves built before closed units
    → AreWhole built → has_room leaves built cost ≡ false → cost ≤ page_room built.size → 0 < length units
some_units leaves built cost before closed [] filled whole test fits = grind (arith, leb-false)
some_units leaves built cost before closed (unit ∷ units) filled whole test fits = omega arith

-- the entries of whole keys are even in number
pub whole_units : (g : File) (units : List Placed) → All (StandsPlaced Pairs g) units → length (flat_map entries_of units) % 2 ≡ 0
whole_units g [] stand = refl
whole_units g (unit ∷ units) stand =
    let both : (n m : ℕ) → n % 2 ≡ 0 → m % 2 ≡ 0 → (n + m) % 2 ≡ 0 = λ n m one two. omega (arith, one, two) in
    let one = whole_unit unit (stand 0 unit (omega arith)) in
    let rest = whole_units g units (λ k d low. stand (suc k) d (omega (arith, low))) in
    ap (λ n. n % 2) (length-append (entries_of unit) (flat_map entries_of units))
    ∙ both (length (entries_of unit)) (length (flat_map entries_of units)) one rest
  where
    more_even : (key : ValueItem) (more : List ValueItem) → length (flat_map (further_entries key) more) % 2 ≡ 0
    more_even key [] = refl
    more_even key (datum ∷ more) = let rest = more_even key more in omega (arith, rest)

    whole_unit : (unit : Placed) → StandsPlaced Pairs g unit → length (entries_of unit) % 2 ≡ 0
    whole_unit (PlacedEntry entry) stands = absurd stands
    whole_unit (PlacedPairs key first more) stands = let rest = more_even key more in omega (arith, rest)
    whole_unit (PlacedTree key root values) stands = refl

-- the leaves of pairs have whole keys, once there is room
whole_of : (leaves : Leaves) (built : Built) (before : ℕ) (closed : List (List Placed)) (units : List Placed) → leaves.leaf_type ≡ Pairs
    → AreFilled leaves built before closed units → HasWholePairs leaves built
whole_of leaves built before closed units type filled =
    let there = filled.hold.there in
    let g : File = file_so_far built in
    let stand = (filled.stands g (counted_so_far built (omega (arith, there))) (later_self built (rest_of before leaves built))).placed in
    record {
      type = type;
      closed = map (flat_map entries_of) closed;
      entries = flat_map entries_of units;
      hold = filled.hold;
      even = whole_units g units
          (subst (λ t. All (StandsPlaced t g) units) type (all_right (StandsPlaced leaves.leaf_type g) (flat_map (λ leaf. leaf) closed) units stand));
    }

whole_now : (b : Bool) (leaves next : Leaves) (old one : Built) (cost : ℕ) → AreSomeFilled leaves old → leaves.leaf_type ≡ Pairs → AreWhole old
    → has_room leaves old cost ≡ b → cost ≤ page_room old.size → HasRoomNow b leaves next old one → HasWholePairs next one
whole_now true leaves next old one cost some type whole test fits (same, kept) = grind (arith, whole_of)
whole_now false leaves next old one cost some type whole test fits opened =
    whole_of next one some.before (some.closed ++ (some.units ∷ [])) [] (opened.type ∙ type)
    (leaf_opened leaves next old one some.before some.closed some.units some.filled
    (some_units leaves old cost some.before some.closed some.units some.filled whole test fits) opened)

pub ready : (b : Bool) (leaves next : Leaves) (old one : Built) (cost : ℕ) → AreSomeFilled leaves old → has_room leaves old cost ≡ b
    → HasRoomNow b leaves next old one → cost ≤ page_room old.size → AreWhole old → IsReady leaves next old one cost
ready true leaves next old one cost some test made fits whole = record {
  made = subst (λ b. HasRoomNow b leaves next old one) (sym test) made;
  whole = whole;
  fits = fits;
  type = ap (λ (l : Leaves). l.leaf_type) made.0;
  size = ap (λ (b : Built). b.size) made.1;
  some = subst (AreSomeLeaves next) (sym made.1) (subst (λ l. AreSomeLeaves l old) (sym made.0) (some_leaves leaves old _ _ _ some.filled));
  there = let there = some.filled.hold.there in
      omega (arith, there, ap (λ (l : Leaves). l.last) made.0, ap (λ (b : Built). length b.pages) made.1);
  room = subst (λ (b : Built). cost ≤ room_of b.order (bytes_of b next.last)) (sym made.1)
      (subst (λ (l : Leaves). cost ≤ room_of old.order (bytes_of old l.last)) (sym made.0) (leb-true _ _ test));
  pairs = λ pairs. whole_now true leaves next old one cost some pairs whole test fits made;
}
ready false leaves next old one cost some test opened fits whole =
    let filled = leaf_opened leaves next old one some.before some.closed some.units some.filled
    (some_units leaves old cost some.before some.closed some.units some.filled whole test fits) opened in
    record {
      made = subst (λ b. HasRoomNow b leaves next old one) (sym test) opened;
      whole = whole;
      fits = fits;
      type = opened.type;
      size = opened.kept.size;
      some = some_leaves next one some.before _ _ filled;
      there = filled.hold.there;
      room = let room = opened.room in omega (arith, fits, room);
      pairs = λ pairs. whole_now false leaves next old one cost some pairs whole test fits opened;
    }

-- The unit is on a leaf.

pub filled_now : (b : Bool) (leaves next : Leaves) (old one new : Built) (cost : ℕ) (placed : Placed) → AreWhole old → has_room leaves old cost ≡ b
    → cost ≤ page_room old.size → HasRoomNow b leaves next old one → IsUnitPut next one new placed
    → (before : ℕ) (closed : List (List Placed)) (units : List Placed) → AreFilled leaves old before closed units
    → FilledNow b next new before closed units placed
filled_now true leaves next old one new cost placed whole test fits (same, kept) put before closed units filled =
    unit_added next one new before closed units placed
    (subst (λ (b : Built). AreFilled next b before closed units) (sym kept)
    (subst (λ (l : Leaves). AreFilled l old before closed units) (sym same) filled)) put
filled_now false leaves next old one new cost placed whole test fits opened put before closed units filled =
    unit_added next one new before (closed ++ (units ∷ [])) [] placed
    (leaf_opened leaves next old one before closed units filled (some_units leaves old cost before closed units filled whole test fits) opened) put

-- pages that stood, but the leaf that was the last
pub kept_now : (b : Bool) (leaves next : Leaves) (old one new : Built) → leaves.last < length old.pages → HasRoomNow b leaves next old one
    → KeepsOthers next.last one new → KeepsOthers leaves.last old new
kept_now true leaves next old one new there (same, kept) more =
    subst (λ (b : Built). KeepsOthers leaves.last b new) kept (subst (λ (l : Leaves). KeepsOthers l.last one new) same more)
kept_now false leaves next old one new there opened more = grind arith

-- the leaf that was added, if one was
pub room_count : (b : Bool) (leaves next : Leaves) (old one : Built) → HasRoomNow b leaves next old one
    → (length one.pages ≡ length old.pages + (if b then 0 else 1)) × (one.size ≡ old.size)
room_count true leaves next old one (same, kept) = (ap (λ (b : Built). length b.pages) kept ∙ omega arith, ap (λ (b : Built). b.size) kept)
room_count false leaves next old one opened = (opened.count, opened.kept.size)

unfoldable pub pushed : (leaves next : Leaves) (old one new : Built) (unit : TreeUnit) (placed : Placed) → AreSomeFilled leaves old
    → unit_of placed ≡ unit → IsReady leaves next old one (unit_cost old.size unit) → IsUnitPut next one new placed
    → IsPushed leaves next old new unit
pushed leaves next old one new unit placed some is ready put =
    let made = ready.made in
    let kept = kept_now _ leaves next old one new some.filled.hold.there made put.kept in
    record {
      placed = placed;
      is = is;
      type = ready.type;
      first = first_now _ leaves next old one made;
      kept = kept;
      stays = λ before closed units filled. stays_now _ leaves next old one new before closed units filled made put.kept.grows kept;
      filled = filled_now _ leaves next old one new (unit_cost old.size unit) placed ready.whole refl ready.fits made put;
      whole = ready.whole;
      count = λ sorted few.
          let (leaf, size) = room_count _ leaves next old one made in
          let own : length new.pages ≡ length one.pages + own_pages one.size sorted (unit_of placed) =
          put.count sorted (ap (λ n. unit_has_tree n (unit_of placed)) size ∙ (ap (unit_has_tree old.size) is ∙ few)) in
          let same : own_pages one.size sorted (unit_of placed) ≡ own_pages old.size sorted unit =
          ap (λ n. own_pages n sorted (unit_of placed)) size ∙ ap (own_pages old.size sorted) is in
          omega (arith, leaf, own, same);
    }

-- so there are some units, and one on the last leaf
pub some_pushed : (leaves next : Leaves) (old new : Built) (unit : TreeUnit) → AreSomeFilled leaves old → IsPushed leaves next old new unit
    → AreSomeFilled next new
some_pushed leaves next old new unit some pushed =
    by_room (has_room leaves old (unit_cost old.size unit)) (pushed.filled some.before some.closed some.units some.filled)
  where
    by_room : (b : Bool) → FilledNow b next new some.before some.closed some.units pushed.placed → AreSomeFilled next new
    by_room true filled = record {
      before = some.before;
      closed = some.closed;
      units = some.units ++ (pushed.placed ∷ []);
      filled = filled;
      some = inr (omega (arith, length-append some.units (pushed.placed ∷ [])));
    }
    by_room false filled = record {
      before = some.before;
      closed = some.closed ++ (some.units ∷ []);
      units = pushed.placed ∷ [];
      filled = filled;
      some = inr (omega arith);
    }

-- the item of a value is hardly longer than an eighth of a page
pub cost_few : (size : ℕ) (value : List ℕ) → is_page_size size ≡ true → value_cost size value ≤ size / 8 + 12
cost_few size value legal = grind (arith, leb-true)

-- Each unit has room on an empty leaf.

pub set_is_pairs : (size : ℕ) (key first : List ℕ) (more : List (List ℕ)) → set_cost size key (first ∷ more) ≡ pairs_cost size key first more
set_is_pairs size key first more = omega (arith, sum_by-cons (λ value. 4 + value_cost size value) first more)

-- data that have no tree
set_fits : (size : ℕ) (key : List ℕ) (values : List (List ℕ)) → is_page_size size ≡ true → has_own_tree size key values ≡ false
    → set_cost size key values ≤ page_room size
set_fits size key [] legal few = grind (arith, size_bounds, cost_few)
set_fits size key (value ∷ []) legal few =
    omega (arith, (size_bounds size legal).0, cost_few size key legal, cost_few size value legal, set_is_pairs size key value [])
set_fits size key (first ∷ next ∷ more) legal few =
    elim (cases_lt ((size - 26) / 4) (set_cost size key (first ∷ next ∷ more))) [
      | inl above ↦ absurd (true≢false (sym (both_true (lt-ltb 1 (length (first ∷ next ∷ more)) (omega arith)) (lt-ltb _ _ above)) ∙ few))
      | inr fine ↦ omega (arith, fine)
    ]

pub units_fit : UnitsFit
units_fit size (EntryUnit value deleted) legal = grind (arith, size_bounds, cost_few)
units_fit size (KeyedUnit key values) legal = by_test (has_own_tree size key values) refl
  where
    by_test : (b : Bool) → has_own_tree size key values ≡ b → (if b then value_cost size key + 16 else set_cost size key values) ≤ page_room size
    by_test true test = omega (arith, (size_bounds size legal).0, cost_few size key legal)
    by_test false test = set_fits size key values legal test

-- An entry, and a key with its data.

pub entry_pushed : (leaves next : Leaves) (old one new : Built) (value : List ℕ) (deleted : Bool) → AreSomeFilled leaves old
    → (leaves.leaf_type ≡ Pairs → ⊥) → IsReady leaves next old one (unit_cost old.size (EntryUnit value deleted)) → IsPut next one new value deleted
    → IsPushed leaves next old new (EntryUnit value deleted)
entry_pushed leaves next old one new value deleted some other ready put =
    pushed leaves next old one new (EntryUnit value deleted) (PlacedEntry (record { item = put.item; value = value })) some
    (ap (EntryUnit value) put.stored.deleted_is) ready
    (entry_is_unit next one new value deleted (λ e. other (sym ready.type ∙ e)) (let there = ready.there in omega (arith, there)) ready.there put ready.some)

pub pairs_pushed : (leaves next : Leaves) (old one new : Built) (key first : List ℕ) (more : List (List ℕ)) → AreSomeFilled leaves old
    → leaves.leaf_type ≡ Pairs → has_own_tree old.size key (first ∷ more) ≡ false
    → IsReady leaves next old one (unit_cost old.size (KeyedUnit key (first ∷ more))) → ArePairsPut next one new key first more
    → IsPushed leaves next old new (KeyedUnit key (first ∷ more))
pairs_pushed leaves next old one new key first more some type few ready put =
    pushed leaves next old one new (KeyedUnit key (first ∷ more))
    (PlacedPairs (record { item = put.key_item; value = key }) (record { item = put.first_item; value = first }) put.others) some
    (ap (λ vs. KeyedUnit key (first ∷ vs)) put.values) ready
    (pairs_are_unit next one new key first more (ready.type ∙ type) (let there = ready.there in omega (arith, there)) put
    (ap (λ n. has_own_tree n key (first ∷ more)) ready.size ∙ few))

-- What a key takes, counted datum by datum.

pub record KeyedSoFar (size : ℕ) (key : List ℕ) (values : List (List ℕ)) (i cost : ℕ) : Type 0 where
  pub sum : cost ≡ value_cost size key + more_cost size (take i values)
  pub first : i ≡ 0 → cost ≡ value_cost size key
  pub low : 1 < length values → 0 < i → cost ≤ page_room size / 4

pub keyed_more : (size room : ℕ) (key : List ℕ) (values : List (List ℕ)) (i cost more n : ℕ) → KeyedSoFar size key values i cost → i < length values
    → more ≡ value_cost size (get_or values i []) → room ≡ page_room size → n ≡ length values
    → ((1 < n) × (cost + (4 + more) ≤ room / 4)) ⊎ (n ≤ 1) → KeyedSoFar size key values (i + 1) (cost + (4 + more))
keyed_more size room key values i cost more n was low is room_is long either = record {
  sum = let sum = was.sum in omega (arith, sum, is, cost_more size i values low);
  first = λ none. absurd (omega (arith, none));
  low = λ many some. elim either [ inl few ↦ (let below = few.1 in omega (arith, below, room_is)) | inr one ↦ absurd (omega (arith, many, one, long)) ];
}

pub keyed_small : (size : ℕ) (key : List ℕ) (values : List (List ℕ)) (i cost : ℕ) → is_page_size size ≡ true → KeyedSoFar size key values i cost
    → i < length values → cost ≤ size
keyed_small size key values i cost legal was low = elim (cases_lt 0 i) [
  | inl some ↦ (let few = was.low (omega (arith, some, low)) some in omega (arith, few))
  | inr none ↦ (let first = was.first (omega (arith, none)) in omega (arith, first, cost_few size key legal, (size_bounds size legal).0))
]

-- so many bytes that the data have a tree
pub keyed_tree : (size : ℕ) (key : List ℕ) (values : List (List ℕ)) (i cost more : ℕ) → KeyedSoFar size key values i cost → i < length values
    → more ≡ value_cost size (get_or values i []) → page_room size / 4 < cost + (4 + more) → 1 < length values
    → (value_cost size key + 16 ≡ unit_cost size (KeyedUnit key values)) × (true ≡ has_own_tree size key values)
keyed_tree size key values i cost more was low is much many =
    let sum = was.sum in
    let above : (size - 26) / 4 < set_cost size key values = omega (arith, sum, is, much, cost_left size i values low) in
    let tree : true ≡ has_own_tree size key values = sym (both_true (lt-ltb 1 (length values) many) (lt-ltb _ _ above)) in
    (ap (λ b. if b then value_cost size key + 16 else set_cost size key values) tree, tree)

-- they have none
pub keyed_whole : (size : ℕ) (key : List ℕ) (values : List (List ℕ)) (i cost : ℕ) → KeyedSoFar size key values i cost → length values ≤ i
    → (cost ≡ unit_cost size (KeyedUnit key values)) × (false ≡ has_own_tree size key values)
keyed_whole size key values i cost was past =
    let sum : cost ≡ set_cost size key values = was.sum ∙ ap (λ vs. value_cost size key + more_cost size vs) (take_all i values past) in
    let none : false ≡ has_own_tree size key values = elim (cases_lt 1 (length values)) [
      | inl many ↦
          let low = was.low many (omega (arith, many, past)) in
          sym (ap (λ b. b && nat_lt ((size - 26) / 4) (set_cost size key values)) (lt-ltb _ _ many) ∙ le-ltb _ _ (omega (arith, low, sum)))
      | inr one ↦ sym (ap (λ b. b && nat_lt ((size - 26) / 4) (set_cost size key values)) (le-ltb _ _ one))
    ] in
    (sum ∙ ap (λ b. if b then value_cost size key + 16 else set_cost size key values) none, none)
