-- A tree has room for the data of its units.
use Rattle.std.proofs.Common.{◌≡◌, ℕ, suc, ◌+◌, ◌-◌, ◌*◌, ◌/◌, ◌<◌, ◌≤◌, Bool, true, false, cond, List, [], ◌∷◌, ◌++◌, length, map, arith, refl, ap, inl, inr}
use Rattle.std.proofs.Common.{suc-mul, add-mul, mul-le-mul_left, mul-le-mul_right, ◌&&◌, nat_le, nat_lt, All, sum_by}
use Rattle.std.proofs.Math.Nat.{lt-div-mul-add}
use Rattle.std.proofs.lemmas.Bool.{cases_lt, lt-ltb}
use Rattle.std.proofs.lemmas.Bool.Decides.{nat_tests}
use Rattle.std.proofs.lemmas.List.Elements.{All-cons, All-head, All-nil, All-tail}
use Rattle.std.proofs.lemmas.List.Sums.{sum_by-cons}
use Rattle.bdb_mkfile.specs.of_mkleaves.Spread.{leaves_and_levels, own_pages, set_pages, set_type, spread_on, spread_units, tree_size}
use Rattle.bdb_mkfile.specs.of_mkleaves.Units.{TreeUnit, KeyedUnit, EntryUnit, chain_pages, has_own_tree, page_room, set_cost, unit_cost, value_cost}
use Rattle.bdb_mkfile.specs.of_mkleaves.declared.leaf_type.LeafType.{LeafType}
use Rattle.bdb_mkfile.proofs.of_mkleaves.SpreadLemmas.{put_on_new, put_on_open}
use Rattle.bdb_repair.specs.Room.{datum_room}

abbrev pub unit_room : TreeUnit → ℕ
unit_room (KeyedUnit key values) = sum_by datum_room values
unit_room (EntryUnit value deleted) = datum_room value

-- Things that are spread.

-- things of which each has room on a page take no more than the pages have
pub spread_bound : {A : Type 0} (room : ℕ) (cost : A → ℕ) (left : ℕ) (page xs : List A) → All (λ x. cost x ≤ room) xs
    → sum_by cost xs + room ≤ left + length (spread_on room cost cost left page xs) * room
spread_bound room cost left page [] fits = omega (arith, suc-mul 0 room)
spread_bound {A} room cost left page (x ∷ xs) fits =
    let here : cost x ≤ room = All-head (λ y. cost y ≤ room) x xs fits in
    let rest : All (λ y. cost y ≤ room) xs = All-tail (λ y. cost y ≤ room) x xs fits in
    let sum = sum_by-cons cost x xs in
    elim (cases_lt left (cost x)) [
      | inl full ↦
          let pages : List (List A) = spread_on room cost cost (room - cost x) (x ∷ []) xs in
          let same : length (spread_on room cost cost left page (x ∷ xs)) * room ≡ suc (length pages) * room =
          ap (λ ps. length ps * room) (put_on_new room cost cost left page x xs full) in
          omega (arith, here, sum, same, suc-mul (length pages) room, spread_bound room cost (room - cost x) (x ∷ []) xs rest)
      | inr fit ↦
          let same : length (spread_on room cost cost left page (x ∷ xs)) * room
          ≡ length (spread_on room cost cost (left - cost x) (page ++ (x ∷ [])) xs) * room =
          ap (λ ps. length ps * room) (put_on_open room cost cost left page x xs fit) in
          omega (arith, fit, sum, same, spread_bound room cost (left - cost x) (page ++ (x ∷ [])) xs rest)
    ]

-- what begins with an open page has no more than all pages
pub spread_room : {A : Type 0} (room : ℕ) (cost : A → ℕ) (xs : List A) → All (λ x. cost x ≤ room) xs
    → sum_by cost xs ≤ length (spread_on room cost cost room [] xs) * room
spread_room room cost xs fits = omega (arith, spread_bound room cost room [] xs fits)

-- Values.

-- the chain of a value has room for it
pub chain_room : (size : ℕ) (value : List ℕ) → 512 ≤ size
    → length value ≤ (length value + page_room size - 1) / page_room size * size
chain_room size value long =
    let room : ℕ = page_room size in
    let q : ℕ = (length value + room - 1) / room in
    let some : 0 < room = omega arith in
    let all : length value + room - 1 < q * room + room = lt-div-mul-add {a = length value + room - 1} {b = room} some in
    let low : room ≤ size = omega arith in
    let more : q * room ≤ q * size = mul-le-mul_left q low in
    omega (arith, all, more)

-- a value has room in its item, with three bytes more, or in its chain
value_room : (size : ℕ) (value : List ℕ) → 512 ≤ size → length value + 3 ≤ value_cost size value + chain_pages size value * size
value_room size value long = by_test (nat_le (length value) (size / 8))
  where
    n : ℕ
    n = length value

    room : ℕ
    room = page_room size

    by_test : (b : Bool) → n + 3 ≤ cond b ((3 + n + 3) / 4 * 4) 12 + cond b 0 ((n + room - 1) / room) * size
    by_test true = omega arith
    by_test false = omega (arith, chain_room size value long)

value_small : (size : ℕ) (value : List ℕ) → 512 ≤ size → value_cost size value ≤ size / 8 + 6
value_small size value long = by_test (nat_le (length value) (size / 8)) (λ short. grind (arith, nat_tests, short))
  where
    by_test : (b : Bool) → (b ≡ true → length value ≤ size / 8) → cond b ((3 + length value + 3) / 4 * 4) 12 ≤ size / 8 + 6
    by_test true short = let low = short refl in omega (arith, low)
    by_test false short = omega arith

values_room : (size : ℕ) (values : List (List ℕ)) → 512 ≤ size
    → sum_by datum_room values ≤ sum_by (λ value. 4 + value_cost size value) values + sum_by (chain_pages size) values * size
values_room size [] long = omega arith
values_room size (value ∷ values) long =
    let weights = sum_by-cons datum_room value values in
    let costs = sum_by-cons (λ (v : List ℕ). 4 + value_cost size v) value values in
    let chains = sum_by-cons (chain_pages size) value values in
    let parts = add-mul (chain_pages size value) (sum_by (chain_pages size) values) size in
    let whole : sum_by (chain_pages size) (value ∷ values) * size ≡ (chain_pages size value + sum_by (chain_pages size) values) * size =
    ap (λ c. c * size) chains in
    omega (arith, weights, costs, whole, parts, value_room size value long, values_room size values long)

entries_room : (size : ℕ) (values : List (List ℕ)) → 512 ≤ size
    → sum_by datum_room values ≤ sum_by (unit_cost size) (map (λ value. EntryUnit value false) values) + sum_by (chain_pages size) values * size
entries_room size [] long = omega arith
entries_room size (value ∷ values) long =
    let weights = sum_by-cons datum_room value values in
    let costs = sum_by-cons (unit_cost size) (EntryUnit value false) (map (λ v. EntryUnit v false) values) in
    let chains = sum_by-cons (chain_pages size) value values in
    let parts = add-mul (chain_pages size value) (sum_by (chain_pages size) values) size in
    let whole : sum_by (chain_pages size) (value ∷ values) * size ≡ (chain_pages size value + sum_by (chain_pages size) values) * size =
    ap (λ c. c * size) chains in
    omega (arith, weights, costs, whole, parts, value_room size value long, entries_room size values long)

-- Units.

-- a unit has room on a leaf
unit_fits : (size : ℕ) (unit : TreeUnit) → 512 ≤ size → unit_cost size unit ≤ page_room size
unit_fits size (EntryUnit value deleted) long = omega (arith, value_small size value long)
unit_fits size (KeyedUnit key []) long = omega (arith, value_small size key long)
unit_fits size (KeyedUnit key (value ∷ [])) long = omega (arith, value_small size key long, value_small size value long)
unit_fits size (KeyedUnit key (value ∷ other ∷ values)) long = by_test (has_own_tree size key (value ∷ other ∷ values)) refl
  where
    all : List (List ℕ)
    all = value ∷ other ∷ values

    small : (a b : Bool) → a ≡ true → (a && b) ≡ false → b ≡ false
    small true b is none = none
    small false b is none = absurd (cc is)

    by_test : (b : Bool) → has_own_tree size key all ≡ b → cond b (value_cost size key + 16) (set_cost size key all) ≤ page_room size
    by_test true is = omega (arith, value_small size key long)
    by_test false is =
        let several : nat_lt 1 (length all) ≡ true = lt-ltb 1 (length all) (omega arith) in
        let low : nat_lt ((size - 26) / 4) (set_cost size key all) ≡ false =
        small (nat_lt 1 (length all)) (nat_lt ((size - 26) / 4) (set_cost size key all)) several is in
        let within : set_cost size key all ≤ (size - 26) / 4 = grind (arith, nat_tests, low) in
        omega (arith, within)

all_fit : (size : ℕ) (units : List TreeUnit) → 512 ≤ size → All (λ unit. unit_cost size unit ≤ page_room size) units
all_fit size [] long = All-nil (λ unit. unit_cost size unit ≤ page_room size)
all_fit size (unit ∷ units) long =
    All-cons (λ one. unit_cost size one ≤ page_room size) unit units (unit_fits size unit long) (all_fit size units long)

-- the leaves of units, with the levels over them, have room for what these take
leaves_room : (type : LeafType) (size : ℕ) (units : List TreeUnit) → 512 ≤ size
    → sum_by (unit_cost size) units ≤ leaves_and_levels type size units * size
leaves_room type size units long =
    let leaves : ℕ = length (spread_units size units) in
    let room : sum_by (unit_cost size) units ≤ leaves * page_room size = spread_room (page_room size) (unit_cost size) units (all_fit size units long) in
    let low : page_room size ≤ size = omega arith in
    let wide : leaves * page_room size ≤ leaves * size = mul-le-mul_left leaves low in
    let some : leaves ≤ leaves_and_levels type size units = omega arith in
    let more : leaves * size ≤ leaves_and_levels type size units * size = mul-le-mul_right size some in
    omega (arith, room, wide, more)

pub set_room : (size : ℕ) (sorted : Bool) (values : List (List ℕ)) → 512 ≤ size → sum_by datum_room values ≤ set_pages size sorted values * size
set_room size sorted values long =
    let units : List TreeUnit = map (λ value. EntryUnit value false) values in
    let parts = add-mul (sum_by (chain_pages size) values) (leaves_and_levels (set_type sorted) size units) size in
    omega (arith, parts, entries_room size values long, leaves_room (set_type sorted) size units long)

one_room : (size : ℕ) (sorted : Bool) (unit : TreeUnit) → 512 ≤ size → unit_room unit ≤ unit_cost size unit + own_pages size sorted unit * size
one_room size sorted (EntryUnit value deleted) long = omega (arith, value_room size value long)
one_room size sorted (KeyedUnit key values) long = by_test (has_own_tree size key values)
  where
    by_test : (b : Bool) → sum_by datum_room values
        ≤ cond b (value_cost size key + 16) (set_cost size key values)
        + (chain_pages size key + cond b (set_pages size sorted values) (sum_by (chain_pages size) values)) * size
    by_test true = omega (arith, add-mul (chain_pages size key) (set_pages size sorted values) size, set_room size sorted values long)
    by_test false =
        omega (arith, add-mul (chain_pages size key) (sum_by (chain_pages size) values) size, values_room size values long)

units_room : (size : ℕ) (sorted : Bool) (units : List TreeUnit) → 512 ≤ size
    → sum_by unit_room units ≤ sum_by (unit_cost size) units + sum_by (own_pages size sorted) units * size
units_room size sorted [] long = omega arith
units_room size sorted (unit ∷ units) long =
    let weights = sum_by-cons unit_room unit units in
    let costs = sum_by-cons (unit_cost size) unit units in
    let own = sum_by-cons (own_pages size sorted) unit units in
    let parts = add-mul (own_pages size sorted unit) (sum_by (own_pages size sorted) units) size in
    let whole : sum_by (own_pages size sorted) (unit ∷ units) * size ≡ (own_pages size sorted unit + sum_by (own_pages size sorted) units) * size =
    ap (λ c. c * size) own in
    omega (arith, weights, costs, whole, parts, one_room size sorted unit long, units_room size sorted units long)

-- a tree has room for the data of its units
pub trees_have_room : (type : LeafType) (size : ℕ) (sorted : Bool) (units : List TreeUnit) → 512 ≤ size
    → sum_by unit_room units ≤ tree_size type size sorted units * size
trees_have_room type size sorted units long =
    let parts = add-mul (sum_by (own_pages size sorted) units) (leaves_and_levels type size units) size in
    omega (arith, parts, units_room size sorted units long, leaves_room type size units long)
