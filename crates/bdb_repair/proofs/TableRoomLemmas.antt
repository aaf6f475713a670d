-- A table has room for the data of its keys.
use Rattle.std.proofs.Common.{◌≡◌, ℕ, zero, suc, ◌+◌, ◌-◌, ◌*◌, ◌/◌, ◌^◌, ◌<◌, ◌≤◌, Bool, true, false, cond, List, [], ◌∷◌, length, map}
use Rattle.std.proofs.Common.{arith, refl, ap, subst, inl, inr, add-mul, mul-le-mul_left, nat_le, All, sym, ◌&&◌}
use Rattle.std.specs.Prelude.{◌==◌}
use Rattle.std.specs.List.{list_all, range_with_len, sum_by}
use Rattle.std.specs.Str.{bytes_eq}
use Rattle.std.proofs.lemmas.Bool.{cases_lt, eq-eqb}
use Rattle.std.proofs.lemmas.Bool.Decides.{nat_tests}
use Rattle.std.proofs.lemmas.List.Elements.{All-cons, All-nil}
use Rattle.std.proofs.lemmas.List.Sums.{sum_by-cons}
use Rattle.bdb_model.specs.of_text_format.declared.pairs.Pair.{Pair}
use Rattle.bdb_mkfile.specs.of_mkleaves.Units.{TreeUnit, KeyedUnit, EntryUnit, chain_pages, page_room}
use Rattle.bdb_mkfile.specs.of_mkleaves.Spread.{set_pages}
use Rattle.bdb_mkfile.specs.of_mktree.Lists.{bytes_in, keyed_units, onto_units}
use Rattle.bdb_mkfile.specs.of_need.of_law_buckets.Tables.{Keyed, bucket_among, dealt}
use Rattle.bdb_mkfile.specs.of_need.of_mkhash.Buckets.{buckets_of, keyed_of, spread_bucket, table_bits, table_size, table_units}
use Rattle.bdb_mkfile.specs.of_need.of_mkhash.Costs.{blocks_cost, cost_in, data_cost, data_form, hash_item_cost, is_inline, keyed, keyed_cost, keyed_own_pages}
use Rattle.bdb_mkfile.specs.of_need.of_mkhash.Costs.{pages_in, stand_together}
use Rattle.bdb_mkfile.specs.of_need.of_mkhash.declared.form.DataForm.TheVariants.{Set, Tree}
use Rattle.bdb_mkfile.proofs.of_need.of_law_buckets.TableLemmas.{among_low}
use Rattle.bdb_repair.specs.Room.{datum_room}
use Rattle.bdb_repair.proofs.RoomLemmas.{chain_room, set_room, spread_room}
use Rattle.bdb_repair.proofs.ListRoomLemmas.{listed_room}

abbrev pub data_room : Keyed → ℕ
data_room unit = sum_by datum_room unit.values

-- The keys of a list have the data of its pairs.

unit_more : (key value : List ℕ) (units : List TreeUnit)
    → sum_by data_room (map keyed_of (onto_units key value units)) ≡ datum_room value + sum_by data_room (map keyed_of units)
unit_more key value [] =
    let one = sum_by-cons data_room (keyed key (value ∷ [])) [] in let two = sum_by-cons datum_room value [] in omega (arith, one, two)
unit_more key value (KeyedUnit other values ∷ units) = by_test (bytes_eq key other)
  where
    by_test : (b : Bool) → sum_by data_room
        (map keyed_of (cond b (KeyedUnit other (value ∷ values) ∷ units) (KeyedUnit key (value ∷ []) ∷ KeyedUnit other values ∷ units)))
        ≡ datum_room value + sum_by data_room (map keyed_of (KeyedUnit other values ∷ units))
    by_test true =
        let one = sum_by-cons data_room (keyed other (value ∷ values)) (map keyed_of units) in
        let two = sum_by-cons data_room (keyed other values) (map keyed_of units) in
        let three = sum_by-cons datum_room value values in
        omega (arith, one, two, three)
    by_test false =
        let one = sum_by-cons data_room (keyed key (value ∷ [])) (map keyed_of (KeyedUnit other values ∷ units)) in
        let two = sum_by-cons datum_room value [] in omega (arith, one, two)
unit_more key value (EntryUnit other deleted ∷ units) =
    let one = sum_by-cons data_room (keyed key (value ∷ [])) (map keyed_of (EntryUnit other deleted ∷ units)) in
    let two = sum_by-cons datum_room value [] in omega (arith, one, two)

pub table_room : (pairs : List Pair) → sum_by data_room (table_units pairs) ≡ sum_by listed_room pairs
table_room [] = refl
table_room (pair ∷ pairs) =
    let one = unit_more (bytes_in pair.key) pair.value (keyed_units pairs) in
    let sum = sum_by-cons listed_room pair pairs in
    omega (arith, one, sum, table_room pairs)

-- Items.

item_small : (size : ℕ) (value : List ℕ) → hash_item_cost size value ≤ size / 8 + 14
item_small size value = by_test (nat_le (length value) (size / 8)) (λ short. grind (arith, nat_tests, short))
  where
    by_test : (b : Bool) → (b ≡ true → length value ≤ size / 8) → cond b (3 + length value) 14 ≤ size / 8 + 14
    by_test true short = let low = short refl in omega (arith, low)
    by_test false short = omega arith

item_some : (size : ℕ) (value : List ℕ) → 3 ≤ hash_item_cost size value
item_some size value = by_test (nat_le (length value) (size / 8))
  where
    by_test : (b : Bool) → 3 ≤ cond b (3 + length value) 14
    by_test true = omega arith
    by_test false = omega arith

-- a value has room in its item, or in its chain
item_room : (size : ℕ) (value : List ℕ) → 512 ≤ size
    → length value + 3 ≤ hash_item_cost size value + chain_pages size value * size
item_room size value long = by_test (nat_le (length value) (size / 8))
  where
    by_test : (b : Bool) → length value + 3 ≤ cond b (3 + length value) 14 + cond b 0 ((length value + page_room size - 1) / page_room size) * size
    by_test true = omega arith
    by_test false = omega (arith, chain_room size value long)

-- Keys with their data.

second_of : (a b : Bool) → (a && b) ≡ true → b ≡ true
second_of true b both = both
second_of false b both = absurd (cc both)

together_small : (size : ℕ) (values : List (List ℕ)) → stand_together size values ≡ true → blocks_cost values ≤ size / 4
together_small size values together =
    let low : nat_le (blocks_cost values) ((size - 26) / 4) ≡ true =
    second_of (list_all (is_inline size) values) (nat_le (blocks_cost values) ((size - 26) / 4)) together in
    let within : blocks_cost values ≤ (size - 26) / 4 = grind (arith, nat_tests, low) in
    omega (arith, within)

-- one has room on a page of its bucket
unit_fits : (size : ℕ) (unit : Keyed) → 512 ≤ size → keyed_cost size unit ≤ page_room size
unit_fits size unit long = by_values unit.values
  where
    by_test : (b : Bool) (values : List (List ℕ)) → stand_together size values ≡ b
        → hash_item_cost size unit.key + cost_in (cond b Set Tree) size values ≤ page_room size
    by_test true values together = omega (arith, item_small size unit.key, together_small size values together, long)
    by_test false values together = omega (arith, item_small size unit.key, long)

    by_values : (values : List (List ℕ)) → hash_item_cost size unit.key + data_cost size values ≤ page_room size
    by_values [] = omega (arith, item_small size unit.key, long)
    by_values (value ∷ []) = omega (arith, item_small size unit.key, item_small size value, long)
    by_values (value ∷ other ∷ values) = by_test (stand_together size (value ∷ other ∷ values)) (value ∷ other ∷ values) refl

all_fit : (size : ℕ) (units : List Keyed) → 512 ≤ size → All (λ unit. keyed_cost size unit ≤ page_room size) units
all_fit size [] long = All-nil (λ unit. keyed_cost size unit ≤ page_room size)
all_fit size (unit ∷ units) long =
    All-cons (λ one. keyed_cost size one ≤ page_room size) unit units (unit_fits size unit long) (all_fit size units long)

-- what it takes there, and the pages of its own, have room for its data
unit_room : (size : ℕ) (sorted : Bool) (unit : Keyed) → 512 ≤ size → data_room unit ≤ keyed_cost size unit + keyed_own_pages size sorted unit * size
unit_room size sorted unit long = by_values unit.values
  where
    by_test : (b : Bool) (values : List (List ℕ)) → sum_by datum_room values
        ≤ hash_item_cost size unit.key + cost_in (cond b Set Tree) size values
        + (chain_pages size unit.key + pages_in (cond b Set Tree) size sorted values) * size
    by_test true values =
        let same : sum_by datum_room values ≡ sum_by (λ (value : List ℕ). 4 + length value) values = refl in omega (arith, same)
    by_test false values =
        omega (arith, add-mul (chain_pages size unit.key) (set_pages size sorted values) size, set_room size sorted values long)

    by_values : (values : List (List ℕ)) → sum_by datum_room values
        ≤ hash_item_cost size unit.key + data_cost size values
        + (chain_pages size unit.key + pages_in (data_form size values) size sorted values) * size
    by_values [] = omega arith
    by_values (value ∷ []) =
        let one = sum_by-cons datum_room value [] in
        let parts = add-mul (chain_pages size unit.key) (chain_pages size value) size in
        omega (arith, one, parts, item_some size unit.key, item_room size value long)
    by_values (value ∷ other ∷ values) = by_test (stand_together size (value ∷ other ∷ values)) (value ∷ other ∷ values)

units_room : (size : ℕ) (sorted : Bool) (units : List Keyed) → 512 ≤ size
    → sum_by data_room units ≤ sum_by (keyed_cost size) units + sum_by (keyed_own_pages size sorted) units * size
units_room size sorted [] long = omega arith
units_room size sorted (unit ∷ units) long =
    let weights = sum_by-cons data_room unit units in
    let costs = sum_by-cons (keyed_cost size) unit units in
    let own = sum_by-cons (keyed_own_pages size sorted) unit units in
    let parts = add-mul (keyed_own_pages size sorted unit) (sum_by (keyed_own_pages size sorted) units) size in
    let whole : sum_by (keyed_own_pages size sorted) (unit ∷ units) * size
    ≡ (keyed_own_pages size sorted unit + sum_by (keyed_own_pages size sorted) units) * size =
    ap (λ c. c * size) own in
    omega (arith, weights, costs, whole, parts, unit_room size sorted unit long, units_room size sorted units long)

-- Buckets.

-- the pages of buckets have room for what their keys take
bucket_room : (size : ℕ) (bucket : List Keyed) → 512 ≤ size → sum_by (keyed_cost size) bucket ≤ length (spread_bucket size bucket) * size
bucket_room size bucket long =
    let pages : ℕ = length (spread_bucket size bucket) in
    let room : sum_by (keyed_cost size) bucket ≤ pages * page_room size = spread_room (page_room size) (keyed_cost size) bucket (all_fit size bucket long) in
    let low : page_room size ≤ size = omega arith in
    let wide : pages * page_room size ≤ pages * size = mul-le-mul_left pages low in
    omega (arith, room, wide)

abbrev bucket_pages : ℕ → List Keyed → ℕ
bucket_pages size bucket = length (spread_bucket size bucket)

buckets_room : (size : ℕ) (buckets : List (List Keyed)) → 512 ≤ size
    → sum_by (sum_by (keyed_cost size)) buckets ≤ sum_by (bucket_pages size) buckets * size
buckets_room size [] long = omega arith
buckets_room size (bucket ∷ buckets) long =
    let costs = sum_by-cons (sum_by (keyed_cost size)) bucket buckets in
    let pages = sum_by-cons (bucket_pages size) bucket buckets in
    let parts = add-mul (bucket_pages size bucket) (sum_by (bucket_pages size) buckets) size in
    let whole : sum_by (bucket_pages size) (bucket ∷ buckets) * size ≡ (bucket_pages size bucket + sum_by (bucket_pages size) buckets) * size =
    ap (λ c. c * size) pages in
    omega (arith, costs, whole, parts, bucket_room size bucket long, buckets_room size buckets long)

-- what the keys take that are dealt to some buckets
abbrev dealt_cost : (Keyed → ℕ) → ℕ → List Keyed → ℕ → ℕ → ℕ
dealt_cost cost bits units from count = sum_by (sum_by cost) (map (dealt bits units) (range_with_len from count))

-- with one key more it isn't less
more_here : (cost : Keyed → ℕ) (bits : ℕ) (unit : Keyed) (units : List Keyed) (b : ℕ)
    → sum_by cost (dealt bits units b) ≤ sum_by cost (dealt bits (unit ∷ units) b)
more_here cost bits unit units b = by_test (bucket_among bits unit.key == b)
  where
    by_test : (is : Bool) → sum_by cost (dealt bits units b) ≤ sum_by cost (cond is (unit ∷ dealt bits units b) (dealt bits units b))
    by_test true = omega (arith, sum_by-cons cost unit (dealt bits units b))
    by_test false = omega arith

more_dealt : (cost : Keyed → ℕ) (bits : ℕ) (unit : Keyed) (units : List Keyed) (from count : ℕ)
    → dealt_cost cost bits units from count ≤ dealt_cost cost bits (unit ∷ units) from count
more_dealt cost bits unit units from zero = omega arith
more_dealt cost bits unit units from (suc count) =
    let one = sum_by-cons (sum_by cost) (dealt bits units from) (map (dealt bits units) (range_with_len (from + 1) count)) in
    let two = sum_by-cons (sum_by cost) (dealt bits (unit ∷ units) from) (map (dealt bits (unit ∷ units)) (range_with_len (from + 1) count)) in
    omega (arith, one, two, more_here cost bits unit units from, more_dealt cost bits unit units (from + 1) count)

-- its bucket has it
here_dealt : (cost : Keyed → ℕ) (bits : ℕ) (unit : Keyed) (units : List Keyed) (b : ℕ) → (bucket_among bits unit.key == b) ≡ true
    → cost unit + sum_by cost (dealt bits units b) ≤ sum_by cost (dealt bits (unit ∷ units) b)
here_dealt cost bits unit units b is =
    let has : cost unit + sum_by cost (dealt bits units b) ≤ sum_by cost (unit ∷ dealt bits units b) =
    omega (arith, sum_by-cons cost unit (dealt bits units b)) in
    subst (λ t. cost unit + sum_by cost (dealt bits units b) ≤ sum_by cost (cond t (unit ∷ dealt bits units b) (dealt bits units b))) (sym is) has

one_dealt : (cost : Keyed → ℕ) (bits : ℕ) (unit : Keyed) (units : List Keyed) (from count : ℕ)
    → from ≤ bucket_among bits unit.key → bucket_among bits unit.key < from + count
    → cost unit + dealt_cost cost bits units from count ≤ dealt_cost cost bits (unit ∷ units) from count
one_dealt cost bits unit units from zero low high = absurd (omega (arith, low, high))
one_dealt cost bits unit units from (suc count) low high =
    let one = sum_by-cons (sum_by cost) (dealt bits units from) (map (dealt bits units) (range_with_len (from + 1) count)) in
    let two = sum_by-cons (sum_by cost) (dealt bits (unit ∷ units) from) (map (dealt bits (unit ∷ units)) (range_with_len (from + 1) count)) in
    elim (cases_lt from (bucket_among bits unit.key)) [
      | inl above ↦
          omega (
            arith,
            one,
            two,
            more_here cost bits unit units from,
            one_dealt cost bits unit units (from + 1) count (omega (arith, above)) (omega (arith, high)),
          )
      | inr below ↦
          let same : bucket_among bits unit.key ≡ from = omega (arith, low, below) in
          let here = here_dealt cost bits unit units from (eq-eqb (bucket_among bits unit.key) from same) in
          omega (arith, one, two, here, more_dealt cost bits unit units (from + 1) count)
    ]

-- so the buckets have all keys
all_dealt : (cost : Keyed → ℕ) (bits : ℕ) (units : List Keyed) → sum_by cost units ≤ dealt_cost cost bits units 0 (2 ^ bits)
all_dealt cost bits [] = omega arith
all_dealt cost bits (unit ∷ units) =
    omega (
      arith,
      sum_by-cons cost unit units,
      all_dealt cost bits units,
      one_dealt cost bits unit units 0 (2 ^ bits) (omega arith) (omega (arith, among_low bits unit.key)),
    )

-- a table has room for the data of its keys
pub tables_have_room : (size : ℕ) (sorted : Bool) (units : List Keyed) → 512 ≤ size → sum_by data_room units ≤ table_size size sorted units * size
tables_have_room size sorted units long =
    let buckets : List (List Keyed) = buckets_of (table_bits size units) units in
    let pages : ℕ = sum_by (bucket_pages size) buckets in
    let own : ℕ = sum_by (keyed_own_pages size sorted) units in
    let whole : table_size size sorted units * size ≡ (pages + own) * size = refl in
    let all : sum_by (keyed_cost size) units ≤ sum_by (sum_by (keyed_cost size)) buckets =
    all_dealt (keyed_cost size) (table_bits size units) units in
    omega (arith, whole, add-mul pages own size, units_room size sorted units long, all, buckets_room size buckets long)
