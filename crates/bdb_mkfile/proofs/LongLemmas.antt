-- Where the pages of an image have few bytes, so have the keys and data of its lists.
use Rattle.std.proofs.Common.{◌≡◌, ◌⊎◌, ℕ, ◌+◌, ◌-◌, ◌*◌, ◌<◌, ◌≤◌, ◌^◌, Bool, true, false, cond, List, [], ◌∷◌, length, arith, refl, ap, subst, inl, inr, ◌/◌, nat_le, replicate, All, sum_by}
use Rattle.bdb_mkfile.proofs.Common.{bytes_eq, lt-div-mul-add, mul-le-mul_left, mul-le-mul_right, nat_tests, cases_Bool, le-leb, All-cons, All-head, All-nil, All-tail, All-weaker, fold-map}
use Rattle.bdb_mkfile.proofs.Common.{sum_by-append, sum_by-cons, Btree, Recno, Hash, Settings, is_page_size, eq_same, size_bounds, Pair, Key, Bytes, Number, leaves_and_levels, own_pages, set_pages}
use Rattle.bdb_mkfile.proofs.Common.{set_type, EntryUnit, KeyedUnit, TreeUnit, chain_pages, has_own_tree, key_of, HasNumber, bytes_in, keyed_units, missing, onto_units, record_units, number_of}
use Rattle.bdb_mkfile.proofs.Common.{keyed_of, table_units, data_form, keyed_own_pages, pages_in, stand_together, HasShortBytes, list_pages}
use Rattle.bdb_need.specs.of_mkleaves.Placed.{values_in}
use Rattle.bdb_need.proofs.of_mkhash.CostLemmas.{together_inline}

-- One value.

-- a value has no more bytes than the pages of its chain, or than a page
pub few_bytes : (size pages : ℕ) (value : List ℕ) → is_page_size size ≡ true → chain_pages size value ≤ pages → pages * size ≤ 2 ^ 30
    → length value < 2 ^ 32
few_bytes size pages value legal held few = grind (arith, nat_le, size_bounds, nat_tests, lt-div-mul-add, mul-le-mul_right, mul-le-mul_left)

-- Sums.

-- a part of a sum is no more than it
pub in_sum : {X : Type 0} (f : X → ℕ) (xs : List X) → All (λ x. f x ≤ sum_by f xs) xs
in_sum f [] = All-nil (λ x. f x ≤ sum_by f [])
in_sum f (x ∷ xs) = grind (arith, sum_by-cons, All-cons, sum_by, All-weaker, in_sum f xs)

sum_low : {X : Type 0} (f g : X → ℕ) → ((x : X) → f x ≤ g x) → (xs : List X) → sum_by f xs ≤ sum_by g xs
sum_low f g each [] = omega arith
sum_low f g each (x ∷ xs) = grind (arith, sum_by-cons, sum_low f g each xs)

-- Units.

-- the pages of the chains of a unit
abbrev chains : ℕ → TreeUnit → ℕ
chains size unit = chain_pages size (key_of unit) + sum_by (chain_pages size) (values_in unit)

set_holds : (size : ℕ) (sorted : Bool) (values : List (List ℕ)) → sum_by (chain_pages size) values ≤ set_pages size sorted values
set_holds size sorted values = grind (arith, leaves_and_levels, set_type, EntryUnit, set_pages, sum_by, chain_pages)

no_chain : (size : ℕ) → chain_pages size [] ≡ 0
no_chain size = ap (λ b. cond b 0 ((0 + (size - 26) - 1) / (size - 26))) (le-leb 0 (size / 8) (omega arith))

-- are among the pages of its own in a tree
own_holds : (size : ℕ) (sorted : Bool) (unit : TreeUnit) → chains size unit ≤ own_pages size sorted unit
own_holds size sorted (KeyedUnit key values) = grind (arith, has_own_tree, set_holds, sum_by, chain_pages, set_pages)
own_holds size sorted (EntryUnit value deleted) = let none = no_chain size in omega (arith, none)

-- a value in its item has no chain
no_chains : (size : ℕ) (values : List (List ℕ)) → All (λ value. length value ≤ size / 8) values → sum_by (chain_pages size) values ≡ 0
no_chains size [] short = refl
no_chains size (value ∷ values) short =
    let here : List ℕ → Type 0 = λ v. length v ≤ size / 8 in
    let none : chain_pages size value ≡ 0 =
    ap (λ b. cond b 0 ((length value + (size - 26) - 1) / (size - 26))) (le-leb (length value) (size / 8) (All-head here value values short)) in
    let rest = no_chains size values (All-tail here value values short) in
    omega (arith, none, rest, sum_by-cons (chain_pages size) value values)

data_held : (size : ℕ) (sorted : Bool) (values : List (List ℕ)) → sum_by (chain_pages size) values ≤ pages_in (data_form size values) size sorted values
data_held size sorted [] = set_holds size sorted []
data_held size sorted (value ∷ []) = let one = sum_by-cons (chain_pages size) value [] in omega (arith, one)
data_held size sorted (value ∷ next ∷ values) =
    let all : List (List ℕ) = value ∷ next ∷ values in
    elim (cases_Bool (stand_together size all)) [
      | inl is ↦ let none : sum_by (chain_pages size) all ≡ 0 = no_chains size all (together_inline size all is) in rw is (omega (arith, none))
      | inr is ↦ rw is (set_holds size sorted all)
    ]

-- and in a table
keyed_holds : (size : ℕ) (sorted : Bool) (unit : TreeUnit) → chains size unit ≤ keyed_own_pages size sorted (keyed_of unit)
keyed_holds size sorted unit = let data' = data_held size sorted (values_in unit) in omega (arith, data')

-- Lists of keys with data.

-- the chains of a pair are no more than some pages
abbrev IsHeld : ℕ → ℕ → Pair → Type 0
IsHeld size pages pair = (chain_pages size (bytes_in pair.key) ≤ pages) × (chain_pages size pair.value ≤ pages)

onto_holds : (size : ℕ) (key value : List ℕ) (units : List TreeUnit)
    → (chain_pages size key ≤ sum_by (chains size) (onto_units key value units))
    × (chain_pages size value + sum_by (chains size) units ≤ sum_by (chains size) (onto_units key value units))
onto_holds size key value [] = grind (arith, sum_by-cons, KeyedUnit, chain_pages)
onto_holds size key value (KeyedUnit other values ∷ units) = by_test (bytes_eq key other) refl
  where
    by_test : (b : Bool) → bytes_eq key other ≡ b
        → (chain_pages size key
        ≤ sum_by (chains size) (cond b (KeyedUnit other (value ∷ values) ∷ units) (KeyedUnit key (value ∷ []) ∷ KeyedUnit other values ∷ units)))
        × (chain_pages size value + sum_by (chains size) (KeyedUnit other values ∷ units)
        ≤ sum_by (chains size) (cond b (KeyedUnit other (value ∷ values) ∷ units) (KeyedUnit key (value ∷ []) ∷ KeyedUnit other values ∷ units)))
    by_test true same =
        let is = ap (chain_pages size) (eq_same key other same) in
        let one = sum_by-cons (chains size) (KeyedUnit other (value ∷ values)) units in
        let was = sum_by-cons (chains size) (KeyedUnit other values) units in
        let two = sum_by-cons (chain_pages size) value values in (omega (arith, is, one, was, two), omega (arith, is, one, was, two))
    by_test false same =
        let one = sum_by-cons (chains size) (KeyedUnit key (value ∷ [])) (KeyedUnit other values ∷ units) in
        let two = sum_by-cons (chain_pages size) value [] in (omega (arith, one, two), omega (arith, one, two))
onto_holds size key value (EntryUnit other deleted ∷ units) =
    let one = sum_by-cons (chains size) (KeyedUnit key (value ∷ [])) (EntryUnit other deleted ∷ units) in
    let two = sum_by-cons (chain_pages size) value [] in (omega (arith, one, two), omega (arith, one, two))

pub keyed_held : (size : ℕ) (pairs : List Pair) → All (IsHeld size (sum_by (chains size) (keyed_units pairs))) pairs
keyed_held size [] = All-nil (IsHeld size 0)
keyed_held size (pair ∷ pairs) =
    let step = onto_holds size (bytes_in pair.key) pair.value (keyed_units pairs) in
    let first = step.0 in
    let more = step.1 in
    All-cons (IsHeld size (sum_by (chains size) (keyed_units (pair ∷ pairs)))) pair pairs (first, omega (arith, more))
    (All-weaker (IsHeld size (sum_by (chains size) (keyed_units pairs))) (IsHeld size (sum_by (chains size) (keyed_units (pair ∷ pairs))))
    (λ other held. (let key = held.0 in omega (arith, key, more), let value = held.1 in omega (arith, value, more))) pairs (keyed_held size pairs))

-- Lists of records.

records_hold : (size : ℕ) (sorted : Bool) (next : ℕ) (pairs : List Pair)
    → All (λ (pair : Pair). chain_pages size pair.value ≤ sum_by (own_pages size sorted) (record_units next pairs)) pairs
records_hold size sorted next [] = All-nil (λ (pair : Pair). chain_pages size pair.value ≤ 0)
records_hold size sorted next (pair ∷ pairs) =
    let rest : List TreeUnit = record_units (number_of pair.key + 1) pairs in
    let unit : TreeUnit = EntryUnit pair.value false in
    let all : List TreeUnit = record_units next (pair ∷ pairs) in
    let split = sum_by-append (own_pages size sorted) (replicate (number_of pair.key - next) missing) (unit ∷ rest) in
    let one = sum_by-cons (own_pages size sorted) unit rest in
    All-cons (λ (p : Pair). chain_pages size p.value ≤ sum_by (own_pages size sorted) all) pair pairs (omega (arith, split, one))
    (All-weaker (λ (p : Pair). chain_pages size p.value ≤ sum_by (own_pages size sorted) rest)
    (λ (p : Pair). chain_pages size p.value ≤ sum_by (own_pages size sorted) all) (λ p low. omega (arith, split, one, low)) pairs
    (records_hold size sorted (number_of pair.key + 1) pairs))

-- the key of a record has no bytes
pub no_bytes : (key : Key) → HasNumber key → bytes_in key ≡ []
no_bytes (Bytes bytes) never = absurd never
no_bytes (Number number) has = refl

-- Lists whose pages have few bytes.

short_held : (size pages : ℕ) (pair : Pair) → is_page_size size ≡ true → pages * size ≤ 2 ^ 30 → IsHeld size pages pair → HasShortBytes pair
short_held size pages pair legal few held = grind (arith, few_bytes, bytes_in)

short_pairs : (size held pages : ℕ) (pairs : List Pair) → is_page_size size ≡ true → held ≤ pages → pages * size ≤ 2 ^ 30
    → All (IsHeld size held) pairs → All HasShortBytes pairs
short_pairs size held pages pairs legal low few all = grind (arith, All-weaker, HasShortBytes, short_held)

-- the list of a btree or of a hash
pub short_keyed : (settings : Settings) (pages : ℕ) (list : List Pair) → is_page_size settings.page_size ≡ true → pages * settings.page_size ≤ 2 ^ 30
    → (list_pages Btree (record settings { kind = Btree }) list ≤ pages) ⊎ (list_pages Hash settings list ≤ pages) → All HasShortBytes list
short_keyed settings pages list legal few (inl tree) =
    let units : List TreeUnit = keyed_units list in
    let low = sum_low (chains settings.page_size) (own_pages settings.page_size settings.sorted) (own_holds settings.page_size settings.sorted) units in
    short_pairs settings.page_size (sum_by (chains settings.page_size) units) pages list legal (omega (arith, low, tree)) few
    (keyed_held settings.page_size list)
short_keyed settings pages list legal few (inr table) =
    let units : List TreeUnit = keyed_units list in
    let own : TreeUnit → ℕ = λ unit. keyed_own_pages settings.page_size settings.sorted (keyed_of unit) in
    let low = sum_low (chains settings.page_size) own (keyed_holds settings.page_size settings.sorted) units in
    let same : sum_by (keyed_own_pages settings.page_size settings.sorted) (table_units list) ≡ sum_by own units =
    fold-map (λ sum unit. sum + keyed_own_pages settings.page_size settings.sorted unit) keyed_of 0 units in
    short_pairs settings.page_size (sum_by (chains settings.page_size) units) pages list legal (omega (arith, low, same, table)) few
    (keyed_held settings.page_size list)

-- and that of a recno
pub short_records : (settings : Settings) (pages : ℕ) (list : List Pair) → settings.kind ≡ Recno → is_page_size settings.page_size ≡ true
    → pages * settings.page_size ≤ 2 ^ 30 → All (λ (pair : Pair). HasNumber pair.key) list → list_pages Recno settings list ≤ pages → All HasShortBytes list
short_records settings pages list recno legal few numbers held = each list numbers
    (All-weaker (λ (pair : Pair). chain_pages settings.page_size pair.value ≤ sum_by (own_pages settings.page_size settings.sorted) (record_units 1 list))
    (λ (pair : Pair). chain_pages settings.page_size pair.value ≤ pages) (λ pair is. omega (arith, is, low)) list
    (records_hold settings.page_size settings.sorted 1 list))
  where
    low : sum_by (own_pages settings.page_size settings.sorted) (record_units 1 list) ≤ pages
    low = let tree = subst (λ k. list_pages Recno (record settings { kind = k }) list ≤ pages) recno held in omega (arith, tree)

    each : (pairs : List Pair) → All (λ (pair : Pair). HasNumber pair.key) pairs
        → All (λ (pair : Pair). chain_pages settings.page_size pair.value ≤ pages) pairs → All HasShortBytes pairs
    each [] numbers all = All-nil HasShortBytes
    each (pair ∷ pairs) numbers all =
        let has : Pair → Type 0 = λ p. HasNumber p.key in
        let fits : Pair → Type 0 = λ p. chain_pages settings.page_size p.value ≤ pages in
        let none : length (bytes_in pair.key) ≡ 0 = ap length (no_bytes pair.key (All-head has pair pairs numbers)) in
        All-cons HasShortBytes pair pairs
        (record { key = omega (arith, none); value = few_bytes settings.page_size pages pair.value legal (All-head fits pair pairs all) few })
        (each pairs (All-tail has pair pairs numbers) (All-tail fits pair pairs all))
