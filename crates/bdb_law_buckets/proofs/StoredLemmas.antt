-- The pairs that are read from the pages of a table are the keys that stand there, with their data.
use Rattle.std.proofs.Common.{◌≡◌, ℕ, zero, suc, ◌+◌, ◌*◌, ◌<◌, ◌≤◌, Bool, true, false, List, [], ◌∷◌, ◌++◌, get_or, map, length, arith, refl, sym, ◌∙◌, ap}
use Rattle.std.proofs.Common.{subst, ◌/◌, ◌==◌, not}
use Rattle.std.specs.List.{flat_map, range_with_len}
use Rattle.std.proofs.lemmas.Bool.{ne_eqb}
use Rattle.std.proofs.lemmas.List.{append-nil, get_or-map, length-map, map-append, same_lists}
use Rattle.std.proofs.lemmas.List.FromFn.{get_or-map-range_with_len, length-map-range_with_len}
use Rattle.bdb_law_grove.specs.of_format.Terms.{File, Item, StoredPair, chain_in, data_of, header_in, is_set, is_wrong_set, next_of, no_item, pair_at}
use Rattle.bdb_law_grove.specs.of_format.Terms.{pairs_in, pairs_of, value_of}
use Rattle.bdb_law_buckets.specs.Pages.{IsHashIn, hash_item}
use Rattle.bdb_law_buckets.specs.Tables.{BucketStands, HasSum, Keyed, PlacedUnit, TableStands, UnitsStand, contents_on, unit_of, units_on}
use Rattle.bdb_law_grove.proofs.AscendLemmas.{ascend_bounds}
use Rattle.bdb_law_buckets.proofs.OverLemmas.{bucket_up, table_up, units_contents}

-- a pair of a page is a key with its data
pub record IsStored (g : File) (sorted : Bool) (pair : StoredPair) (unit : Keyed) : Type 0 where
  pub live : pair.live ≡ true
  pub shares : pair.shares ≡ false
  pub key : pair.key ≡ unit.key
  pub values : data_of g pair.data_item ≡ unit.values
  pub single : length unit.values ≡ 1 → is_set pair.data_item ≡ false
  pub right : is_wrong_set g sorted pair.data_item ≡ false
  pub summed : HasSum g pair.data_item

abbrev pub AreStored : File → Bool → List StoredPair → List Keyed → Type 0
AreStored g sorted [] [] = Unit {0}
AreStored g sorted [] (unit ∷ units) = ⊥
AreStored g sorted (pair ∷ pairs) [] = ⊥
AreStored g sorted (pair ∷ pairs) (unit ∷ units) = IsStored g sorted pair unit × AreStored g sorted pairs units

pub stored_append : (g : File) (sorted : Bool) (ps qs : List StoredPair) (us vs : List Keyed) → AreStored g sorted ps us → AreStored g sorted qs vs
    → AreStored g sorted (ps ++ qs) (us ++ vs)
stored_append g sorted [] qs [] vs one two = two
stored_append g sorted [] qs (u ∷ us) vs one two = absurd one
stored_append g sorted (p ∷ ps) qs [] vs one two = absurd one
stored_append g sorted (p ∷ ps) qs (u ∷ us) vs (first, rest) two = (first, stored_append g sorted ps qs us vs rest two)

-- One page.

-- the pair of a key on a page
abbrev pair_read : File → ℕ → PlacedUnit → StoredPair
pair_read g p placed = record { page = p; key = value_of g placed.key_item; data_item = placed.data_item; live = true; shares = false }

abbrev no_unit : PlacedUnit
no_unit = record { unit = record { key = []; values = [] }; key_item = no_item.content; data_item = no_item.content; beyond = 0 }

abbrev items_on : List PlacedUnit → List Item
items_on units = map hash_item (contents_on units)

length-items : (units : List PlacedUnit) → length (items_on units) ≡ 2 * length units
length-items [] = refl
length-items (unit ∷ units) = let rest = length-items units in omega (arith, rest)

-- the items of a key
items_at : (units : List PlacedUnit) (i : ℕ) → i < length units
    → (get_or (items_on units) (2 * i) no_item ≡ hash_item (get_or units i no_unit).key_item)
    × (get_or (items_on units) (2 * i + 1) no_item ≡ hash_item (get_or units i no_unit).data_item)
items_at [] i low = absurd (omega (arith, low))
items_at (unit ∷ units) zero low = (refl, refl)
items_at (unit ∷ units) (suc i) low = grind (arith, items_at units i (omega (arith, low)))

abbrev pair_with : File → ℕ → Item → Item → StoredPair
pair_with g p key datum = record { page = p; key = value_of g key.content; data_item = datum.content; live = not datum.deleted; shares = false }

page_pairs : (g : File) (p previous next : ℕ) (units : List PlacedUnit) → IsHashIn g p previous next (contents_on units)
    → pairs_of g p ≡ map (pair_read g p) units
unfolding pairs_of
page_pairs g p previous next units is =
    let n : ℕ = length units in
    let count : length is.page.items / 2 ≡ n = ap (λ k. k / 2) (ap length is.items ∙ length-items units) ∙ half n in
    let f : ℕ → StoredPair = pair_at g p is.page (λ i. false) in
    ap (pairs_in g p) is.is
    ∙ (ap (λ k. map f (range_with_len 0 k)) count
    ∙ same_lists (map f (range_with_len 0 n)) (map (pair_read g p) units)
    (length-map-range_with_len f 0 n ∙ sym (length-map units (pair_read g p)))
    (λ k d under.
    let low : k < n = omega (arith, under, length-map-range_with_len f 0 n) in
    let e : 0 + k ≡ k = omega arith in
    let at = items_at units k low in
    get_or-map-range_with_len f 0 n k k d low e
    ∙ (ap (λ items. pair_with g p (get_or items (2 * k) no_item) (get_or items (2 * k + 1) no_item)) is.items
    ∙ (ap (λ item. pair_with g p item (get_or (items_on units) (2 * k + 1) no_item)) at.0
    ∙ (ap (λ item. pair_with g p (hash_item (get_or units k no_unit).key_item) item) at.1
    ∙ sym (get_or-map (pair_read g p) units k no_unit d low))))))
  where
    half : (n : ℕ) → 2 * n / 2 ≡ n
    half n = omega arith

read_stored : (g : File) (sorted : Bool) (p first beyond : ℕ) (units : List PlacedUnit) → UnitsStand g sorted first beyond units
    → AreStored g sorted (map (pair_read g p) units) (map unit_of units)
read_stored g sorted p first beyond [] stand = tt
read_stored g sorted p first beyond (unit ∷ units) (here, rest) = grind (arith, read_stored g sorted p unit.beyond beyond units rest)

-- One bucket.

pub chain_more : (g : File) (turns p next : ℕ) → next_of g p ≡ next → (next ≡ 0 → ⊥) → chain_in (suc turns) g p ≡ p ∷ chain_in turns g next
unfolding chain_in
chain_more g turns p next is some = grind (arith, ne_eqb)

pub chain_end : (g : File) (turns p : ℕ) → next_of g p ≡ 0 → chain_in (suc turns) g p ≡ p ∷ []
unfolding chain_in
chain_end g turns p is = ap (λ n. p ∷ elim (n == 0) [ true ↦ [] | false ↦ chain_in turns g n ]) is

pub next_is : (g : File) (p previous next : ℕ) (units : List PlacedUnit) → IsHashIn g p previous next (contents_on units) → next_of g p ≡ next
next_is g p previous next units is = ap (λ page. (header_in page).next) is.is ∙ is.next_is

-- the pages of a bucket, in so many turns, have its keys
pub bucket_stored : (g : File) (sorted : Bool) (turns previous p first beyond : ℕ) (pages : List (List PlacedUnit)) → 1 ≤ first
    → beyond < first + turns
    → BucketStands g sorted previous p first beyond pages → AreStored g sorted (flat_map (pairs_of g) (chain_in turns g p)) (units_on pages)
bucket_stored g sorted turns previous p first beyond [] low few stands = absurd stands
bucket_stored g sorted zero previous p first beyond (units ∷ []) low few (is, stand) =
    let up = ascend_bounds first beyond _ (units_contents g sorted first beyond units stand).ascend in absurd (omega (arith, few, up))
bucket_stored g sorted (suc turns) previous p first beyond (units ∷ []) low few (is, stand) =
    subst (λ ps. AreStored g sorted ps (units_on (units ∷ [])))
    (sym (ap (flat_map (pairs_of g)) (chain_end g turns p (next_is g p previous 0 units is))
    ∙ (append-nil (pairs_of g p) ∙ page_pairs g p previous 0 units is)))
    (subst (λ us. AreStored g sorted (map (pair_read g p) units) (map unit_of us)) (sym (append-nil units))
    (read_stored g sorted p first beyond units stand))
bucket_stored g sorted zero previous p first beyond (units ∷ more ∷ pages) low few (next, is, stand, rest) =
    let up = ascend_bounds first next _ (units_contents g sorted first next units stand).ascend in
    let on = bucket_up g sorted p next (next + 1) beyond (more ∷ pages) rest in absurd (omega (arith, few, up, on))
bucket_stored g sorted (suc turns) previous p first beyond (units ∷ more ∷ pages) low few (next, is, stand, rest) =
    let up = ascend_bounds first next _ (units_contents g sorted first next units stand).ascend in
    let all = flat_map (λ page. page) (more ∷ pages) in
    subst (λ ps. AreStored g sorted ps (units_on (units ∷ more ∷ pages)))
    (sym (ap (flat_map (pairs_of g)) (chain_more g turns p next (next_is g p previous next units is) (λ e. omega (arith, e, low, up)))
    ∙ ap (λ ps. ps ++ flat_map (pairs_of g) (chain_in turns g next)) (page_pairs g p previous next units is)))
    (subst (AreStored g sorted (map (pair_read g p) units ++ flat_map (pairs_of g) (chain_in turns g next))) (sym (map-append unit_of units all))
    (stored_append g sorted (map (pair_read g p) units) (flat_map (pairs_of g) (chain_in turns g next)) (map unit_of units) (map unit_of all)
    (read_stored g sorted p first next units stand)
    (bucket_stored g sorted turns p next (next + 1) beyond (more ∷ pages) (omega arith) (omega (arith, few, up)) rest)))

-- All buckets.

-- the pairs of buckets whose first pages follow each other
pub table_stored : (g : File) (sorted : Bool) (p first beyond : ℕ) (buckets : List (List (List PlacedUnit))) → 1 ≤ first → beyond < first + g.count
    → TableStands g sorted p first beyond buckets
    → (b : ℕ) → b < length buckets
    → AreStored g sorted (flat_map (pairs_of g) (chain_in g.count g (p + b))) (units_on (get_or buckets b []))
table_stored g sorted p first beyond [] low few stands b under = absurd (omega (arith, under))
table_stored g sorted p first beyond (bucket ∷ buckets) low few (middle, stands, rest) zero under =
    let on = table_up g sorted (p + 1) middle beyond buckets rest in
    subst (λ q. AreStored g sorted (flat_map (pairs_of g) (chain_in g.count g q)) (units_on bucket)) (let e : p ≡ p + 0 = omega arith in e)
    (bucket_stored g sorted g.count 0 p first middle bucket low (omega (arith, few, on)) stands)
table_stored g sorted p first beyond (bucket ∷ buckets) low few (middle, stands, rest) (suc b) under =
    let up = bucket_up g sorted 0 p first middle bucket stands in
    subst (λ q. AreStored g sorted (flat_map (pairs_of g) (chain_in g.count g q)) (units_on (get_or buckets b [])))
    (let e : p + 1 + b ≡ p + suc b = omega arith in e)
    (table_stored g sorted (p + 1) middle beyond buckets (omega (arith, low, up)) (omega (arith, few, up)) rest b (omega (arith, under)))
