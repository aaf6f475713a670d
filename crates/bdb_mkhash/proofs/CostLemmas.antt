-- What data take of a page of a table.
use Rattle.std.proofs.Common.{◌≡◌, ℕ, ◌+◌, ◌-◌, ◌<◌, ◌≤◌, Bool, true, false, cond, List, [], ◌∷◌, length, get_or, take, arith, refl, sym, ◌∙◌, ap, inl, inr}
use Rattle.bdb_mkhash.proofs.Common.{◌/◌, ◌&&◌, nat_le, Some, None, All, list_all, sum_by, and_left, and_parts, and_right, cases_lt, le-leb, leb-true, lt-leb, All-cons, All-nil, sum_by-take-le}
use Rattle.bdb_mkhash.proofs.Common.{sum_by_more, sum_by_more_le, is_page_size, size_bounds, page_room, cost_in, data_cost, data_form, first_value, is_inline, hash_item_cost, blocks_cost, set_or_none}
use Rattle.bdb_mkhash.proofs.Common.{stand_together, One}
use Rattle.std.proofs.lemmas.List.Folds.{list_all_at, list_all_more}
use Rattle.bdb_mkhash.specs.declared.form.DataForm.{DataForm}
use Rattle.bdb_mkhash.specs.declared.form.DataForm.TheVariants.{Set, Tree}

abbrev block_cost : List ℕ → ℕ
block_cost value = 4 + length value

-- A long value, or too much, does not stand together.

pub long_apart : (size : ℕ) (values : List (List ℕ)) (i : ℕ) → i < length values → size / 8 < length (get_or values i [])
    → stand_together size values ≡ false
long_apart size values i low long =
    and_left (list_all (is_inline size) values) (nat_le (blocks_cost values) ((size - 26) / 4))
    (list_all_at (is_inline size) values i [] low (lt-leb (length (get_or values i [])) (size / 8) long))

pub much_apart : (size cost : ℕ) (values : List (List ℕ)) (i : ℕ) → cost ≡ 3 + sum_by block_cost (take i values) → (size - 26) / 4 < cost
    → stand_together size values ≡ false
much_apart size cost values i is much =
    and_right (list_all (is_inline size) values) (nat_le (blocks_cost values) ((size - 26) / 4))
    (lt-leb (blocks_cost values) ((size - 26) / 4) (omega (arith, is, much, sum_by-take-le block_cost values i)))

pub cost_more : (values : List (List ℕ)) (i : ℕ) → i < length values
    → sum_by block_cost (take (i + 1) values) ≡ sum_by block_cost (take i values) + (4 + length (get_or values i []))
cost_more values i low = sum_by_more block_cost values i [] low

pub inline_more : (size : ℕ) (values : List (List ℕ)) (i : ℕ) → i < length values → list_all (is_inline size) (take i values) ≡ true
    → length (get_or values i []) ≤ size / 8 → list_all (is_inline size) (take (i + 1) values) ≡ true
inline_more size values i low all short =
    list_all_more (is_inline size) values i [] low ∙ (ap (λ b. b && is_inline size (get_or values i [])) all ∙ le-leb (length (get_or values i []))
    (size / 8) short)

-- What stands together is little.

pub together_few : (size : ℕ) (values : List (List ℕ)) → stand_together size values ≡ true → blocks_cost values ≤ (size - 26) / 4
together_few size values is = leb-true (blocks_cost values) ((size - 26) / 4)
    (and_parts (list_all (is_inline size) values) (nat_le (blocks_cost values) ((size - 26) / 4)) is).1

all_inline : (size : ℕ) (values : List (List ℕ)) → list_all (is_inline size) values ≡ true → All (λ value. length value ≤ size / 8) values
all_inline size [] is = All-nil (λ value. length value ≤ size / 8)
all_inline size (value ∷ values) is =
    let parts = and_parts (is_inline size value) (list_all (is_inline size) values) is in
    All-cons (λ (v : List ℕ). length v ≤ size / 8) value values (leb-true (length value) (size / 8) parts.0) (all_inline size values parts.1)

pub together_inline : (size : ℕ) (values : List (List ℕ)) → stand_together size values ≡ true → All (λ value. length value ≤ size / 8) values
together_inline size values is = all_inline size values (and_parts (list_all (is_inline size) values) (nat_le (blocks_cost values) ((size - 26) / 4))
    is).0

pub cost_left : (values : List (List ℕ)) (i : ℕ) → i < length values
    → sum_by block_cost (take i values) + (4 + length (get_or values i [])) ≤ sum_by block_cost values
cost_left values i low = sum_by_more_le block_cost values i [] low

-- Forms.

pub form_more : (size : ℕ) (values : List (List ℕ)) → (length values ≡ 1 → ⊥) → (length values ≡ 0 → ⊥)
    → data_form size values ≡ cond (stand_together size values) Set Tree
form_more size [] several some = absurd (some refl)
form_more size (value ∷ []) several some = absurd (several refl)
form_more size (value ∷ next ∷ values) several some = refl

pub form_none : (size : ℕ) (values : List (List ℕ)) → length values ≡ 0 → Tree ≡ data_form size values
form_none size [] none = refl
form_none size (value ∷ values) none = absurd (omega (arith, none))

pub one_long : (size : ℕ) (values : List (List ℕ)) → One ≡ data_form size values → length values ≡ 1
one_long size [] form = absurd cc
one_long size (value ∷ []) form = refl
one_long size (value ∷ next ∷ values) form = by_test (stand_together size (value ∷ next ∷ values)) form
  where
    by_test : (b : Bool) → One ≡ cond b Set Tree → length (value ∷ next ∷ values) ≡ 1
    by_test true is = absurd cc
    by_test false is = absurd cc

pub set_together : (size : ℕ) (values : List (List ℕ)) → Set ≡ data_form size values → stand_together size values ≡ true
set_together size [] form = absurd cc
set_together size (value ∷ []) form = absurd cc
set_together size (value ∷ next ∷ values) form = by_test (stand_together size (value ∷ next ∷ values)) refl form
  where
    by_test : (b : Bool) → stand_together size (value ∷ next ∷ values) ≡ b → Set ≡ cond b Set Tree
        → stand_together size (value ∷ next ∷ values) ≡ true
    by_test true is form = is
    by_test false is form = absurd cc

pub first_is : (values : List (List ℕ)) (d : List ℕ) → length values ≡ 1 → get_or values 0 d ≡ first_value values
first_is [] d one = absurd (omega (arith, one))
first_is (value ∷ values) d one = refl

-- an item takes at most an eighth of a page and 3, or 14
pub item_few : (size : ℕ) (value : List ℕ) → is_page_size size ≡ true → hash_item_cost size value ≤ size / 8 + 3
item_few size value legal =
    let bounds = size_bounds size legal in
    elim (cases_lt (size / 8) (length value)) [
      | inl long ↦ let is : hash_item_cost size value ≡ 14 = ap (λ b. cond b (3 + length value) 14) (lt-leb (length value) (size / 8) long) in omega
          (arith, is, bounds.0)
      | inr short ↦ let is : hash_item_cost size value ≡ 3 + length value = ap (λ b. cond b (3 + length value) 14)
          (le-leb (length value) (size / 8) short) in
          omega (arith, is, short)
    ]

-- data take less than half of a page
pub data_few : (size : ℕ) (values : List (List ℕ)) → is_page_size size ≡ true → data_cost size values ≤ size / 4
data_few size values legal = by_form (data_form size values) refl
  where
    by_form : (f : DataForm) → data_form size values ≡ f → cost_in f size values ≤ size / 4
    by_form One is = let few = item_few size (first_value values) legal in let bounds = size_bounds size legal in omega (arith, few, bounds.0)
    by_form Set is = let few = together_few size values (set_together size values (sym is)) in omega (arith, few)
    by_form Tree is = let bounds = size_bounds size legal in omega (arith, bounds.0)

-- A set, datum by datum.

-- The data before a place stand in their items, and take so much, which is not too much.
pub record SetSoFar (size : ℕ) (values : List (List ℕ)) (i cost : ℕ) : Type 0 where
  pub sum : cost ≡ 3 + sum_by (λ value. 4 + length value) (take i values)
  pub inline : list_all (is_inline size) (take i values) ≡ true
  pub few : cost ≤ (size - 26) / 4

pub set_begun : (size : ℕ) (values : List (List ℕ)) → is_page_size size ≡ true → SetSoFar size values 0 3
set_begun size values legal =
    let bounds = size_bounds size legal in record { sum = refl; inline = refl; few = omega (arith, bounds) }

pub set_long : (size : ℕ) (values : List (List ℕ)) (i : ℕ) (value : List ℕ) (len : ℕ) → i < length values → value ≡ get_or values i [] → len ≡ length value
    → size / 8 < len → None ≡ set_or_none size values
set_long size values i value len within is long much = grind (arith, Some, None, long_apart)

pub set_more : (size : ℕ) (values : List (List ℕ)) (i cost : ℕ) (value : List ℕ) (len : ℕ) → SetSoFar size values i cost → i < length values
    → value ≡ get_or values i [] → len ≡ length value → len ≤ size / 8 → cost + (4 + len) ≤ (size - 26) / 4
    → SetSoFar size values (i + 1) (cost + (4 + len))
set_more size values i cost value len was within is long short few = grind (arith, cost_more, inline_more)

pub set_much : (size : ℕ) (values : List (List ℕ)) (i cost : ℕ) (value : List ℕ) (len : ℕ) → SetSoFar size values i cost → i < length values
    → value ≡ get_or values i [] → len ≡ length value → (size - 26) / 4 < cost + (4 + len) → None ≡ set_or_none size values
set_much size values i cost value len was within is long much =
    let one = long ∙ ap length is in
    let step = cost_more values i within in
    let before = was.sum in
    sym (ap (λ b. cond b (Some (blocks_cost values)) None)
    (much_apart size (cost + (4 + len)) values (i + 1) (omega (arith, one, step, before)) much))

-- they stand together, or not
pub set_form : (size : ℕ) (values : List (List ℕ)) (cost : ℕ) → 0 < length values → (length values ≡ 1 → ⊥) → Some cost ≡ set_or_none size values
    → (Set ≡ data_form size values) × (cost ≡ data_cost size values)
set_form size values cost some many is = by_test (stand_together size values) (form_more size values many (λ none. omega (arith, some, none))) is
  where
    by_test : (b : Bool) → data_form size values ≡ cond b Set Tree → Some cost ≡ cond b (Some (blocks_cost values)) None
        → (Set ≡ data_form size values) × (cost ≡ data_cost size values)
    by_test true form one = (sym form, cc one ∙ ap (λ f. cost_in f size values) (sym form))
    by_test false form one = absurd (cc one)

pub tree_form : (size : ℕ) (values : List (List ℕ)) → 0 < length values → (length values ≡ 1 → ⊥) → None ≡ set_or_none size values
    → (Tree ≡ data_form size values) × (10 ≡ data_cost size values)
tree_form size values some many is = by_test (stand_together size values) (form_more size values many (λ none. omega (arith, some, none))) is
  where
    by_test : (b : Bool) → data_form size values ≡ cond b Set Tree → None ≡ cond b (Some (blocks_cost values)) None
        → (Tree ≡ data_form size values) × (10 ≡ data_cost size values)
    by_test true form one = absurd (cc one)
    by_test false form one = (sym form, ap (λ f. cost_in f size values) (sym form))

-- a key with its data fits a page
pub unit_fits : (size : ℕ) (key : List ℕ) (values : List (List ℕ)) → is_page_size size ≡ true
    → hash_item_cost size key + data_cost size values ≤ page_room size
unit_fits size key values legal = grind (arith, size_bounds, item_few, data_few)
