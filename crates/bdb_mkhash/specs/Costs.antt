-- What a key and its data take of a page of a table, and the pages of their own. Source: docs/FORMAT.md, "Built tables".
use Rattle.std.specs.Prelude.{ℕ, ◌+◌, ◌-◌, ◌/◌, nat_le, ◌&&◌, if◌then◌else◌, Bool, List, [], ◌∷◌, length, Option, Some, None}
use Rattle.std.specs.List.{list_all, sum_by}
use Rattle.bdb_mktree.specs.of_mkleaves.Spread.{set_pages}
use Rattle.bdb_mktree.specs.of_mkleaves.Units.{chain_pages}
use Rattle.bdb_law_buckets.specs.Tables.{Keyed}
use Rattle.bdb_mkhash.specs.declared.form.DataForm.{DataForm}
use Rattle.bdb_mkhash.specs.declared.form.DataForm.TheVariants.{One, Set, Tree}

-- a value stands in its item where it's at most an eighth of a page long, and else in a chain
abbrev pub is_inline : ℕ → List ℕ → Bool
is_inline size value = nat_le (length value) (size / 8)

-- the entry of a value's item, and the item
abbrev pub hash_item_cost : ℕ → List ℕ → ℕ
hash_item_cost size value = if is_inline size value then 3 + length value else 14

-- the entry and the item of a set on the page: each of its data stands between its length and its length again
abbrev pub blocks_cost : List (List ℕ) → ℕ
blocks_cost values = 3 + sum_by (λ value. 4 + length value) values

-- several data stand on the page where each stands in its item, and they take at most a quarter of it
abbrev pub stand_together : ℕ → List (List ℕ) → Bool
stand_together size values = list_all (is_inline size) values && nat_le (blocks_cost values) ((size - 26) / 4)

-- what they take as a set on the page, where they stand together
abbrev pub set_or_none : ℕ → List (List ℕ) → Option ℕ
set_or_none size values = if stand_together size values then Some (blocks_cost values) else None

-- how the data of a key stand: one alone, a set on the page, or a tree of their own
abbrev pub data_form : ℕ → List (List ℕ) → DataForm
data_form size [] = Tree
data_form size (value ∷ []) = One
data_form size (value ∷ next ∷ values) = if stand_together size (value ∷ next ∷ values) then Set else Tree

abbrev pub first_value : List (List ℕ) → List ℕ
first_value [] = []
first_value (value ∷ values) = value

-- what data take of the page
abbrev pub cost_in : DataForm → ℕ → List (List ℕ) → ℕ
cost_in One size values = hash_item_cost size (first_value values)
cost_in Set size values = blocks_cost values
cost_in Tree size values = 10

abbrev pub data_cost : ℕ → List (List ℕ) → ℕ
data_cost size values = cost_in (data_form size values) size values

-- a key with all its data
abbrev pub keyed : List ℕ → List (List ℕ) → Keyed
keyed key values = record { key = key; values = values }

abbrev pub keyed_cost : ℕ → Keyed → ℕ
keyed_cost size unit = hash_item_cost size unit.key + data_cost size unit.values

-- The pages of their own: chains, and the tree of the data.

abbrev pub pages_in : DataForm → ℕ → Bool → List (List ℕ) → ℕ
pages_in One size sorted values = chain_pages size (first_value values)
pages_in Set size sorted values = 0
pages_in Tree size sorted values = set_pages size sorted values

abbrev pub keyed_own_pages : ℕ → Bool → Keyed → ℕ
keyed_own_pages size sorted unit = chain_pages size unit.key + pages_in (data_form size unit.values) size sorted unit.values
