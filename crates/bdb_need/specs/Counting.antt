-- Pages that are counted while things are put on them. Source: docs/FORMAT.md, "Built trees".
use Rattle.std.specs.Prelude.{◌≡◌, ℕ, ◌+◌, ◌≤◌, false, List, [], ◌++◌, length, map}
use Rattle.bdb_mkhash.specs.of_mkleaves.Spread.{spread_on}
use Rattle.bdb_mkhash.specs.of_mkleaves.Units.{EntryUnit, TreeUnit}
use Rattle.bdb_mkhash.specs.of_text_format.declared.pairs.TextPair.{TextPair}
use Rattle.bdb_need.specs.declared.open_page.OpenPage.{OpenPage}

-- how many pages things need that take so much, where the open page has so many bytes left
abbrev pub pages_on : ℕ → ℕ → List ℕ → ℕ
pages_on room left costs = length (spread_on room (λ (c : ℕ). c) (λ (c : ℕ). c) left [] costs)

-- Things were put: whatever comes after them, the closed pages and those that are still needed are as many as before. Each closed at most one page.
pub record ArePut (old new : OpenPage) (costs : List ℕ) : Type 0 where
  pub room : new.room ≡ old.room
  pub pages : (rest : List ℕ) → new.closed + pages_on old.room new.left rest ≡ old.closed + pages_on old.room old.left (costs ++ rest)
  pub few : new.closed ≤ old.closed + length costs

-- the data of pairs
abbrev pub values_in : List TextPair → List (List ℕ)
values_in pairs = map (λ (pair : TextPair). pair.value) pairs

-- the units of the tree of a key's data
abbrev pub data_units : List (List ℕ) → List TreeUnit
data_units values = map (λ value. EntryUnit value false) values
