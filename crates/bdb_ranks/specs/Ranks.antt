-- The ranks of chains by their values. Source: docs/FORMAT.md, "Order of keys".
use Rattle.std.specs.Prelude.{◌≡◌, ◌≤◌, ℕ, ◌+◌, ◌-◌, nat_lt, ◌&&◌, Bool, false, List, [], get_or, Some}
use Rattle.std.specs.BTreeMap.{BTreeMap, get}
use Rattle.std.specs.Ordering.{nat_cmp}
use Rattle.bdb_tree.specs.of_format.Terms.{file_of, less}
use Rattle.bdb_tree.specs.of_overflow.Held.{chain_value}
use Rattle.bdb_ranks.specs.Shared.{ChainValue}

-- these are in the order of the values
pub record AreRanks (image : List ℕ) (ranks : BTreeMap ℕ ℕ) : Type 0 where
  pub each : (a b m n : ℕ) → get nat_cmp ranks a ≡ Some m → get nat_cmp ranks b ≡ Some n
      → nat_lt m n ≡ less (chain_value (file_of image) a) (chain_value (file_of image) b)

-- and none is above that of the last value
pub record AreBelow (image : List ℕ) (ranks : BTreeMap ℕ ℕ) (last : List ℕ) (rank : ℕ) : Type 0 where
  pub less_is : (a m : ℕ) → get nat_cmp ranks a ≡ Some m → nat_lt m rank ≡ less (chain_value (file_of image) a) last
  pub not_above : (a m : ℕ) → get nat_cmp ranks a ≡ Some m → nat_lt rank m ≡ false
  pub not_less : (a m : ℕ) → get nat_cmp ranks a ≡ Some m → less last (chain_value (file_of image) a) ≡ false

abbrev pub value_less : ChainValue → ChainValue → Bool
value_less a b = less a.value b.value

-- what stands past the last chain
abbrev pub no_chain : ChainValue
no_chain = record { head = 0; value = [] }

-- the value of a chain
abbrev pub value_at : List ChainValue → ℕ → List ℕ
value_at chains i = (get_or chains i no_chain).value

-- it's greater than the one before it
abbrev pub is_above : List ChainValue → ℕ → Bool
is_above chains i = nat_lt 0 i && less (value_at chains (i - 1)) (value_at chains i)

-- so many of the chains have ranks, the last one the greatest
pub record AreRanked (image : List ℕ) (ranks : BTreeMap ℕ ℕ) (chains : List ChainValue) (rank i : ℕ) : Type 0 where
  pub ranks_are : AreRanks image ranks
  pub none : i ≡ 0 → (rank ≡ 0) × ((a m : ℕ) → get nat_cmp ranks a ≡ Some m → ⊥)
  pub below : (k : ℕ) → i ≡ k + 1 → (rank ≤ k) × AreBelow image ranks (value_at chains k) rank
