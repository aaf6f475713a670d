-- What holds while a value is stored.
use Rattle.std.specs.Prelude.{◌≡◌, ℕ, ◌-◌, ◌*◌, ◌^◌, ◌≤◌, List, ◌++◌, length}
use Rattle.bdb_pack.specs.Built.{Built}
use Rattle.bdb_pack.specs.Values.{AreChainPages}

-- the pages so far, followed by those of what is left, are the chain of the value
pub record IsBegunChain (old now : Built) (value : List ℕ) (head previous : ℕ) (rest : List ℕ) : Type 0 where
  pub size : now.size ≡ old.size
  pub order : now.order ≡ old.order
  pub few : length rest ≤ (2 ^ 21 - length now.pages) * (old.size - 26)
  pub added : List (List ℕ)
  pub pages : now.pages ≡ old.pages ++ added
  pub chain : (later : List (List ℕ)) → AreChainPages old.order old.size (length now.pages) previous rest later
      → AreChainPages old.order old.size head 0 value (added ++ later)
