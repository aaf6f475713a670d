-- Pairs of a base as they are copied. Source: docs/FORMAT.md, "Loading onto a file".
use Rattle.std.specs.Prelude.{◌≡◌, ℕ, true, List, [], ◌∷◌}
use Rattle.bdb_model.specs.of_format.Terms.{StoredPair}

-- each of these stored pairs that shares its key has the key before it
abbrev pub ShareKeys : List ℕ → List StoredPair → Type 0
ShareKeys key [] = Unit {0}
ShareKeys key (pair ∷ pairs) = (pair.shares ≡ true → key ≡ pair.key) × ShareKeys pair.key pairs

-- and so it is behind some key
pub record Follow (pairs : List StoredPair) : Type 0 where
  pub key : List ℕ
  pub shares : ShareKeys key pairs
