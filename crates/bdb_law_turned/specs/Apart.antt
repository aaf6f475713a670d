-- Numbers of a page that share no byte. Source: docs/FORMAT.md, "The other byte order".
use Rattle.std.specs.Prelude.{◌≡◌, ◌⊎◌, ◌≤◌, ℕ, suc, ◌+◌, List, [], ◌∷◌, length}
use Rattle.std.specs.List.{Contains}
use Rattle.bdb_law_turned.specs.Fields.{Field}

-- one ends before the other begins
abbrev pub AreDisjoint : Field → Field → Type 0
AreDisjoint f g = (f.begin + f.width ≤ g.begin) ⊎ (g.begin + g.width ≤ f.begin)

-- each two numbers are one and the same, or share no byte
abbrev pub AreApart : List Field → Type 0
AreApart fields = (f g : Field) → Contains fields f → Contains fields g → (f ≡ g) ⊎ AreDisjoint f g

-- all of them lie within so many bytes
abbrev pub LieWithin : List Field → ℕ → Type 0
LieWithin fields n = (f : Field) → Contains fields f → f.begin + f.width ≤ n

-- a place lies in none of them
abbrev pub IsUntouched : List Field → ℕ → Type 0
IsUntouched fields k = (f : Field) → Contains fields f → (suc k ≤ f.begin) ⊎ (f.begin + f.width ≤ k)

-- how many bytes a run of blocks has
abbrev pub run_length : List (List ℕ) → ℕ
run_length [] = 0
run_length (block ∷ blocks) = 4 + length block + run_length blocks
