-- The order of keys: bytewise, unsigned, a proper prefix is less. Source: docs/FORMAT.md, "Order of keys".
use Rattle.std.specs.Prelude.{ℕ, nat_lt, ◌==◌, ◌&&◌, ◌||◌, Bool, true, false, List, [], ◌∷◌, IsTrue}

abbrev pub less : List ℕ → List ℕ → Bool
less a [] = false
less [] (y ∷ b) = true
less (x ∷ a) (y ∷ b) = nat_lt x y || (x == y && less a b)

abbrev pub Less : List ℕ → List ℕ → Type 0
Less a b = IsTrue (less a b)
