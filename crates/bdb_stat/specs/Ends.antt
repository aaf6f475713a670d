-- Items of hash pages by the places where they begin. Source: docs/FORMAT.md, "Items".
use Rattle.std.specs.Prelude.{ℕ, zero, suc}

-- where the last of n items begins, or else the page's end
abbrev pub lowest : ℕ → (ℕ → ℕ) → ℕ → ℕ
lowest size begin zero = size
lowest size begin (suc m) = begin m
