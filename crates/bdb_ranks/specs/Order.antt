-- Values that ought to ascend. Source: docs/FORMAT.md, "Order of keys".
use Rattle.std.specs.Prelude.{ℕ, not, Bool, false, List, Option, Some, None}
use Rattle.bdb_tree.specs.of_format.Terms.{less}

-- a value isn't above the one before it, where there is one
abbrev pub is_not_above : Option (List ℕ) → List ℕ → Bool
is_not_above None value = false
is_not_above (Some before) value = not (less before value)
