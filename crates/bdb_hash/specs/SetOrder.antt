-- Data of a set that ought to ascend, one after another. Source: docs/FORMAT.md, "Stage 8, contents".
use Rattle.std.specs.Prelude.{ℕ, Bool, true, List, Option, Some, None}
use Rattle.bdb_ranks.specs.of_format.Terms.{ascends, ascends_from, less}

-- a value is above the last one, where there is one
abbrev pub follows : Option (List ℕ) → List ℕ → Bool
follows None value = true
follows (Some last) value = less last value

-- these ascend, behind the last one where there is one
abbrev pub ascends_after : Option (List ℕ) → List (List ℕ) → Bool
ascends_after None values = ascends values
ascends_after (Some last) values = ascends_from last values
