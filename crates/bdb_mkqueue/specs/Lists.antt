-- Lists that a queue can be built of. Source: docs/FORMAT.md, "Built queues".
use Rattle.std.specs.Prelude.{◌≡◌, ℕ, ◌+◌, ◌<◌, ◌^◌, List, [], ◌∷◌, length}
use Rattle.std.specs.List.{All}
use Rattle.bdb_text_format.specs.of_format.declared.settings.Settings.{Settings}
use Rattle.bdb_text_format.specs.declared.pairs.Pair.{Pair}
use Rattle.bdb_text_format.specs.Terms.{AscendFrom, number_of}

-- the number after that of a record fits its field
abbrev pub HasNext : Pair → Type 0
HasNext pair = number_of pair.key + 1 < 2 ^ 32

-- the value of a record has this length
abbrev pub HasLength : ℕ → Pair → Type 0
HasLength re_len pair = length pair.value ≡ re_len

-- a list in its order, as loading makes it with these settings
pub record IsQueueList (settings : Settings) (pairs : List Pair) : Type 0 where
  pub ascend : AscendFrom 1 pairs
  pub few : All HasNext pairs
  pub long : All (HasLength settings.re_len) pairs

-- the number of the first record, and the one after the last; where there are none, 1 and the one that is given
abbrev pub first_number : List Pair → ℕ
first_number [] = 1
first_number (pair ∷ pairs) = number_of pair.key

abbrev pub next_number : ℕ → List Pair → ℕ
next_number least [] = least
next_number least (pair ∷ pairs) = next_number (number_of pair.key + 1) pairs
