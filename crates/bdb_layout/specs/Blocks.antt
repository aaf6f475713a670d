-- A set of data on its page: a run of blocks. Source: docs/FORMAT.md, "Items".
use Rattle.std.specs.Prelude.{◌≡◌, ℕ, List, [], ◌∷◌, ◌⊎◌, None}
use Rattle.std.specs.Option.{option_map}
use Rattle.bdb_format.specs.declared.kinds.Order.{Order}
use Rattle.bdb_format.specs.Terms.{blocks_of}

-- blocks, and the order in which their lengths are spelled
pub record BlockRun : Type 0 where
  pub order : Order
  pub blocks : List (List ℕ)

abbrev pub run_in : Order → List (List ℕ) → BlockRun
run_in order blocks = record { order = order; blocks = blocks }

-- no block begins here that others could follow: there is nothing more, or no run
abbrev pub BeginsNoBlock : Order → List ℕ → Type 0
BeginsNoBlock order bytes = (bytes ≡ []) ⊎ (blocks_of order bytes ≡ None)

-- the bytes are a run exactly where those after a first block are, and this block comes first
abbrev pub GoesOn : Order → List ℕ → List ℕ → List ℕ → Type 0
GoesOn order bytes block rest = blocks_of order bytes ≡ option_map (λ blocks. block ∷ blocks) (blocks_of order rest)
