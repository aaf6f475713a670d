-- Which pages of a chain are gone through for its bytes. Source: docs/FORMAT.md, "Other pages".
use Rattle.std.specs.Prelude.{◌≡◌, ℕ, ◌≤◌, List, [], ◌∷◌, length, Option, Some, None}
use Rattle.bdb_graph.specs.of_format.declared.kinds.Order.{Order}
use Rattle.bdb_graph.specs.Blanks.{page_past}
use Rattle.bdb_overflow.specs.Whole.{IsLeft, pieces_from}
use Rattle.bdb_overflow.specs.declared.taken.Taken.{Taken}
use Rattle.bdb_overflow.specs.declared.taken.Taken.TheVariants.{Each, WithData}

-- the pieces that have bytes
abbrev pub full_pieces : List (List ℕ) → List (List ℕ)
full_pieces [] = []
full_pieces ([] ∷ rest) = full_pieces rest
full_pieces ((byte ∷ bytes) ∷ rest) = (byte ∷ bytes) ∷ full_pieces rest

-- the pieces that are gone through
abbrev pub taken_pieces : Taken → List (List ℕ) → List (List ℕ)
taken_pieces Each pieces = pieces
taken_pieces (WithData blanks) pieces = full_pieces pieces

-- a chain has the same bytes from one page on as from another, and no more pieces
pub record StandsFor (order : Order) (size : ℕ) (image : List ℕ) (p q : ℕ) : Type 0 where
  pub left : IsLeft order size image q
  pub same : full_pieces (pieces_from order size image q) ≡ full_pieces (pieces_from order size image p)
  pub few : length (pieces_from order size image q) ≤ length (pieces_from order size image p)

-- each page of a whole chain stands for one behind it
pub record ArePassedOn (order : Order) (size : ℕ) (image nexts : List ℕ) : Type 0 where
  pub each : (p : ℕ) → IsLeft order size image p → StandsFor order size image p (page_past nexts p)

-- the same, where pages are passed over
abbrev pub ArePassedIfAny : Order → ℕ → List ℕ → Option (List ℕ) → Type 0
ArePassedIfAny order size image None = Unit {0}
ArePassedIfAny order size image (Some nexts) = ArePassedOn order size image nexts

abbrev pub ArePassedBy : Order → ℕ → List ℕ → Taken → Type 0
ArePassedBy order size image Each = Unit {0}
ArePassedBy order size image (WithData blanks) = ArePassedIfAny order size image blanks

-- what is left of a chain, and which of its pages are passed over
pub record IsOnWay (order : Order) (size : ℕ) (image : List ℕ) (p : ℕ) (taken : Taken) : Type 0 where
  pub left : IsLeft order size image p
  pub passed : ArePassedBy order size image taken
