-- A fault table: rows of a code and a test, in order. A row counts where it holds and no row above it does.
use Rattle.std.specs.Prelude.{ℕ, min, Bool, if◌then◌else◌, List, [], ◌∷◌, Option, Some, None, Result, Ok, Err}

pub record Row (Code : Type 0) : Type 0 where
  pub code : Code
  pub holds : Bool

infix 70 ◌:?◌
abbrev pub ◌:?◌ : {Code : Type 0} → Code → Bool → Row Code
c :? test = record { code = c; holds = test }

-- the first row that holds
abbrev pub first_row : {Code : Type 0} → List (Row Code) → Option Code
first_row [] = None
first_row (row ∷ rows) = if row.holds then Some row.code else first_row rows

-- a value where no row holds, else the first row that does
abbrev pub answer : {Code T : Type 0} → List (Row Code) → T → Result T Code
answer [] value = Ok value
answer (row ∷ rows) value = if row.holds then Err row.code else answer rows value

-- the lesser of two codes, where there are any
abbrev pub lesser : Option ℕ → Option ℕ → Option ℕ
lesser None b = b
lesser (Some a) None = Some a
lesser (Some a) (Some b) = Some (min a b)
