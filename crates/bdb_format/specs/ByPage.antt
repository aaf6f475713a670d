-- How the faults of a stage are listed: page by page, and at a page code by code. Source: docs/FORMAT.md, "Faults".
use Rattle.std.specs.Prelude.{◌≡◌, ◌⊎◌, ℕ, ◌<◌, ◌≤◌, if◌then◌else◌, List, [], ◌∷◌, map}
use Rattle.std.specs.List.{flat_map, range_with_len}
use Rattle.bdb_format.specs.declared.kinds.Fault.{Fault}
use Rattle.bdb_format.specs.Table.{Row}

-- the codes of all rows that hold
abbrev pub holding : List (Row ℕ) → List ℕ
holding [] = []
holding (row ∷ rows) = if row.holds then row.code ∷ holding rows else holding rows

-- the faults of n pages from one on, by the codes that hold at each
abbrev pub by_page : ℕ → ℕ → ℕ → (ℕ → List ℕ) → List Fault
by_page stage from n codes = flat_map (λ p. map (λ code. record { stage = stage; page = p; code = code }) (codes p)) (range_with_len from n)

-- a fault comes before another, by page and then by code
abbrev pub ComesFirst : Fault → Fault → Type 0
ComesFirst a b = (a.page < b.page) ⊎ ((a.page ≡ b.page) × (a.code ≤ b.code))
