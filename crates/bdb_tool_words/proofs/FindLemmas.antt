-- A search through the rows of a table, from a place on.
use Rattle.std.proofs.Common.{◌≡◌, ℕ, Bool, List, drop, map, find}

-- the first of all rows that passes is that of those from a place on, as they are seen
abbrev pub IsPast : {A B : Type 0} → (B → Bool) → (A → B) → List B → List A → ℕ → Type 0
IsPast test seen all rows i = find test all ≡ find test (map seen (drop i rows))
