-- What was spelled into a text, and what a text begins with.
use Rattle.std.specs.Prelude.{◌≡◌, ℕ, List, ◌++◌, take, Option, Some, None}
use Rattle.bdb_spelling.specs.declared.spellings.First.{First}

-- a text has gained what spells the first of these bytes, any number of them
abbrev pub AddsPart : (List ℕ → List ℕ) → List ℕ → List ℕ → List ℕ → Type 0
AddsPart spell bytes old new = (n : ℕ) × (new ≡ old ++ spell (take n bytes))

-- the unit that was read, as the byte that it spells and the text behind it
abbrev pub first_seen : Option First → Option (ℕ × List ℕ)
first_seen None = None
first_seen (Some first) = Some (first.byte, first.rest.now)
