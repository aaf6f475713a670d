-- The data under a key, by going over a list. Source: docs/FORMAT.md, "Lists of databases".
use Rattle.std.specs.Prelude.{◌≡◌, ℕ, Bool, true, false, List, map, filter, Option, Some, None}
use Rattle.bdb_databases.specs.declared.under.Sought.{Sought}
use Rattle.bdb_databases.specs.declared.under.Sought.TheVariants.{Bytes, Number, Nothing}
use Rattle.bdb_recno.specs.of_format.Terms.{BytesKey, ListKey, NumberKey, is_key, number_in}

-- whether an entry has the key
abbrev pub has_key : Sought → ListKey → Bool
has_key (Bytes key) entry = is_key entry (BytesKey key)
has_key (Number number) entry = is_key entry (NumberKey number)
has_key Nothing entry = false

-- the data of those entries of a list that have it
abbrev pub listed_under : Sought → List (ListKey × List ℕ) → List (List ℕ)
listed_under sought list = map (λ (entry : ListKey × List ℕ). entry.1) (filter (λ (entry : ListKey × List ℕ). has_key sought entry.0) list)

abbrev pub sought_number : Option ℕ → Sought → Type 0
sought_number None sought = sought ≡ Nothing
sought_number (Some number) sought = sought ≡ Number number

-- the key that bytes are among records, or among pairs
abbrev pub IsSought : Bool → List ℕ → Sought → Type 0
IsSought true key sought = sought_number (number_in key) sought
IsSought false key sought = sought ≡ Bytes key
