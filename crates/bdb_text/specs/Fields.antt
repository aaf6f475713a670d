-- What the reader of a dump text keeps of a header: its lines at their first equals sign.
use Rattle.std.specs.Prelude.{ℕ, List, map, Option, Some, None}
use Rattle.bdb_spelling.specs.of_text_format.declared.keywords.Judged.{Judged}
use Rattle.bdb_spelling.specs.of_text_format.Terms.{HeaderLine, Keyword, Values, given}
use Rattle.bdb_text.specs.declared.fields.Field.{Field}

-- the entry of a field
abbrev pub entry_in : Field → HeaderLine
entry_in field = record { name = field.name.now; value = field.value.now }

-- the entries of fields
abbrev pub entries_in : List Field → List HeaderLine
entries_in fields = map entry_in fields

-- the entry of a field, where there is one
abbrev pub entry_seen : Option Field → Option HeaderLine
entry_seen None = None
entry_seen (Some field) = Some (entry_in field)

-- what these fields give each keyword
abbrev pub values_in : List Field → Values
values_in fields = λ name. given name (entries_in fields)

-- what a value is to a keyword, where there is one
abbrev pub judged_by : List ℕ → Option Keyword → Option Judged
judged_by value None = None
judged_by value (Some keyword) = Some (keyword.judged value)
