-- What the rows of the code are in the table of a header, and their text.
use Rattle.std.specs.Prelude.{ℕ, if◌then◌else◌, true, List, [], decimal}
use Rattle.std.specs.List.{flat_map}
use Rattle.bdb_spelling.specs.of_format.Terms.{Row, ◌:?◌}
use Rattle.bdb_spelling.specs.of_text_format.Terms.{HeaderLine, entry_line, line, spelling, ◌=:◌}
use Rattle.bdb_text.specs.declared.header.HeaderRow.{HeaderRow}
use Rattle.bdb_text.specs.declared.header.Value.{Value}
use Rattle.bdb_text.specs.declared.header.Value.TheVariants.{Word, Number, Name}

abbrev pub value_seen : Value → List ℕ
value_seen (Word text) = text.now
value_seen (Number number) = decimal number
value_seen (Name name) = spelling true name.now

abbrev pub row_seen : HeaderRow → Row HeaderLine
row_seen row = (row.keyword.now =: value_seen row.value) :? row.holds

-- the line of a row, where it holds
abbrev pub row_text : Row HeaderLine → List ℕ
row_text row = if row.holds then line (entry_line row.code) else []

-- the lines of the rows that hold
abbrev pub rows_text : List (Row HeaderLine) → List ℕ
rows_text rows = flat_map row_text rows
