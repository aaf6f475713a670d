use Rattle.std.proofs.Common.{◌≡◌, drop}
use Rattle.bdb_spelling.specs.of_text_format.Terms.{given}
use Rattle.bdb_text.specs.Fields.{entries_in}
use Rattle.bdb_text.proofs.fields.value_of.Given as goal

-- no field so far has the name
abbrev pub invariant-loop-field : goal.invariant-loop-field
invariant-loop-field l = given l.name (entries_in l.fields) ≡ given l.name (entries_in (drop l.field-index l.fields))
