-- Reading a spelling a run at a time.
use Rattle.std.specs.Prelude.{ℕ, ◌==◌, Bool, List, ◌++◌, Option, None, Some}
use Rattle.std.specs.List.{list_any}
use Rattle.bdb_text_format.specs.Terms.{bytes_spelled}
use Rattle.bdb_spelling.specs.declared.runs.Run.{Run}

-- bytes before those that follow, where these are there
abbrev pub joined : List ℕ → Option (List ℕ) → Option (List ℕ)
joined bytes None = None
joined bytes (Some behind) = Some (bytes ++ behind)

-- the bytes that a text spells: those of its first run, and then those that the text behind it spells
abbrev pub by_run : Bool → Option Run → Option (List ℕ)
by_run print None = None
by_run print (Some run) = joined run.bytes.now (bytes_spelled print run.rest.now)

-- whether a text has a backslash
abbrev pub has_backslash : List ℕ → Bool
has_backslash text = list_any (λ (byte : ℕ). byte == 92) text
