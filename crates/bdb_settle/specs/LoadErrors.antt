-- Why sections can't be loaded. Source: docs/FORMAT.md, "What loading does to a list".
use Rattle.std.specs.Prelude.{◌≡◌, ℕ, ◌+◌, ◌-◌, nat_lt, ◌==◌, ◌&&◌, ◌||◌, not, if◌then◌else◌, codes}
use Rattle.std.specs.Prelude.{Bool, false, List, [], ◌∷◌, ◌++◌, length, Option, Some, None, is_some}
use Rattle.std.specs.List.{flat_map, fold}
use Rattle.bdb_mktree.specs.of_format.declared.settings.Settings.{Settings}
use Rattle.bdb_mktree.specs.of_format.Terms.{pad4}
use Rattle.bdb_mktree.specs.of_text_format.declared.pairs.Key.{Key}
use Rattle.bdb_mktree.specs.of_text_format.declared.pairs.Key.TheVariants.{Bytes, Number}
use Rattle.bdb_mktree.specs.of_text_format.declared.pairs.TextPair.{TextPair}
use Rattle.bdb_mktree.specs.of_text_format.declared.sections.Section.{Section}
use Rattle.bdb_mktree.specs.of_text_format.Terms.{is_queue}
use Rattle.bdb_settle.specs.declared.load_error.LoadError.{LoadError}
use Rattle.bdb_settle.specs.declared.load_error.LoadError.TheVariants.{RecordTooLong, RecordZero, TooLarge, QueueAmongNames, Memory, OntoKind, OntoNames}
use Rattle.bdb_settle.specs.Loaded.{has_length}

-- The line, the code and the name of each error. Lack of memory and a file that is too large are of no line.

abbrev pub error_entry : LoadError → ℕ × (ℕ × List ℕ)
error_entry (RecordTooLong line) = (line, (1, codes "RecordTooLong"))
error_entry (RecordZero line) = (line, (2, codes "RecordZero"))
error_entry TooLarge = (0, (3, codes "TooLarge"))
error_entry (QueueAmongNames line) = (line, (4, codes "QueueAmongNames"))
error_entry (OntoKind line) = (line, (5, codes "OntoKind"))
error_entry (OntoNames line) = (line, (6, codes "OntoNames"))
error_entry Memory = (0, (0, codes "Memory"))

abbrev pub line_of : LoadError → ℕ
line_of error = (error_entry error).0

abbrev pub code_of : LoadError → ℕ
code_of error = (error_entry error).1.0

abbrev pub name_of : LoadError → List ℕ
name_of error = (error_entry error).1.1

abbrev pub is_sooner : LoadError → LoadError → Bool
is_sooner a b = nat_lt (line_of a) (line_of b) || ((line_of a == line_of b) && nat_lt (code_of a) (code_of b))

-- the one with the lesser line, and on one line the lesser code
abbrev pub sooner : Option LoadError → LoadError → Option LoadError
sooner None error = Some error
sooner (Some first) error = if is_sooner error first then Some error else Some first

-- What holds.

abbrev pub where_so : Bool → LoadError → List LoadError
where_so holds error = if holds then error ∷ [] else []

-- a datum is longer than the fixed length
abbrev pub is_too_long : Settings → TextPair → Bool
is_too_long settings pair = has_length settings && nat_lt settings.re_len (length pair.value)

-- a record has the number 0
abbrev pub is_zero : Key → Bool
is_zero (Bytes bytes) = false
is_zero (Number number) = number == 0

abbrev pub pair_errors : Settings → TextPair → List LoadError
pair_errors settings pair = where_so (is_too_long settings pair) (RecordTooLong pair.line) ++ where_so (is_zero pair.key) (RecordZero pair.line)

-- a queue whose record doesn't fit a page of this size: with one byte more, rounded up to 4, it has more bytes than the page behind its header
abbrev pub is_too_wide : ℕ → Settings → Bool
is_too_wide size settings = is_queue settings.kind && nat_lt (size - 28) (pad4 (settings.re_len + 1))

-- a queue that has a name or stands beside others
abbrev pub is_among_names : Bool → Section → Bool
is_among_names alone section = is_queue section.settings.kind && (is_some section.name || not alone)

-- the errors of a header, by the page size of the file
abbrev pub header_errors : ℕ → Bool → Section → List LoadError
header_errors size alone section =
    where_so (is_too_wide size section.settings) (RecordTooLong section.header_line)
    ++ where_so (is_among_names alone section) (QueueAmongNames section.header_line)

abbrev pub section_errors : ℕ → Bool → Section → List LoadError
section_errors size alone section = header_errors size alone section ++ flat_map (pair_errors section.settings) section.pairs

-- the page size of the file that is made of sections: that of the first
abbrev pub page_size_in : List Section → ℕ
page_size_in [] = 0
page_size_in (section ∷ sections) = section.settings.page_size

-- the first error of sections, of which there is one alone or several
abbrev pub load_error : List Section → Option LoadError
load_error sections = fold sooner None (flat_map (section_errors (page_size_in sections) (length sections == 1)) sections)

-- a refusal gives the first error, or lack of memory where there is none
abbrev pub IsSettleRefusal : Option LoadError → LoadError → Type 0
IsSettleRefusal (Some first) error = error ≡ first
IsSettleRefusal None error = error ≡ Memory
