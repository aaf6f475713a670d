-- Sections put in the order of their names. Source: docs/FORMAT.md, "Loading".
use Rattle.std.specs.Prelude.{◌≡◌, Bool, false, List, [], ◌∷◌}
use Rattle.std.specs.List.{All}
use Rattle.std.specs.List.Sorted.{ties}
use Rattle.bdb_io.specs.of_format.Terms.{less}
use Rattle.bdb_text_format.specs.declared.sections.Section.{Section}
use Rattle.bdb_mkfile.specs.Builds.{name_of, put_named}

-- a section stands before another whose name is greater
abbrev pub named_before : Section → Section → Bool
named_before a b = less (name_of a) (name_of b)

-- sections with one more
abbrev pub with_named : List Section → Section → List Section
with_named list section = put_named section list

-- the names of two sections differ
abbrev pub IsApart : Section → Section → Type 0
IsApart section other = ties named_before section other ≡ false

abbrev pub AreApart : List Section → Type 0
AreApart [] = Unit {0}
AreApart (section ∷ sections) = All (IsApart section) sections × AreApart sections
