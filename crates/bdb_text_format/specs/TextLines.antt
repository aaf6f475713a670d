-- The lines of a text. Each ends with a line feed, which the last may lack. Source: docs/FORMAT.md, "Lines of a text".
use Rattle.std.specs.Prelude.{ℕ, ◌==◌, if◌then◌else◌, Bool, List, [], ◌∷◌}
use Rattle.std.specs.Str.{bytes_eq}
use Rattle.bdb_text_format.specs.Written.{header_end, data_end}

-- a byte before the lines that follow is the first of the first
abbrev pub onto_first : ℕ → List (List ℕ) → List (List ℕ)
onto_first byte [] = (byte ∷ []) ∷ []
onto_first byte (line ∷ lines) = (byte ∷ line) ∷ lines

-- the lines of a text; the empty text has none
abbrev pub text_lines : List ℕ → List (List ℕ)
text_lines [] = []
text_lines (byte ∷ rest) = if byte == 10 then [] ∷ text_lines rest else onto_first byte (text_lines rest)

-- whether a line ends a header
abbrev pub is_header_end : List ℕ → Bool
is_header_end line = bytes_eq line header_end

-- whether a line ends a section
abbrev pub is_data_end : List ℕ → Bool
is_data_end line = bytes_eq line data_end
