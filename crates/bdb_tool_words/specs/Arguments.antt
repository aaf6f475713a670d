-- The words after a command: its options and its operands. Source: man/bdbtool.1.
use Rattle.std.specs.Prelude.{ℕ, if◌then◌else◌, Bool, true, false, List, [], ◌∷◌, take, Option, Some, None, codes, is_some}
use Rattle.std.specs.List.{find}
use Rattle.std.specs.Str.{bytes_eq}

-- Options.

-- an option of a command: its word, and whether the next word is its value
pub record OptionRow : Type 0 where
  pub word : List ℕ
  pub takes_value : Bool

-- an option with a value, and one without
abbrev pub valued : List ℕ → OptionRow
valued word = record { word = word; takes_value = true }

abbrev pub flag : List ℕ → OptionRow
flag word = record { word = word; takes_value = false }

-- the option with this word
abbrev pub option_named : List ℕ → List OptionRow → Option OptionRow
option_named word options = find (λ (option : OptionRow). bytes_eq word option.word) options

-- Options and operands.

-- an option that was given, with its value, which is empty where it takes none
pub record Given : Type 0 where
  pub word : List ℕ
  pub value : List ℕ

-- the words after the command: the options that were given, and the operands
pub record Arguments : Type 0 where
  pub given : List Given
  pub operands : List (List ℕ)

abbrev pub is_option : List ℕ → Bool
is_option word = bytes_eq (take 2 word) (codes "--")

-- what a word is among the options of a command: the end of them, an operand, an option without a value or with one, or
-- none that the command has
pub data WordKind : Type 0 where
  End : WordKind
  Operand : WordKind
  Plain : WordKind
  Valued : WordKind
  Unknown : WordKind

abbrev pub option_kind : Option OptionRow → WordKind
option_kind None = Unknown
option_kind (Some option) = if option.takes_value then Valued else Plain

abbrev pub word_kind : List OptionRow → List ℕ → WordKind
word_kind options word =
    if bytes_eq word (codes "--") then End else (if is_option word then option_kind (option_named word options) else Operand)

-- an option before the words after it
abbrev pub with_option : List ℕ → List ℕ → Option Arguments → Option Arguments
with_option word value None = None
with_option word value (Some rest) = Some (record { given = record { word = word; value = value } ∷ rest.given; operands = rest.operands })

abbrev pub only_operands : List (List ℕ) → Option Arguments
only_operands words = Some (record { given = []; operands = words })

-- the words behind an option that waits for its value, or behind none that does: the end of the options is dropped, and
-- all words from the first operand on are operands
abbrev pub arguments_behind : List OptionRow → Option (List ℕ) → List (List ℕ) → Option Arguments
arguments_behind options (Some option) [] = None
arguments_behind options (Some option) (value ∷ words) = with_option option value (arguments_behind options None words)
arguments_behind options None [] = only_operands []
arguments_behind options None (word ∷ words) = elim (word_kind options word) [
  | End ↦ only_operands words
  | Operand ↦ only_operands (word ∷ words)
  | Plain ↦ with_option word [] (arguments_behind options None words)
  | Valued ↦ arguments_behind options (Some word) words
  | Unknown ↦ None
]

-- the words after the command
abbrev pub arguments : List OptionRow → List (List ℕ) → Option Arguments
arguments options words = arguments_behind options None words

-- the value of an option, where it was given
abbrev pub value_given : List ℕ → List Given → Option (List ℕ)
value_given word [] = None
value_given word (option ∷ others) = if bytes_eq option.word word then Some option.value else value_given word others

abbrev pub is_given : List ℕ → List Given → Bool
is_given word given = is_some (value_given word given)

-- no option is given twice
abbrev pub has_repeated : List Given → Bool
has_repeated [] = false
has_repeated (option ∷ others) = if is_given option.word others then true else has_repeated others

abbrev pub once : Option Arguments → Option Arguments
once None = None
once (Some all) = if has_repeated all.given then None else Some all

-- What a command asks of them.

-- the value of an option, and whether it is given
abbrev pub value_of : OptionRow → Arguments → Option (List ℕ)
value_of option all = value_given option.word all.given

abbrev pub has : OptionRow → Arguments → Bool
has option all = is_given option.word all.given
