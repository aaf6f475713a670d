-- What the values of the code are among the words after a command.
use Rattle.std.specs.Prelude.{◌≡◌, ℕ, ◌<◌, ◌≤◌, ◌^◌, map, List, [], drop, length, Option, Some, None}
use Rattle.bdb_tool_words.specs.Arguments.{Arguments, OptionRow, arguments, flag, once, only_operands, valued, with_option}
use Rattle.bdb_tool_words.specs.declared.options.OptionRow.{OptionRow as CodeRow}
use Rattle.bdb_tool_words.specs.declared.options.OptionRow.TheVariants.{Valued, Flag}
use Rattle.bdb_tool_words.specs.declared.options.Step.{Step}
use Rattle.bdb_tool_words.specs.declared.options.Step.TheVariants.{Given as GivenStep, Operands}
use Rattle.bdb_tool_words.specs.declared.options.Arguments.TheInside.{Inside}

abbrev pub option_seen : CodeRow → OptionRow
option_seen (Valued word) = valued word.now
option_seen (Flag word) = flag word.now

-- a step through the words from a place on
abbrev pub IsStep : List OptionRow → List (List ℕ) → ℕ → Step → Type 0
IsStep options words at (Operands place) = arguments options (drop at words) ≡ only_operands (drop place words)
IsStep options words at (GivenStep given next) =
    (at < next) × (next ≤ length words)
    × (arguments options (drop at words) ≡ with_option given.word.now given.value.now (arguments options (drop next words)))

-- What was read.

abbrev pub or_none : Option Arguments → Arguments
or_none None = record { given = []; operands = [] }
or_none (Some all) = all

-- the options and the operands that the words give
abbrev pub words_read : Inside → Option Arguments
words_read it = once (arguments (map option_seen it.options.now) (drop 1 it.words.now))

abbrev pub arguments_seen : Inside → Arguments
arguments_seen it = or_none (words_read it)

-- they are read, and the operands stand from a place on
pub record AreRead (it : Inside) : Type 0 where
  pub all_is : words_read it ≡ Some (arguments_seen it)
  pub within : length it.words.now < 2 ^ 64
  pub operands_are : (arguments_seen it).operands ≡ drop it.first it.words.now
