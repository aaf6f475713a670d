-- The options and the commands, and what each command does. Source: man/bdbtool.1.
use Rattle.std.specs.Prelude.{ℕ, ◌^◌, nat_le, ◌==◌, ◌&&◌, not, if◌then◌else◌, Bool, true, false, List, [], ◌∷◌, length, Option, Some, None, codes, option_map}
use Rattle.std.specs.Prelude.{slice_get}
use Rattle.std.specs.List.{find}
use Rattle.std.specs.Option.{option_and_then}
use Rattle.std.specs.Str.{bytes_eq}
use Rattle.bdb_any_order.specs.declared.rows.Rows.{Rows}
use Rattle.bdb_any_order.specs.declared.rows.Rows.TheVariants.{All, AnyOrder}
use Rattle.bdb_model.specs.of_format.declared.kinds.Kind.{Kind}
use Rattle.bdb_model.specs.of_format.declared.kinds.Kind.TheVariants as kind
use Rattle.bdb_model.specs.of_format.declared.kinds.Order.{Order}
use Rattle.bdb_model.specs.of_format.declared.kinds.Order.TheVariants.{Big, Little}
use Rattle.bdb_model.specs.of_format.Terms.{number_in}
use Rattle.bdb_model.specs.of_text_format.Terms.{bytes_spelled, line}
use Rattle.bdb_model.specs.Answers.{Answer, told}
use Rattle.bdb_model.specs.declared.shape.Duplicates.{Duplicates}
use Rattle.bdb_model.specs.declared.shape.Duplicates.TheVariants.{No, Unsorted, Sorted}
use Rattle.bdb_model.specs.declared.shape.Shape.{Shape}
use Rattle.bdb_model.specs.declared.shape.Shape.TheVariants as shape
use Rattle.bdb_survey.specs.declared.guess.Guess.{Guess}
use Rattle.bdb_tool_words.specs.Arguments.{Arguments, OptionRow, arguments, flag, has, once, value_of, valued}
use Rattle.bdb_tool_words.specs.declared.command.CommandName.{CommandName}
use Rattle.bdb_tool_words.specs.declared.command.CommandName.TheVariants as command
use Rattle.bdb_tool_words.specs.declared.command.Built.{Built}
use Rattle.bdb_tool_words.specs.declared.command.Built.TheVariants.{Each, Shaped}
use Rattle.bdb_tool_words.specs.declared.command.Parts.{Parts}
use Rattle.bdb_tool_words.specs.declared.command.Parts.TheVariants.{Together, Apart, Rest}
use Rattle.bdb_tool_words.specs.declared.command.Salvage.{Salvage as SalvageAsked}
use Rattle.bdb_tool_words.specs.declared.command.Repair.{Repair as RepairAsked}
use Rattle.bdb_tool_words.specs.declared.command.Trial.{Trial as TrialAsked}

-- what is asked of a sound file: of a key the name of its database, where one was given, and whether data are printed; of a
-- dump the name of a database, where not all are asked for, and whether data are printed; of a range a name as of a key, the
-- bounds, and whether keys and data are printed; the same file in a byte order; or what its pages are
pub data Request : Type 0 where
  Verify : Request
  ListAll : Request
  Get : Option (List ℕ) → List ℕ → Bool → Request
  Dump : Option (List ℕ) → Bool → Request
  Range : Option (List ℕ) → List ℕ → List ℕ → Bool → Request
  Convert : Order → Request
  Stat : Request

-- what a command does: it asks something of a file by the rows that count, loads a text, or loads it onto the file of this word, salvages or repairs an
-- image, tells by a guess, where one was given, what an image still has, or builds a file of pairs that are generated
pub data Action : Type 0 where
  Ask : Rows → Request → Action
  Load : Action
  LoadOnto : List ℕ → Action
  Salvage : SalvageAsked → Action
  Repair : RepairAsked → Action
  Survey : Option Guess → Action
  Trial : TrialAsked → Action

-- a command: the longest input that it takes, or the longest image that it builds, and what it does
pub record Command : Type 0 where
  pub limit : ℕ
  pub action : Action

-- whether a command reads its input
abbrev pub reads_input : Action → Bool
reads_input (Trial asked) = false
reads_input _ = true

-- whether a command reads a base
abbrev pub reads_base : Action → Bool
reads_base (LoadOnto file) = true
reads_base _ = false

-- the file that is opened as the base
abbrev pub file_of_action : Action → Option (List ℕ)
file_of_action (LoadOnto file) = Some file
file_of_action _ = None

-- The options.

abbrev pub max_bytes : OptionRow
max_bytes = valued (codes "--max-bytes")

abbrev pub name : OptionRow
name = valued (codes "--name")

abbrev pub order : OptionRow
order = valued (codes "--order")

abbrev pub page_size : OptionRow
page_size = valued (codes "--page-size")

abbrev pub as_kind : OptionRow
as_kind = valued (codes "--as")

abbrev pub onto : OptionRow
onto = valued (codes "--onto")

abbrev pub hex : OptionRow
hex = flag (codes "--hex")

abbrev pub print : OptionRow
print = flag (codes "--print")

abbrev pub duplicates : OptionRow
duplicates = flag (codes "--duplicates")

abbrev pub dupsort : OptionRow
dupsort = flag (codes "--dupsort")

abbrev pub any_order : OptionRow
any_order = flag (codes "--any-order")

abbrev pub apart : OptionRow
apart = flag (codes "--apart")

abbrev pub rest : OptionRow
rest = flag (codes "--rest")

-- The commands.

-- a command of the table: its name and its word, the options that it has, and how many operands
pub record CommandRow : Type 0 where
  pub name : CommandName
  pub word : List ℕ
  pub options : List OptionRow
  pub operands : ℕ

abbrev pub row : CommandName → List ℕ → List OptionRow → ℕ → CommandRow
row name word options operands = record { name = name; word = word; options = options; operands = operands }

-- the table
abbrev pub commands : List CommandRow
commands =
    row command.Verify (codes "verify") (max_bytes ∷ any_order ∷ []) 0
    ∷ row command.List (codes "list") (max_bytes ∷ any_order ∷ []) 0
    ∷ row command.Get (codes "get") (max_bytes ∷ name ∷ hex ∷ print ∷ any_order ∷ []) 1
    ∷ row command.Dump (codes "dump") (max_bytes ∷ name ∷ print ∷ any_order ∷ []) 0
    ∷ row command.Load (codes "load") (max_bytes ∷ onto ∷ []) 0
    ∷ row command.Salvage (codes "salvage") (max_bytes ∷ order ∷ page_size ∷ print ∷ apart ∷ rest ∷ []) 0
    ∷ row command.Trial (codes "trial") (max_bytes ∷ []) 3
    ∷ row command.Range (codes "range") (max_bytes ∷ name ∷ hex ∷ print ∷ []) 2
    ∷ row command.Convert (codes "convert") (max_bytes ∷ []) 1
    ∷ row command.Stat (codes "stat") (max_bytes ∷ []) 0
    ∷ row command.Repair (codes "repair") (max_bytes ∷ order ∷ page_size ∷ as_kind ∷ duplicates ∷ dupsort ∷ apart ∷ []) 0
    ∷ row command.Survey (codes "survey") (max_bytes ∷ order ∷ page_size ∷ []) 0
    ∷ []

-- words that are none of these
abbrev pub usage : Answer
usage = told 2 (line (codes "usage: bdbtool verify, list, get, dump, load, salvage, trial, range, convert, stat, repair or survey"))

-- What words of values mean.

-- the longest input: 2^30 bytes, or the number from 1 to that many that is given
abbrev pub limit_in : Option ℕ → Option ℕ
limit_in None = None
limit_in (Some n) = if nat_le 1 n && nat_le n (2 ^ 30) then Some n else None

-- the limit by the value of `--max-bytes`
abbrev pub limit_of : Option (List ℕ) → Option ℕ
limit_of None = Some (2 ^ 30)
limit_of (Some text) = limit_in (number_in text)

-- the name that is asked for: none, or the one whose printed spelling is given
abbrev pub asked_name : Option (List ℕ) → Option (Option (List ℕ))
asked_name None = Some None
asked_name (Some text) = option_map Some (bytes_spelled true text)

-- the order with this name
abbrev pub order_named : List ℕ → Option Order
order_named word = if bytes_eq word (codes "big") then Some Big else (if bytes_eq word (codes "little") then Some Little else None)

-- the legal page size with these digits
abbrev pub page_size_named : List ℕ → Option ℕ
page_size_named word =
    if bytes_eq word (codes "512") then Some 512
    else (if bytes_eq word (codes "1024") then Some 1024
    else (if bytes_eq word (codes "2048") then Some 2048
    else (if bytes_eq word (codes "4096") then Some 4096
    else (if bytes_eq word (codes "8192") then Some 8192
    else (if bytes_eq word (codes "16384") then Some 16384
    else (if bytes_eq word (codes "32768") then Some 32768 else None))))))

abbrev pub guess_by : Option Order → Option ℕ → Option (Option Guess)
guess_by (Some order) (Some page_size) = Some (Some (record { order = order; page_size = page_size }))
guess_by _ _ = None

-- the guess of an order and a page size, which are given together or not at all
abbrev pub guess_asked : Option (List ℕ) → Option (List ℕ) → Option (Option Guess)
guess_asked None None = Some None
guess_asked (Some order) (Some page_size) = guess_by (order_named order) (page_size_named page_size)
guess_asked _ _ = None

-- the data of a key by the two flags; as in a header, sorted data are several
abbrev pub duplicates_named : Bool → Bool → Duplicates
duplicates_named several true = Sorted
duplicates_named true false = Unsorted
duplicates_named false false = No

-- records have no data beside them
abbrev pub record_shape : Duplicates → Option Shape
record_shape No = Some shape.Recno
record_shape _ = None

abbrev pub shape_named : List ℕ → Duplicates → Option Shape
shape_named word duplicates =
    if bytes_eq word (codes "btree") then Some (shape.Btree duplicates)
    else (if bytes_eq word (codes "hash") then Some (shape.Hash duplicates)
    else (if bytes_eq word (codes "recno") then record_shape duplicates else None))

-- the shape of a kind and its flags; the flags aren't given without a kind
abbrev pub shape_asked : Option (List ℕ) → Duplicates → Option (Option Shape)
shape_asked None No = Some None
shape_asked None _ = None
shape_asked (Some word) duplicates = option_map Some (shape_named word duplicates)

-- what is salvaged by the two flags: each database apart, what belongs to none, or all together
abbrev pub parts_asked : Bool → Bool → Option Parts
parts_asked false false = Some Together
parts_asked true false = Some Apart
parts_asked false true = Some Rest
parts_asked true true = None

-- what is built: each database that is found, or by a shape; both aren't asked for
abbrev pub built_asked : Bool → Option (Option Shape) → Option Built
built_asked _ None = None
built_asked true (Some None) = Some Each
built_asked true (Some (Some shape)) = None
built_asked false (Some shape) = Some (Shaped shape)

-- the rows that count, by whether any order is asked for
abbrev pub rows_by : Bool → Rows
rows_by true = AnyOrder
rows_by false = All

-- the kind with this name
abbrev pub kind_named : List ℕ → Option Kind
kind_named word =
    if bytes_eq word (codes "btree") then Some kind.Btree
    else (if bytes_eq word (codes "hash") then Some kind.Hash
    else (if bytes_eq word (codes "recno") then Some kind.Recno
    else (if bytes_eq word (codes "queue") then Some kind.Queue else None)))

-- the number in a word, if it is at most another
abbrev pub number_to : ℕ → List ℕ → Option ℕ
number_to most word = option_and_then (λ n. if nat_le n most then Some n else None) (number_in word)

-- What a command does by its options and operands.

-- an operand by its place, from 0 on
abbrev pub operand : ℕ → Arguments → Option (List ℕ)
operand i all = slice_get all.operands i

-- an operand by its spelling: printed or, where that is asked for, by digits
abbrev pub operand_spelled : ℕ → Arguments → Option (List ℕ)
operand_spelled i all = option_and_then (bytes_spelled (not (has hex all))) (operand i all)

abbrev pub name_asked : Arguments → Option (Option (List ℕ))
name_asked all = asked_name (value_of name all)

-- what is asked of a key, where its name and the key are there
abbrev pub key_request : Option (Option (List ℕ)) → Option (List ℕ) → Bool → Option Request
key_request (Some name) (Some key) prints = Some (Get name key prints)
key_request _ _ prints = None

-- a dump of one database by its name, or of all
abbrev pub text_request : Option (Option (List ℕ)) → Bool → Option Request
text_request name prints = option_map (λ name. Dump name prints) name

-- what is asked of a range, where its name and its bounds are there
abbrev pub bounds_request : Option (Option (List ℕ)) → Option (List ℕ) → Option (List ℕ) → Bool → Option Request
bounds_request (Some name) (Some from) (Some to) prints = Some (Range name from to prints)
bounds_request _ _ _ prints = None

abbrev pub asking : Rows → Option Request → Option Action
asking rows request = option_map (Ask rows) request

-- the rows that `verify`, `list`, `get` and `dump` go by
abbrev pub rows_asked : Arguments → Rows
rows_asked all = rows_by (has any_order all)

-- the guess of `salvage`, `repair` and `survey`
abbrev pub guess_of : Arguments → Option (Option Guess)
guess_of all = guess_asked (value_of order all) (value_of page_size all)

-- what `salvage`, `repair`, `trial` and `load` do, where what they ask is there
abbrev pub salvaging : Bool → Option Parts → Option (Option Guess) → Option Action
salvaging prints (Some parts) (Some guess) = Some (Salvage (record { guess = guess; print = prints; parts = parts }))
salvaging prints _ _ = None

abbrev pub repairing : Option Built → Option (Option Guess) → Option Action
repairing (Some built) (Some guess) = Some (Repair (record { built = built; guess = guess }))
repairing _ _ = None

abbrev pub trying : Option Kind → Option ℕ → Option ℕ → Option Action
trying (Some kind) (Some seed) (Some count) = Some (Trial (record { kind = kind; seed = seed; count = count }))
trying _ _ _ = None

abbrev pub loading : Option (List ℕ) → Action
loading None = Load
loading (Some file) = LoadOnto file

-- what each command does
abbrev pub action_of : CommandName → Arguments → Option Action
action_of command.Verify all = Some (Ask (rows_asked all) Verify)
action_of command.List all = Some (Ask (rows_asked all) ListAll)
action_of command.Get all = asking (rows_asked all) (key_request (name_asked all) (operand_spelled 0 all) (has print all))
action_of command.Dump all = asking (rows_asked all) (text_request (name_asked all) (has print all))
action_of command.Load all = Some (loading (value_of onto all))
action_of command.Salvage all = salvaging (has print all) (parts_asked (has apart all) (has rest all)) (guess_of all)
action_of command.Trial all =
    trying (option_and_then kind_named (operand 0 all)) (option_and_then (number_to 2147483647) (operand 1 all))
    (option_and_then (number_to 200000) (operand 2 all))
action_of command.Range all = asking All (bounds_request (name_asked all) (operand_spelled 0 all) (operand_spelled 1 all) (has print all))
action_of command.Convert all = option_map (λ order. Ask All (Convert order)) (option_and_then order_named (operand 0 all))
action_of command.Stat all = Some (Ask All Stat)
action_of command.Repair all =
    repairing (built_asked (has apart all) (shape_asked (value_of as_kind all) (duplicates_named (has duplicates all) (has dupsort all)))) (guess_of all)
action_of command.Survey all = option_map Survey (guess_of all)

-- The command that words are.

-- what is done, within a limit
abbrev pub within : Option ℕ → Option Action → Option Command
within (Some limit) (Some action) = Some (record { limit = limit; action = action })
within _ _ = None

-- a command of the table with its arguments, of which the operands are as many as it has
abbrev pub command_with : CommandRow → Option Arguments → Option Command
command_with row None = None
command_with row (Some all) =
    if length all.operands == row.operands then within (limit_of (value_of max_bytes all)) (action_of row.name all) else None

-- the command of a row, by the words after its own
abbrev pub command_by : CommandRow → List (List ℕ) → Option Command
command_by row words = command_with row (once (arguments row.options words))

-- the row of this word
abbrev pub row_named : List ℕ → List CommandRow → Option CommandRow
row_named word rows = find (λ (row : CommandRow). bytes_eq word row.word) rows

-- the command that the words are, unless they are none
unfoldable pub command_of : List (List ℕ) → Option Command
command_of [] = None
command_of (word ∷ words) = option_and_then (λ row. command_by row words) (row_named word commands)

-- a command, where a base is handed in or not: one that reads a base is none without it
abbrev pub handed : Bool → Option Command → Option Command
handed has None = None
handed has (Some command) = if reads_base command.action && not has then None else Some command

-- the command that the words are, where a base is handed in or not
abbrev pub command_on : List (List ℕ) → Bool → Option Command
command_on words has = handed has (command_of words)

-- the word of `--onto`, exactly where the words are a command that has it
abbrev pub onto_file : List (List ℕ) → Option (List ℕ)
onto_file words = option_and_then (λ (it : Command). file_of_action it.action) (command_of words)
