-- How far the reader of a section's data lines has come.
use Rattle.std.specs.Prelude.{◌≡◌, ◌⊎◌, ℕ, ◌+◌, ◌&&◌, if◌then◌else◌, Bool, true, false, List, [], ◌∷◌, ◌++◌, length, Option, Some, is_none}
use Rattle.std.specs.List.{list_any}
use Rattle.bdb_spelling.specs.of_text_format.declared.faults.TextFault.{TextFault}
use Rattle.bdb_spelling.specs.of_text_format.declared.pairs.TextPair.{TextPair}
use Rattle.bdb_spelling.specs.of_text_format.Terms.{IsPairPut, Keeps, Values, counted_pairs, data_end, data_end_reason, data_line_reason, data_read, has_keys}
use Rattle.bdb_spelling.specs.of_text_format.Terms.{has_odd_length, has_record_type, is_data_end, key_read, keyed_pairs, pair_with, pairs_read, prints}
use Rattle.bdb_spelling.specs.of_text_format.Terms.{text_lines}
use Rattle.bdb_spelling.specs.of_text_format.declared.pairs.Key.{Key}
use Rattle.bdb_spelling.specs.of_text_format.declared.pairs.Key.TheVariants.{Number}
use Rattle.bdb_text.specs.DataLines.{IsDataAdded, line_reason}
use Rattle.bdb_text.specs.declared.data_pairs.Data.{Data}
use Rattle.bdb_text.specs.declared.data_pairs.Datum.{Datum}
use Rattle.bdb_text.specs.declared.data_pairs.PairAt.{PairAt}
use Rattle.bdb_text.specs.declared.data_pairs.Way.{Way}
use Rattle.bdb_spelling.specs.of_text_format.declared.faults.TextReason.{TextReason}
use Rattle.bdb_spelling.specs.of_text_format.declared.faults.TextReason.TheVariants.{KeyWithoutData, NoEnd}

-- one data line after the other, none has a reason
abbrev pub data_clean : Values → List (List ℕ) → List (List ℕ) → Bool
data_clean header before [] = true
data_clean header before (line ∷ lines) = is_none (data_line_reason header before line) && data_clean header (before ++ line ∷ []) lines

-- The lines from `start` on begin with data lines without a reason; the rest of them begins with this number.
pub record IsDataTo (header : Values) (lines : List (List ℕ)) (start : ℕ) (before rest : List (List ℕ)) (number : ℕ) : Type 0 where
  pub lines_are : lines ≡ before ++ rest
  pub within : list_any is_data_end before ≡ false
  pub clean : data_clean header [] before ≡ true
  pub number_is : number ≡ start + length before

-- the reason of the next line
abbrev pub data_reason : Values → List (List ℕ) → List (List ℕ) → Option TextReason
data_reason header before [] = Some NoEnd
data_reason header before (line ∷ lines) = if is_data_end line then data_end_reason header before else data_line_reason header before line

-- behind data lines without a reason stands one with this reason
pub record IsDataFault (header : Values) (text : List ℕ) (start : ℕ) (fault : TextFault) : Type 0 where
  pub before : List (List ℕ)
  pub rest : List (List ℕ)
  pub to : IsDataTo header (text_lines text) start before rest fault.line
  pub reason_is : data_reason header before rest ≡ Some fault.reason

-- a text begins with data lines that give these pairs, and with their end
pub record IsDataRead (header : Values) (text : List ℕ) (start : ℕ) (read : Data) : Type 0 where
  pub before : List (List ℕ)
  pub lines_are : text_lines text ≡ before ++ data_end ∷ text_lines read.rest.now
  pub within : list_any is_data_end before ≡ false
  pub pairs_are : pairs_read header start before ≡ Some read.pairs
  pub number_is : read.number ≡ start + length before + 1

-- Keys and data in turn.

-- data lines of even number, without a reason, give these pairs
pub record IsKeyedTo (header : Values) (lines : List (List ℕ)) (start : ℕ) (pairs : List TextPair) (rest : List (List ℕ)) (number : ℕ) : Type 0 where
  pub before : List (List ℕ)
  pub to : IsDataTo header lines start before rest number
  pub even : has_odd_length before ≡ false
  pub pairs_are : keyed_pairs (prints header) (has_record_type header) start before ≡ Some pairs

-- a text begins with the line of a datum, which was added to a run
pub record IsDatum (print : Bool) (text old new : List ℕ) (datum : Datum) : Type 0 where
  pub line : List ℕ
  pub lines_are : text_lines text ≡ line ∷ text_lines datum.rest.now
  pub other : is_data_end line ≡ false
  pub added : IsDataAdded old new (data_read print line) datum.span

-- a line is that of a key, and the text behind it begins with its datum's: both are in a run, as a pair
pub record IsKeyedRead (print numbered : Bool) (line behind : List ℕ) (number : ℕ) (old new : List ℕ) (read : PairAt) : Type 0 where
  pub key : Key
  pub value : List ℕ
  pub value_line : List ℕ
  pub key_is : key_read numbered (data_read print line) ≡ Some key
  pub lines_are : text_lines behind ≡ value_line ∷ text_lines read.rest.now
  pub other : is_data_end value_line ≡ false
  pub value_is : data_read print value_line ≡ Some value
  pub kept : Keeps old new
  pub put : IsPairPut new (pair_with key value number) read.place
  pub number_is : read.number ≡ number + 2

-- the reason of the line behind a key
abbrev pub datum_reason : Bool → List (List ℕ) → Option TextReason
datum_reason print [] = Some NoEnd
datum_reason print (line ∷ lines) = if is_data_end line then Some KeyWithoutData else line_reason print false line

-- the line of this number, where a datum must stand, has a reason
pub record IsDatumFault (print : Bool) (text : List ℕ) (number : ℕ) (fault : TextFault) : Type 0 where
  pub line_is : fault.line ≡ number
  pub reason_is : datum_reason print (text_lines text) ≡ Some fault.reason

-- the first fault of a key's line and its datum's
abbrev pub IsKeyedFault : Bool → Bool → List ℕ → List ℕ → ℕ → TextFault → Type 0
IsKeyedFault print numbered line behind number fault =
    ((fault.line ≡ number) × (line_reason print numbered line ≡ Some fault.reason))
    ⊎ ((key : Key) × ((key_read numbered (data_read print line) ≡ Some key) × IsDatumFault print behind (number + 1) fault))

-- Data alone.

-- data lines without a reason give these pairs, whose records are numbered from 1
pub record IsCountedTo (header : Values) (lines : List (List ℕ)) (start : ℕ) (pairs : List TextPair) (rest : List (List ℕ)) (number record_number : ℕ) : Type 0
  where
    pub before : List (List ℕ)
    pub to : IsDataTo header lines start before rest number
    pub pairs_are : counted_pairs (prints header) 1 start before ≡ Some pairs
    pub record_is : record_number ≡ 1 + length before

-- a line is that of a datum, which is in a run, as that of a record with this number
pub record IsCountedRead (print : Bool) (line behind : List ℕ) (number record_number : ℕ) (old new : List ℕ) (read : PairAt) : Type 0 where
  pub value : List ℕ
  pub value_is : data_read print line ≡ Some value
  pub rest_is : read.rest.now ≡ behind
  pub kept : Keeps old new
  pub put : IsPairPut new (pair_with (Number record_number) value number) read.place
  pub number_is : read.number ≡ number + 1

-- the fault of a datum's line
abbrev pub IsCountedFault : Bool → List ℕ → ℕ → TextFault → Type 0
IsCountedFault print line number fault = (fault.line ≡ number) × (line_reason print false line ≡ Some fault.reason)

-- Both.

abbrev pub IsReadBy : Bool → Bool → Bool → List ℕ → List ℕ → ℕ → ℕ → List ℕ → List ℕ → PairAt → Type 0
IsReadBy true numbered print line behind number record_number old new read = IsKeyedRead print numbered line behind number old new read
IsReadBy false numbered print line behind number record_number old new read = IsCountedRead print line behind number record_number old new read

-- a line is the first of a pair, which is in a run
abbrev pub IsPairRead : Way → List ℕ → List ℕ → ℕ → ℕ → List ℕ → List ℕ → PairAt → Type 0
IsPairRead way line behind number record_number old new read = IsReadBy way.keyed way.numbered way.print line behind number record_number old new read

abbrev pub IsFaultBy : Bool → Bool → Bool → List ℕ → List ℕ → ℕ → TextFault → Type 0
IsFaultBy true numbered print line behind number fault = IsKeyedFault print numbered line behind number fault
IsFaultBy false numbered print line behind number fault = IsCountedFault print line number fault

-- the first fault of the lines of a pair
abbrev pub IsPairFault : Way → List ℕ → List ℕ → ℕ → TextFault → Type 0
IsPairFault way line behind number fault = IsFaultBy way.keyed way.numbered way.print line behind number fault

abbrev pub IsToBy : Bool → Values → List (List ℕ) → ℕ → List TextPair → List (List ℕ) → ℕ → Type 0
IsToBy true header lines start pairs rest number = IsKeyedTo header lines start pairs rest number
IsToBy false header lines start pairs rest number = IsCountedTo header lines start pairs rest number (length pairs + 1)

-- the data lines so far give these pairs, and are whole pairs
abbrev pub IsPairsTo : Values → List (List ℕ) → ℕ → List TextPair → List (List ℕ) → ℕ → Type 0
IsPairsTo header lines start pairs rest number = IsToBy (has_keys header) header lines start pairs rest number
