-- How bytes are spelled in a text: by two hexadecimal digits each, or printed. Source: docs/FORMAT.md, "Spellings".
use Rattle.std.specs.Prelude.{ℕ, zero, suc, ◌+◌, ◌-◌, ◌*◌, ◌/◌, ◌%◌, nat_lt, nat_le, ◌==◌, ◌&&◌, if◌then◌else◌, Bool, true, false, List, [], ◌∷◌, length}
use Rattle.std.specs.Prelude.{Option, Some, None}
use Rattle.std.specs.List.{flat_map}

-- the digit of a number below 16
abbrev pub hex_digit : ℕ → ℕ
hex_digit n = if nat_lt n 10 then 48 + n else 87 + n

abbrev pub two_digits : ℕ → List ℕ
two_digits byte = hex_digit (byte / 16) ∷ hex_digit (byte % 16) ∷ []

-- a backslash is doubled, a byte from space to tilde stands for itself, another is a backslash and two digits
abbrev pub printed : ℕ → List ℕ
printed byte = if byte == 92 then 92 ∷ 92 ∷ [] else (if nat_le 32 byte && nat_le byte 126 then byte ∷ [] else 92 ∷ two_digits byte)

-- the spelling of bytes: printed, or by digits alone
unfoldable pub spelling : Bool → List ℕ → List ℕ
spelling true bytes = flat_map printed bytes
spelling false bytes = flat_map two_digits bytes

-- Reading.

-- the value of a digit, in either case
abbrev pub digit_value : ℕ → Option ℕ
digit_value byte =
    if nat_le 48 byte && nat_le byte 57 then Some (byte - 48)
    else (if nat_le 97 byte && nat_le byte 102 then Some (byte - 87)
    else (if nat_le 65 byte && nat_le byte 70 then Some (byte - 55)
    else None))

abbrev pub byte_of_digits : Option ℕ → Option ℕ → Option ℕ
byte_of_digits (Some high) (Some low) = Some (16 * high + low)
byte_of_digits (Some high) None = None
byte_of_digits None low = None

-- a byte before a text, where it is there
abbrev pub byte_before : Option ℕ → List ℕ → Option (ℕ × List ℕ)
byte_before None text = None
byte_before (Some byte) text = Some (byte, text)

-- the byte of the two digits that a text begins with, and the text behind them
abbrev pub digits_unit : List ℕ → Option (ℕ × List ℕ)
digits_unit [] = None
digits_unit (high ∷ []) = None
digits_unit (high ∷ low ∷ text) = byte_before (byte_of_digits (digit_value high) (digit_value low)) text

-- the unit behind a backslash: another backslash, or two digits
abbrev pub escaped_unit : List ℕ → Option (ℕ × List ℕ)
escaped_unit [] = None
escaped_unit (byte ∷ text) = if byte == 92 then Some (92, text) else digits_unit (byte ∷ text)

-- the unit that a printed text begins with: a backslash and what it escapes, or a byte that stands for itself
abbrev pub printed_unit : List ℕ → Option (ℕ × List ℕ)
printed_unit [] = None
printed_unit (byte ∷ text) = if byte == 92 then escaped_unit text else Some (byte, text)

-- the byte that the first unit of a text spells, printed or by digits alone, and the text behind that unit
abbrev pub next_unit : Bool → List ℕ → Option (ℕ × List ℕ)
next_unit true text = printed_unit text
next_unit false text = digits_unit text

-- a byte before the bytes that follow, where these are there
abbrev pub before : ℕ → Option (List ℕ) → Option (List ℕ)
before byte None = None
before byte (Some bytes) = Some (byte ∷ bytes)

-- the bytes of a text's units, of which there are at most so many
abbrev pub units_read : Bool → ℕ → List ℕ → Option (List ℕ)
units_read print most [] = Some []
units_read print zero (byte ∷ text) = None
units_read print (suc most) (byte ∷ text) =
    elim (next_unit print (byte ∷ text)) [ None ↦ None | Some unit ↦ before unit.0 (units_read print most unit.1) ]

-- the bytes that a text spells, printed or by digits alone: no more than it has bytes
unfoldable pub bytes_spelled : Bool → List ℕ → Option (List ℕ)
bytes_spelled print text = units_read print (length text) text
