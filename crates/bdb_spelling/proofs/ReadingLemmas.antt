-- What a text begins with.
use Rattle.std.proofs.Common.{◌≡◌, ◌≢◌, ℕ, Bool, true, List, [], ◌∷◌, length, ne_eqb, Option, Some, None, refl, sym, ap, ◌∙◌, is_some}
use Rattle.std.proofs.lemmas.List.{nil_from_length}
use Rattle.bdb_text_format.specs.Terms.{byte_before, byte_of_digits, bytes_spelled, digit_value, digits_unit, escaped_unit, printed_unit}
use Rattle.bdb_text_format.proofs.UnitLemmas.{read_empty}

-- The first unit.

-- no text has length 0 but the empty one
pub digits_none : (text : List ℕ) → length text ≡ 0 → None ≡ digits_unit text
digits_none text none = ap digits_unit (sym (nil_from_length text none))

pub digits_odd : (text : List ℕ) (high : ℕ) (behind : List ℕ) → text ≡ high ∷ behind → length behind ≡ 0 → None ≡ digits_unit text
digits_odd text high behind is none = rw (is, nil_from_length behind none) refl

pub digits_are : (text : List ℕ) (high low : ℕ) (behind rest : List ℕ) (byte : Option ℕ) → text ≡ high ∷ behind → behind ≡ low ∷ rest
    → byte ≡ byte_of_digits (digit_value high) (digit_value low) → byte_before byte rest ≡ digits_unit text
digits_are text high low behind rest byte is more value = rw (is, more) (ap (λ it. byte_before it rest) value)

pub escaped_none : (text : List ℕ) → length text ≡ 0 → None ≡ escaped_unit text
escaped_none text none = ap escaped_unit (sym (nil_from_length text none))

pub escaped_backslash : (text : List ℕ) (byte : ℕ) (rest : List ℕ) → text ≡ byte ∷ rest → byte ≡ 92 → Some (byte, rest) ≡ escaped_unit text
escaped_backslash text byte rest is same = rw (is, same) refl

pub escaped_digits : (text : List ℕ) (byte : ℕ) (rest : List ℕ) → text ≡ byte ∷ rest → byte ≢ 92 → digits_unit text ≡ escaped_unit text
escaped_digits text byte rest is other = rw (is, ne_eqb byte 92 other) refl

pub printed_none : (text : List ℕ) → length text ≡ 0 → None ≡ printed_unit text
printed_none text none = ap printed_unit (sym (nil_from_length text none))

pub printed_escape : (text : List ℕ) (byte : ℕ) (rest : List ℕ) → text ≡ byte ∷ rest → byte ≡ 92 → escaped_unit rest ≡ printed_unit text
printed_escape text byte rest is same = rw (is, same) refl

pub printed_itself : (text : List ℕ) (byte : ℕ) (rest : List ℕ) → text ≡ byte ∷ rest → byte ≢ 92 → Some (byte, rest) ≡ printed_unit text
printed_itself text byte rest is other = rw (is, ne_eqb byte 92 other) refl

-- Reading to the end.

pub spelled_empty : (print : Bool) (text : List ℕ) → length text ≡ 0 → bytes_spelled print text ≡ Some []
spelled_empty print text none = ap (bytes_spelled print) (nil_from_length text none) ∙ read_empty print

-- a text whose rest is empty is a spelling where its rest is one
pub is_some-empty : (print : Bool) (text rest : List ℕ) → is_some (bytes_spelled print text) ≡ is_some (bytes_spelled print rest) → length rest ≡ 0
    → true ≡ is_some (bytes_spelled print text)
is_some-empty print text rest e h = sym (e ∙ ap is_some (spelled_empty print rest h))
