-- What was spelled is read.
use Rattle.std.proofs.Common.{◌≡◌, ◌≢◌, ℕ, ◌+◌, ◌*◌, ◌/◌, ◌%◌, ◌<◌, ◌==◌, ◌&&◌, if◌then◌else◌, nat_le, Bool, true, false, List, [], ◌∷◌, ◌++◌, Option, Some}
use Rattle.std.proofs.Common.{None, refl, sym, ap, ◌∙◌, arith, All, flat_map}
use Rattle.std.proofs.lemmas.Bool.{eqb-true}
use Rattle.std.proofs.lemmas.List.Elements.{All-head, All-tail}
use Rattle.std.proofs.lemmas.Bool.Decides.{nat_tests}
use Rattle.bdb_spelling.specs.of_text_format.Terms.{before, byte_before, byte_of_digits, bytes_spelled, digit_value, hex_digit, next_unit, printed}
use Rattle.bdb_spelling.specs.of_text_format.Terms.{printed_unit, spelling, two_digits}
use Rattle.bdb_spelling.proofs.of_text_format.UnitLemmas.{read_empty, read_unit}
use Rattle.bdb_text.specs.Laws.{SpelledIsRead}
use Rattle.bdb_spelling.proofs.ReadingLemmas.{escaped_digits}

-- the unit that spells a byte
abbrev unit : Bool → ℕ → List ℕ
unit true b = printed b
unit false b = two_digits b

-- the number of a byte
abbrev IsByte : ℕ → Type 0
IsByte b = b < 256

digit_value-hex_digit : (d : ℕ) → d < 16 → digit_value (hex_digit d) ≡ Some d
digit_value-hex_digit d h = grind (arith, nat_tests)

-- no digit is a backslash
no_backslash : (d : ℕ) → d < 16 → hex_digit d ≢ 92
no_backslash d h e =
    let none : None ≡ Some d = ap digit_value (sym e) ∙ digit_value-hex_digit d h in
    cc

-- the value of a byte's two digits
byte_of_digits-two : (b : ℕ) → b < 256 → byte_of_digits (digit_value (hex_digit (b / 16))) (digit_value (hex_digit (b % 16))) ≡ Some b
byte_of_digits-two b h =
    let high = digit_value-hex_digit (b / 16) (omega arith) in
    let low = digit_value-hex_digit (b % 16) (omega arith) in
    let whole : 16 * (b / 16) + b % 16 ≡ b = omega arith in
    rw (high, low) (ap Some whole)

-- the spelling of a byte is a unit
printed_unit_by : (b : ℕ) (rest : List ℕ) → b < 256 → (same plain : Bool) → (b == 92) ≡ same
    → printed_unit ((if same then 92 ∷ 92 ∷ [] else (if plain then b ∷ [] else 92 ∷ two_digits b)) ++ rest) ≡ Some (b, rest)
printed_unit_by b rest h true plain e = ap (λ (x : ℕ). Some (x, rest)) (sym (eqb-true b 92 e))
printed_unit_by b rest h false true e = rw e refl
printed_unit_by b rest h false false e =
    sym (escaped_digits _ (hex_digit (b / 16)) (hex_digit (b % 16) ∷ rest) refl (no_backslash (b / 16) (omega arith)))
    ∙ ap (λ (byte : Option ℕ). byte_before byte rest) (byte_of_digits-two b h)

unit_spelled : (print : Bool) (b : ℕ) (rest : List ℕ) → b < 256 → next_unit print (unit print b ++ rest) ≡ Some (b, rest)
unit_spelled true b rest h = printed_unit_by b rest h (b == 92) (nat_le 32 b && nat_le b 126) refl
unit_spelled false b rest h = ap (λ (byte : Option ℕ). byte_before byte rest) (byte_of_digits-two b h)

-- bytes that were spelled are read
all_spelled : (print : Bool) (bytes : List ℕ) → All IsByte bytes → bytes_spelled print (flat_map (unit print) bytes) ≡ Some bytes
all_spelled print [] h = read_empty print
all_spelled print (b ∷ bytes) h =
    read_unit print (unit print b ++ flat_map (unit print) bytes) b (flat_map (unit print) bytes)
    (unit_spelled print b (flat_map (unit print) bytes) (All-head IsByte b bytes h))
    ∙ ap (before b) (all_spelled print bytes (All-tail IsByte b bytes h))

pub spelled_read : SpelledIsRead
unfolding spelling
spelled_read true bytes h = all_spelled true bytes h
spelled_read false bytes h = all_spelled false bytes h
