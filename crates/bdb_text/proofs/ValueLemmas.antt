-- Values that are written are read.
use Rattle.std.proofs.Common.{◌≡◌, ℕ, ◌+◌, ◌-◌, ◌*◌, ◌/◌, ◌%◌, ◌^◌, ◌<◌, ◌==◌, ◌&&◌, Bool, true, false, if◌then◌else◌, List, [], ◌∷◌, length, map, Some, refl}
use Rattle.std.proofs.Common.{ap, ◌∙◌, arith, All, decimal, nat_le}
use Rattle.std.specs.List.{fold, list_all, flat_map}
use Rattle.std.proofs.lemmas.Bool.{and_parts, and_from, le-leb, leb-true, or_from}
use Rattle.std.proofs.lemmas.Str.Parse.{IsDigitsTest, IsNumeralModel, numerals_by_fold}
use Rattle.std.proofs.lemmas.Fmt.{digits_decimal, digits_value-decimal, decimal_nonempty, length-decimal-le}
use Rattle.bdb_spelling.specs.of_format.Terms.{BytesKey, ListKey, NumberKey, digits_value, is_digit, is_number}
use Rattle.bdb_spelling.specs.of_text_format.Terms.{data_line, data_read, hex_digit, key_bytes, key_read, keyed_pairs, number_read, pair_lines, printed}
use Rattle.bdb_spelling.specs.of_text_format.Terms.{spelling, two_digits}
use Rattle.std.proofs.lemmas.Bool.{ne_eqb}
use Rattle.std.proofs.lemmas.Bool.Decides.{nat_tests}
use Rattle.std.proofs.lemmas.List.Folds.{list_any-append}
use Rattle.std.proofs.lemmas.List.Elements.{All-head, All-tail, All-nil, All-cons}
use Rattle.bdb_text.proofs.LawLemmas.{spelled_read}
use Rattle.bdb_text.specs.WrittenLaw.{AreBytes, IsKeyOf, IsPairOf, key_in, pair_in}
use Rattle.bdb_text.proofs.LineLemmas.{has_feed}
use Rattle.bdb_spelling.specs.of_text_format.declared.pairs.TextPair.{TextPair}
use Rattle.bdb_spelling.specs.of_text_format.declared.pairs.Key.{Key}
use Rattle.bdb_spelling.specs.of_text_format.declared.pairs.Key.TheVariants.{Bytes, Number}

-- Decimal digits.

tells : IsDigitsTest (λ text. list_all is_digit text ≡ true)
tells = record {
  empty = refl;
  parts = λ c cs e. let k = and_parts (is_digit c) (list_all is_digit cs) e in let m = and_parts (nat_le 48 c) (nat_le c 57) k.0 in
      ((leb-true 48 c m.0, leb-true c 57 m.1), k.1);
  more = λ c cs k e. and_from (is_digit c) (list_all is_digit cs) (and_from (nat_le 48 c) (nat_le c 57) (le-leb 48 c k.0) (le-leb c 57 k.1)) e;
}

digits_model : IsNumeralModel (λ text. list_all is_digit text ≡ true) digits_value
digits_model = numerals_by_fold (λ text. list_all is_digit text ≡ true) tells (λ n text. fold (λ (n byte : ℕ). 10 * n + (byte - 48)) n text)
    (record { empty = λ n. refl; more = λ n c cs h. ap (λ (m : ℕ). fold (λ (n byte : ℕ). 10 * n + (byte - 48)) m cs) (omega arith) })

pub is_number-decimal : (n : ℕ) → n < 2 ^ 32 → is_number (decimal n) ≡ true
is_number-decimal n h =
    let few = length-decimal-le 10 n (omega arith) (omega arith) (omega arith) in
    let some = decimal_nonempty n (omega arith) in
    let digits = digits_decimal digits_model n (omega arith) in
    rw (le-leb 1 (length (decimal n)) some, le-leb (length (decimal n)) 10 few, digits) refl

pub value-decimal : (n : ℕ) → n < 2 ^ 32 → digits_value (decimal n) ≡ n
value-decimal n h = digits_value-decimal digits_model n (omega arith)

pub number_read-decimal : (n : ℕ) → n < 2 ^ 32 → number_read (decimal n) ≡ Some n
number_read-decimal n h =
    rw (is_number-decimal n h, value-decimal n h, le-leb n 4294967295 (omega arith)) refl

-- No line feeds.

digits_no_feed : (text : List ℕ) → list_all is_digit text ≡ true → has_feed text ≡ false
digits_no_feed [] h = refl
digits_no_feed (c ∷ text) h =
    let k = and_parts (is_digit c) (list_all is_digit text) h in
    let m = and_parts (nat_le 48 c) (nat_le c 57) k.0 in
    let low = leb-true 48 c m.0 in
    or_from (c == 10) (has_feed text) (ne_eqb c 10 (omega arith)) (digits_no_feed text k.1)

pub decimal-no_feed : (n : ℕ) → n < 2 ^ 32 → has_feed (decimal n) ≡ false
decimal-no_feed n h = digits_no_feed (decimal n) (digits_decimal digits_model n (omega arith))

hex_digit-no_feed : (d : ℕ) → (hex_digit d == 10) ≡ false
hex_digit-no_feed d = grind (arith, nat_tests)

two_digits-no_feed : (byte : ℕ) → has_feed (two_digits byte) ≡ false
two_digits-no_feed byte = rw (hex_digit-no_feed (byte / 16), hex_digit-no_feed (byte % 16)) refl

printed-no_feed_by : (byte : ℕ) (same plain : Bool) → (nat_le 32 byte && nat_le byte 126) ≡ plain
    → has_feed (if same then 92 ∷ 92 ∷ [] else (if plain then byte ∷ [] else 92 ∷ two_digits byte)) ≡ false
printed-no_feed_by byte true plain h = refl
printed-no_feed_by byte false true h =
    let low = leb-true 32 byte (and_parts (nat_le 32 byte) (nat_le byte 126) h).0 in
    or_from (byte == 10) false (ne_eqb byte 10 (omega arith)) refl
printed-no_feed_by byte false false h = two_digits-no_feed byte

printed-no_feed : (byte : ℕ) → has_feed (printed byte) ≡ false
printed-no_feed byte = printed-no_feed_by byte (byte == 92) (nat_le 32 byte && nat_le byte 126) refl

flat_no_feed : (f : ℕ → List ℕ) → ((byte : ℕ) → has_feed (f byte) ≡ false) → (bytes : List ℕ) → has_feed (flat_map f bytes) ≡ false
flat_no_feed f h [] = refl
flat_no_feed f h (byte ∷ bytes) =
    list_any-append (λ (b : ℕ). b == 10) (f byte) (flat_map f bytes)
    ∙ or_from (has_feed (f byte)) (has_feed (flat_map f bytes)) (h byte) (flat_no_feed f h bytes)

pub spelling-no_feed : (print : Bool) (bytes : List ℕ) → has_feed (spelling print bytes) ≡ false
unfolding spelling
spelling-no_feed true bytes = flat_no_feed printed printed-no_feed bytes
spelling-no_feed false bytes = flat_no_feed two_digits two_digits-no_feed bytes

-- Bytes of digits.

digits_are_bytes : (text : List ℕ) → list_all is_digit text ≡ true → AreBytes text
digits_are_bytes [] h = All-nil (λ (byte : ℕ). byte < 256)
digits_are_bytes (c ∷ text) h =
    let k = and_parts (is_digit c) (list_all is_digit text) h in
    let m = and_parts (nat_le 48 c) (nat_le c 57) k.0 in
    let high = leb-true c 57 m.1 in
    All-cons (λ (byte : ℕ). byte < 256) c text (omega arith) (digits_are_bytes text k.1)

pub decimal-bytes : (n : ℕ) → n < 2 ^ 32 → AreBytes (decimal n)
decimal-bytes n h = digits_are_bytes (decimal n) (digits_decimal digits_model n (omega arith))

-- Pairs.

pub data_read-line : (print : Bool) (bytes : List ℕ) → AreBytes bytes → data_read print (data_line print bytes) ≡ Some bytes
data_read-line print bytes h = spelled_read print bytes h

abbrev key_of : ListKey → Key
key_of (BytesKey bytes) = Bytes bytes
key_of (NumberKey number) = Number number

key_in-key_of : (key : ListKey) → key_in (key_of key) ≡ key
key_in-key_of (BytesKey bytes) = refl
key_in-key_of (NumberKey number) = refl

key_read-line : (print numbered : Bool) (key : ListKey) → IsKeyOf numbered key
    → key_read numbered (data_read print (data_line print (key_bytes key))) ≡ Some (key_of key)
key_read-line print true (BytesKey bytes) h = absurd h
key_read-line print true (NumberKey n) h =
    let read = data_read-line print (decimal n) (decimal-bytes n h) in
    let value = value-decimal n h in
    rw (read, is_number-decimal n h, value, le-leb n 4294967295 (omega arith)) refl
key_read-line print false (BytesKey bytes) h = ap (key_read false) (data_read-line print bytes h)
key_read-line print false (NumberKey n) h = absurd h

-- the pairs of a list, the first on this line
abbrev pub pairs_at : ℕ → List (ListKey × List ℕ) → List TextPair
pairs_at at [] = []
pairs_at at ((key, value) ∷ list) = record { key = key_of key; value = value; line = at } ∷ pairs_at (at + 2) list

pub keyed_pairs-lines : (print numbered : Bool) (at : ℕ) (list : List (ListKey × List ℕ)) → All (IsPairOf numbered) list
    → keyed_pairs print numbered at (flat_map (pair_lines print) list) ≡ Some (pairs_at at list)
keyed_pairs-lines print numbered at [] h = refl
keyed_pairs-lines print numbered at ((key, value) ∷ list) h =
    let first = All-head (IsPairOf numbered) (key, value) list h in
    let rest = keyed_pairs-lines print numbered (at + 2) list (All-tail (IsPairOf numbered) (key, value) list h) in
    rw (key_read-line print numbered key first.0, data_read-line print value first.1, rest) refl

pub pairs_at-list : (at : ℕ) (list : List (ListKey × List ℕ)) → map pair_in (pairs_at at list) ≡ list
pairs_at-list at [] = refl
pairs_at-list at ((key, value) ∷ list) = rw (key_in-key_of key, pairs_at-list (at + 2) list) refl
