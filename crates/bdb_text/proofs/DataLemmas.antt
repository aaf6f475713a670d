-- Data lines have no reason exactly where they are pairs.
use Rattle.std.proofs.Common.{◌≡◌, ℕ, ◌+◌, ◌%◌, ◌==◌, ◌&&◌, ◌||◌, Bool, true, false, not, if◌then◌else◌, List, [], ◌∷◌, ◌++◌, length, Option, Some, None}
use Rattle.std.proofs.Common.{is_none, is_some, refl, sym, ap, ◌∙◌, append_assoc, arith, length-append, ◌≢◌, eq-eqb}
use Rattle.std.proofs.lemmas.Bool.{eqb-true, eqb-false, ne_eqb}
use Rattle.bdb_spelling.specs.of_format.Terms.{digits_value}
use Rattle.std.proofs.lemmas.List.{append-nil}
use Rattle.bdb_spelling.specs.of_text_format.declared.pairs.Key.{Key}
use Rattle.bdb_spelling.specs.of_text_format.declared.pairs.Key.TheVariants.{Number}
use Rattle.bdb_spelling.specs.of_text_format.Terms.{Values, begins_with_space, bytes_spelled, counted_pairs, data_end_reason, data_line_reason, data_read}
use Rattle.bdb_spelling.specs.of_text_format.Terms.{has_keys, has_odd_length, has_record_type, is_key, is_record_number, key_read, keyed_pairs, pairs_read}
use Rattle.bdb_spelling.specs.of_text_format.Terms.{prints, spelled_in, with_text_pair}
use Rattle.bdb_text.specs.DataTo.{data_clean}
use Rattle.std.proofs.Math.Bool.{and-false, and-true}
use Rattle.bdb_text.proofs.BoolLemmas.{none_row, some_if}
use Rattle.bdb_spelling.specs.of_text_format.declared.pairs.TextPair.{TextPair}
use Rattle.bdb_spelling.specs.of_text_format.declared.faults.TextReason.{TextReason}
use Rattle.bdb_spelling.specs.of_text_format.declared.faults.TextReason.TheVariants.{NoSpace, BadDigit, BadEscape, KeyWithoutData, BadNumber}

-- A line.

by_number : (key records number : Bool)
    → is_none {T = TextReason} (if key && records && not number then Some BadNumber else None) ≡ (not (key && records) || number)
by_number true true true = refl
by_number true true false = refl
by_number true false number = refl
by_number false records number = refl

by_spelled : (reason : TextReason) (key records : Bool) (spelled : Option (List ℕ))
    → is_none (if is_none spelled then Some reason else (if key && records && not (is_record_number spelled) then Some BadNumber else None))
    ≡ (is_some spelled && (not (key && records) || is_record_number spelled))
by_spelled reason key records None = refl
by_spelled reason key records (Some bytes) = by_number key records (is_record_number (Some bytes))

by_rows : (space print key records : Bool) (line : List ℕ)
    → is_none {T = TextReason} (if not space then Some NoSpace else (if not print && is_none (spelled_in false line) then Some BadDigit
    else (if print && is_none (spelled_in true line) then Some BadEscape else
    (if key && records && not (is_record_number (spelled_in print line)) then Some BadNumber else None))))
    ≡ (space && (is_some (spelled_in print line) && (not (key && records) || is_record_number (spelled_in print line))))
by_rows false print key records line = refl
by_rows true true key records line = by_spelled BadEscape key records (spelled_in true line)
by_rows true false key records line = by_spelled BadDigit key records (spelled_in false line)

none-data_line_reason : (header : Values) (before : List (List ℕ)) (line : List ℕ)
    → is_none (data_line_reason header before line)
    ≡ (begins_with_space line && (is_some
    (spelled_in (prints header) line) && (not (is_key header before && has_record_type header) || is_record_number (spelled_in (prints header) line))))
none-data_line_reason header before line = by_rows (begins_with_space line) (prints header) (is_key header before) (has_record_type header) line

some-data_read : (print : Bool) (line : List ℕ) → is_some (data_read print line) ≡ (begins_with_space line && is_some (spelled_in print line))
some-data_read print [] = refl
some-data_read print (byte ∷ text) = some_if (byte == 32) (bytes_spelled print text)

some-number_key : (bytes : List ℕ) (number : Bool) → is_some {T = Key} (if number then Some (Number (digits_value bytes)) else None) ≡ (true && number)
some-number_key bytes true = refl
some-number_key bytes false = refl

some-key_spelled : (numbered : Bool) (bytes : Option (List ℕ)) → is_some (key_read numbered bytes) ≡ (is_some bytes && (not numbered || is_record_number bytes))
some-key_spelled true None = refl
some-key_spelled true (Some bytes) = some-number_key bytes (is_record_number (Some bytes))
some-key_spelled false None = refl
some-key_spelled false (Some bytes) = refl

key_if : (numbered space : Bool) (bytes : Option (List ℕ))
    → is_some (key_read numbered (if space then bytes else None)) ≡ (space && (is_some bytes && (not numbered || is_record_number bytes)))
key_if numbered true bytes = some-key_spelled numbered bytes
key_if true false bytes = refl
key_if false false bytes = refl

some-key_read : (print numbered : Bool) (line : List ℕ)
    → is_some (key_read numbered (data_read print line))
    ≡ (begins_with_space line && (is_some (spelled_in print line) && (not numbered || is_record_number (spelled_in print line))))
some-key_read print true [] = refl
some-key_read print false [] = refl
some-key_read print numbered (byte ∷ text) = key_if numbered (byte == 32) (bytes_spelled print text)

-- a line that is no key
pub none-value : (header : Values) (before : List (List ℕ)) (line : List ℕ) → is_key header before ≡ false
    → is_none (data_line_reason header before line) ≡ is_some (data_read (prints header) line)
none-value header before line h =
    none-data_line_reason header before line
    ∙ ap (λ (b : Bool). begins_with_space
    line && (is_some (spelled_in (prints header) line) && (not (b && has_record_type header) || is_record_number (spelled_in (prints header) line)))) h
    ∙ ap (λ (b : Bool). begins_with_space line && b) (and-true (is_some (spelled_in (prints header) line)))
    ∙ sym (some-data_read (prints header) line)

pub none-key : (header : Values) (before : List (List ℕ)) (line : List ℕ) → is_key header before ≡ true
    → is_none (data_line_reason header before line) ≡ is_some (key_read (has_record_type header) (data_read (prints header) line))
none-key header before line h =
    none-data_line_reason header before line
    ∙ ap (λ (b : Bool). begins_with_space
    line && (is_some (spelled_in (prints header) line) && (not (b && has_record_type header) || is_record_number (spelled_in (prints header) line)))) h
    ∙ sym (some-key_read (prints header) (has_record_type header) line)

-- Lines in turn.

some-with_text_pair : (key : Option Key) (value : Option (List ℕ)) (at : ℕ) (pairs : Option (List TextPair))
    → is_some (with_text_pair key value at pairs) ≡ (is_some key && (is_some value && is_some pairs))
some-with_text_pair (Some key) (Some value) at (Some pairs) = refl
some-with_text_pair (Some key) (Some value) at None = refl
some-with_text_pair (Some key) None at pairs = refl
some-with_text_pair None value at pairs = refl

one_more : (lines : List (List ℕ)) (line : List ℕ) → length (lines ++ line ∷ []) ≡ length lines + 1
one_more lines line = length-append lines (line ∷ [])

pub odd_more : (lines : List (List ℕ)) (line : List ℕ) → has_odd_length lines ≡ false → has_odd_length (lines ++ line ∷ []) ≡ true
odd_more lines line h =
    let n = one_more lines line in
    let e : length lines % 2 ≢ 1 = eqb-false (length lines % 2) 1 h in
    rw n (eq-eqb ((length lines + 1) % 2) 1 (omega arith))

pub even_more : (lines : List (List ℕ)) (line : List ℕ) → has_odd_length lines ≡ true → has_odd_length (lines ++ line ∷ []) ≡ false
even_more lines line h =
    let n = one_more lines line in
    let e : length lines % 2 ≡ 1 = eqb-true (length lines % 2) 1 h in
    rw n (ne_eqb ((length lines + 1) % 2) 1 (omega arith))

none-data_end_reason : (header : Values) (lines : List (List ℕ)) → is_none (data_end_reason header lines) ≡ not (has_keys header && has_odd_length lines)
none-data_end_reason header lines =
    none_row (has_keys header && has_odd_length lines) KeyWithoutData None ∙ and-true (not (has_keys header && has_odd_length lines))

pairs_algebra : (k v c r : Bool) → (k && (v && (c && r))) ≡ ((k && (v && c)) && r)
pairs_algebra true true c r = refl
pairs_algebra true false c r = refl
pairs_algebra false v c r = refl

pub keyed_iff : (header : Values) (at : ℕ) (before lines : List (List ℕ)) → has_keys header ≡ true → has_odd_length before ≡ false
    → is_some (keyed_pairs (prints header) (has_record_type header) at lines)
    ≡ (data_clean header before lines && is_none (data_end_reason header (before ++ lines)))
keyed_iff header at before [] keys even =
    let none = none-data_end_reason header (before ++ []) in
    let nil = append-nil before in
    rw (none, nil, keys, even) refl
keyed_iff header at before (key ∷ []) keys even =
    let none = none-data_end_reason header (before ++ key ∷ []) in
    let odd = odd_more before key even in
    let end_ : is_none (data_end_reason header (before ++ key ∷ [])) ≡ false = none ∙ rw (keys, odd) refl in
    rw end_ (sym (and-false (is_none (data_line_reason header before key) && true)))
keyed_iff header at before (key ∷ value ∷ lines) keys even =
    let odd = odd_more before key even in
    let key_place : is_key header before ≡ true = rw (keys, even) refl in
    let value_place : is_key header (before ++ key ∷ []) ≡ false = rw (keys, odd) refl in
    let more : ((before ++ key ∷ []) ++ value ∷ []) ++ lines ≡ before ++ key ∷ value ∷ lines =
    append_assoc (before ++ key ∷ []) (value ∷ []) lines ∙ append_assoc before (key ∷ []) (value ∷ lines) in
    let rest = keyed_iff header (at + 2) ((before ++ key ∷ []) ++ value ∷ []) lines keys (even_more (before ++ key ∷ []) value odd) in
    let k = none-key header before key key_place in
    let v = none-value header (before ++ key ∷ []) value value_place in
    some-with_text_pair (key_read (has_record_type header) (data_read (prints header) key)) (data_read (prints header) value) at
    (keyed_pairs (prints header) (has_record_type header) (at + 2) lines)
    ∙ rw (← k, ← v, rest, more) (pairs_algebra (is_none (data_line_reason header before key)) (is_none (data_line_reason header (before ++ key ∷ []) value))
    (data_clean header ((before ++ key ∷ []) ++ value ∷ []) lines) (is_none (data_end_reason header (before ++ key ∷ value ∷ lines))))

pub counted_iff : (header : Values) (number at : ℕ) (before lines : List (List ℕ)) → has_keys header ≡ false
    → is_some (counted_pairs (prints header) number at lines) ≡ data_clean header before lines
counted_iff header number at before [] keys = refl
counted_iff header number at before (line ∷ lines) keys =
    let place : is_key header before ≡ false = rw keys refl in
    let v = none-value header before line place in
    some-with_text_pair (Some (Number number)) (data_read (prints header) line) at (counted_pairs (prints header) (number + 1) (at + 1) lines)
    ∙ rw (← v, counted_iff header (number + 1) (at + 1) (before ++ line ∷ []) lines keys) refl

data_iff_by : (header : Values) (at : ℕ) (lines : List (List ℕ)) (keys : Bool) → has_keys header ≡ keys
    → is_some (pairs_read header at lines) ≡ (data_clean header [] lines && is_none (data_end_reason header lines))
data_iff_by header at lines true h =
    ap (λ (b : Bool). is_some (if b then keyed_pairs (prints header) (has_record_type header) at lines else counted_pairs (prints header) 1 at lines)) h
    ∙ keyed_iff header at [] lines h refl
data_iff_by header at lines false h =
    let end_ : is_none (data_end_reason header lines) ≡ true = none-data_end_reason header lines ∙ rw h refl in
    ap (λ (b : Bool). is_some (if b then keyed_pairs (prints header) (has_record_type header) at lines else counted_pairs (prints header) 1 at lines)) h
    ∙ counted_iff header 1 at [] lines h ∙ sym (ap (λ (b : Bool). data_clean header [] lines && b) end_ ∙ and-true (data_clean header [] lines))

pub data_iff : (header : Values) (at : ℕ) (lines : List (List ℕ))
    → is_some (pairs_read header at lines) ≡ (data_clean header [] lines && is_none (data_end_reason header lines))
data_iff header at lines = data_iff_by header at lines (has_keys header) refl
