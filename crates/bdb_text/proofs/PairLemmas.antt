-- Data lines more.
use Rattle.std.proofs.Common.{if◌then◌else◌, ◌≡◌, ◌≢◌, ℕ, ◌+◌, ◌%◌, ◌&&◌, Bool, true, false, List, [], ◌∷◌, ◌++◌, length, Option, Some, None, is_none, is_some}
use Rattle.std.proofs.Common.{refl, sym, ap, ◌∙◌, arith, append_assoc, length-append}
use Rattle.std.proofs.lemmas.Bool.{and_from, eqb-false, ne_eqb}
use Rattle.std.proofs.lemmas.List.{append-nil}
use Rattle.bdb_spelling.specs.of_text_format.declared.pairs.Key.{Key}
use Rattle.bdb_spelling.specs.of_text_format.declared.pairs.Key.TheVariants.{Number}
use Rattle.bdb_spelling.specs.of_text_format.declared.pairs.TextPair.{TextPair}
use Rattle.std.specs.Str.{bytes_eq}
use Rattle.std.proofs.lemmas.Slice.Eq.{bytes_eq-Decides}
use Rattle.bdb_spelling.specs.of_text_format.Terms.{Values, counted_pairs, data_end, data_line_reason, data_read, has_keys, has_odd_length, has_record_type}
use Rattle.bdb_spelling.specs.of_text_format.Terms.{is_data_end, is_key, key_read, keyed_pairs, pairs_read, prints, text_lines, with_text_pair}
use Rattle.bdb_text.specs.declared.data_lines.LineError.{LineError}
use Rattle.bdb_text.specs.declared.data_lines.LineError.TheVariants.{Memory, Reason}
use Rattle.bdb_text.specs.declared.data_pairs.Data.{Data}
use Rattle.bdb_text.specs.ReadTo.{OnFault, error_at}
use Rattle.bdb_text.specs.DataLines.{IsLineError, line_reason}
use Rattle.bdb_text.specs.DataTo.{IsCountedTo, IsDataFault, IsDataRead, IsDataTo, IsDatumFault, IsKeyedTo, data_clean, data_reason, datum_reason}
use Rattle.std.proofs.Math.Bool.{and-true, and_assoc}
use Rattle.bdb_text.proofs.PartLemmas.{list_any-append_one}
use Rattle.bdb_text.proofs.DataLemmas.{even_more, none-key, none-value, odd_more}
use Rattle.bdb_spelling.specs.of_text_format.declared.faults.TextFault.{TextFault}
use Rattle.bdb_spelling.specs.of_text_format.declared.faults.TextReason.TheVariants.{NoEnd}

-- A line more.

data_clean-append_one : (header : Values) (before a : List (List ℕ)) (x : List ℕ)
    → data_clean header before (a ++ x ∷ []) ≡ (data_clean header before a && is_none (data_line_reason header (before ++ a) x))
data_clean-append_one header before [] x =
    and-true (is_none (data_line_reason header before x)) ∙ ap (λ (lines : List (List ℕ)). is_none (data_line_reason header lines x)) (sym (append-nil before))
data_clean-append_one header before (y ∷ a) x =
    ap (λ (b : Bool). is_none (data_line_reason header before y) && b) (data_clean-append_one header (before ++ y ∷ []) a x
    ∙ ap (λ (lines : List (List ℕ)). data_clean header (before ++ y ∷ []) a && is_none (data_line_reason header lines x)) (append_assoc before (y ∷ []) a))
    ∙ sym (and_assoc (is_none (data_line_reason header before y)) (data_clean header (before ++ y ∷ []) a)
    (is_none (data_line_reason header (before ++ y ∷ a) x)))

data_more : (header : Values) (lines : List (List ℕ)) (start : ℕ) (before : List (List ℕ)) (line : List ℕ) (rest : List (List ℕ)) (number : ℕ)
    → IsDataTo header lines start before (line ∷ rest) number → is_data_end line ≡ false → is_none (data_line_reason header before line) ≡ true
    → IsDataTo header lines start (before ++ line ∷ []) rest (number + 1)
data_more header lines start before line rest number to other none = record {
  lines_are = to.lines_are ∙ sym (append_assoc before (line ∷ []) rest);
  within = list_any-append_one is_data_end before line to.within other;
  clean = data_clean-append_one header [] before line ∙ and_from (data_clean header [] before) (is_none (data_line_reason header before line)) to.clean none;
  number_is = let size = length-append before (line ∷ []) in omega (arith, size, to.number_is);
}

-- Keys and data in turn.

abbrev joined_pairs : Option (List TextPair) → Option (List TextPair) → Option (List TextPair)
joined_pairs None others = None
joined_pairs (Some pairs) None = None
joined_pairs (Some pairs) (Some others) = Some (pairs ++ others)

joined_none : (others : Option (List TextPair)) → others ≡ joined_pairs (Some []) others
joined_none None = refl
joined_none (Some others) = refl

with_joined : (key : Option Key) (value : Option (List ℕ)) (at : ℕ) (pairs others : Option (List TextPair))
    → with_text_pair key value at (joined_pairs pairs others) ≡ joined_pairs (with_text_pair key value at pairs) others
with_joined None value at pairs others = refl
with_joined (Some key) None at pairs others = refl
with_joined (Some key) (Some value) at None others = refl
with_joined (Some key) (Some value) at (Some pairs) None = refl
with_joined (Some key) (Some value) at (Some pairs) (Some others) = refl

even_less : (x y : List ℕ) (lines : List (List ℕ)) → has_odd_length (x ∷ y ∷ lines) ≡ false → has_odd_length lines ≡ false
even_less x y lines even = let is = eqb-false (length (x ∷ y ∷ lines) % 2) 1 even in ne_eqb (length lines % 2) 1 (omega (arith, is))

keyed-append : (print numbered : Bool) (at : ℕ) (lines more : List (List ℕ)) → has_odd_length lines ≡ false
    → keyed_pairs print numbered at (lines ++ more) ≡ joined_pairs (keyed_pairs print numbered at lines) (keyed_pairs print numbered (at + length lines) more)
keyed-append print numbered at [] more even = let same : at + 0 ≡ at = omega arith in rw same (joined_none (keyed_pairs print numbered at more))
keyed-append print numbered at (x ∷ []) more even = absurd (let no : 1 ≢ 1 = eqb-false 1 1 even in no refl)
keyed-append print numbered at (x ∷ y ∷ lines) more even =
    let same : at + 2 + length lines ≡ at + length (x ∷ y ∷ lines) = omega arith in
    ap (with_text_pair (key_read numbered (data_read print x)) (data_read print y) at)
    (keyed-append print numbered (at + 2) lines more (even_less x y lines even))
    ∙ with_joined (key_read numbered (data_read print x)) (data_read print y) at (keyed_pairs print numbered (at + 2) lines)
    (keyed_pairs print numbered (at + 2 + length lines) more)
    ∙ ap (λ (k : ℕ). joined_pairs (keyed_pairs print numbered at (x ∷ y ∷ lines)) (keyed_pairs print numbered k more)) same

key_place : (header : Values) (before : List (List ℕ)) → has_keys header ≡ true → has_odd_length before ≡ false → is_key header before ≡ true
key_place header before keys even = rw (keys, even) refl

value_place : (header : Values) (before : List (List ℕ)) → has_keys header ≡ true → has_odd_length before ≡ true → is_key header before ≡ false
value_place header before keys odd = rw (keys, odd) refl

-- where the lines before are of even number, a line is a key's, and the next one its datum's
data_line_reason-place : (header : Values) (before : List (List ℕ)) (line : List ℕ) (key : Bool) → is_key header before ≡ key
    → data_line_reason header before line ≡ line_reason (prints header) (key && has_record_type header) line
data_line_reason-place header before line key place = ap (λ (k : Bool). line_reason (prints header) (k && has_record_type header) line) place

key_more : (header : Values) (lines : List (List ℕ)) (start : ℕ) (pairs : List TextPair) (key : List ℕ) (rest : List (List ℕ)) (number : ℕ) (k : Key)
    → (to : IsKeyedTo header lines start pairs (key ∷ rest) number) → has_keys header ≡ true → is_data_end key ≡ false
    → key_read (has_record_type header) (data_read (prints header) key) ≡ Some k
    → IsDataTo header lines start (to.before ++ key ∷ []) rest (number + 1)
key_more header lines start pairs key rest number k to keys other read =
    data_more header lines start to.before key rest number to.to other (none-key header to.before key (key_place header to.before keys to.even)
    ∙ ap is_some read)

pub keyed_more : (header : Values) (lines : List (List ℕ)) (start : ℕ) (pairs : List TextPair) (key value : List ℕ) (rest : List (List ℕ)) (number : ℕ)
    (k : Key) (v : List ℕ)
    → IsKeyedTo header lines start pairs (key ∷ value ∷ rest) number → has_keys header ≡ true → is_data_end key ≡ false → is_data_end value ≡ false
    → key_read (has_record_type header) (data_read (prints header) key) ≡ Some k → data_read (prints header) value ≡ Some v
    → IsKeyedTo header lines start (pairs ++ record { key = k; value = v; line = number } ∷ []) rest (number + 2)
keyed_more header lines start pairs key value rest number k v to keys key_other value_other key_is value_is =
    let odd = odd_more to.before key to.even in
    let first = key_more header lines start pairs key (value ∷ rest) number k to keys key_other key_is in
    let none = none-value header (to.before ++ key ∷ []) value (value_place header (to.before ++ key ∷ []) keys odd) ∙ ap is_some value_is in
    let second = data_more header lines start (to.before ++ key ∷ []) value rest (number + 1) first value_other none in
    let two : number + 1 + 1 ≡ number + 2 = omega arith in
    record {
      before = (to.before ++ key ∷ []) ++ value ∷ [];
      to = rw two at second;
      even = even_more (to.before ++ key ∷ []) value odd;
      pairs_are =
          ap (keyed_pairs (prints header) (has_record_type header) start) (append_assoc to.before (key ∷ []) (value ∷ []))
          ∙ keyed-append (prints header) (has_record_type header) start to.before (key ∷ value ∷ []) to.even
          ∙ ap (λ (ps : Option (List TextPair)). joined_pairs ps
          (keyed_pairs (prints header) (has_record_type header) (start + length to.before) (key ∷ value ∷ []))) to.pairs_are
          ∙ rw (key_is, value_is) (ap (λ (n : ℕ). Some (pairs ++ record { key = k; value = v; line = n } ∷ [])) (sym to.to.number_is));
    }

-- The faults of lines.

pub datum_error : (print : Bool) (text line : List ℕ) (rest : List (List ℕ)) (number : ℕ) (error : LineError) → text_lines text ≡ line ∷ rest
    → is_data_end line ≡ false
    → IsLineError print false line error → OnFault (IsDatumFault print text number) (error_at number error)
datum_error print text line rest number (Reason reason) lines other is = record {
  line_is = refl;
  reason_is = ap (datum_reason print) lines ∙ rw other is;
}
datum_error print text line rest number Memory lines other is = tt

-- the text ends
pub data_ended : (header : Values) (text : List ℕ) (start : ℕ) (before : List (List ℕ)) (rest : List ℕ) (number : ℕ)
    → IsDataTo header (text_lines text) start before (text_lines rest) number → length rest ≡ 0
    → IsDataFault header text start (record { line = number; reason = NoEnd })
data_ended header text start before [] number to none = record {
  before = before;
  rest = [];
  to = to;
  reason_is = refl;
}
data_ended header text start before (byte ∷ rest) number to none = absurd (omega arith)

pub key_fault : (header : Values) (text : List ℕ) (start : ℕ) (pairs : List TextPair) (key : List ℕ) (rest : List (List ℕ)) (number : ℕ) (fault : TextFault)
    → IsKeyedTo header (text_lines text) start pairs (key ∷ rest) number → has_keys header ≡ true → is_data_end key ≡ false
    → fault.line ≡ number → line_reason (prints header) (has_record_type header) key ≡ Some fault.reason → IsDataFault header text start fault
key_fault header text start pairs key rest number fault to keys other line is = record {
  before = to.before;
  rest = key ∷ rest;
  to = rw (← line) at to.to;
  reason_is = rw other (data_line_reason-place header to.before key true (key_place header to.before keys to.even) ∙ is);
}

-- behind a key
datum_reason-data : (header : Values) (before rest : List (List ℕ)) → has_keys header ≡ true → has_odd_length before ≡ true
    → data_reason header before rest ≡ datum_reason (prints header) rest
datum_reason-data header before [] keys odd = refl
datum_reason-data header before (line ∷ rest) keys odd =
    let place = value_place header before keys odd in
    rw (data_line_reason-place header before line false place, keys, odd) refl

pub behind_key_fault : (header : Values) (text : List ℕ) (start : ℕ) (pairs : List TextPair) (key behind : List ℕ) (number : ℕ) (k : Key) (fault : TextFault)
    → IsKeyedTo header (text_lines text) start pairs (key ∷ text_lines behind) number → has_keys header ≡ true → is_data_end key ≡ false
    → key_read (has_record_type header) (data_read (prints header) key) ≡ Some k → IsDatumFault (prints header) behind (number + 1) fault
    → IsDataFault header text start fault
behind_key_fault header text start pairs key behind number k fault to keys other read is =
    let first = key_more header (text_lines text) start pairs key (text_lines behind) number k to keys other read in
    record {
      before = to.before ++ key ∷ [];
      rest = text_lines behind;
      to = rw (← is.line_is) at first;
      reason_is = datum_reason-data header (to.before ++ key ∷ []) (text_lines behind) keys (odd_more to.before key to.even) ∙ is.reason_is;
    }

-- The section ends.

ended_line : (line : List ℕ) → true ≡ bytes_eq line data_end → line ≡ data_end
ended_line line is = (bytes_eq-Decides line data_end).0 (sym is)

data_read_by : (header : Values) (text : List ℕ) (start : ℕ) (before : List (List ℕ)) (line rest : List ℕ) (number : ℕ) (read : Data)
    → IsDataTo header (text_lines text) start before (text_lines rest) number → text_lines rest ≡ line ∷ text_lines read.rest.now
    → true ≡ bytes_eq line data_end
    → pairs_read header start before ≡ Some read.pairs → read.number ≡ number + 1 → IsDataRead header text start read
data_read_by header text start before line rest number read to lines is pairs more = record {
  before = before;
  lines_are = to.lines_are ∙ ap (λ (ls : List (List ℕ)). before ++ ls) (lines ∙ ap (λ (l : List ℕ). l ∷ text_lines read.rest.now) (ended_line line is));
  within = to.within;
  pairs_are = pairs;
  number_is = omega (arith, more, to.number_is);
}

pub keyed_end : (header : Values) (text : List ℕ) (start : ℕ) (pairs : List TextPair) (line rest : List ℕ) (number : ℕ) (read : Data)
    → IsKeyedTo header (text_lines text) start pairs (text_lines rest) number → has_keys header ≡ true → text_lines rest ≡ line ∷ text_lines read.rest.now
    → true ≡ bytes_eq line data_end → read.pairs ≡ pairs → read.number ≡ number + 1 → IsDataRead header text start read
keyed_end header text start pairs line rest number read to keys lines is same more =
    data_read_by header text start to.before line rest number read to.to lines is
    (ap (λ (b : Bool). if b then keyed_pairs (prints header) (has_record_type header) start to.before else counted_pairs (prints header) 1 start to.before) keys
    ∙ to.pairs_are ∙ ap Some (sym same)) more

-- Data alone.

counted-append : (print : Bool) (record_number at : ℕ) (lines more : List (List ℕ))
    → counted_pairs print record_number at (lines ++ more)
    ≡ joined_pairs (counted_pairs print record_number at lines) (counted_pairs print (record_number + length lines) (at + length lines) more)
counted-append print record_number at [] more =
    let one : record_number + 0 ≡ record_number = omega arith in
    let other : at + 0 ≡ at = omega arith in
    rw (one, other) (joined_none (counted_pairs print record_number at more))
counted-append print record_number at (line ∷ lines) more =
    let one : record_number + 1 + length lines ≡ record_number + length (line ∷ lines) = omega arith in
    let other : at + 1 + length lines ≡ at + length (line ∷ lines) = omega arith in
    ap (with_text_pair (Some (Number record_number)) (data_read print line) at) (counted-append print (record_number + 1) (at + 1) lines more)
    ∙ with_joined (Some (Number record_number)) (data_read print line) at (counted_pairs print (record_number + 1) (at + 1) lines)
    (counted_pairs print (record_number + 1 + length lines) (at + 1 + length lines) more)
    ∙ ap (λ (k : ℕ). joined_pairs (counted_pairs print record_number at (line ∷ lines)) (counted_pairs print k (at + 1 + length lines) more)) one
    ∙ ap (λ (k : ℕ). joined_pairs (counted_pairs print record_number at (line ∷ lines)) (counted_pairs print (record_number + length (line ∷ lines)) k more))
    other

no_key_place : (header : Values) (before : List (List ℕ)) → has_keys header ≡ false → is_key header before ≡ false
no_key_place header before keys = rw keys refl

pub counted_more : (header : Values) (lines : List (List ℕ)) (start : ℕ) (pairs : List TextPair) (value : List ℕ) (rest : List (List ℕ))
    (number record_number : ℕ) (v : List ℕ)
    → IsCountedTo header lines start pairs (value ∷ rest) number record_number → has_keys header ≡ false → is_data_end value ≡ false
    → data_read (prints header) value ≡ Some v
    → IsCountedTo header lines start (pairs ++ record { key = Number record_number; value = v; line = number } ∷ []) rest (number + 1) (record_number + 1)
counted_more header lines start pairs value rest number record_number v to keys other value_is = record {
  before = to.before ++ value ∷ [];
  to = data_more header lines start to.before value rest number to.to other (none-value header to.before value (no_key_place header to.before keys)
      ∙ ap is_some value_is);
  pairs_are =
      counted-append (prints header) 1 start to.before (value ∷ [])
      ∙ ap (λ (ps : Option (List TextPair)). joined_pairs ps (counted_pairs (prints header) (1 + length to.before) (start + length to.before) (value ∷ [])))
      to.pairs_are
      ∙ rw value_is (ap (λ (n : ℕ). Some (pairs ++ record { key = Number n; value = v; line = start + length to.before } ∷ [])) (sym to.record_is)
      ∙ ap (λ (n : ℕ). Some (pairs ++ record { key = Number record_number; value = v; line = n } ∷ [])) (sym to.to.number_is));
  record_is = let size = length-append to.before (value ∷ []) in omega (arith, size, to.record_is);
}

pub counted_fault : (header : Values) (text : List ℕ) (start : ℕ) (pairs : List TextPair) (value : List ℕ) (rest : List (List ℕ)) (number record_number : ℕ)
    (fault : TextFault)
    → IsCountedTo header (text_lines text) start pairs (value ∷ rest) number record_number → has_keys header ≡ false → is_data_end value ≡ false
    → fault.line ≡ number → line_reason (prints header) false value ≡ Some fault.reason → IsDataFault header text start fault
counted_fault header text start pairs value rest number record_number fault to keys other line is = record {
  before = to.before;
  rest = value ∷ rest;
  to = rw (← line) at to.to;
  reason_is = rw other (data_line_reason-place header to.before value false (no_key_place header to.before keys) ∙ is);
}

pub counted_end : (header : Values) (text : List ℕ) (start : ℕ) (pairs : List TextPair) (line rest : List ℕ) (number record_number : ℕ) (read : Data)
    → IsCountedTo header (text_lines text) start pairs (text_lines rest) number record_number → has_keys header ≡ false
    → text_lines rest ≡ line ∷ text_lines read.rest.now
    → true ≡ bytes_eq line data_end → read.pairs ≡ pairs → read.number ≡ number + 1 → IsDataRead header text start read
counted_end header text start pairs line rest number record_number read to keys lines is same more =
    data_read_by header text start to.before line rest number read to.to lines is
    (ap (λ (b : Bool). if b then keyed_pairs (prints header) (has_record_type header) start to.before else counted_pairs (prints header) 1 start to.before) keys
    ∙ to.pairs_are ∙ ap Some (sym same)) more
