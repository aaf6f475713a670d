-- What data lines spell, in the run of their section.
use Rattle.std.proofs.Common.{◌≡◌, ℕ, ◌+◌, Bool, true, false, inl, inr, List, [], ◌∷◌, ◌++◌, length, Option, Some, None, refl, sym, ap, ◌∙◌, arith, length-append, subst}
use Rattle.std.proofs.lemmas.List.{length-map}
use Rattle.std.proofs.lemmas.Option.{same_Some}
use Rattle.bdb_spelling.specs.of_places.declared.place.Place.{Place}
use Rattle.bdb_spelling.specs.of_places.declared.place.PlacedKey.{PlacedKey}
use Rattle.bdb_spelling.specs.of_places.declared.span.Span.{Span}
use Rattle.bdb_spelling.specs.of_text_format.declared.faults.TextFault.{TextFault}
use Rattle.bdb_spelling.specs.of_text_format.declared.faults.TextReason.TheVariants.{NoEnd}
use Rattle.bdb_spelling.specs.of_text_format.declared.pairs.Key.TheVariants.{Number}
use Rattle.bdb_spelling.specs.of_text_format.declared.pairs.TextPair.{TextPair}
use Rattle.bdb_spelling.specs.of_text_format.Terms.{ArePlaced, IsPairPut, IsPiecePut, Keeps, Values, data_read, has_keys, has_record_type}
use Rattle.bdb_spelling.specs.of_text_format.Terms.{is_data_end, key_read, pair_with, placed_key, placed_pair, placed_pairs, prints, text_lines}
use Rattle.bdb_spelling.proofs.of_text_format.PlacedLemmas.{kept_more, kept_on, pair_put, pairs_pushed, piece_put, places_pushed}
use Rattle.bdb_text.specs.declared.data_lines.LineError.{LineError}
use Rattle.bdb_text.specs.declared.data_lines.LineError.TheVariants.{Memory, Reason}
use Rattle.bdb_text.specs.declared.data_pairs.Datum.{Datum}
use Rattle.bdb_text.specs.declared.data_pairs.PairAt.{PairAt}
use Rattle.bdb_text.specs.declared.data_pairs.Way.{Way}
use Rattle.bdb_text.specs.declared.text_errors.TextError.{TextError}
use Rattle.bdb_text.specs.declared.text_errors.TextError.TheVariants.{Fault, Memory as Want}
use Rattle.bdb_text.specs.DataLines.{IsDataAdded, IsKeyAdded, IsLineError}
use Rattle.bdb_text.specs.DataTo.{IsCountedFault, IsDataFault, IsDatum, IsFaultBy, IsKeyedRead, IsPairFault}
use Rattle.bdb_text.specs.DataTo.{IsPairRead, IsPairsTo, IsReadBy, IsToBy}
use Rattle.bdb_text.specs.ReadTo.{OnFault, error_at}
use Rattle.bdb_text.proofs.PairLemmas.{behind_key_fault, counted_fault, counted_more, data_ended, key_fault, keyed_more}

-- what a line spells, behind what was there
pub record Added (old new : List ℕ) (read : Option (List ℕ)) (span : Span) : Type 0 where
  pub piece : List ℕ
  pub read_is : read ≡ Some piece
  pub new_is : new ≡ old ++ piece
  pub put : IsPiecePut new piece span

pub added : (old new : List ℕ) (read : Option (List ℕ)) (span : Span) → IsDataAdded old new read span → Added old new read span
added old new None span is = absurd (let no : None ≡ Some new = is.added in cc)
added old new (Some piece) span is =
    let whole : new ≡ old ++ piece = sym (same_Some (old ++ piece) new is.added) in
    let long : span.end ≡ length old + length piece = is.end ∙ ap length whole ∙ length-append old piece in
    record {
      piece = piece;
      read_is = refl;
      new_is = whole;
      put = subst (λ bytes. IsPiecePut bytes piece span) (sym whole) (piece_put old piece span is.start long);
    }

pub kept_added : (old new : List ℕ) (read : Option (List ℕ)) (span : Span) → IsDataAdded old new read span → Keeps old new
kept_added old new read span is =
    let a = added old new read span is in
    subst (λ bytes. Keeps old bytes) (sym a.new_is) (kept_more old a.piece)

-- A pair of lines.

pub keyed_read : (print numbered : Bool) (line behind : List ℕ) (number : ℕ) (old mid new : List ℕ) (key : PlacedKey) (datum : Datum)
    → IsKeyAdded old mid (key_read numbered (data_read print line)) key → IsDatum print behind mid new datum
    → IsKeyedRead print numbered line behind number old new
    (record { place = record { key = key; value = datum.span; line = number }; rest = datum.rest; number = number + 2 })
keyed_read print numbered line behind number old mid new key datum first second =
    let a = added mid new (data_read print second.line) datum.span second.added in
    let kept = kept_added mid new (data_read print second.line) datum.span second.added in
    record {
      key = placed_key mid key;
      value = a.piece;
      value_line = second.line;
      key_is = first.same;
      lines_are = second.lines_are;
      other = second.other;
      value_is = a.read_is;
      kept = kept_on old mid new first.kept kept;
      put = pair_put mid new a.piece key datum.span number kept first.placed a.put;
      number_is = refl;
    }

-- Their faults.

pub counted_line_fault : (print : Bool) (line : List ℕ) (number : ℕ) (error : LineError) → IsLineError print false line error
    → OnFault (IsCountedFault print line number) (error_at number error)
counted_line_fault print line number (Reason reason) is = (refl, is)
counted_line_fault print line number Memory is = tt

-- From pair to pair.

none_by : (keys : Bool) (header : Values) (lines : List (List ℕ)) (start : ℕ) → IsToBy keys header lines start [] lines start
none_by true header lines start = record {
  before = [];
  to = record { lines_are = refl; within = refl; clean = refl; number_is = omega arith };
  even = refl;
  pairs_are = refl;
}
none_by false header lines start = record {
  before = [];
  to = record { lines_are = refl; within = refl; clean = refl; number_is = omega arith };
  pairs_are = refl;
  record_is = refl;
}

-- no pair yet
pub pairs_none : (header : Values) (lines : List (List ℕ)) (start : ℕ) → IsPairsTo header lines start [] lines start
pairs_none header lines start = none_by (has_keys header) header lines start

-- a pair that was read, in the run
pub record Put (old new : List ℕ) (read : PairAt) : Type 0 where
  pub pair : TextPair
  pub kept : Keeps old new
  pub put : IsPairPut new pair read.place

put_by : (keyed numbered print : Bool) (line behind : List ℕ) (number record_number : ℕ) (old new : List ℕ) (read : PairAt)
    → IsReadBy keyed numbered print line behind number record_number old new read → Put old new read
put_by true numbered print line behind number record_number old new read is = record { pair = pair_with is.key is.value number; kept = is.kept; put = is.put }
put_by false numbered print line behind number record_number old new read is =
    record { pair = pair_with (Number record_number) is.value number; kept = is.kept; put = is.put }

pub places_step : (way : Way) (line behind : List ℕ) (number record_number : ℕ) (old new : List ℕ) (places : List Place) (read : PairAt)
    → IsPairRead way line behind number record_number old new read → ArePlaced old places → ArePlaced new (places ++ read.place ∷ [])
places_step way line behind number record_number old new places read is placed =
    let p = put_by way.keyed way.numbered way.print line behind number record_number old new read is in
    places_pushed old new places p.pair read.place p.kept placed p.put

step_by : (keys : Bool) (header : Values) (lines : List (List ℕ)) (start : ℕ) (old new : List ℕ) (places : List Place) (line behind : List ℕ) (number : ℕ)
    (read : PairAt)
    → has_keys header ≡ keys → IsToBy keys header lines start (placed_pairs old places) (line ∷ text_lines behind) number → is_data_end line ≡ false
    → IsReadBy keys (has_record_type header) (prints header) line behind number (length places + 1) old new read → ArePlaced old places
    → IsToBy keys header lines start (placed_pairs new (places ++ read.place ∷ [])) (text_lines read.rest.now) read.number
step_by true header lines start old new places line behind number read keys to other is placed =
    let more = keyed_more header lines start (placed_pairs old places) line is.value_line (text_lines read.rest.now) number is.key is.value
    (rw is.lines_are at to) keys other is.other is.key_is is.value_is in
    rw (pairs_pushed old new places (pair_with is.key is.value number) read.place is.kept placed is.put, is.number_is) more
step_by false header lines start old new places line behind number read keys to other is placed =
    let count : length (placed_pairs old places) + 1 ≡ length places + 1 = ap (λ n. n + 1) (length-map places (placed_pair old)) in
    let more = counted_more header lines start (placed_pairs old places) line (text_lines behind) number (length places + 1) is.value
    (rw count at to) keys other is.value_is in
    let long : length (placed_pairs old places ++ pair_with (Number (length places + 1)) is.value number ∷ []) + 1 ≡ length places + 1 + 1 =
    ap (λ n. n + 1) (length-append (placed_pairs old places) (pair_with (Number (length places + 1)) is.value number ∷ []) ∙ count) in
    rw (pairs_pushed old new places (pair_with (Number (length places + 1)) is.value number) read.place is.kept placed is.put, is.number_is, is.rest_is, long) more

-- one pair more
pub pairs_step : (header : Values) (lines : List (List ℕ)) (start : ℕ) (way : Way) (old new : List ℕ) (places : List Place) (line behind : List ℕ) (number : ℕ)
    (read : PairAt)
    → way.keyed ≡ has_keys header → way.numbered ≡ has_record_type header → way.print ≡ prints header
    → IsPairsTo header lines start (placed_pairs old places) (line ∷ text_lines behind) number → is_data_end line ≡ false
    → IsPairRead way line behind number (length places + 1) old new read → ArePlaced old places
    → IsPairsTo header lines start (placed_pairs new (places ++ read.place ∷ [])) (text_lines read.rest.now) read.number
pairs_step header lines start way old new places line behind number read keys numbers prints_is to other is placed =
    step_by (has_keys header) header lines start old new places line behind number read refl to other (rw (keys, numbers, prints_is) at is) placed

fault_by : (keys : Bool) (header : Values) (text : List ℕ) (start : ℕ) (pairs : List TextPair) (line behind : List ℕ) (number : ℕ) (fault : TextFault)
    → has_keys header ≡ keys → IsToBy keys header (text_lines text) start pairs (line ∷ text_lines behind) number → is_data_end line ≡ false
    → IsFaultBy keys (has_record_type header) (prints header) line behind number fault → IsDataFault header text start fault
fault_by true header text start pairs line behind number fault keys to other (inl is) =
    key_fault header text start pairs line (text_lines behind) number fault to keys other is.0 is.1
fault_by true header text start pairs line behind number fault keys to other (inr is) =
    behind_key_fault header text start pairs line behind number is.0 fault to keys other is.1.0 is.1.1
fault_by false header text start pairs line behind number fault keys to other is =
    counted_fault header text start pairs line (text_lines behind) number (length pairs + 1) fault to keys other is.0 is.1

-- the first fault of a pair
pub pair_fault : (header : Values) (text : List ℕ) (start : ℕ) (way : Way) (pairs : List TextPair) (line behind : List ℕ) (number : ℕ) (error : TextError)
    → way.keyed ≡ has_keys header → way.numbered ≡ has_record_type header → way.print ≡ prints header
    → IsPairsTo header (text_lines text) start pairs (line ∷ text_lines behind) number → is_data_end line ≡ false
    → OnFault (IsPairFault way line behind number) error → OnFault (IsDataFault header text start) error
pair_fault header text start way pairs line behind number (Fault fault) keys numbers prints_is to other is =
    fault_by (has_keys header) header text start pairs line behind number fault refl to other (rw (keys, numbers, prints_is) at is)
pair_fault header text start way pairs line behind number Want keys numbers prints_is to other is = tt

ended_by : (keys : Bool) (header : Values) (text : List ℕ) (start : ℕ) (pairs : List TextPair) (rest : List ℕ) (number : ℕ)
    → IsToBy keys header (text_lines text) start pairs (text_lines rest) number → length rest ≡ 0
    → IsDataFault header text start (record { line = number; reason = NoEnd })
ended_by true header text start pairs rest number to none = data_ended header text start to.before rest number to.to none
ended_by false header text start pairs rest number to none = data_ended header text start to.before rest number to.to none

-- the end of the text
pub pairs_ended : (header : Values) (text : List ℕ) (start : ℕ) (pairs : List TextPair) (rest : List ℕ) (number : ℕ)
    → IsPairsTo header (text_lines text) start pairs (text_lines rest) number → length rest ≡ 0
    → IsDataFault header text start (record { line = number; reason = NoEnd })
pairs_ended header text start pairs rest number to none = ended_by (has_keys header) header text start pairs rest number to none
