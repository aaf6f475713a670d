-- Pairs of data lines.
use Rattle.std.proofs.Common.{◌≡◌, ℕ, zero, suc, ◌+◌, ◌==◌, if◌then◌else◌, ◌≤◌, Bool, true, false, List, [], ◌∷◌, length, get_or, Option, Some, None, refl, sym}
use Rattle.std.proofs.Common.{ap, subst, arith, All}
use Rattle.std.proofs.lemmas.List.Elements.{All-cons, All-head, All-tail, All-weaker}
use Rattle.bdb_text_format.specs.of_format.Terms.{digits_value}
use Rattle.bdb_text_format.specs.declared.pairs.Key.{Key}
use Rattle.bdb_text_format.specs.declared.pairs.Key.TheVariants.{Bytes, Number}
use Rattle.bdb_text_format.specs.declared.pairs.TextPair.{TextPair}
use Rattle.bdb_text_format.specs.Terms.{before, bytes_spelled, counted_pairs, data_read, is_record_number, key_read, keyed_pairs, next_unit, onto_first}
use Rattle.bdb_text_format.specs.Terms.{holds_records, text_lines, units_read, with_text_pair}
use Rattle.bdb_law_sections.specs.Fit.{IsFitPair, IsFitSection, is_number, key_length}
use Rattle.bdb_text_format.specs.declared.sections.Section.{Section}

-- Lines.

abbrev pub IsShort : ℕ → List ℕ → Type 0
IsShort most line = length line ≤ most

-- no line has more bytes than this
abbrev pub AreShort : ℕ → List (List ℕ) → Type 0
AreShort most lines = All (IsShort most) lines

no_lines : (most : ℕ) → AreShort most []
no_lines most k d low = absurd (omega arith)

more_short : (most : ℕ) (lines : List (List ℕ)) → AreShort most lines → AreShort (suc most) lines
more_short most lines short k d low = let h : length (get_or lines k d) ≤ most = short k d low in omega arith

onto_short : (most byte : ℕ) (lines : List (List ℕ)) → AreShort most lines → AreShort (suc most) (onto_first byte lines)
onto_short most byte [] short = All-cons (IsShort (suc most)) (byte ∷ []) [] (omega arith) (no_lines (suc most))
onto_short most byte (line ∷ lines) short =
    let h : length line ≤ most = All-head (IsShort most) line lines short in
    All-cons (IsShort (suc most)) (byte ∷ line) lines (omega arith) (more_short most lines (All-tail (IsShort most) line lines short))

line_short : (most byte : ℕ) (rest : List ℕ) → AreShort most (text_lines rest) → (b : Bool)
    → AreShort (suc most) (if b then [] ∷ text_lines rest else onto_first byte (text_lines rest))
line_short most byte rest short true = All-cons (IsShort (suc most)) [] (text_lines rest) (omega arith) (more_short most (text_lines rest) short)
line_short most byte rest short false = onto_short most byte (text_lines rest) short

pub lines_short : (text : List ℕ) → AreShort (length text) (text_lines text)
lines_short [] = no_lines 0
lines_short (byte ∷ rest) = line_short (length rest) byte rest (lines_short rest) (byte == 10)

-- Spellings.

first_unit : (print : Bool) (most byte : ℕ) (rest : Option (List ℕ)) (bytes : List ℕ) → before byte rest ≡ Some bytes
    → ((others : List ℕ) → rest ≡ Some others → length others ≤ most) → length bytes ≤ suc most
first_unit print most byte None bytes is low = absurd (cc is)
first_unit print most byte (Some others) bytes is low =
    let h : length others ≤ most = low others refl in
    let e : byte ∷ others ≡ bytes = cc is in
    let long : suc (length others) ≡ length bytes = ap length e in omega arith

abbrev unit_read : Bool → ℕ → Option (ℕ × List ℕ) → Option (List ℕ)
unit_read print most unit = elim unit [ None ↦ None | Some unit ↦ before unit.0 (units_read print most unit.1) ]

unit_short : (print : Bool) (most : ℕ) (bytes : List ℕ) (unit : Option (ℕ × List ℕ)) → unit_read print most unit ≡ Some bytes
    → ((text others : List ℕ) → units_read print most text ≡ Some others → length others ≤ most) → length bytes ≤ suc most
unit_short print most bytes None none short = absurd (cc none)
unit_short print most bytes (Some unit) some short =
    first_unit print most unit.0 (units_read print most unit.1) bytes some (λ others e. short unit.1 others e)

units_short : (print : Bool) (most : ℕ) (text bytes : List ℕ) → units_read print most text ≡ Some bytes → length bytes ≤ most
units_short print most [] bytes is = let e : [] ≡ bytes = cc is in let long : 0 ≡ length bytes = ap length e in omega arith
units_short print zero (byte ∷ text) bytes is = absurd (cc is)
units_short print (suc most) (byte ∷ text) bytes is =
    unit_short print most bytes (next_unit print (byte ∷ text)) is (λ behind others e. units_short print most behind others e)

-- a text spells no more bytes than it has
pub spelled_short : (print : Bool) (text bytes : List ℕ) → bytes_spelled print text ≡ Some bytes → length bytes ≤ length text
unfolding bytes_spelled
spelled_short print text bytes is = units_short print (length text) text bytes is

read_from : (print : Bool) (byte : ℕ) (text bytes : List ℕ) (b : Bool) → (if b then bytes_spelled print text else None) ≡ Some bytes
    → length bytes ≤ suc (length text)
read_from print byte text bytes true is = let h : length bytes ≤ length text = spelled_short print text bytes is in omega arith
read_from print byte text bytes false is = absurd (cc is)

read_short : (print : Bool) (line bytes : List ℕ) → data_read print line ≡ Some bytes → length bytes ≤ length line
read_short print [] bytes is = absurd (cc is)
read_short print (byte ∷ text) bytes is = read_from print byte text bytes (byte == 32) is

-- Pairs.

-- a pair that stands before others, where all are there
pub record IsBefore (key : Option Key) (value : Option (List ℕ)) (line : ℕ) (rest : Option (List TextPair)) (pairs : List TextPair) : Type 0 where
  pub of_key : Key
  pub of_value : List ℕ
  pub others : List TextPair
  pub key_is : key ≡ Some of_key
  pub value_is : value ≡ Some of_value
  pub rest_is : rest ≡ Some others
  pub pairs_are : pairs ≡ record { key = of_key; value = of_value; line = line } ∷ others

stands_before : (key : Option Key) (value : Option (List ℕ)) (line : ℕ) (rest : Option (List TextPair)) (pairs : List TextPair)
    → with_text_pair key value line rest ≡ Some pairs → IsBefore key value line rest pairs
stands_before (Some key) (Some value) line (Some others) pairs is =
    record { of_key = key; of_value = value; others = others; key_is = refl; value_is = refl; rest_is = refl; pairs_are = sym (cc is) }
stands_before (Some key) (Some value) line None pairs is = absurd (cc is)
stands_before (Some key) None line rest pairs is = absurd (cc is)
stands_before None value line rest pairs is = absurd (cc is)

record IsFitKey (numbered : Bool) (most : ℕ) (key : Key) : Type 0 where
  key_is : is_number key ≡ numbered
  short : key_length key ≤ most

number_fit : (most : ℕ) (bytes : List ℕ) (key : Key) (b : Bool) → (if b then Some (Number (digits_value bytes)) else None) ≡ Some key
    → IsFitKey true most key
number_fit most bytes key true is =
    let e : Number (digits_value bytes) ≡ key = cc is in
    record { key_is = ap is_number (sym e); short = let z : 0 ≡ key_length key = ap key_length e in omega arith }
number_fit most bytes key false is = absurd (cc is)

key_fit : (numbered : Bool) (most : ℕ) (read : Option (List ℕ)) (key : Key) → key_read numbered read ≡ Some key
    → ((bytes : List ℕ) → read ≡ Some bytes → length bytes ≤ most) → IsFitKey numbered most key
key_fit true most None key is low = absurd (cc is)
key_fit true most (Some bytes) key is low = number_fit most bytes key (is_record_number (Some bytes)) is
key_fit false most None key is low = absurd (cc is)
key_fit false most (Some bytes) key is low =
    let e : Bytes bytes ≡ key = cc is in
    let h : length bytes ≤ most = low bytes refl in
    record { key_is = ap is_number (sym e); short = let z : length bytes ≡ key_length key = ap key_length e in omega arith }

no_pairs : (numbered : Bool) (most : ℕ) → All (IsFitPair numbered most) []
no_pairs numbered most k d low = absurd (omega arith)

empty_fit : (numbered : Bool) (most : ℕ) (pairs : List TextPair) → Some [] ≡ Some pairs → All (IsFitPair numbered most) pairs
empty_fit numbered most pairs is =
    let e : [] ≡ pairs = cc is in subst (λ ps. All (IsFitPair numbered most) ps) e (no_pairs numbered most)

one_more : (numbered : Bool) (most line : ℕ) (key : Key) (value : List ℕ) (others pairs : List TextPair)
    → pairs ≡ record { key = key; value = value; line = line } ∷ others → IsFitKey numbered most key → length value ≤ most
    → All (IsFitPair numbered most) others → All (IsFitPair numbered most) pairs
one_more numbered most line key value others pairs is fit short all =
    subst (λ ps. All (IsFitPair numbered most) ps) (sym is)
    (All-cons (IsFitPair numbered most) (record { key = key; value = value; line = line }) others
    (record { key = fit.key_is; key_length = fit.short; length = short }) all)

line_read : (print : Bool) (most : ℕ) (line : List ℕ) → length line ≤ most → (bytes : List ℕ) → data_read print line ≡ Some bytes → length bytes ≤ most
line_read print most line low bytes is = let h : length bytes ≤ length line = read_short print line bytes is in omega arith

pub keyed_fit : (print numbered : Bool) (most at : ℕ) (lines : List (List ℕ)) (pairs : List TextPair) → AreShort most lines
    → keyed_pairs print numbered at lines ≡ Some pairs → All (IsFitPair numbered most) pairs
keyed_fit print numbered most at [] pairs short is = empty_fit numbered most pairs is
keyed_fit print numbered most at (key ∷ []) pairs short is = absurd (cc is)
keyed_fit print numbered most at (key ∷ value ∷ lines) pairs short is =
    let behind : AreShort most (value ∷ lines) = All-tail (IsShort most) key (value ∷ lines) short in
    let first : length key ≤ most = All-head (IsShort most) key (value ∷ lines) short in
    let second : length value ≤ most = All-head (IsShort most) value lines behind in
    let stands =
    stands_before (key_read numbered (data_read print key)) (data_read print value) at (keyed_pairs print numbered (at + 2) lines) pairs is in
    one_more numbered most at stands.of_key stands.of_value stands.others pairs stands.pairs_are
    (key_fit numbered most (data_read print key) stands.of_key stands.key_is (line_read print most key first))
    (line_read print most value second stands.of_value stands.value_is)
    (keyed_fit print numbered most (at + 2) lines stands.others (All-tail (IsShort most) value lines behind) stands.rest_is)

pub counted_fit : (print : Bool) (most number at : ℕ) (lines : List (List ℕ)) (pairs : List TextPair) → AreShort most lines
    → counted_pairs print number at lines ≡ Some pairs → All (IsFitPair true most) pairs
counted_fit print most number at [] pairs short is = empty_fit true most pairs is
counted_fit print most number at (value ∷ lines) pairs short is =
    let first : length value ≤ most = All-head (IsShort most) value lines short in
    let stands = stands_before (Some (Number number)) (data_read print value) at (counted_pairs print (number + 1) (at + 1) lines) pairs is in
    let e : Number number ≡ stands.of_key = cc stands.key_is in
    one_more true most at stands.of_key stands.of_value stands.others pairs stands.pairs_are
    (record { key_is = ap is_number (sym e); short = let z : 0 ≡ key_length stands.of_key = ap key_length e in omega arith })
    (line_read print most value first stands.of_value stands.value_is)
    (counted_fit print most (number + 1) (at + 1) lines stands.others (All-tail (IsShort most) value lines short) stands.rest_is)

-- Fit pairs.

-- pairs that are fit by a bound are fit by a greater one
pub fit_longer : (numbered : Bool) (least most : ℕ) (pairs : List TextPair) → least ≤ most → All (IsFitPair numbered least) pairs
    → All (IsFitPair numbered most) pairs
fit_longer numbered least most pairs low =
    All-weaker (IsFitPair numbered least) (IsFitPair numbered most)
    (λ pair fit. record { key = fit.key; key_length = omega (arith, low, fit.key_length); length = omega (arith, low, fit.length) }) pairs

-- and so is a section
pub section_longer : (least most : ℕ) (section : Section) → least ≤ most → IsFitSection least section → IsFitSection most section
section_longer least most section low fit = record {
  settings = fit.settings;
  pairs = fit_longer (holds_records section.settings.kind) least most section.pairs low fit.pairs;
}
