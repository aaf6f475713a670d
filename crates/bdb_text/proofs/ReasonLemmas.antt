-- A line has no reason exactly where it fits.
use Rattle.std.proofs.Common.{◌≡◌, ℕ, ◌&&◌, Bool, true, false, not, if◌then◌else◌, List, Option, Some, None, is_none, is_some, refl, sym, ap, ◌∙◌, codes}
use Rattle.std.specs.List.{list_any}
use Rattle.std.specs.Str.{bytes_eq}
use Rattle.std.proofs.lemmas.Slice.Eq.{bytes_eq-Decides}
use Rattle.bdb_spelling.specs.of_format.Terms.{is_name}
use Rattle.bdb_spelling.specs.of_text_format.declared.keywords.Judged.{Judged}
use Rattle.bdb_spelling.specs.of_text_format.declared.keywords.Judged.TheVariants.{Fits, Bad, LeftOut}
use Rattle.bdb_spelling.specs.of_text_format.Terms.{HeaderLine, Keyword, Values, begins_version, conflicts, entry_fits, entry_reason, first_line_reason, fits}
use Rattle.bdb_spelling.specs.of_text_format.Terms.{given, header_end_reason, is_bad, is_left_out, keyword_fits, keyword_named, keyword_reason, name_in}
use Rattle.bdb_spelling.specs.of_text_format.Terms.{name_missing, version_line}
use Rattle.std.proofs.Math.Bool.{and-false}
use Rattle.bdb_text.proofs.BoolLemmas.{not-none}
use Rattle.bdb_spelling.specs.of_text_format.declared.faults.TextReason.{TextReason}
use Rattle.bdb_spelling.specs.of_text_format.declared.faults.TextReason.TheVariants.{NoVersion, Version, BadValue, RepeatedKeyword, NoType, Unsupported, NameMissing}
use Rattle.bdb_spelling.specs.of_text_format.declared.faults.TextReason.TheVariants.{NameTwice, Conflict}

-- The first line.

begins_same : (line : List ℕ) → bytes_eq line version_line ≡ true → begins_version line ≡ true
begins_same line h =
    let same : line ≡ version_line = (bytes_eq-Decides line version_line).0 h in
    ap begins_version same

first_by : (begins same : Bool) → (same ≡ true → begins ≡ true)
    → is_none {T = TextReason} (if not begins then Some NoVersion else (if not same then Some Version else None)) ≡ same
first_by true true h = refl
first_by true false h = refl
first_by false true h = h refl
first_by false false h = refl

pub none-first_line_reason : (line : List ℕ) → is_none (first_line_reason line) ≡ bytes_eq line version_line
none-first_line_reason line = first_by (begins_version line) (bytes_eq line version_line) (begins_same line)

-- A header line.

judged_by : (twice : Bool) (judged : Judged)
    → is_none {T = TextReason} (if twice then Some RepeatedKeyword else (if is_left_out judged then Some Unsupported
    else (if is_bad judged then Some BadValue else None)))
    ≡ (not twice && fits judged)
judged_by true judged = refl
judged_by false Fits = refl
judged_by false Bad = refl
judged_by false LeftOut = refl

not-some : {T : Type 0} (answer : Option T) → not (is_some answer) ≡ is_none answer
not-some None = refl
not-some (Some x) = refl

none-keyword_reason : (before : List HeaderLine) (entry : HeaderLine) (keyword : Option Keyword)
    → is_none (keyword_reason before entry keyword) ≡ (is_none (given entry.name before) && keyword_fits entry keyword)
none-keyword_reason before entry None = sym (and-false (is_none (given entry.name before)))
none-keyword_reason before entry (Some keyword) =
    judged_by (is_some (given entry.name before)) (keyword.judged entry.value)
    ∙ ap (λ (b : Bool). b && fits (keyword.judged entry.value)) (not-some (given entry.name before))

pub none-entry_reason : (before : List HeaderLine) (entry : Option HeaderLine) → is_none (entry_reason before entry) ≡ entry_fits before entry
none-entry_reason before None = refl
none-entry_reason before (Some entry) = none-keyword_reason before entry (keyword_named entry.name)

-- The end of a header.

four_rows : (a b c d : Bool)
    → is_none {T = TextReason} (if a then Some NoType else (if b then Some Conflict else (if c then Some NameMissing
    else (if d then Some NameTwice else None))))
    ≡ (not a && (not b && (not c && not d)))
four_rows true b c d = refl
four_rows false true c d = refl
four_rows false false true d = refl
four_rows false false false true = refl
four_rows false false false false = refl

pub none-header_end_reason : (names : List (Option (List ℕ))) (header : Values)
    → is_none (header_end_reason names header)
    ≡ (is_some (header (codes "type")) && (not
    (conflicts header) && (not (name_missing names (name_in header)) && not (list_any (is_name (name_in header)) names))))
none-header_end_reason names header =
    let a = header (codes "type") in
    four_rows (is_none a) (conflicts header) (name_missing names (name_in header)) (list_any (is_name (name_in header)) names)
    ∙ ap (λ (b : Bool). b && (not (conflicts header) && (not (name_missing names (name_in header)) && not (list_any (is_name (name_in header)) names))))
    (not-none a)
