-- A section more, and the faults of a section.
use Rattle.std.proofs.Common.{if◌then◌else◌, ◌≡◌, ◌≢◌, ◌==◌, ℕ, ◌+◌, Bool, true, false, List, [], ◌∷◌, ◌++◌, length, Option, Some, None, is_none, is_some, refl}
use Rattle.std.proofs.Common.{sym, ap, ◌∙◌, arith, append_assoc, length-append}
use Rattle.std.proofs.lemmas.Bool.{and_from, and_parts, false_from_ne_true, or_parts}
use Rattle.std.proofs.lemmas.List.{append-nil, map-append}
use Rattle.std.proofs.lemmas.Slice.Eq.{bytes_eq-Decides}
use Rattle.bdb_spelling.specs.of_text_format.declared.faults.TextFault.{TextFault}
use Rattle.bdb_spelling.specs.of_text_format.declared.pairs.TextPair.{TextPair}
use Rattle.bdb_spelling.specs.of_text_format.declared.sections.Section.{Section}
use Rattle.bdb_spelling.specs.of_text_format.Terms.{HeaderLine, Parts, Reads, Values, data_end, data_end_reason, data_line_reason, entries, entry_fits}
use Rattle.bdb_spelling.specs.of_text_format.Terms.{entry_of, entry_reason, fault_from, fault_in, first_line_reason, given, header_end, header_end_reason}
use Rattle.bdb_spelling.specs.of_text_format.Terms.{header_fits, is_data_end, is_header_end, lines_fit, name_in, name_of, name_of_parts, onto_first}
use Rattle.bdb_spelling.specs.of_text_format.Terms.{pairs_read, parts_read, reason_of, section_read, sections_from, sections_in, settings_in, text_fault}
use Rattle.bdb_spelling.specs.of_text_format.Terms.{text_lines, text_sections, values, version_line, with_section}
use Rattle.bdb_text.specs.declared.data_pairs.Data.{Data}
use Rattle.bdb_text.specs.declared.dump.Read.{Read}
use Rattle.bdb_text.specs.declared.fields.Field.{Field}
use Rattle.bdb_text.specs.declared.headers.Header.{Header}
use Rattle.bdb_text.specs.Fields.{entries_in, values_in}
use Rattle.bdb_text.specs.declared.text_errors.TextError.{TextError}
use Rattle.bdb_text.specs.declared.text_errors.TextError.TheVariants.{Fault, Memory}
use Rattle.bdb_text.specs.ReadTo.{IsHeaderFault, IsHeaderRead, IsHeaderTo, OnFault, header_reason}
use Rattle.bdb_text.specs.DataTo.{IsDataFault, IsDataRead, data_clean, data_reason}
use Rattle.bdb_text.specs.SectionTo.{IsSectionFault, IsSectionRead, IsTextTo, named_end_reason, names_of, sections_behind}
use Rattle.bdb_text.proofs.PartLemmas.{clean, has_data_end, has_header_end, list_any-append_one, parts_of-ended}
use Rattle.bdb_text.proofs.LineLemmas.{sections_from-section}
use Rattle.bdb_text.proofs.TableLemmas.{list_any-append}
use Rattle.bdb_text.proofs.ReasonLemmas.{none-entry_reason, none-first_line_reason, none-header_end_reason}
use Rattle.bdb_text.proofs.ReadLemmas.{clean-data, reason-open, section_iff}
use Rattle.bdb_spelling.specs.of_text_format.declared.faults.TextReason.{TextReason}
use Rattle.bdb_spelling.specs.of_text_format.declared.faults.TextReason.TheVariants.{NoVersion, NoEnd}

-- Lines without a reason.

none_is : {T : Type 0} (answer : Option T) → is_none answer ≡ true → answer ≡ None
none_is None h = refl
none_is (Some x) h = cc

-- the fault stands behind them
fault_from-clean : (names : List (Option (List ℕ))) (before : List (List ℕ)) (number : ℕ) (lines rest : List (List ℕ)) → clean names before lines ≡ true
    → has_data_end lines ≡ false
    → fault_from names before number (lines ++ rest) ≡ fault_from names (before ++ lines) (number + length lines) rest
fault_from-clean names before number [] rest c d =
    let same : number + 0 ≡ number = omega arith in
    rw (append-nil before, same) refl
fault_from-clean names before number (line ∷ lines) rest c d =
    let parts = or_parts (is_data_end line) (has_data_end lines) d in
    let both = and_parts (is_none (reason_of names before line)) (clean names (before ++ line ∷ []) lines) c in
    let none = none_is (reason_of names before line) both.0 in
    let count : number + 1 + length lines ≡ number + length (line ∷ lines) = omega arith in
    rw (none, parts.0) (fault_from-clean names (before ++ line ∷ []) (number + 1) lines rest both.1 parts.1
    ∙ ap (λ (b : List (List ℕ)). fault_from names b (number + 1 + length lines) rest) (append_assoc before (line ∷ []) lines)
    ∙ ap (λ (n : ℕ). fault_from names (before ++ line ∷ lines) n rest) count)

-- a line with a reason
fault_from-at : (names : List (Option (List ℕ))) (before : List (List ℕ)) (number : ℕ) (reason : TextReason) (line : List ℕ) (rest : List (List ℕ))
    → reason_of names before line ≡ Some reason
    → fault_from names before number (line ∷ rest) ≡ Some (record { line = number; reason = reason })
fault_from-at names before number reason line rest is = rw is refl

-- The first line.

pub first_fault : (names : List (Option (List ℕ))) (text line : List ℕ) (rest : List (List ℕ)) (start : ℕ) (reason : TextReason) → text_lines text ≡ line ∷ rest
    → Some reason ≡ first_line_reason line → IsSectionFault names text start (record { line = start; reason = reason })
unfolding reason_of
first_fault names text line rest start reason lines is =
    ap (λ (ls : List (List ℕ)). fault_from names [] start ls) lines ∙ fault_from-at names [] start reason line rest (sym is)

-- a first line without a reason
pub version_is : (line : List ℕ) → None ≡ first_line_reason line → line ≡ version_line
version_is line none = (bytes_eq-Decides line version_line).0 (sym (none-first_line_reason line) ∙ ap is_none (sym none))

clean-version : (names : List (Option (List ℕ))) (before : List (List ℕ)) → clean names [] (version_line ∷ before) ≡ clean names (version_line ∷ []) before
unfolding reason_of
clean-version names before = refl

-- A header.

no_end : (before : List HeaderLine) (line : List ℕ) → entry_fits before (entry_of line) ≡ true → is_data_end line ≡ false
no_end before line fits = false_from_ne_true (is_data_end line) (λ is.
    let same : line ≡ data_end = (bytes_eq-Decides line data_end).0 is in
    let wrong : false ≡ true = none-entry_reason before (entry_of data_end) ∙ ap (λ (l : List ℕ). entry_fits before (entry_of l)) (sym same) ∙ fits in
    cc)

header-no_end : (before header : List (List ℕ)) → lines_fit before header ≡ true → has_data_end header ≡ false
header-no_end before [] fits = refl
header-no_end before (line ∷ header) fits =
    let both = and_parts (entry_fits (entries before) (entry_of line)) (lines_fit (before ++ line ∷ []) header) fits in
    rw (no_end (entries before) line both.0) (header-no_end (before ++ line ∷ []) header both.1)

clean-header : (names : List (Option (List ℕ))) (first : List ℕ) (before header : List (List ℕ)) → has_header_end before ≡ false → has_header_end header ≡ false
    → lines_fit before header ≡ true
    → clean names (first ∷ before) header ≡ true
clean-header names first before [] b h fits = refl
clean-header names first before (line ∷ header) b h fits =
    let parts = or_parts (is_header_end line) (has_header_end header) h in
    let both = and_parts (entry_fits (entries before) (entry_of line)) (lines_fit (before ++ line ∷ []) header) fits in
    let open_ = reason-open names first before line b in
    let none = none-entry_reason (entries before) (entry_of line) ∙ both.0 in
    rw (open_, parts.0, none) (clean-header names first (before ++ line ∷ []) header (list_any-append_one is_header_end before line b parts.0) parts.1 both.1)

-- behind the lines of a header
fault_from-header : (names : List (Option (List ℕ))) (first : List ℕ) (lines : List (List ℕ)) (start : ℕ) (fields : List HeaderLine) (rest : List (List ℕ))
    (number : ℕ)
    → (to : IsHeaderTo lines start fields rest number) → fault_from names (first ∷ []) start lines ≡ fault_from names (first ∷ to.header) number rest
fault_from-header names first lines start fields rest number to =
    ap (λ (ls : List (List ℕ)). fault_from names (first ∷ []) start ls) to.lines_are
    ∙ fault_from-clean names (first ∷ []) start to.header rest (clean-header names first [] to.header refl to.not_ended to.fits)
    (header-no_end [] to.header to.fits)
    ∙ ap (λ (n : ℕ). fault_from names (first ∷ to.header) n rest) (sym to.number_is)

header_end_by : (names : List (Option (List ℕ))) (header : List (List ℕ)) (fields : List HeaderLine) (reason : TextReason) (line : ℕ)
    (rest : List (List ℕ)) (first : List ℕ)
    → has_header_end header ≡ false
    → entries header ≡ fields → header_reason fields rest ≡ Some reason
    → fault_from names (first ∷ header) line rest ≡ Some (record { line = line; reason = reason })
header_end_by names header fields reason line [] first h e is =
    let same : NoEnd ≡ reason = cc in
    ap (λ (r : TextReason). Some (record { line = line; reason = r })) same
header_end_by names header fields reason line (x ∷ rest) first h e is =
    fault_from-at names (first ∷ header) line reason x rest (reason-open names first header x h ∙ by_end (is_header_end x) is)
  where
    by_end : (ends : Bool) → (if ends then None else entry_reason fields (entry_of x)) ≡ Some reason
        → (if ends then header_end_reason names (values header) else entry_reason (entries header) (entry_of x)) ≡ Some reason
    by_end true none = cc
    by_end false some = ap (λ (es : List HeaderLine). entry_reason es (entry_of x)) e ∙ some

-- the fault of a header is that of its section
pub header_fault : (names : List (Option (List ℕ))) (text line behind : List ℕ) (start : ℕ) (fault : TextFault) → text_lines text ≡ line ∷ text_lines behind
    → None ≡ first_line_reason line
    → IsHeaderFault behind (start + 1) fault → IsSectionFault names text start fault
header_fault names text line behind start fault lines none is =
    ap (λ (ls : List (List ℕ)). fault_from names [] start ls) (lines ∙ ap (λ (l : List ℕ). l ∷ text_lines behind) (version_is line none))
    ∙ fault_from-clean names [] start (version_line ∷ []) (text_lines behind) (clean-version names []) refl
    ∙ fault_from-header names version_line (text_lines behind) (start + 1) is.fields is.rest fault.line is.to
    ∙ header_end_by names is.to.header is.fields fault.reason fault.line is.rest version_line is.to.not_ended is.to.fields_are is.reason_is

-- The end of a header.

values-header : (lines : List (List ℕ)) (start : ℕ) (fields : List Field) (rest : List (List ℕ)) (number : ℕ)
    → (to : IsHeaderTo lines start (entries_in fields) rest number)
    → values to.header ≡ values_in fields
values-header lines start fields rest number to = ap {B = Values} (λ (es : List HeaderLine). λ (name : List ℕ). given name es) to.fields_are

-- the reasons of a header's end, as the code finds them
end_reason_is : (names : List (Option (List ℕ))) (header : Values) (name : Option (List ℕ)) (reason : Option TextReason) → name ≡ name_in header
    → reason ≡ named_end_reason names header name
    → header_end_reason names header ≡ reason
end_reason_is names header name reason named is = ap (named_end_reason names header) (sym named) ∙ sym is

-- what stands before the end of a header
fault_from-version : (names : List (Option (List ℕ))) (text line behind : List ℕ) (start : ℕ) (fields : List HeaderLine) (rest : List (List ℕ)) (number : ℕ)
    → text_lines text ≡ line ∷ text_lines behind → None ≡ first_line_reason line → (to : IsHeaderTo (text_lines behind) (start + 1) fields rest number)
    → fault_from names [] start (text_lines text) ≡ fault_from names (version_line ∷ to.header) number rest
fault_from-version names text line behind start fields rest number lines none to =
    ap (λ (ls : List (List ℕ)). fault_from names [] start ls) (lines ∙ ap (λ (l : List ℕ). l ∷ text_lines behind) (version_is line none))
    ∙ fault_from-clean names [] start (version_line ∷ []) (text_lines behind) (clean-version names []) refl
    ∙ fault_from-header names version_line (text_lines behind) (start + 1) fields rest number to

pub end_fault_is : (names : List (Option (List ℕ))) (text line behind : List ℕ) (start : ℕ) (header : Header) (name : Option (List ℕ)) (reason : TextReason)
    → text_lines text ≡ line ∷ text_lines behind → None ≡ first_line_reason line → IsHeaderRead behind (start + 1) header
    → name ≡ name_in (values_in header.fields.items) → Some reason ≡ named_end_reason names (values_in header.fields.items) name
    → IsSectionFault names text start (record { line = header.number; reason = reason })
end_fault_is names text line behind start header name reason lines none to named is =
    let values_are = values-header (text_lines behind) (start + 1) header.fields.items (header_end ∷ text_lines header.rest.now) header.number to in
    fault_from-version names text line behind start (entries_in header.fields.items) (header_end ∷ text_lines header.rest.now) header.number lines none to
    ∙ fault_from-at names (version_line ∷ to.header) header.number reason header_end (text_lines header.rest.now)
    (reason-open names version_line to.header header_end to.not_ended ∙ ap (header_end_reason names) values_are
    ∙ end_reason_is names (values_in header.fields.items) name (Some reason) named is)

-- Data lines.

reason-data : (names : List (Option (List ℕ))) (first : List ℕ) (header before : List (List ℕ)) (line : List ℕ) → has_header_end header ≡ false
    → reason_of names (first ∷ (header ++ header_end ∷ before)) line
    ≡ (if is_data_end line then data_end_reason (values header) before else data_line_reason (values header) before line)
unfolding reason_of
reason-data names first header before line h = rw (parts_of-ended header header_end before h refl) refl

fault_from-data : (names : List (Option (List ℕ))) (first : List ℕ) (header before : List (List ℕ)) (number : ℕ) (reason : TextReason) (rest : List (List ℕ))
    → has_header_end header ≡ false
    → data_reason (values header) before rest ≡ Some reason
    → fault_from names (first ∷ (header ++ header_end ∷ before)) number rest ≡ Some (record { line = number; reason = reason })
fault_from-data names first header before number reason [] h is =
    let same : NoEnd ≡ reason = cc in
    ap (λ (r : TextReason). Some (record { line = number; reason = r })) same
fault_from-data names first header before number reason (line ∷ rest) h is =
    fault_from-at names (first ∷ (header ++ header_end ∷ before)) number reason line rest (reason-data names first header before line h ∙ is)

-- a header's end without a reason
clean-end : (names : List (Option (List ℕ))) (first : List ℕ) (header : List (List ℕ)) → has_header_end header ≡ false
    → header_end_reason names (values header) ≡ None
    → clean names (first ∷ header) (header_end ∷ []) ≡ true
clean-end names first header h none =
    let open_ = reason-open names first header header_end h in
    rw (open_, none) refl

fault_from-end : (names : List (Option (List ℕ))) (first : List ℕ) (header before : List (List ℕ)) (number : ℕ) (rest : List (List ℕ))
    → has_header_end header ≡ false
    → header_end_reason names (values header) ≡ None → data_clean (values header) [] before ≡ true → has_data_end before ≡ false
    → fault_from names (first ∷ header) number (header_end ∷ (before ++ rest))
    ≡ fault_from names (first ∷ (header ++ header_end ∷ before)) (number + 1 + length before) rest
fault_from-end names first header before number rest h none clean_data within =
    fault_from-clean names (first ∷ header) number (header_end ∷ []) (before ++ rest) (clean-end names first header h none) refl
    ∙ fault_from-clean names (first ∷ (header ++ header_end ∷ [])) (number + 1) before rest (clean-data names first header_end header [] before h refl within
    ∙ clean_data) within
    ∙ ap (λ (b : List (List ℕ)). fault_from names (first ∷ b) (number + 1 + length before) rest) (append_assoc header (header_end ∷ []) before)

pub data_fault_is : (names : List (Option (List ℕ))) (text line behind : List ℕ) (start : ℕ) (header : Header) (name : Option (List ℕ)) (fault : TextFault)
    → text_lines text ≡ line ∷ text_lines behind → None ≡ first_line_reason line → IsHeaderRead behind (start + 1) header
    → name ≡ name_in (values_in header.fields.items) → None ≡ named_end_reason names (values_in header.fields.items) name
    → IsDataFault (values_in header.fields.items) header.rest.now (header.number + 1) fault → IsSectionFault names text start fault
data_fault_is names text line behind start header name fault lines none to named end_none is =
    let values_are = values-header (text_lines behind) (start + 1) header.fields.items (header_end ∷ text_lines header.rest.now) header.number to in
    let end_is = ap (header_end_reason names) values_are ∙ end_reason_is names (values_in header.fields.items) name None named end_none in
    let clean_data = ap (λ (v : Values). data_clean v [] is.before) values_are ∙ is.to.clean in
    let reason = ap (λ (v : Values). data_reason v is.before is.rest) values_are ∙ is.reason_is in
    fault_from-version names text line behind start (entries_in header.fields.items) (header_end ∷ text_lines header.rest.now) header.number lines none to
    ∙ ap (λ (ls : List (List ℕ)). fault_from names (version_line ∷ to.header) header.number (header_end ∷ ls)) is.to.lines_are
    ∙ fault_from-end names version_line to.header is.before header.number is.rest to.not_ended end_is clean_data is.to.within
    ∙ ap (λ (n : ℕ). fault_from names (version_line ∷ (to.header ++ header_end ∷ is.before)) n is.rest) (sym is.to.number_is)
    ∙ fault_from-data names version_line to.header is.before fault.line fault.reason is.rest to.not_ended reason

-- A section that is read.

section_read-parts : (names : List (Option (List ℕ))) (start : ℕ) (header before : List (List ℕ)) (pairs : List TextPair) → has_header_end header ≡ false
    → header_fits names header ≡ true
    → pairs_read (values header) (start + 1 + length header + 1) before ≡ Some pairs
    → section_read names start (version_line ∷ (header ++ header_end ∷ before))
    ≡ Some (record { name = name_in (values header); settings = settings_in (values header); header_line = start + 1 + length header; pairs = pairs })
unfolding section_read
section_read-parts names start header before pairs h fits read =
    ap (λ (parts : Option Parts). parts_read names (start + 1) parts) (parts_of-ended header header_end before h refl)
    ∙ rw (fits, read) refl

name_of-parts : (first : List ℕ) (header before : List (List ℕ)) → has_header_end header ≡ false
    → name_of (first ∷ (header ++ header_end ∷ before)) ≡ name_in (values header)
name_of-parts first header before h = ap name_of_parts (parts_of-ended header header_end before h refl)

pub section_is_read : (names : List (Option (List ℕ))) (text line behind : List ℕ) (start : ℕ) (header : Header) (name : Option (List ℕ)) (read : Read)
    (pairs : Data)
    → text_lines text ≡ line ∷ text_lines behind → None ≡ first_line_reason line → IsHeaderRead behind (start + 1) header
    → name ≡ name_in (values_in header.fields.items) → None ≡ named_end_reason names (values_in header.fields.items) name
    → IsDataRead (values_in header.fields.items) header.rest.now (header.number + 1) pairs
    → read.section ≡ record { name = name; settings = settings_in (values_in header.fields.items); header_line = header.number; pairs = pairs.pairs }
    → text_lines read.rest.now ≡ text_lines pairs.rest.now → read.number ≡ pairs.number → IsSectionRead names text start read
section_is_read names text line behind start header name read pairs lines none to named end_none is section rest number =
    let values_are = values-header (text_lines behind) (start + 1) header.fields.items (header_end ∷ text_lines header.rest.now) header.number to in
    let end_is = ap (header_end_reason names) values_are ∙ end_reason_is names (values_in header.fields.items) name None named end_none in
    let fits : header_fits names to.header ≡ true = and_from (lines_fit [] to.header) _ to.fits (sym (none-header_end_reason names (values to.header))
    ∙ ap is_none end_is) in
    let at : header.number + 1 ≡ start + 1 + length to.header + 1 = ap (λ (n : ℕ). n + 1) to.number_is in
    let read_is : pairs_read (values to.header) (start + 1 + length to.header + 1) is.before ≡ Some pairs.pairs =
    ap (λ (v : Values). pairs_read v (start + 1 + length to.header + 1) is.before) values_are
    ∙ ap (λ (n : ℕ). pairs_read (values_in header.fields.items) n is.before) (sym at) ∙ is.pairs_are in
    record {
      lines = version_line ∷ (to.header ++ header_end ∷ is.before);
      lines_are =
          lines ∙ ap (λ (l : List ℕ). l ∷ text_lines behind) (version_is line none)
          ∙ ap (λ (ls : List (List ℕ)). version_line ∷ ls) (to.lines_are
          ∙ ap (λ (ls : List (List ℕ)). to.header ++ header_end ∷ ls) (is.lines_are ∙ ap (λ (ls : List (List ℕ)). is.before ++ data_end ∷ ls) (sym rest))
          ∙ sym (append_assoc to.header (header_end ∷ is.before) (data_end ∷ text_lines read.rest.now)));
      within = list_any-append is_data_end to.header (header_end ∷ is.before) (header-no_end [] to.header to.fits) is.within;
      section_is =
          section_read-parts names start to.header is.before pairs.pairs to.not_ended fits read_is
          ∙ ap (λ (v : Values). Some (record { name = name_in v; settings = settings_in v; header_line = start + 1 + length to.header; pairs = pairs.pairs }))
          values_are
          ∙ ap (λ (n : ℕ). Some
          (record {
            name = name_in (values_in header.fields.items);
            settings = settings_in (values_in header.fields.items);
            header_line = n;
            pairs = pairs.pairs;
          })) (sym to.number_is)
          ∙ ap (λ (n : Option (List ℕ)). Some
          (record { name = n; settings = settings_in (values_in header.fields.items); header_line = header.number; pairs = pairs.pairs })) (sym named)
          ∙ ap Some (sym section);
      name_is = name_of-parts version_line to.header is.before to.not_ended ∙ ap name_in values_are ∙ sym named ∙ ap (λ (s : Section). s.name) (sym section);
      number_is = let size = length-append to.header (header_end ∷ is.before) in omega (arith, size, number, is.number_is, to.number_is);
    }

-- The whole text.

behind_one : (sections : List Section) (section : Section) (others : Option (List Section))
    → sections_behind sections (with_section (Some section) others) ≡ sections_behind (sections ++ section ∷ []) others
behind_one sections section None = refl
behind_one sections section (Some others) = ap Some (sym (append_assoc sections (section ∷ []) others))

-- a section that is read has no fault
fault_from-section : (names : List (Option (List ℕ))) (start : ℕ) (lines rest : List (List ℕ)) (section : Section) → has_data_end lines ≡ false
    → section_read names start lines ≡ Some section
    → fault_from names [] start (lines ++ data_end ∷ rest) ≡ fault_from (names ++ name_of lines ∷ []) [] (start + length lines + 1) rest
fault_from-section names start lines rest section d read =
    let both = and_parts (clean names [] lines) (is_none (reason_of names lines data_end)) (sym (section_iff names start lines d) ∙ ap is_some read) in
    let none = none_is (reason_of names lines data_end) both.1 in
    fault_from-clean names [] start lines (data_end ∷ rest) both.0 d ∙ rw none refl

pub text_more : (text : List ℕ) (sections : List Section) (rest : List ℕ) (number : ℕ) (read : Read) → IsTextTo text sections rest number
    → IsSectionRead (names_of sections) rest number read
    → IsTextTo text (sections ++ read.section ∷ []) read.rest.now read.number
text_more text sections rest number read to is =
    let names : names_of sections ++ name_of is.lines ∷ [] ≡ names_of (sections ++ read.section ∷ []) =
    ap (λ (n : Option (List ℕ)). names_of sections ++ n ∷ []) is.name_is ∙ sym (map-append (λ (s : Section). s.name) sections (read.section ∷ [])) in
    record {
      fault_is =
          to.fault_is ∙ ap (λ (ls : List (List ℕ)). fault_from (names_of sections) [] number ls) is.lines_are
          ∙ fault_from-section (names_of sections) number is.lines (text_lines read.rest.now) read.section is.within is.section_is
          ∙ ap (λ (ns : List (Option (List ℕ))). fault_from ns [] (number + length is.lines + 1) (text_lines read.rest.now)) names
          ∙ ap (λ (n : ℕ). fault_from (names_of (sections ++ read.section ∷ [])) [] n (text_lines read.rest.now)) (sym is.number_is);
      sections_are =
          to.sections_are
          ∙ ap (sections_behind sections) (ap (λ (ls : List (List ℕ)). sections_from (names_of sections) [] number ls) is.lines_are
          ∙ sections_from-section (names_of sections) number [] is.lines (text_lines read.rest.now) is.within
          ∙ ap (λ (s : Option Section). with_section s
          (sections_from (names_of sections ++ name_of is.lines ∷ []) [] (number + length is.lines + 1) (text_lines read.rest.now))) is.section_is)
          ∙ behind_one sections read.section
          (sections_from (names_of sections ++ name_of is.lines ∷ []) [] (number + length is.lines + 1) (text_lines read.rest.now))
          ∙ ap (λ (ns : List (Option (List ℕ))). sections_behind (sections ++ read.section ∷ [])
          (sections_from ns [] (number + length is.lines + 1) (text_lines read.rest.now))) names
          ∙ ap (λ (n : ℕ). sections_behind (sections ++ read.section ∷ [])
          (sections_from (names_of (sections ++ read.section ∷ [])) [] n (text_lines read.rest.now))) (sym is.number_is);
    }

nil_behind : (sections : Option (List Section)) → sections ≡ sections_behind [] sections
nil_behind None = refl
nil_behind (Some sections) = refl

begun_by : (lines : List (List ℕ)) (line : List ℕ) (rest : List (List ℕ)) → lines ≡ line ∷ rest
    → (fault_in lines ≡ fault_from [] [] 1 lines) × (sections_in lines ≡ sections_from [] [] 1 lines)
begun_by [] line rest is = absurd cc
begun_by (first ∷ lines) line rest is = (refl, refl)

first_by : (byte : ℕ) (lines : List (List ℕ)) (feed : Bool)
    → (line : List ℕ) × (rest : List (List ℕ)) × ((if feed then [] ∷ lines else onto_first byte lines) ≡ line ∷ rest)
first_by byte lines true = ([], lines, refl)
first_by byte [] false = (byte ∷ [], [], refl)
first_by byte (line ∷ lines) false = (byte ∷ line, lines, refl)

-- a text that isn't empty has a first line
pub text_begun : (text : List ℕ) → length text ≢ 0 → IsTextTo text [] text 1
unfolding text_fault text_sections
text_begun [] some = absurd (some refl)
text_begun (byte ∷ text) some =
    let first = first_by byte (text_lines text) (byte == 10) in
    let both = begun_by (text_lines (byte ∷ text)) first.0 first.1 first.2 in
    record {
      fault_is = both.0;
      sections_are = both.1 ∙ nil_behind (sections_from [] [] 1 (text_lines (byte ∷ text)));
    }

pub empty_fault : (text : List ℕ) → length text ≡ 0 → text_fault text ≡ Some (record { line = 1; reason = NoVersion })
unfolding text_fault
empty_fault [] none = refl
empty_fault (byte ∷ text) none = absurd (omega arith)

pub text_ended : (text : List ℕ) (sections : List Section) (rest : List ℕ) (number : ℕ) → IsTextTo text sections rest number → length rest ≡ 0
    → Reads text sections
text_ended text sections [] number to none = to.sections_are ∙ ap Some (append-nil sections)
text_ended text sections (byte ∷ rest) number to none = absurd (omega arith)

pub on_more : (P Q : TextFault → Type 0) (error : TextError) → ((fault : TextFault) → P fault → Q fault) → OnFault P error → OnFault Q error
on_more P Q (Fault fault) more is = more fault is
on_more P Q Memory more is = tt
