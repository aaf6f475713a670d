-- A text is read exactly where no line has a reason.
use Rattle.std.proofs.Common.{◌≡◌, ℕ, ◌+◌, ◌&&◌, Bool, true, false, not, if◌then◌else◌, List, [], ◌∷◌, ◌++◌, length, Option, Some, None, is_none, is_some, refl}
use Rattle.std.proofs.Common.{sym, ap, ◌∙◌, append_assoc, codes}
use Rattle.std.proofs.lemmas.List.{append-nil}
use Rattle.std.proofs.lemmas.Bool.{or_parts}
use Rattle.std.specs.List.{list_any}
use Rattle.std.specs.Str.{bytes_eq}
use Rattle.std.proofs.lemmas.Slice.Eq.{bytes_eq-Decides}
use Rattle.bdb_spelling.specs.of_format.Terms.{is_name}
use Rattle.bdb_spelling.specs.of_text_format.declared.faults.TextFault.{TextFault}
use Rattle.bdb_spelling.specs.of_text_format.Terms.{Values, conflicts, data_end, data_end_reason, data_line_reason, end_fault, entries, entry_fits, entry_of}
use Rattle.bdb_spelling.specs.of_text_format.Terms.{entry_reason, fault_at, fault_from, fault_in, header_end_reason, header_fits, is_data_end, is_header_end}
use Rattle.bdb_spelling.specs.of_text_format.Terms.{lines_fit, name_in, name_missing, name_of, nothing_left, or_fault, pairs_read, parts_of, parts_read}
use Rattle.bdb_spelling.specs.of_text_format.Terms.{reason_of, section_read, sections_from, sections_in, text_fault, text_lines, text_sections, values}
use Rattle.bdb_spelling.specs.of_text_format.Terms.{version_line, with_pairs, with_section}
use Rattle.bdb_text.specs.Laws.{ReadsOrFaults}
use Rattle.std.proofs.Math.Bool.{and-false, and_assoc}
use Rattle.bdb_text.proofs.BoolLemmas.{some_if}
use Rattle.bdb_text.proofs.ReasonLemmas.{none-entry_reason, none-first_line_reason, none-header_end_reason}
use Rattle.bdb_text.proofs.PartLemmas.{clean, clean-append_one, has_data_end, has_header_end, lines_fit-append_one, list_any-append_one, parts_of-ended}
use Rattle.bdb_text.proofs.PartLemmas.{parts_of-open}
use Rattle.bdb_text.specs.DataTo.{data_clean}
use Rattle.bdb_text.proofs.DataLemmas.{data_iff}
use Rattle.bdb_spelling.specs.of_text_format.declared.sections.Section.{Section}
use Rattle.bdb_spelling.specs.of_text_format.declared.pairs.TextPair.{TextPair}
use Rattle.bdb_spelling.specs.of_text_format.declared.faults.TextReason.{TextReason}

-- Behind the end of a header.

-- the lines up to one behind the header's end
abbrev pub data_so_far : List ℕ → List (List ℕ) → List ℕ → List (List ℕ) → List (List ℕ)
data_so_far first header line data_lines = first ∷ (header ++ line ∷ data_lines)

pub clean-data : (names : List (Option (List ℕ))) (first line : List ℕ) (header before lines : List (List ℕ)) → has_header_end header ≡ false
    → is_header_end line ≡ true
    → has_data_end lines ≡ false
    → clean names (data_so_far first header line before) lines ≡ data_clean (values header) before lines
unfolding reason_of
clean-data names first line header before [] h e d = refl
clean-data names first line header before (x ∷ lines) h e d =
    let both = or_parts (is_data_end x) (has_data_end lines) d in
    let p = parts_of-ended header line before h e in
    let more = append_assoc header (line ∷ before) (x ∷ []) in
    let rest = clean-data names first line header (before ++ x ∷ []) lines h e both.1 in
    rw (p, both.0) (ap (λ (b : Bool). is_none (data_line_reason (values header) before x) && b)
    (ap (λ (s : List (List ℕ)). clean names (first ∷ s) lines) more ∙ rest))

pub section_end-data : (names : List (Option (List ℕ))) (first line : List ℕ) (header lines : List (List ℕ)) → has_header_end header ≡ false
    → is_header_end line ≡ true
    → reason_of names (data_so_far first header line lines) data_end ≡ data_end_reason (values header) lines
unfolding reason_of
section_end-data names first line header lines h e = rw (parts_of-ended header line lines h e) refl

some-with_pairs : (at : ℕ) (header : Values) (pairs : Option (List TextPair)) → is_some (with_pairs at header pairs) ≡ is_some pairs
some-with_pairs at header None = refl
some-with_pairs at header (Some pairs) = refl

-- A section, from its header on.

algebra : (f e c r : Bool) → ((f && e) && (c && r)) ≡ (f && ((e && c) && r))
algebra true e c r = sym (and_assoc e c r)
algebra false e c r = refl

-- the reason of a line of a header
pub reason-open : (names : List (Option (List ℕ))) (first : List ℕ) (header : List (List ℕ)) (line : List ℕ) → has_header_end header ≡ false
    → reason_of names (first ∷ header) line
    ≡ (if is_header_end line then header_end_reason names (values header) else entry_reason (entries header) (entry_of line))
unfolding reason_of
reason-open names first header line h = rw (parts_of-open header h) refl

-- whether a section is read, and whether no line of it has a reason
abbrev IsPart : List (Option (List ℕ)) → List ℕ → ℕ → List (List ℕ) → List (List ℕ) → Type 0
IsPart names first at header lines =
    is_some (parts_read names at (parts_of (header ++ lines)))
    ≡ (lines_fit [] header && (clean names (first ∷ header) lines && is_none (reason_of names (first ∷ (header ++ lines)) data_end)))

parts_step : (names : List (Option (List ℕ))) (first : List ℕ) (at : ℕ) (header : List (List ℕ)) (x : List ℕ) (lines : List (List ℕ))
    → has_header_end header ≡ false
    → has_data_end lines ≡ false → (ends : Bool) → is_header_end x ≡ ends
    → (has_header_end (header ++ x ∷ []) ≡ false → IsPart names first at (header ++ x ∷ []) lines)
    → IsPart names first at header (x ∷ lines)
parts_step names first at header x lines h d true e more =
    let p = parts_of-ended header x lines h e in
    let reason = reason-open names first header x h in
    let c = clean-data names first x header [] lines h e d in
    let r = section_end-data names first x header lines h e in
    rw (p, reason, e, c, r, none-header_end_reason names (values header))
    (some_if (header_fits names header)
    (with_pairs (at + length header) (values header) (pairs_read (values header) (at + length header + 1) lines))
    ∙ ap (λ (b : Bool). header_fits names header && b)
    (some-with_pairs (at + length header) (values header) (pairs_read (values header) (at + length header + 1) lines)
    ∙ data_iff (values header) (at + length header + 1) lines)
    ∙ algebra (lines_fit [] header)
    (is_some (values header (codes "type")) && (not (conflicts (values header))
    && (not (name_missing names (name_in (values header))) && not (list_any (is_name (name_in (values header))) names))))
    (data_clean (values header) [] lines) (is_none (data_end_reason (values header) lines)))
parts_step names first at header x lines h d false e more =
    let ih = more (list_any-append_one is_header_end header x h e) in
    let reason = reason-open names first header x h in
    let none = none-entry_reason (entries header) (entry_of x) in
    let assoc = append_assoc header (x ∷ []) lines in
    let fit = lines_fit-append_one [] header x in
    let goal_at : is_some (parts_read names at (parts_of (header ++ x ∷ lines)))
    ≡ (lines_fit [] (header ++ x ∷ []) && (clean names (first ∷ (header ++ x ∷ [])) lines && is_none
    (reason_of names (first ∷ (header ++ x ∷ lines)) data_end))) = rw assoc at ih in
    rw (reason, e, none) (goal_at
    ∙ rw fit (algebra (lines_fit [] header) (entry_fits (entries header) (entry_of x)) (clean names (first ∷ (header ++ x ∷ [])) lines)
    (is_none (reason_of names (first ∷ (header ++ x ∷ lines)) data_end))))

parts_iff : (names : List (Option (List ℕ))) (first : List ℕ) (at : ℕ) (header lines : List (List ℕ)) → has_header_end header ≡ false
    → has_data_end lines ≡ false
    → IsPart names first at header lines
parts_iff names first at header [] h d =
    let nil = append-nil header in
    let open_ = parts_of-open header h in
    let reason = reason-open names first header data_end h in
    rw (nil, open_, reason) (sym (and-false (lines_fit [] header)))
parts_iff names first at header (x ∷ lines) h d =
    let both = or_parts (is_data_end x) (has_data_end lines) d in
    parts_step names first at header x lines h both.1 (is_header_end x) refl (λ k. parts_iff names first at (header ++ x ∷ []) lines k both.1)

-- A section.

pub section_iff : (names : List (Option (List ℕ))) (at : ℕ) (lines : List (List ℕ)) → has_data_end lines ≡ false
    → is_some (section_read names at lines) ≡ (clean names [] lines && is_none (reason_of names lines data_end))
unfolding section_read reason_of
section_iff names at [] d = refl
section_iff names at (first ∷ lines) d =
    let both = or_parts (is_data_end first) (has_data_end lines) d in
    let none = none-first_line_reason first in
    let parts = parts_iff names first (at + 1) [] lines refl both.1 in
    rw none (some_if (bytes_eq first version_line) (parts_read names (at + 1) (parts_of lines)) ∙ ap (λ (b : Bool). bytes_eq first version_line && b) parts
    ∙ sym (and_assoc (bytes_eq first version_line) (clean names (first ∷ []) lines) (is_none (reason_of names (first ∷ lines) data_end))))

-- All sections.

some-with_section : (section : Option Section) (others : Option (List Section)) → is_some (with_section section others) ≡ (is_some section && is_some others)
some-with_section None others = refl
some-with_section (Some section) None = refl
some-with_section (Some section) (Some others) = refl

none-or_fault : (number : ℕ) (reason : Option TextReason) (other : Option TextFault)
    → is_none (or_fault (fault_at number reason) other) ≡ (is_none reason && is_none other)
none-or_fault number None other = refl
none-or_fault number (Some reason) other = refl

left_iff : (names : List (Option (List ℕ))) (before : List (List ℕ)) (number : ℕ)
    → is_some (nothing_left before) ≡ (clean names [] before && is_none (end_fault before number))
left_iff names [] number = refl
left_iff names (line ∷ before) number = sym (and-false (clean names [] (line ∷ before)))

abbrev IsRead : List (Option (List ℕ)) → List (List ℕ) → ℕ → ℕ → List (List ℕ) → Type 0
IsRead names before at number lines = is_some (sections_from names before at lines) ≡ (clean names [] before && is_none (fault_from names before number lines))

read_step : (names : List (Option (List ℕ))) (before : List (List ℕ)) (at number : ℕ) (line : List ℕ) (lines : List (List ℕ)) → has_data_end before ≡ false
    → (ends : Bool) → is_data_end line ≡ ends
    → ((names : List (Option (List ℕ))) (before : List (List ℕ)) (at number : ℕ) → has_data_end before ≡ false → IsRead names before at number lines)
    → IsRead names before at number (line ∷ lines)
read_step names before at number line lines d true e more =
    let same : line ≡ data_end = (bytes_eq-Decides line data_end).0 e in
    let others = more (names ++ name_of before ∷ []) [] (at + length before + 1) (number + 1) refl in
    let section = section_iff names at before d in
    rw (e, none-or_fault number (reason_of names before line) (fault_from (names ++ name_of before ∷ []) [] (number + 1) lines))
    (some-with_section (section_read names at before) (sections_from (names ++ name_of before ∷ []) [] (at + length before + 1) lines)
    ∙ rw (section, others, same)
    (and_assoc (clean names [] before) (is_none (reason_of names before data_end)) (is_none (fault_from (names ++ name_of before ∷ []) [] (number + 1) lines))))
read_step names before at number line lines d false e more =
    let ih = more names (before ++ line ∷ []) at (number + 1) (list_any-append_one is_data_end before line d e) in
    rw (e, none-or_fault number (reason_of names before line) (fault_from names (before ++ line ∷ []) (number + 1) lines))
    (ih ∙ rw (clean-append_one names [] before line)
    (and_assoc (clean names [] before) (is_none (reason_of names before line)) (is_none (fault_from names (before ++ line ∷ []) (number + 1) lines))))

read_iff : (lines : List (List ℕ)) (names : List (Option (List ℕ))) (before : List (List ℕ)) (at number : ℕ) → has_data_end before ≡ false
    → IsRead names before at number lines
read_iff [] names before at number d = left_iff names before number
read_iff (line ∷ lines) names before at number d =
    read_step names before at number line lines d (is_data_end line) refl (λ n b a k h. read_iff lines n b a k h)

lines_iff : (lines : List (List ℕ)) → is_some (sections_in lines) ≡ is_none (fault_in lines)
lines_iff [] = refl
lines_iff (line ∷ lines) = read_iff (line ∷ lines) [] [] 1 1 refl

pub reads_or_faults : ReadsOrFaults
unfolding text_sections text_fault
reads_or_faults text = lines_iff (text_lines text)
