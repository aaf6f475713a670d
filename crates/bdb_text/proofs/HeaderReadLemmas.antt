-- A line of a header more.
use Rattle.std.proofs.Common.{if◌then◌else◌, ◌≡◌, ℕ, ◌+◌, true, false, List, [], ◌∷◌, ◌++◌, Some, None, is_none, refl, sym, ap, ◌∙◌, arith, append_assoc}
use Rattle.std.proofs.Common.{length-append, is_ok, is_err, Result, Ok, Err}
use Rattle.std.proofs.lemmas.Bool.{and_from, true≢false}
use Rattle.std.proofs.lemmas.List.{map-append}
use Rattle.std.proofs.lemmas.List.Elements.{filter_map-append}
use Rattle.bdb_spelling.specs.of_text_format.Terms.{HeaderLine, entries, entry_fits, entry_of, entry_reason, is_header_end, lines_fit}
use Rattle.bdb_text.specs.declared.fields.Field.{Field}
use Rattle.bdb_text.specs.Fields.{entries_in, entry_in}
use Rattle.bdb_text.specs.ReadTo.{IsHeaderTo}
use Rattle.bdb_text.proofs.PartLemmas.{lines_fit-append_one, list_any-append_one}
use Rattle.bdb_text.proofs.ReasonLemmas.{none-entry_reason}

-- A field more.

pushed_by : {T E : Type 0} (r : Result T E) (now all old : List Field) → now ≡ (if is_ok r then all else old) → false ≡ is_err r → now ≡ all
pushed_by (Ok x) now all old e h = e
pushed_by (Err x) now all old e h = absurd (true≢false (sym h))

pub pushed : {T E : Type 0} (r : Result T E) (now old : List Field) (field : Field) → now ≡ (if is_ok r then old ++ field ∷ [] else old) → false ≡ is_err r
    → entries_in now ≡ entries_in old ++ entry_in field ∷ []
pushed r now old field e h = ap entries_in (pushed_by r now (old ++ field ∷ []) old e h) ∙ map-append entry_in old (field ∷ [])

pub header_more : (lines : List (List ℕ)) (start : ℕ) (fields : List HeaderLine) (line : List ℕ) (rest more : List (List ℕ)) (number : ℕ) (entry : HeaderLine)
    → IsHeaderTo lines start fields rest number → rest ≡ line ∷ more → is_header_end line ≡ false → entry_of line ≡ Some entry
    → entry_reason fields (entry_of line) ≡ None
    → IsHeaderTo lines start (fields ++ entry ∷ []) more (number + 1)
header_more lines start fields line rest more number entry to is other entered none =
    let fits : entry_fits (entries to.header) (entry_of line) ≡ true =
    sym (none-entry_reason (entries to.header) (entry_of line)) ∙ ap (λ (es : List HeaderLine). is_none (entry_reason es (entry_of line))) to.fields_are
    ∙ ap is_none none in
    record {
      header = to.header ++ line ∷ [];
      lines_are = to.lines_are ∙ ap (λ (r : List (List ℕ)). to.header ++ r) is ∙ sym (append_assoc to.header (line ∷ []) more);
      not_ended = list_any-append_one is_header_end to.header line to.not_ended other;
      fits = lines_fit-append_one [] to.header line ∙ and_from (lines_fit [] to.header) (entry_fits (entries to.header) (entry_of line)) to.fits fits;
      fields_are = filter_map-append entry_of to.header (line ∷ []) ∙ rw (entered, to.fields_are) refl;
      number_is = let size = length-append to.header (line ∷ []) in omega (arith, size, to.number_is);
    }
