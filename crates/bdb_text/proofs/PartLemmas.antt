-- The parts of a section's lines, and lines that have no reason.
use Rattle.std.proofs.Common.{◌≡◌, ℕ, ◌&&◌, Bool, true, false, List, [], ◌∷◌, ◌++◌, Option, Some, None, is_none, refl, sym, ap, ◌∙◌, append_assoc}
use Rattle.std.proofs.lemmas.List.{append-nil}
use Rattle.std.proofs.lemmas.Bool.{or_parts}
use Rattle.std.specs.List.{list_any}
use Rattle.bdb_spelling.specs.of_text_format.Terms.{entries, entry_fits, entry_of, is_data_end, is_header_end, lines_fit, parts_of, reason_of}
use Rattle.std.proofs.Math.Bool.{and-true, and_assoc}

-- none of the lines ends a header, or a section
abbrev pub has_header_end : List (List ℕ) → Bool
has_header_end lines = list_any is_header_end lines

abbrev pub has_data_end : List (List ℕ) → Bool
has_data_end lines = list_any is_data_end lines

pub parts_of-open : (header : List (List ℕ)) → has_header_end header ≡ false → parts_of header ≡ None
parts_of-open [] h = refl
parts_of-open (line ∷ header) h =
    let both = or_parts (is_header_end line) (has_header_end header) h in
    rw (both.0, parts_of-open header both.1) refl

pub parts_of-ended : (header : List (List ℕ)) (line : List ℕ) (lines : List (List ℕ)) → has_header_end header ≡ false → is_header_end line ≡ true
    → parts_of (header ++ line ∷ lines) ≡ Some (record { header = header; data_lines = lines })
parts_of-ended [] line lines h e = rw e refl
parts_of-ended (first ∷ header) line lines h e =
    let both = or_parts (is_header_end first) (has_header_end header) h in
    rw (both.0, parts_of-ended header line lines both.1 e) refl

pub list_any-append_one : (test : List ℕ → Bool) (a : List (List ℕ)) (x : List ℕ) → list_any test a ≡ false → test x ≡ false
    → list_any test (a ++ x ∷ []) ≡ false
list_any-append_one test [] x h e = rw e refl
list_any-append_one test (y ∷ a) x h e =
    let both = or_parts (test y) (list_any test a) h in
    rw (both.0, list_any-append_one test a x both.1 e) refl

-- one line after the other, none has a reason
abbrev pub clean : List (Option (List ℕ)) → List (List ℕ) → List (List ℕ) → Bool
clean names before [] = true
clean names before (line ∷ lines) = is_none (reason_of names before line) && clean names (before ++ line ∷ []) lines

pub clean-append_one : (names : List (Option (List ℕ))) (before a : List (List ℕ)) (x : List ℕ)
    → clean names before (a ++ x ∷ []) ≡ (clean names before a && is_none (reason_of names (before ++ a) x))
clean-append_one names before [] x =
    and-true (is_none (reason_of names before x)) ∙ ap (λ (lines : List (List ℕ)). is_none (reason_of names lines x)) (sym (append-nil before))
clean-append_one names before (y ∷ a) x =
    ap (λ (b : Bool). is_none (reason_of names before y) && b) (clean-append_one names (before ++ y ∷ []) a x
    ∙ ap (λ (lines : List (List ℕ)). clean names (before ++ y ∷ []) a && is_none (reason_of names lines x)) (append_assoc before (y ∷ []) a))
    ∙ sym (and_assoc (is_none (reason_of names before y)) (clean names (before ++ y ∷ []) a) (is_none (reason_of names (before ++ y ∷ a) x)))

pub lines_fit-append_one : (before a : List (List ℕ)) (x : List ℕ)
    → lines_fit before (a ++ x ∷ []) ≡ (lines_fit before a && entry_fits (entries (before ++ a)) (entry_of x))
lines_fit-append_one before [] x =
    and-true (entry_fits (entries before) (entry_of x)) ∙ ap (λ (lines : List (List ℕ)). entry_fits (entries lines) (entry_of x)) (sym (append-nil before))
lines_fit-append_one before (y ∷ a) x =
    ap (λ (b : Bool). entry_fits (entries before) (entry_of y) && b) (lines_fit-append_one (before ++ y ∷ []) a x
    ∙ ap (λ (lines : List (List ℕ)). lines_fit (before ++ y ∷ []) a && entry_fits (entries lines) (entry_of x)) (append_assoc before (y ∷ []) a))
    ∙ sym (and_assoc (entry_fits (entries before) (entry_of y)) (lines_fit (before ++ y ∷ []) a) (entry_fits (entries (before ++ y ∷ a)) (entry_of x)))
