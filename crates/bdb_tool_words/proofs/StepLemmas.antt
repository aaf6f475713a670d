-- The words at a place among the options, and what they give.
use Rattle.std.proofs.Common.{◌≡◌, ℕ, suc, ◌+◌, Bool, true, false, List, [], ◌∷◌, take, drop, drop-cons, add-one, inl, inr, refl, sym, ◌∙◌, ap, arith, Option}
use Rattle.std.proofs.Common.{Some, None, codes, slice_get}
use Rattle.std.specs.Str.{bytes_eq}
use Rattle.std.proofs.lemmas.Bool.{false_from_ne_true}
use Rattle.std.proofs.lemmas.List.{drop_all}
use Rattle.std.proofs.lemmas.Option.{get_or_from_slice_get, slice_get_cases, slice_get_within}
use Rattle.std.proofs.lemmas.Slice.Eq.{bytes_eq-Decides}
use Rattle.bdb_tool_words.specs.Arguments.{Arguments, OptionRow, WordKind, End, Operand, Plain, Valued, Unknown, arguments, arguments_behind, is_option}
use Rattle.bdb_tool_words.specs.Arguments.{only_operands, option_kind, option_named, with_option, word_kind}

-- Words.

bytes_swapped : (xs ys : List ℕ) (same : Bool) → bytes_eq xs ys ≡ same → bytes_eq ys xs ≡ same
bytes_swapped xs ys true same = (bytes_eq-Decides ys xs).1 (sym ((bytes_eq-Decides xs ys).0 same))
bytes_swapped xs ys false other =
    false_from_ne_true (bytes_eq ys xs) (λ same. let is = (bytes_eq-Decides xs ys).1 (sym ((bytes_eq-Decides ys xs).0 same)) in cc)

pub option_test : (word : List ℕ) (is : Bool) → bytes_eq (codes "--") (take 2 word) ≡ is → is_option word ≡ is
option_test word is test = bytes_swapped (codes "--") (take 2 word) is test

-- Places.

pub from_place : (words : List (List ℕ)) (at : ℕ) (word : List ℕ) → Some word ≡ slice_get words at → drop at words ≡ word ∷ drop (at + 1) words
from_place words at word is =
    let within = slice_get_within words at word (sym is) in
    let here = get_or_from_slice_get words at word word (sym is) in
    rw add-one (drop-cons words at word within ∙ ap (λ (w : List ℕ). w ∷ drop (suc at) words) here)

pub past_place : (words : List (List ℕ)) (at : ℕ) → None ≡ slice_get words at → drop at words ≡ []
past_place words at is =
    elim (slice_get_cases words at).1 [ inl (word, _, there, _) ↦ cc | inr (past, _) ↦ drop_all at words past ]

-- One word.

-- what the words from one on give, by its kind
of_kind : (options : List OptionRow) (word : List ℕ) (rest : List (List ℕ)) (kind : WordKind) → word_kind options word ≡ kind
    → arguments options (word ∷ rest) ≡ elim kind as (λ _. Option Arguments) [
      | End ↦ only_operands rest
      | Operand ↦ only_operands (word ∷ rest)
      | Plain ↦ with_option word [] (arguments options rest)
      | Valued ↦ arguments_behind options (Some word) rest
      | Unknown ↦ None
    ]
of_kind options word rest kind is =
    ap (λ kind. elim kind as (λ _. Option Arguments) [
      | End ↦ only_operands rest
      | Operand ↦ only_operands (word ∷ rest)
      | Plain ↦ with_option word [] (arguments options rest)
      | Valued ↦ arguments_behind options (Some word) rest
      | Unknown ↦ None
    ]) is

-- the kind of an option is that of its row
kind_of_row : (options : List OptionRow) (word : List ℕ) (row : Option OptionRow) → bytes_eq word (codes "--") ≡ false → is_option word ≡ true
    → row ≡ option_named word options → word_kind options word ≡ option_kind row
kind_of_row options word row not_end is row_is = rw (not_end, is) (ap option_kind (sym row_is))

-- Steps.

pub step_ends : (options : List OptionRow) (words : List (List ℕ)) (at : ℕ) (word : List ℕ) → Some word ≡ slice_get words at → bytes_eq word (codes "--") ≡ true
    → arguments options (drop at words) ≡ only_operands (drop (at + 1) words)
step_ends options words at word there is =
    ap (arguments options) (from_place words at word there) ∙ of_kind options word (drop (at + 1) words) End (rw is refl)

pub step_operand : (options : List OptionRow) (words : List (List ℕ)) (at : ℕ) (word : List ℕ) → Some word ≡ slice_get words at
    → bytes_eq word (codes "--") ≡ false → is_option word ≡ false → arguments options (drop at words) ≡ only_operands (drop at words)
step_operand options words at word there not_end other =
    rw (from_place words at word there) (of_kind options word (drop (at + 1) words) Operand (rw (not_end, other) refl))

-- a word among the options that begins as one
pub record IsNamed (options : List OptionRow) (words : List (List ℕ)) (at : ℕ) (word : List ℕ) (row : Option OptionRow) : Type 0 where
  pub there : Some word ≡ slice_get words at
  pub not_end : bytes_eq word (codes "--") ≡ false
  pub is : is_option word ≡ true
  pub row_is : row ≡ option_named word options

-- what the words from it on give, by the kind of its row
named : (options : List OptionRow) (words : List (List ℕ)) (at : ℕ) (word : List ℕ) (row : Option OptionRow) (kind : WordKind) (rest : List (List ℕ))
    → IsNamed options words at word row → option_kind row ≡ kind → drop (at + 1) words ≡ rest → arguments options (drop at words)
    ≡ elim kind as (λ _. Option Arguments) [
      | End ↦ only_operands rest
      | Operand ↦ only_operands (word ∷ rest)
      | Plain ↦ with_option word [] (arguments options rest)
      | Valued ↦ arguments_behind options (Some word) rest
      | Unknown ↦ None
    ]
named options words at word row kind rest it kind_is rest_is =
    ap (arguments options) (from_place words at word it.there ∙ ap (λ (left : List (List ℕ)). word ∷ left) rest_is)
    ∙ of_kind options word rest kind (kind_of_row options word row it.not_end it.is it.row_is ∙ kind_is)

pub step_unknown : (options : List OptionRow) (words : List (List ℕ)) (at : ℕ) (word : List ℕ) → IsNamed options words at word None
    → arguments options (drop at words) ≡ None
step_unknown options words at word it = named options words at word None Unknown (drop (at + 1) words) it refl refl

pub step_lacks : (options : List OptionRow) (words : List (List ℕ)) (at : ℕ) (word : List ℕ) (row : OptionRow) → IsNamed options words at word (Some row)
    → row.takes_value ≡ true → None ≡ slice_get words (at + 1) → arguments options (drop at words) ≡ None
step_lacks options words at word row it takes none =
    named options words at word (Some row) Valued [] it (rw takes refl) (past_place words (at + 1) none)

pub step_plain : (options : List OptionRow) (words : List (List ℕ)) (at : ℕ) (word : List ℕ) (row : OptionRow) → IsNamed options words at word (Some row)
    → row.takes_value ≡ false → arguments options (drop at words) ≡ with_option word [] (arguments options (drop (at + 1) words))
step_plain options words at word row it takes = named options words at word (Some row) Plain (drop (at + 1) words) it (rw takes refl) refl

pub step_valued : (options : List OptionRow) (words : List (List ℕ)) (at : ℕ) (word : List ℕ) (row : OptionRow) (value : List ℕ)
    → IsNamed options words at word (Some row) → row.takes_value ≡ true → Some value ≡ slice_get words (at + 1)
    → arguments options (drop at words) ≡ with_option word value (arguments options (drop (at + 2) words))
step_valued options words at word row value it takes next =
    let more : at + 1 + 1 ≡ at + 2 = omega arith in
    named options words at word (Some row) Valued (value ∷ drop (at + 2) words) it (rw takes refl)
    (from_place words (at + 1) value next ∙ ap (λ (n : ℕ). value ∷ drop n words) more)
