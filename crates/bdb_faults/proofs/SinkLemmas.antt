-- Laws of what was noted.
use Rattle.std.proofs.Common.{◌≡◌, ℕ, ◌+◌, ◌<◌, List, [], ◌∷◌, ◌++◌, length, get_or, take, sym, ◌∙◌, ap, subst, inl, inr, append_assoc, append-nil}
use Rattle.std.specs.Prelude.{Result, Ok, Err, OnOk}
use Rattle.std.specs.List.{Contains, flat_map, range_with_len}
use Rattle.std.proofs.lemmas.Grind.{flat_map-append}
use Rattle.std.proofs.lemmas.List.Elements.{Contains-append_cases, Contains-append_left, Contains-append_right}
use Rattle.std.proofs.lemmas.List.{take_more}
use Rattle.bdb_format.specs.declared.kinds.Fault.{Fault}
use Rattle.bdb_format.proofs.ListLemmas.{range_more}
use Rattle.bdb_format.proofs.MemberLemmas.{is_empty, no_member}
use Rattle.bdb_faults.specs.Notes.{AreSame, HasJust, Notes, NotesAll}

-- What a check notes, part by part.

-- nothing, told one by one
pub notes_nothing : (has : List Fault → Type 0) → Notes has has []
notes_nothing has = λ faults is. subst has (sym (append-nil faults)) is

-- some and then others, told one by one
pub notes_then : (before middle after : List Fault → Type 0) (xs ys : List Fault) → Notes before middle xs → Notes middle after ys
    → Notes before after (xs ++ ys)
notes_then before middle after xs ys first second = λ faults is. subst after (append_assoc faults xs ys) (second (faults ++ xs) (first faults is))

-- nothing
pub notes_none : (has : List Fault → Type 0) → NotesAll has has []
notes_none has = ([], λ fault. (λ at. at, λ at. at), notes_nothing has)

-- one fault, or others that are told one by one
pub notes_one : (before after : List Fault → Type 0) (more : List Fault) → Notes before after more → NotesAll before after more
notes_one before after more notes = (more, λ fault. (λ at. at, λ at. at), notes)

-- the same faults by another list
pub notes_same : (before after : List Fault → Type 0) (xs ys : List Fault) → NotesAll before after xs → AreSame xs ys → NotesAll before after ys
notes_same before after xs ys all same =
    (all.0, λ fault. (λ at. (same fault).0 ((all.1 fault).0 at), λ at. (all.1 fault).1 ((same fault).1 at)), all.2)

both_same : (ms ns xs ys : List Fault) → AreSame ms xs → AreSame ns ys → (fault : Fault) → Contains (ms ++ ns) fault → Contains (xs ++ ys) fault
both_same ms ns xs ys first second fault at =
    elim (Contains-append_cases ms ns fault at) [
      | inl here ↦ Contains-append_left xs ys fault ((first fault).0 here)
      | inr later ↦ Contains-append_right xs ys fault ((second fault).0 later)
    ]

turned : (xs ys : List Fault) → AreSame xs ys → AreSame ys xs
turned xs ys same fault = ((same fault).1, (same fault).0)

-- some faults and then others
pub notes_both : (before middle after : List Fault → Type 0) (xs ys : List Fault) → NotesAll before middle xs → NotesAll middle after ys
    → NotesAll before after (xs ++ ys)
notes_both before middle after xs ys first second = (
  first.0 ++ second.0,
  λ fault. (
    both_same first.0 second.0 xs ys first.1 second.1 fault,
    both_same xs ys first.0 second.0 (turned first.0 xs first.1) (turned second.0 ys second.1) fault,
  ),
  λ faults is. subst after (append_assoc faults first.0 second.0) (second.2 (faults ++ first.0) (first.2 faults is)),
)

-- those of one more item
pub notes_push : {X : Type 0} (before middle after : List Fault → Type 0) (give : X → List Fault) (xs : List X) (x : X)
    → NotesAll before middle (flat_map give xs) → NotesAll middle after (give x) → NotesAll before after (flat_map give (xs ++ (x ∷ [])))
notes_push before middle after give xs x first second =
    subst (NotesAll before after) (sym (flat_map-append give xs (x ∷ []) ∙ ap (λ fs. flat_map give xs ++ fs) (append-nil (give x))))
    (notes_both before middle after (flat_map give xs) (give x) first second)

-- those of one more page
pub notes_more : (before middle after : List Fault → Type 0) (give : ℕ → List Fault) (from n page : ℕ) → from + n ≡ page
    → NotesAll before middle (flat_map give (range_with_len from n)) → NotesAll middle after (give page)
    → NotesAll before after (flat_map give (range_with_len from (n + 1)))
notes_more before middle after give from n page is first second =
    subst (λ ps. NotesAll before after (flat_map give ps)) (sym (range_more from n ∙ ap (λ p. range_with_len from n ++ (p ∷ [])) is))
    (notes_push before middle after give (range_with_len from n) page first second)

-- those of the next item of a list
pub notes_next : {X : Type 0} (before middle after : List Fault → Type 0) (give : X → List Fault) (xs : List X) (i : ℕ) (d : X) → i < length xs
    → NotesAll before middle (flat_map give (take i xs)) → NotesAll middle after (give (get_or xs i d))
    → NotesAll before after (flat_map give (take (i + 1) xs))
notes_next before middle after give xs i d low first second =
    subst (λ ys. NotesAll before after (flat_map give ys)) (sym (take_more xs i d low))
    (notes_push before middle after give (take i xs) (get_or xs i d) first second)

-- Of nothing on.

-- a sink that had noted nothing has noted just these
pub noted_all : (before after : List Fault → Type 0) (faults : List Fault) → before [] → NotesAll before after faults → HasJust after faults
noted_all before after faults begun all = (all.0, all.2 [] begun, all.1)

-- the same where a check answered
pub all_noted : {T E : Type 0} (answer : Result T E) (before after : List Fault → Type 0) (faults : List Fault) → before []
    → OnOk answer (NotesAll before after faults) → OnOk answer (HasJust after faults)
all_noted (Ok value) before after faults begun all = noted_all before after faults begun all
all_noted (Err error) before after faults begun all = all

-- nothing was noted exactly where there is nothing
pub none_same : (noted faults : List Fault) → AreSame noted faults → noted ≡ [] → faults ≡ []
none_same noted faults same none = is_empty faults (λ fault at. no_member noted fault none ((same fault).1 at))
