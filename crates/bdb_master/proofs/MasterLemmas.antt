-- The faults of a master are those of its pairs and of the pages that they name.
use Rattle.bdb_format.proofs.ListLemmas.{any_member, only_member, passes_here}
use Rattle.std.proofs.lemmas.Bool.Decides.{nat_tests}
use Rattle.std.proofs.Common.{◌≡◌, ◌⊎◌, ℕ, ◌+◌, ◌≤◌, Bool, true, List, [], ◌∷◌, ◌++◌, length, map, Option, Some, None, arith, refl, sym, ◌∙◌, ap, subst, inl}
use Rattle.std.proofs.Common.{inr, ◌==◌, ◌&&◌, ◌||◌, nat_lt, option_to_list}
use Rattle.std.specs.List.{Contains, filter, list_any}
use Rattle.std.specs.Str.{bytes_eq}
use Rattle.std.proofs.lemmas.Bool.{and_from, and_parts, eq-eqb, eqb-true}
use Rattle.std.proofs.lemmas.List.Elements.{Contains-append_cases, Contains-append_left, Contains-append_right}
use Rattle.bdb_format.specs.declared.kinds.Fault.{Fault}
use Rattle.bdb_format.specs.Terms.{File, Row, StoredPair, file_of, holds_code, is_meta, is_named_kind, is_none, is_page, master_faults, master_pairs}
use Rattle.bdb_format.specs.Terms.{master_rows, misses_target, named_by, naming, page_at, repeated, ◌:?◌}
use Rattle.bdb_format.specs.Verdict.{holding}
use Rattle.bdb_format.proofs.MemberLemmas.{first_member, in_flat_map, in_map, no_member, of_flat_map, of_map}
use Rattle.bdb_format.proofs.VerdictLemmas.{IsOfStage, in_by_page, of_by_page}
use Rattle.bdb_btree.specs.of_image.Linked.{IsForest, meta_pages}
use Rattle.bdb_btree.proofs.of_tree.ListedLemmas.{at_meta, meta_at}
use Rattle.bdb_btree.proofs.of_tree.PairLemmas.{master_pair_inside}
use Rattle.bdb_master.specs.Entries.{NamedPair, count_fault, entries_naming, entry_fault, fault_at, master_entries, named, naming_fault, repeat_fault}
use Rattle.bdb_master.specs.Entries.{all_noted, by_naming, by_repeat, by_target, key_of, target_fault}
use Rattle.bdb_overflow.specs.Keys.{repeated_by}
use Rattle.bdb_format.proofs.RepeatLemmas.{of_repeated, repeated_after, repeated_is}
use Rattle.bdb_btree.specs.of_faults.Notes.{AreSame, NotesAll}
use Rattle.bdb_btree.proofs.of_faults.SinkLemmas.{notes_both, notes_same}
use Rattle.bdb_btree.proofs.CheckLemmas.{is_code as code_holding, of_code as holding_code}

-- A table of five rows.

abbrev five_rows : Bool → Bool → Bool → Bool → Bool → List (Row ℕ)
five_rows a b c d e = 1 :? a ∷ 2 :? b ∷ 3 :? c ∷ 4 :? d ∷ 5 :? e ∷ []

abbrev OneOfFive : Bool → Bool → Bool → Bool → Bool → ℕ → Type 0
OneOfFive a b c d e code =
    ((1 ≡ code) × (a ≡ true)) ⊎ (((2 ≡ code) × (b ≡ true)) ⊎ (((3 ≡ code) × (c ≡ true)) ⊎ (((4 ≡ code) × (d ≡ true)) ⊎ ((5 ≡ code) × (e ≡ true)))))

of_five : (a b c d e : Bool) (code : ℕ) → holds_code code (five_rows a b c d e) ≡ true → OneOfFive a b c d e code
of_five a b c d e code holds = grind (arith, nat_tests)

in_row : (rows : List (Row ℕ)) (row : Row ℕ) → Contains rows row → row.holds ≡ true → holds_code row.code rows ≡ true
in_row rows row at holds =
    passes_here (λ (other : Row ℕ). other.code == row.code && other.holds) rows row at
    (and_from (row.code == row.code) row.holds (eq-eqb row.code row.code refl) holds)

-- Lists of at most one fault.

of_given : (found : Option Fault) (fault : Fault) → Contains (option_to_list found) fault → found ≡ Some fault
of_given None fault at = absurd (no_member [] fault refl at)
of_given (Some one) fault at = ap (λ (f : Fault). Some f) (only_member one fault at)

in_given : (found : Option Fault) (fault : Fault) → found ≡ Some fault → Contains (option_to_list found) fault
in_given found fault is = subst (λ f. Contains (option_to_list f) fault) (sym is) (first_member fault [])

-- Entries and the pairs that they stand for.

count_of : (file : File) (p : ℕ) (pairs : List StoredPair)
    → length (entries_naming p (map (named file) pairs)) ≡ length (filter (λ (pair : StoredPair). is_page (named_by file pair.data_item) p) pairs)
count_of file p [] = refl
count_of file p (pair ∷ pairs) = grind (arith, count_of file p pairs)

any_same : (file : File) (key : List ℕ) (pairs : List StoredPair)
    → list_any (λ (other : NamedPair). bytes_eq other.key key) (map (named file) pairs)
    ≡ list_any (λ (other : StoredPair). bytes_eq other.key key) pairs
any_same file key [] = refl
any_same file key (pair ∷ pairs) = ap (λ b. bytes_eq pair.key key || b) (any_same file key pairs)

repeats_are : (file : File) (before pairs : List StoredPair)
    → repeated_by key_of (map (named file) before) (map (named file) pairs) ≡ map (named file) (repeated_after before pairs)
repeats_are file before [] = refl
repeats_are file before (pair ∷ pairs) = grind (arith, any_same file pair.key before, repeats_are file (pair ∷ before) pairs)

-- the entries that repeat a name are those of the pairs that do
all_repeats_are : (file : File) → repeated_by key_of [] (master_entries file) ≡ map (named file) (repeated (master_pairs file))
all_repeats_are file = repeats_are file [] (master_pairs file) ∙ ap (map (named file)) (sym (repeated_is (master_pairs file)))

-- The pairs of a master stand on pages of the file.

abbrev pub AreInside : File → Type 0
AreInside file = (pair : StoredPair) → Contains (master_pairs file) pair → pair.page ≤ file.last

pub master_inside : (image : List ℕ) → IsForest image → AreInside (file_of image)
master_inside image forest pair at = master_pair_inside image pair forest at

-- Rows that hold.

in_master : (file : File) (p : ℕ) (row : Row ℕ) → p ≤ file.last → Contains (master_rows file p) row → row.holds ≡ true
    → Contains (master_faults file) (fault_at p row.code)
unfolding master_faults
in_master file p row low at holds =
    in_by_page 7 0 (file.last + 1) p row.code (λ q. holding (master_rows file q)) (omega arith) (omega arith)
    (code_holding (master_rows file p) row.code (in_row (master_rows file p) row at holds))

pub record IsMasterFault (file : File) (fault : Fault) : Type 0 where
  pub seven : fault.stage ≡ 7
  pub inside : fault.page ≤ file.last
  pub holds : holds_code fault.code (master_rows file fault.page) ≡ true

of_master : (file : File) (fault : Fault) → Contains (master_faults file) fault → IsMasterFault file fault
unfolding master_faults
of_master file fault at =
    let is : IsOfStage 7 0 (0 + (file.last + 1)) (λ p. holding (master_rows file p)) fault =
    of_by_page 7 0 (file.last + 1) (λ p. holding (master_rows file p)) fault at in
    record { seven = is.same_stage; inside = omega (arith, is.below_high); holds = holding_code (master_rows file fault.page) fault.code is.is_code }

abbrev CountIs : ℕ → ℕ → Fault → Type 0
CountIs p n fault = (nat_lt 0 p ≡ true) × ((((n == 0) ≡ true) × (fault_at p 1 ≡ fault)) ⊎ ((nat_lt 1 n ≡ true) × (fault_at p 5 ≡ fault)))

count_cases : (p n : ℕ) (fault : Fault) → count_fault p n ≡ Some fault → CountIs p n fault
count_cases p n fault is = grind (arith, nat_tests)

count_one : (p n : ℕ) → nat_lt 0 p ≡ true → (n == 0) ≡ true → count_fault p n ≡ Some (fault_at p 1)
count_one p n above none = grind (arith, nat_tests)

pub count_five : (p n : ℕ) → nat_lt 0 p ≡ true → nat_lt 1 n ≡ true → count_fault p n ≡ Some (fault_at p 5)
count_five p n above many = grind (arith, nat_tests)

abbrev is_unnamed : File → ℕ → Bool
is_unnamed file p = is_named_kind file p && length (naming file p) == 0

abbrev has_size : File → ℕ → Bool
has_size file p = list_any (λ (pair : StoredPair). pair.page == p && is_none (named_by file pair.data_item)) (master_pairs file)

abbrev has_target : File → ℕ → Bool
has_target file p = list_any (λ (pair : StoredPair). pair.page == p && misses_target file (named_by file pair.data_item)) (master_pairs file)

abbrev has_repeat : File → ℕ → Bool
has_repeat file p = list_any (λ (pair : StoredPair). pair.page == p) (repeated (master_pairs file))

abbrev is_twice : File → ℕ → Bool
is_twice file p = is_named_kind file p && nat_lt 1 (length (naming file p))

count_same : (file : File) (p : ℕ) → length (entries_naming p (master_entries file)) ≡ length (naming file p)
count_same file p = count_of file p (master_pairs file)

pub in_naming : (file : File) (p : ℕ) (fault : Fault) → Contains (meta_pages file) p → naming_fault (master_entries file) p ≡ Some fault
    → Contains (master_faults file) fault
in_naming file p fault at is =
    let meta = meta_at file p at in
    let cases : CountIs p (length (naming file p)) fault =
    count_cases p (length (naming file p)) fault (ap (count_fault p) (sym (count_same file p)) ∙ is) in
    let kind : is_named_kind file p ≡ true = and_from (nat_lt 0 p) (is_meta (page_at file p)) cases.0 meta.1 in
    elim cases.1 [
      | inl (none, same) ↦ subst (Contains (master_faults file)) same
          (in_master file p (1 :? is_unnamed file p) meta.0 (0, omega arith, refl)
          (and_from (is_named_kind file p) (length (naming file p) == 0) kind none))
      | inr (more, same) ↦ subst (Contains (master_faults file)) same
          (in_master file p (5 :? is_twice file p) meta.0 (4, omega arith, refl)
          (and_from (is_named_kind file p) (nat_lt 1 (length (naming file p))) kind more))
    ]

-- Pairs and what they name.

abbrev TargetIs : File → ℕ → Option ℕ → Fault → Type 0
TargetIs file page names fault =
    ((is_none names ≡ true) × (fault_at page 2 ≡ fault)) ⊎ ((misses_target file names ≡ true) × (fault_at page 3 ≡ fault))

target_cases : (file : File) (page : ℕ) (names : Option ℕ) (fault : Fault) → target_fault file page names ≡ Some fault
    → TargetIs file page names fault
target_cases file page None fault is = inl (refl, cc)
target_cases file page (Some p) fault is = inr (grind arith, grind arith)

target_two : (file : File) (page : ℕ) (names : Option ℕ) → is_none names ≡ true → target_fault file page names ≡ Some (fault_at page 2)
target_two file page None is = refl
target_two file page (Some p) is = absurd cc

target_three : (file : File) (page : ℕ) (names : Option ℕ) → misses_target file names ≡ true → target_fault file page names ≡ Some (fault_at page 3)
target_three file page None is = absurd cc
target_three file page (Some p) is = grind arith

pub in_targets : (file : File) (entry : NamedPair) (fault : Fault) → AreInside file → Contains (master_entries file) entry
    → entry_fault file entry ≡ Some fault → Contains (master_faults file) fault
in_targets file entry fault inside at is =
    let found = of_map (named file) (master_pairs file) entry at in
    let pair : StoredPair = found.0 in
    let here : Contains (master_pairs file) pair = found.1 in
    elim (target_cases file pair.page (named_by file pair.data_item) fault (ap (entry_fault file) found.2 ∙ is)) [
      | inl (none, same) ↦
          subst (Contains (master_faults file)) same
          (in_master file pair.page (2 :? has_size file pair.page) (inside pair here) (1, omega arith, refl)
          (passes_here (λ (other : StoredPair). other.page == pair.page && is_none (named_by file other.data_item)) (master_pairs file) pair here
          (and_from (pair.page == pair.page) (is_none (named_by file pair.data_item)) (eq-eqb pair.page pair.page refl) none)))
      | inr (misses, same) ↦
          subst (Contains (master_faults file)) same
          (in_master file pair.page (3 :? has_target file pair.page) (inside pair here) (2, omega arith, refl)
          (passes_here (λ (other : StoredPair). other.page == pair.page && misses_target file (named_by file other.data_item))
          (master_pairs file) pair here
          (and_from (pair.page == pair.page) (misses_target file (named_by file pair.data_item)) (eq-eqb pair.page pair.page refl) misses)))
    ]

-- a pair that repeats a key is told on its page
pub repeat_here : (file : File) (pair : StoredPair) → AreInside file → Contains (repeated (master_pairs file)) pair
    → Contains (master_faults file) (fault_at pair.page 4)
repeat_here file pair inside at =
    in_master file pair.page (4 :? has_repeat file pair.page) (inside pair (of_repeated (master_pairs file) pair at)) (3, omega arith, refl)
    (passes_here (λ (other : StoredPair). other.page == pair.page) (repeated (master_pairs file)) pair at (eq-eqb pair.page pair.page refl))

in_repeats : (file : File) (entry : NamedPair) (fault : Fault) → AreInside file → Contains (repeated_by key_of [] (master_entries file)) entry
    → repeat_fault entry ≡ Some fault → Contains (master_faults file) fault
in_repeats file entry fault inside at is =
    let found = of_map (named file) (repeated (master_pairs file)) entry (subst (λ es. Contains es entry) (all_repeats_are file) at) in
    let pair : StoredPair = found.0 in
    let same : Some (fault_at pair.page 4) ≡ Some fault = ap repeat_fault found.2 ∙ is in
    let one : fault_at pair.page 4 ≡ fault = cc in
    subst (Contains (master_faults file)) one (repeat_here file pair inside found.1)

-- All faults of a master, pair by pair and page by page.

of_all : (file : File) (fault : Fault) → AreInside file → Contains (all_noted file (master_entries file)) fault → Contains (master_faults file) fault
of_all file fault inside at =
    let entries : List NamedPair = master_entries file in
    elim (Contains-append_cases (by_naming file entries ++ by_target file entries) (by_repeat entries) fault at) [
      | inl early ↦ elim (Contains-append_cases (by_naming file entries) (by_target file entries) fault early) [
        | inl here ↦
            let found = of_flat_map (λ p. option_to_list (naming_fault entries p)) (meta_pages file) fault here in
            in_naming file found.0 fault found.1 (of_given (naming_fault entries found.0) fault found.2)
        | inr here ↦
            let found = of_flat_map (λ (entry : NamedPair). option_to_list (entry_fault file entry)) entries fault here in
            in_targets file found.0 fault inside found.1 (of_given (entry_fault file found.0) fault found.2)
      ]
      | inr here ↦
          let found = of_flat_map (λ (entry : NamedPair). option_to_list (repeat_fault entry)) (repeated_by key_of [] entries) fault here in
          in_repeats file found.0 fault inside found.1 (of_given (repeat_fault found.0) fault found.2)
    ]

whole : (s p c d : ℕ) → s ≡ 7 → d ≡ c → ◌≡◌ {A = Fault} (fault_at p d) (record { stage = s; page = p; code = c })
whole s p c d seven same = cc

from_naming : (file : File) (fault : Fault) (code : ℕ) → fault.page ≤ file.last → is_named_kind file fault.page ≡ true
    → fault_at fault.page code ≡ fault
    → (nat_lt 0 fault.page ≡ true → count_fault fault.page (length (naming file fault.page)) ≡ Some (fault_at fault.page code))
    → Contains (all_noted file (master_entries file)) fault
from_naming file fault code low kind same gives =
    let entries : List NamedPair = master_entries file in
    let parts = and_parts (nat_lt 0 fault.page) (is_meta (page_at file fault.page)) kind in
    let given_here : naming_fault entries fault.page ≡ Some fault =
    ap (count_fault fault.page) (count_same file fault.page) ∙ (gives parts.0 ∙ ap (λ (f : Fault). Some f) same) in
    Contains-append_left (by_naming file entries ++ by_target file entries) (by_repeat entries) fault
    (Contains-append_left (by_naming file entries) (by_target file entries) fault
    (in_flat_map (λ p. option_to_list (naming_fault entries p)) (meta_pages file) fault.page fault (at_meta file fault.page low parts.1)
    (in_given (naming_fault entries fault.page) fault given_here)))

from_target : (file : File) (pair : StoredPair) (fault : Fault) → Contains (master_pairs file) pair
    → target_fault file pair.page (named_by file pair.data_item) ≡ Some fault → Contains (all_noted file (master_entries file)) fault
from_target file pair fault at is =
    let entries : List NamedPair = master_entries file in
    Contains-append_left (by_naming file entries ++ by_target file entries) (by_repeat entries) fault
    (Contains-append_right (by_naming file entries) (by_target file entries) fault
    (in_flat_map (λ (entry : NamedPair). option_to_list (entry_fault file entry)) entries (named file pair) fault
    (in_map (named file) (master_pairs file) pair at) (in_given (entry_fault file (named file pair)) fault is)))

from_repeat : (file : File) (pair : StoredPair) (fault : Fault) → Contains (repeated (master_pairs file)) pair
    → Some (fault_at pair.page 4) ≡ Some fault
    → Contains (all_noted file (master_entries file)) fault
from_repeat file pair fault at is =
    let entries : List NamedPair = master_entries file in
    Contains-append_right (by_naming file entries ++ by_target file entries) (by_repeat entries) fault
    (in_flat_map (λ (entry : NamedPair). option_to_list (repeat_fault entry)) (repeated_by key_of [] entries) (named file pair) fault
    (subst (λ es. Contains es (named file pair)) (sym (all_repeats_are file)) (in_map (named file) (repeated (master_pairs file)) pair at))
    (in_given (repeat_fault (named file pair)) fault is))

moved : (page p code : ℕ) (fault : Fault) → page ≡ p → fault_at p code ≡ fault → Some (fault_at page code) ≡ Some fault
moved page p code fault at same = ap (λ q. Some (fault_at q code)) at ∙ ap (λ (f : Fault). Some f) same

in_all : (file : File) (fault : Fault) → Contains (master_faults file) fault → Contains (all_noted file (master_entries file)) fault
in_all file fault at =
    let is : IsMasterFault file fault = of_master file fault at in
    let p : ℕ = fault.page in
    let same : (d : ℕ) → d ≡ fault.code → fault_at fault.page d ≡ fault = λ d code. whole fault.stage fault.page fault.code d is.seven code in
    elim (of_five (is_unnamed file fault.page) (has_size file fault.page) (has_target file fault.page) (has_repeat file fault.page)
    (is_twice file fault.page) fault.code is.holds) [
      | inl (code, row) ↦
          let parts = and_parts (is_named_kind file fault.page) (length (naming file fault.page) == 0) row in
          from_naming file fault 1 is.inside parts.0 (same 1 code) (λ above. count_one fault.page (length (naming file fault.page)) above parts.1)
      | inr (inl (code, row)) ↦
          let found = any_member (λ (pair : StoredPair). pair.page == fault.page && is_none (named_by file pair.data_item)) (master_pairs file) row in
          let parts = and_parts (found.0.page == fault.page) (is_none (named_by file found.0.data_item)) found.2 in
          from_target file found.0 fault found.1
          (target_two file found.0.page (named_by file found.0.data_item) parts.1
          ∙ moved found.0.page fault.page 2 fault (eqb-true found.0.page fault.page parts.0) (same 2 code))
      | inr (inr (inl (code, row))) ↦
          let found =
          any_member (λ (pair : StoredPair). pair.page == fault.page && misses_target file (named_by file pair.data_item)) (master_pairs file) row in
          let parts = and_parts (found.0.page == fault.page) (misses_target file (named_by file found.0.data_item)) found.2 in
          from_target file found.0 fault found.1
          (target_three file found.0.page (named_by file found.0.data_item) parts.1
          ∙ moved found.0.page fault.page 3 fault (eqb-true found.0.page fault.page parts.0) (same 3 code))
      | inr (inr (inr (inl (code, row)))) ↦
          let found = any_member (λ (pair : StoredPair). pair.page == fault.page) (repeated (master_pairs file)) row in
          from_repeat file found.0 fault found.1 (moved found.0.page fault.page 4 fault (eqb-true found.0.page fault.page found.2) (same 4 code))
      | inr (inr (inr (inr (code, row)))) ↦
          let parts = and_parts (is_named_kind file fault.page) (nat_lt 1 (length (naming file fault.page))) row in
          from_naming file fault 5 is.inside parts.0 (same 5 code) (λ above. count_five fault.page (length (naming file fault.page)) above parts.1)
    ]

-- those that are noted are the faults of stage 7
pub master_noted : (image : List ℕ) (entries : List NamedPair) (before first second after : List Fault → Type 0) → IsForest image
    → entries ≡ master_entries (file_of image) → NotesAll before first (by_naming (file_of image) entries)
    → NotesAll first second (by_target (file_of image) entries) → NotesAll second after (by_repeat entries)
    → NotesAll before after (master_faults (file_of image))
master_noted image entries before first second after forest are naming targets repeats =
    let file : File = file_of image in
    notes_same before after (all_noted file entries) (master_faults file)
    (notes_both before second after (by_naming file entries ++ by_target file entries) (by_repeat entries)
    (notes_both before first second (by_naming file entries) (by_target file entries) naming targets) repeats)
    (subst (λ es. AreSame (all_noted file es) (master_faults file)) (sym are)
    (λ fault. (λ at. of_all file fault (master_inside image forest) at, λ at. in_all file fault at)))
