-- The faults of stage 8 from those of each database.
use Rattle.bdb_btree.proofs.of_format.ListLemmas.{any_member, passes_here}
use Rattle.std.proofs.Common.{◌≡◌, ℕ, zero, suc, ◌+◌, ◌<◌, ◌≤◌, Bool, true, false, cond, List, [], ◌∷◌, map, arith, refl, ◌∙◌, ap, subst, inl, inr}
use Rattle.std.specs.List.{Contains, flat_map, range_with_len}
use Rattle.std.proofs.lemmas.Bool.{cases_eq}
use Rattle.bdb_btree.specs.of_format.declared.kinds.Fault.{Fault}
use Rattle.bdb_btree.specs.of_format.Terms.{BtreeFields, File, HashFields, Metadata, QueueFields, Row, btree_contents, contents_faults, contents_rows}
use Rattle.bdb_btree.specs.of_format.Terms.{database_faults, database_rows, fields_of, holds_code, holds_somewhere, is_recno, recno_contents, ◌:?◌}
use Rattle.bdb_btree.specs.of_format.Verdict.{holding}
use Rattle.bdb_btree.proofs.of_format.MemberLemmas.{filter_step, first_member, no_member, of_flat_map, in_flat_map}
use Rattle.bdb_btree.proofs.of_format.VerdictLemmas.{IsOfStage, of_by_page}
use Rattle.bdb_any_order.proofs.MergeLemmas.{at_page}
use Rattle.bdb_btree.proofs.CheckLemmas.{code_later, is_code as code_holding, of_code as holding_code}

-- The codes of a table.

-- a table with a row for each number from one on
numbered : ℕ → ℕ → (ℕ → Bool) → List (Row ℕ)
numbered from n test = map (λ code. code :? test code) (range_with_len from n)

of_numbered : (n from : ℕ) (test : ℕ → Bool) (code : ℕ) → Contains (holding (numbered from n test)) code → test code ≡ true
unfolding numbered
of_numbered zero from test code at = absurd (no_member [] code refl at)
of_numbered (suc n) from test code at =
    elim (filter_step from code (holding (numbered (from + 1) n test)) (test from) at) [
      | inl here ↦ subst (λ c. test c ≡ true) here.1 here.0
      | inr later ↦ of_numbered n (from + 1) test code later
    ]

in_numbered : (n from : ℕ) (test : ℕ → Bool) (code : ℕ) → from ≤ code → code < from + n → test code ≡ true
    → Contains (holding (numbered from n test)) code
unfolding numbered
in_numbered zero from test code low high holds = absurd (omega arith)
in_numbered (suc n) from test code low high holds =
    elim (cases_eq from code) [
      | inl same ↦ rw (ap test same ∙ holds) (subst (λ c. Contains (from ∷ holding (map (λ k. k :? test k) (range_with_len (from + 1) n))) c) same
          (first_member from _))
      | inr other ↦ code_later (test from) from code (holding (numbered (from + 1) n test))
          (in_numbered n (from + 1) test code (omega arith) (omega arith) holds)
    ]

-- The codes of stage 8 are from 1 to 9.

abbrev Within : List (Row ℕ) → Type 0
Within [] = Unit {0}
Within (row ∷ rows) = (1 ≤ row.code) × (row.code < 10) × Within rows

holding_within : (rows : List (Row ℕ)) (code : ℕ) → Within rows → Contains (holding rows) code → (1 ≤ code) × (code < 10)
holding_within [] code within at = absurd (no_member [] code refl at)
holding_within (row ∷ rows) code within at =
    elim (filter_step row.code code (holding rows) row.holds at) [
      | inl here ↦ subst (λ c. (1 ≤ c) × (c < 10)) here.1 (within.0, within.1)
      | inr later ↦ holding_within rows code within.2 later
    ]

contents_within : (file : File) (fields : Metadata) (p : ℕ) → Within (database_rows file fields p)
contents_within file (BtreeFields meta) p =
    elim (is_recno meta) as (λ b. Within (cond b (recno_contents file meta p) (btree_contents file meta p))) [
      | true ↦ (omega arith, omega arith, (omega arith, omega arith, tt))
      | false ↦ (
        omega arith,
        omega arith,
        (
          omega arith,
          omega arith,
          (omega arith, omega arith, (omega arith, omega arith, (omega arith, omega arith, (omega arith, omega arith, tt)))),
        ),
      )
    ]
contents_within file (HashFields meta) p =
    (omega arith, omega arith, (omega arith, omega arith, (omega arith, omega arith, (omega arith, omega arith, (omega arith, omega arith, tt)))))
contents_within file (QueueFields meta) p = tt

-- The faults of all databases.

-- a code that holds at a page holds there for some database
of_codes : (file : File) (p code : ℕ) → Contains (holding (contents_rows file p)) code
    → (fields : Metadata) × Contains (fields_of file) fields × Contains (holding (database_rows file fields p)) code
unfolding numbered
of_codes file p code at =
    let found =
    any_member (λ fields. holds_code code (database_rows file fields p)) (fields_of file) (of_numbered 9 1 (holds_somewhere file p) code at) in
    (found.0, found.1, code_holding (database_rows file found.0 p) code found.2)

in_codes : (file : File) (fields : Metadata) (p code : ℕ) → Contains (fields_of file) fields → Contains (holding (database_rows file fields p)) code
    → Contains (holding (contents_rows file p)) code
unfolding numbered
in_codes file fields p code at holds =
    let within : (1 ≤ code) × (code < 10) = holding_within (database_rows file fields p) code (contents_within file fields p) holds in
    in_numbered 9 1 (holds_somewhere file p) code within.0 within.1
    (passes_here (λ other. holds_code code (database_rows file other p)) (fields_of file) fields at
    (holding_code (database_rows file fields p) code holds))

-- the faults of stage 8 are those of some database
pub of_contents : (file : File) (fault : Fault) → Contains (contents_faults file) fault
    → Contains (flat_map (database_faults file) (fields_of file)) fault
unfolding contents_faults database_faults
of_contents file fault at =
    let is : IsOfStage 8 0 (0 + (file.last + 1)) (λ p. holding (contents_rows file p)) fault =
    of_by_page 8 0 (file.last + 1) (λ p. holding (contents_rows file p)) fault at in
    let found = of_codes file fault.page fault.code is.is_code in
    in_flat_map (database_faults file) (fields_of file) found.0 fault found.1
    (at_page 8 0 (file.last + 1) (λ p. holding (contents_rows file p)) (λ p. holding (database_rows file found.0 p)) fault is found.2)

pub in_contents : (file : File) (fault : Fault) → Contains (flat_map (database_faults file) (fields_of file)) fault
    → Contains (contents_faults file) fault
unfolding contents_faults database_faults
in_contents file fault at =
    let found = of_flat_map (database_faults file) (fields_of file) fault at in
    let codes : ℕ → List ℕ = λ p. holding (database_rows file found.0 p) in
    let is : IsOfStage 8 0 (0 + (file.last + 1)) codes fault = of_by_page 8 0 (file.last + 1) codes fault found.2 in
    at_page 8 0 (file.last + 1) codes (λ p. holding (contents_rows file p)) fault is (in_codes file found.0 fault.page fault.code found.1 is.is_code)
