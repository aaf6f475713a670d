-- The faults at the pages of a list.
use Rattle.std.proofs.Common.{arith, ◌≡◌, ℕ, ◌+◌, ◌<◌, Bool, true, false, List, [], ◌∷◌, ◌++◌, length, get_or, take, refl, sym, subst, Contains}
use Rattle.std.proofs.lemmas.Bool.{and_parts, eqb-true, eq-eqb}
use Rattle.std.proofs.lemmas.List.Folds.{list_any_at}
use Rattle.bdb_faults.specs.Notes.{Notes, NotesAll}
use Rattle.bdb_faults.proofs.SinkLemmas.{notes_next, notes_one, notes_push}
use Rattle.bdb_tree.specs.of_format.Terms.{File, Page, contents_row_code, fault_if, is_wrong_at, page_at}
use Rattle.bdb_tree.specs.of_format.declared.rows.Row.TheVariants.{Contents}
use Rattle.bdb_tree.specs.of_format.declared.kinds.Fault.{Fault}
use Rattle.bdb_tree.proofs.of_format.ListLemmas.{any_member, only_member}
use Rattle.bdb_tree.proofs.of_format.MemberLemmas.{first_member, in_flat_map, no_member, of_flat_map}
use Rattle.bdb_recno.specs.Noted.{fault_on, faults_on}
use Rattle.bdb_tree.specs.of_format.declared.rows.ContentsRow.{ContentsRow}

pub of_wrong_at : (file : File) (test : Page → Bool) (pages : List ℕ) (p : ℕ) → is_wrong_at file test pages p ≡ true
    → Contains pages p × (test (page_at file p) ≡ true)
of_wrong_at file test pages p wrong = grind (arith, any_member, and_parts, eqb-true)

pub in_wrong_at : (file : File) (test : Page → Bool) (pages : List ℕ) (p : ℕ) → Contains pages p → test (page_at file p) ≡ true
    → is_wrong_at file test pages p ≡ true
in_wrong_at file test pages p at wrong = grind (arith, list_any_at, eq-eqb)

-- a fault at a page of a list for which a test holds
pub record IsFaultOn (file : File) (row : ContentsRow) (test : Page → Bool) (pages : List ℕ) (fault : Fault) : Type 0 where
  pub page : ℕ
  pub is : fault ≡ record { stage = 8; page = page; code = contents_row_code row }
  pub listed : Contains pages page
  pub wrong : test (page_at file page) ≡ true

of_fault_if : (row : ContentsRow) (page : ℕ) (holds : Bool) (fault : Fault) → Contains (fault_if (Contents row) page holds) fault
    → (holds ≡ true) × (fault ≡ record { stage = 8; page = page; code = contents_row_code row })
of_fault_if row page true fault at = (refl, sym (only_member (record { stage = 8; page = page; code = contents_row_code row }) fault at))
of_fault_if row page false fault at = absurd (no_member [] fault refl at)

in_fault_if : (row : ContentsRow) (page : ℕ) (holds : Bool) → holds ≡ true
    → Contains (fault_if (Contents row) page holds) (record { stage = 8; page = page; code = contents_row_code row })
in_fault_if row page true is = first_member (record { stage = 8; page = page; code = contents_row_code row }) []
in_fault_if row page false is = absurd cc

pub of_faults_on : (file : File) (row : ContentsRow) (test : Page → Bool) (pages : List ℕ) (fault : Fault) → Contains (faults_on file row test pages) fault
    → IsFaultOn file row test pages fault
of_faults_on file row test pages fault at =
    let found = of_flat_map (fault_on file row test) pages fault at in
    let here = of_fault_if row found.0 (test (page_at file found.0)) fault found.2 in
    record { page = found.0; is = here.1; listed = found.1; wrong = here.0 }

pub in_faults_on : (file : File) (row : ContentsRow) (test : Page → Bool) (pages : List ℕ) (p : ℕ) → Contains pages p → test (page_at file p) ≡ true
    → Contains (faults_on file row test pages) (record { stage = 8; page = p; code = contents_row_code row })
in_faults_on file row test pages p at wrong =
    in_flat_map (fault_on file row test) pages p (record { stage = 8; page = p; code = contents_row_code row }) at (in_fault_if row p (test (page_at file p)) wrong)

-- Pages noted one after another.

-- one more page of a list
pub page_noted : (before middle after : List Fault → Type 0) (file : File) (row : ContentsRow) (test : Page → Bool) (pages : List ℕ) (p page : ℕ) (holds : Bool)
    → page ≡ p → holds ≡ test (page_at file page) → NotesAll before middle (faults_on file row test pages)
    → Notes middle after (fault_if (Contents row) page holds) → NotesAll before after (faults_on file row test (pages ++ (p ∷ [])))
page_noted before middle after file row test pages p page holds same is first second =
    notes_push before middle after (fault_on file row test) pages p first
    (subst (λ q. NotesAll middle after (fault_on file row test q)) same (subst (λ b. NotesAll middle after (fault_if (Contents row) page b)) is
    (notes_one middle after (fault_if (Contents row) page holds) second)))

-- the next page of a list
pub next_noted : (before middle after : List Fault → Type 0) (file : File) (row : ContentsRow) (test : Page → Bool) (pages : List ℕ) (i : ℕ) (holds : Bool)
    → i < length pages → holds ≡ test (page_at file (get_or pages i 0)) → NotesAll before middle (faults_on file row test (take i pages))
    → Notes middle after (fault_if (Contents row) (get_or pages i 0) holds) → NotesAll before after (faults_on file row test (take (i + 1) pages))
next_noted before middle after file row test pages i holds low is first second =
    notes_next before middle after (fault_on file row test) pages i 0 low first
    (subst (λ b. NotesAll middle after (fault_if (Contents row) (get_or pages i 0) b)) is
    (notes_one middle after (fault_if (Contents row) (get_or pages i 0) holds) second))
