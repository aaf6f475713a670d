-- The faults of a stage from those of its parts.
use Rattle.std.proofs.Common.{◌≡◌, ◌⊎◌, ℕ, ◌+◌, List, [], ◌∷◌, ◌++◌, arith, refl, sym, subst, inl, inr, Contains}
use Rattle.std.proofs.lemmas.List.Elements.{Contains-append_cases, Contains-append_left, Contains-append_right}
use Rattle.bdb_btree.specs.of_format.declared.kinds.Fault.{Fault}
use Rattle.bdb_btree.specs.of_format.Terms.{File, Row, by_page, chain_faults, chain_rows, structure_faults, structure_rows, tree_faults, tree_rows}
use Rattle.bdb_btree.specs.of_format.Verdict.{holding}
use Rattle.bdb_btree.proofs.of_format.VerdictLemmas.{IsOfStage, in_by_page, of_by_page}
use Rattle.bdb_btree.specs.of_faults.Notes.{AreSame, NotesAll}
use Rattle.bdb_btree.proofs.of_faults.SinkLemmas.{notes_both, notes_same}

-- The faults of two lists together.

-- the faults of a list are those of two others
pub record AreBoth (xs ys zs : List Fault) : Type 0 where
  pub of : (fault : Fault) → Contains zs fault → Contains xs fault ⊎ Contains ys fault
  pub left : (fault : Fault) → Contains xs fault → Contains zs fault
  pub right : (fault : Fault) → Contains ys fault → Contains zs fault

-- Faults of a run of pages.

-- a code of a page of the run is told there
pub at_page : (stage from n : ℕ) (others codes : ℕ → List ℕ) (fault : Fault) → IsOfStage stage from (from + n) others fault
    → Contains (codes fault.page) fault.code → Contains (by_page stage from n codes) fault
at_page stage from n others codes fault is code =
    subst (λ s. Contains (by_page stage from n codes) (record { stage = s; page = fault.page; code = fault.code })) (sym is.same_stage)
    (in_by_page stage from n fault.page fault.code codes is.from_low is.below_high code)

-- a run of pages whose codes are those of two others
both_by_page : (stage from n : ℕ) (f g h : ℕ → List ℕ) → ((p : ℕ) → h p ≡ f p ++ g p)
    → AreBoth (by_page stage from n f) (by_page stage from n g) (by_page stage from n h)
both_by_page stage from n f g h same = record {
  of = λ fault at.
      let is : IsOfStage stage from (from + n) h fault = of_by_page stage from n h fault at in
      elim (Contains-append_cases (f fault.page) (g fault.page) fault.code (subst (λ cs. Contains cs fault.code) (same fault.page) is.is_code)) [
        | inl code ↦ inl (at_page stage from n h f fault is code)
        | inr code ↦ inr (at_page stage from n h g fault is code)
      ];
  left = λ fault at. let is : IsOfStage stage from (from + n) f fault = of_by_page stage from n f fault at in
      at_page stage from n f h fault is (subst (λ codes. Contains codes fault.code) (sym (same fault.page))
      (Contains-append_left (f fault.page) (g fault.page) fault.code is.is_code));
  right = λ fault at. let is : IsOfStage stage from (from + n) g fault = of_by_page stage from n g fault at in
      at_page stage from n g h fault is (subst (λ codes. Contains codes fault.code) (sym (same fault.page))
      (Contains-append_right (f fault.page) (g fault.page) fault.code is.is_code));
}

-- the codes of two tables together
of_holding : (xs ys : List (Row ℕ)) → holding (xs ++ ys) ≡ holding xs ++ holding ys
of_holding [] ys = refl
of_holding (row ∷ rows) ys = grind (arith, of_holding rows ys)

-- Stage 6.

structure_both : (file : File) → AreBoth (chain_faults file) (tree_faults file) (structure_faults file)
unfolding chain_faults tree_faults structure_faults
structure_both file =
    both_by_page 6 0 (file.last + 1) (λ p. holding (chain_rows file p)) (λ p. holding (tree_rows file p)) (λ p. holding (structure_rows file p))
    (λ p. of_holding (chain_rows file p) (tree_rows file p))

-- and they are those of its parts
pub structure_same : (file : File) → AreSame (chain_faults file ++ tree_faults file) (structure_faults file)
structure_same file fault =
    let both : AreBoth (chain_faults file) (tree_faults file) (structure_faults file) = structure_both file in (
      λ at. elim (Contains-append_cases (chain_faults file) (tree_faults file) fault at)
          [ inl chain ↦ both.left fault chain | inr leaf ↦ both.right fault leaf ],
      λ at. elim (both.of fault at) [
        | inl chain ↦ Contains-append_left (chain_faults file) (tree_faults file) fault chain
        | inr leaf ↦ Contains-append_right (chain_faults file) (tree_faults file) fault leaf
      ],
    )

pub structure_noted : (before middle after : List Fault → Type 0) (file : File) → NotesAll before middle (chain_faults file)
    → NotesAll middle after (tree_faults file) → NotesAll before after (structure_faults file)
structure_noted before middle after file chains leaves =
    notes_same before after (chain_faults file ++ tree_faults file) (structure_faults file)
    (notes_both before middle after (chain_faults file) (tree_faults file) chains leaves) (structure_same file)
