-- A file whose references name no chain has no chain of a wrong length.
use Rattle.std.proofs.Common.{◌≡◌, ℕ, ◌≤◌, true, false, true≢false, List, [], refl, sym, ◌∙◌, ap, subst, inl, inr}
use Rattle.std.specs.List.{list_any}
use Rattle.std.proofs.lemmas.Bool.{cases_Bool}
use Rattle.bdb_graph.specs.of_faults.Notes.{NotesAll}
use Rattle.bdb_graph.proofs.of_faults.SinkLemmas.{notes_none}
use Rattle.bdb_graph.specs.of_format.declared.kinds.Fault.{Fault}
use Rattle.bdb_graph.specs.of_format.Terms.{Chain, Content, File, Inline, Meta, Page, Queue, Set, Tree, Unknown, Zero, all_references, chain_faults}
use Rattle.bdb_graph.specs.of_format.Terms.{content_chains, contents_in, file_of, is_head_reference, is_wrong_length, page_at}
use Rattle.bdb_graph.proofs.of_format.MemberLemmas.{none_pass, none_passes}
use Rattle.bdb_graph.proofs.ChildLemmas.{is_queue_page}
use Rattle.bdb_graph.specs.of_image.Linked.{IsForest}
use Rattle.bdb_graph.specs.Walked.{names_head}
use Rattle.bdb_overflow.specs.Datum.{FitsContent}
use Rattle.bdb_overflow.specs.Lengths.{has_wrong, is_wrong}
use Rattle.bdb_overflow.proofs.ContentLemmas.{held_fits}
use Rattle.bdb_overflow.proofs.LengthLemmas.{any_of_all, chains_none}

-- what fits names no chain where no reference does
no_wrong : (file : File) (content : Content) → list_any names_head (all_references file) ≡ false → FitsContent file content → is_wrong file content ≡ false
no_wrong file (Chain head total) none fits =
    absurd (true≢false (sym (ap is_head_reference fits.sort_is) ∙ none_passes names_head (all_references file) fits.owner none fits.held))
no_wrong file (Inline bytes) none fits = refl
no_wrong file (Set blocks) none fits = refl
no_wrong file (Tree root) none fits = refl
no_wrong file Unknown none fits = refl

in_a_queue : (file : File) (page : Page) → is_queue_page page ≡ true → has_wrong file page ≡ false
in_a_queue file Zero is = refl
in_a_queue file (Queue number records) is = refl
in_a_queue file (Meta fields) is = refl
in_a_queue file page is = absurd cc

unchained : (image : List ℕ) (p : ℕ) → IsForest image → list_any names_head (all_references (file_of image)) ≡ false → p ≤ (file_of image).last
    → has_wrong (file_of image) (page_at (file_of image) p) ≡ false
unchained image p forest none low =
    let file : File = file_of image in
    let page : Page = page_at file p in
    elim (cases_Bool (is_queue_page page)) [
      | inl queue ↦ in_a_queue file page queue
      | inr other ↦ any_of_all (is_wrong_length file) content_chains (contents_in page)
          ∙ none_pass (is_wrong file) (contents_in page) (λ content held. no_wrong file content none
          (held_fits image p page content forest low refl other held))
    ]

no_chains : (image : List ℕ) → IsForest image → list_any names_head (all_references (file_of image)) ≡ false → chain_faults (file_of image) ≡ []
no_chains image forest none = chains_none (file_of image) (λ p low. unchained image p forest none low)

-- nothing is to be noted of such a file
pub nothing_to_note : (has : List Fault → Type 0) (image : List ℕ) → IsForest image → list_any names_head (all_references (file_of image)) ≡ false
    → NotesAll has has (chain_faults (file_of image))
nothing_to_note has image forest none = subst (NotesAll has has) (sym (no_chains image forest none)) (notes_none has)
