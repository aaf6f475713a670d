-- Nothing is left of a sound queue: none of its pages is read as one of pairs or of records.
use Rattle.std.proofs.Common.{◌≡◌, ◌⊎◌, ℕ, ◌-◌, ◌<◌, ◌≤◌, ◌/◌, Bool, true, false, List, [], length, arith, refl, sym, ◌∙◌, ap, subst, inl, inr}
use Rattle.std.specs.Prelude.{Option, Some, None}
use Rattle.std.specs.List.{flat_map, range_with_len}
use Rattle.std.proofs.lemmas.Bool.{cases_lt, eq-eqb}
use Rattle.bdb_apart.specs.of_format.declared.kinds.Order.{Order}
use Rattle.bdb_apart.specs.of_format.declared.metadata.FileKind.TheVariants.{Queue}
use Rattle.bdb_apart.specs.of_format.declared.metadata.Head.{Head}
use Rattle.bdb_apart.specs.of_format.Terms.{NoType, Page, Zero, abstract_page, body_code, byte_at, entries_in, file_of, first_row, form_code, four_at, head_of}
use Rattle.bdb_apart.specs.of_format.Terms.{identity_rows, is_tree_type, is_zero, may_have_type, page_at, page_bytes, page_code, page_type}
use Rattle.bdb_apart.proofs.of_homes.Homes.{home}
use Rattle.bdb_apart.specs.of_survey.Salvage.{is_taken, item_pairs, meta_code, salvaged_page, stored_pair, unless_code}
use Rattle.bdb_apart.specs.Found.{found}
use Rattle.bdb_apart.specs.Given.{db_at, meta_at, pairs_left, pairs_left_on, records_beside, records_left, records_left_on}
use Rattle.bdb_apart.specs.Read.{read}
use Rattle.bdb_law_homes.proofs.of_format.FileLemmas.{kind_is, last_page}
use Rattle.bdb_law_homes.proofs.of_format.GraphLemmas.{queue_types, type_fits}
use Rattle.bdb_law_homes.specs.of_image.Linked.{IsForest}
use Rattle.bdb_law_homes.proofs.of_image.CodeLemmas.{code_by}
use Rattle.bdb_law_homes.proofs.of_image.FirstLemmas.{formed_page}
use Rattle.bdb_law_homes.specs.of_law_whole.Guessed.{guessed}
use Rattle.bdb_law_homes.proofs.of_law_whole.PageLemmas.{above, last_there, salvaged_zero}
use Rattle.bdb_law_homes.proofs.of_law_whole.of_survey.StoredPageLemmas.{page_is}
use Rattle.bdb_law_kept.proofs.SoundLemmas.{forest_of}
use Rattle.bdb_law_apart.specs.Left.{NothingIsLeftOfQueues}
use Rattle.bdb_law_apart.proofs.LeftLemmas.{either_nothing, none_stored}
use Rattle.bdb_law_apart.proofs.RecordLemmas.{beside_none}
use Rattle.bdb_law_homes.proofs.of_format.MemberLemmas.{nothing_joined}

-- The pages.

-- a page that isn't zero and has no type of trees and tables has a fault of form
wrong_type : (order : Order) (page : List ℕ) → is_zero page ≡ false → is_tree_type (byte_at page 25) ≡ false
    → page_code order (four_at order page 8) page ≡ Some 2
unfolding page_code
wrong_type order page some wrong =
    let n : ℕ = four_at order page 8 in
    let rest : Option ℕ = body_code order page (page_type (byte_at page 25)) in
    let row : first_row (identity_rows order page n is_tree_type) ≡ Some 2 = rw (eq-eqb n n refl, wrong) refl in
    ap (λ b. code_by b (first_row (identity_rows order page n is_tree_type)) rest) some ∙ ap (λ o. code_by false o rest) row

no_tree : (byte : ℕ) → (byte ≡ 10) ⊎ (byte ≡ 11) → is_tree_type byte ≡ false
no_tree byte (inl is) = ap is_tree_type is
no_tree byte (inr is) = ap is_tree_type is

no_type : (order : Order) (last : ℕ) (page : List ℕ) → is_zero page ≡ false → is_tree_type (byte_at page 25) ≡ false
    → salvaged_page order last page ≡ NoType
unfolding salvaged_page
no_type order last page some wrong =
    ap (λ o. unless_code o (unless_code (meta_code order last page (page_type (byte_at page 25))) (abstract_page order page)))
    (wrong_type order page some wrong)

-- each page is a zero page, or has no type
queue_page : (image : List ℕ) (p : ℕ) → IsForest image → (file_of image).kind ≡ Queue
    → (page_at (guessed image) p ≡ Zero) ⊎ (page_at (guessed image) p ≡ NoType)
queue_page image p forest kind = elim (cases_lt (file_of image).last p) [
  | inl past ↦ above image p forest past
  | inr low ↦ by_zero (omega (arith, low, last_page image)) (is_zero bytes) refl
]
  where
    head : Head
    head = head_of image

    bytes : List ℕ
    bytes = page_bytes head image p

    last : ℕ
    last = length image / head.page_size - 1

    by_zero : p ≤ head.last → (b : Bool) → is_zero bytes ≡ b → (page_at (guessed image) p ≡ Zero) ⊎ (page_at (guessed image) p ≡ NoType)
    by_zero low zeros is =
        let there : p < length image / head.page_size = omega (arith, low, last_page image, last_there image forest) in
        let page : page_at (guessed image) p ≡ salvaged_page head.order last bytes = page_is head.order head.page_size image p there in
        read zeros is page
      where
        read : (b : Bool) → is_zero bytes ≡ b → page_at (guessed image) p ≡ salvaged_page head.order last bytes
            → (page_at (guessed image) p ≡ Zero) ⊎ (page_at (guessed image) p ≡ NoType)
        read true zero page = inl (page ∙ salvaged_zero head.order last bytes zero)
        read false some page =
            let form : form_code head p bytes ≡ None = formed_page image p forest.formed.form low in
            let may : may_have_type Queue p (byte_at bytes 25) ≡ true =
            subst (λ k. may_have_type k p (byte_at bytes 25) ≡ true) (sym (kind_is image) ∙ kind) (type_fits head p bytes some form) in
            inr (page ∙ no_type head.order last bytes some (no_tree (byte_at bytes 25) (queue_types p (byte_at bytes 25) may)))

-- Nothing is read of them.

seen_nothing : {X : Type 0} (f : Page → List X) (image : List ℕ) (p : ℕ) → IsForest image → (file_of image).kind ≡ Queue → f Zero ≡ [] → f NoType ≡ []
    → f (page_at (guessed image) p) ≡ []
seen_nothing f image p forest kind zero none = elim (queue_page image p forest kind) [ inl is ↦ ap f is ∙ zero | inr is ↦ ap f is ∙ none ]

no_pair_on : (image : List ℕ) (p : ℕ) → IsForest image → (file_of image).kind ≡ Queue → pairs_left_on (guessed image) (found (read image)) p ≡ []
no_pair_on image p forest kind =
    none_stored (guessed image) (found (read image)) p
    (ap (flat_map (stored_pair (guessed image))) (seen_nothing item_pairs image p forest kind refl refl))

no_record_on : (image : List ℕ) (p : ℕ) → IsForest image → (file_of image).kind ≡ Queue → records_left_on (guessed image) (found (read image)) p ≡ []
no_record_on image p forest kind =
    let g = guessed image in
    either_nothing (is_taken g p) (records_beside g p (db_at (found (read image)) (meta_at (home g p))))
    (beside_none g p (db_at (found (read image)) (meta_at (home g p))) (seen_nothing entries_in image p forest kind refl refl))

pub nothing_is_left_of_queues : NothingIsLeftOfQueues
unfolding pairs_left records_left
nothing_is_left_of_queues image is =
    let forest : IsForest image = forest_of image is.sound in (
      nothing_joined (pairs_left_on (guessed image) (found (read image))) (range_with_len 0 (guessed image).count)
          (λ p at. no_pair_on image p forest is.kind),
      nothing_joined (records_left_on (guessed image) (found (read image))) (range_with_len 0 (guessed image).count)
          (λ p at. no_record_on image p forest is.kind),
    )
