-- The pages of a sound file are those that salvage reads; above the last page it reads none that hold something.
use Rattle.std.proofs.Common.{◌≡◌, ◌⊎◌, ℕ, ◌+◌, ◌-◌, ◌/◌, ◌<◌, ◌≤◌, true, false, List, [], length, arith, sym, ◌∙◌, ap, subst, inl, inr, ◌==◌, Option, None}
use Rattle.std.proofs.lemmas.Bool.{cases_Bool, cases_lt, eqb-true, not-false}
use Rattle.bdb_survey.specs.of_format.declared.kinds.Order.{Order}
use Rattle.bdb_survey.specs.of_format.declared.metadata.FileKind.TheVariants.{Queue}
use Rattle.bdb_survey.specs.of_format.declared.metadata.Head.{Head}
use Rattle.bdb_survey.specs.of_format.Terms.{NoType, Page, Zero, body_code, byte_at, file_of, first_row, form_code, four_at, head_faults, head_of}
use Rattle.bdb_survey.specs.of_format.Terms.{identity_rows, is_page_size, is_tree_type, is_zero, page_at, page_bytes, page_code, page_type, tail_faults}
use Rattle.bdb_survey.specs.of_format.Terms.{tail_rows}
use Rattle.bdb_survey.specs.of_format.Verdict.{holding}
use Rattle.bdb_survey.proofs.of_format.VerdictLemmas.{all_fail, no_codes_at, none_is_first_row, none_within, or_else_none}
use Rattle.bdb_survey.proofs.of_format.GraphLemmas.{zero_page}
use Rattle.bdb_survey.proofs.of_format.FileLemmas.{past_last, count_is as pages_are, last_page, page_is as file_page}
use Rattle.bdb_survey.specs.of_image.Linked.{IsForest}
use Rattle.bdb_survey.proofs.of_image.CodeLemmas.{code_by}
use Rattle.bdb_survey.proofs.of_image.FirstLemmas.{formed_last, formed_page}
use Rattle.bdb_survey.proofs.of_image.HeldLemmas.{identity_none}
use Rattle.bdb_survey.proofs.of_graph.LinkedLemmas.{forest_code}
use Rattle.bdb_survey.proofs.of_overflow.LinkedLemmas.{count_is, legal_size}
use Rattle.bdb_survey.specs.Salvage.{meta_code, salvaged_page}
use Rattle.bdb_survey.proofs.MetaLemmas.{both_none}
use Rattle.bdb_survey.proofs.of_format.SizeLemmas.{size_bounds}
use Rattle.bdb_survey.proofs.of_overflow.WholeLemmas.{page_length}
use Rattle.bdb_law_whole.proofs.MetaLemmas.{meta_none, zero_none}
use Rattle.bdb_survey.proofs.StoredPageLemmas.{page_is, page_past}
use Rattle.bdb_survey.proofs.StoredPageLemmas.{count_is as salvaged_count}
use Rattle.bdb_law_whole.specs.Guessed.{guessed}

-- A page without a fault of form.

-- a page has its number, where no row of its number holds
own_number : (order : Order) (p : ℕ) (page : List ℕ) → is_zero page ≡ false → page_code order p page ≡ None → four_at order page 8 ≡ p
unfolding page_code
own_number order p page some none =
    let identity : Option ℕ = first_row (identity_rows order page p is_tree_type) in
    let passed : code_by false identity (body_code order page (page_type (byte_at page 25))) ≡ None =
    subst (λ b. code_by b identity (body_code order page (page_type (byte_at page 25))) ≡ None) some none in
    let rows = none_is_first_row (identity_rows order page p is_tree_type)
    (identity_none identity (body_code order page (page_type (byte_at page 25))) passed) in
    eqb-true (four_at order page 8) p (not-false (four_at order page 8 == p) rows.0)

zero_code : (order : Order) (p : ℕ) (page : List ℕ) → is_zero page ≡ true → page_code order p page ≡ None
unfolding page_code
zero_code order p page zeros =
    ap (λ b. code_by b (first_row (identity_rows order page p is_tree_type)) (body_code order page (page_type (byte_at page 25)))) zeros

-- held against itself no row holds either
own_code : (order : Order) (p : ℕ) (page : List ℕ) → page_code order p page ≡ None → page_code order (four_at order page 8) page ≡ None
own_code order p page none =
    elim (cases_Bool (is_zero page)) [
      | inl zeros ↦ zero_code order (four_at order page 8) page zeros
      | inr some ↦ ap (λ n. page_code order n page) (own_number order p page some none) ∙ none
    ]

-- nor one of metadata
own_meta : (head : Head) (p more : ℕ) (page : List ℕ) → is_page_size (length page) ≡ true → form_code head p page ≡ None
    → page_code head.order p page ≡ None → head.last ≤ more
    → meta_code head.order more page (page_type (byte_at page 25)) ≡ None
own_meta head p more page legal form none later =
    elim (cases_Bool (is_zero page)) [
      | inl zeros ↦ zero_none head.order more page zeros
      | inr some ↦ meta_none head p more page legal form (own_number head.order p page some none) later
    ]

-- the last page is one of the whole pages of the image
pub last_there : (image : List ℕ) → IsForest image → (file_of image).last < length image / (head_of image).page_size
last_there image forest = omega (arith, last_page image, formed_last image (head_of image) forest.formed, pages_are image, count_is image)

-- up to the last page salvage reads the pages of the file
pub same_page : (image : List ℕ) (p : ℕ) → IsForest image → ((head_of image).kind ≡ Queue → ⊥) → p ≤ (file_of image).last
    → page_at (guessed image) p ≡ page_at (file_of image) p
same_page image p forest kind low =
    let head : Head = head_of image in
    let inside : p ≤ head.last = omega (arith, low, last_page image) in
    let there : p < length image / head.page_size = omega (arith, low, last_there image forest) in
    let page : List ℕ = page_bytes head image p in
    let form : form_code head p page ≡ None = formed_page image p forest.formed.form inside in
    let code : page_code head.order p page ≡ None = forest_code head p page kind form in
    let legal : is_page_size head.page_size ≡ true = legal_size image forest in
    let size : length page ≡ head.page_size = page_length head.page_size image p (omega (arith, (size_bounds head.page_size legal).0)) there in
    let last : ℕ = length image / head.page_size - 1 in
    let meta : meta_code head.order last page (page_type (byte_at page 25)) ≡ None =
    own_meta head p last page (ap is_page_size size ∙ legal) form code (omega (arith, last_there image forest, last_page image)) in
    page_is head.order head.page_size image p there
    ∙ (both_none head.order last page (own_code head.order p page code) meta ∙ sym (file_page image p inside))

-- The pages above the last.

-- are zero pages
tail_zero : (image : List ℕ) (p : ℕ) → IsForest image → (head_of image).last < p → p < (head_of image).pages
    → is_zero (page_bytes (head_of image) image p) ≡ true
unfolding tail_faults
tail_zero image p forest past there =
    let head : Head = head_of image in
    let none : tail_faults image ≡ [] =
    (or_else_none (head_faults image) (tail_faults image) (none_within 1 2 image 1 forest.formed.form (omega arith) (omega arith))).1 in
    let codes : holding (tail_rows head image p) ≡ [] =
    no_codes_at 1 (head.last + 1) (head.pages - (head.last + 1)) p (λ q. holding (tail_rows head image q)) none (omega arith) (omega arith) in
    not-false (is_zero (page_bytes head image p)) (all_fail (tail_rows head image p) codes).0

pub salvaged_zero : (order : Order) (last : ℕ) (page : List ℕ) → is_zero page ≡ true → salvaged_page order last page ≡ Zero
salvaged_zero order last page zeros =
    both_none order last page (zero_code order (four_at order page 8) page zeros) (zero_none order last page zeros) ∙ zero_page order page zeros

pub above : (image : List ℕ) (p : ℕ) → IsForest image → (file_of image).last < p
    → (page_at (guessed image) p ≡ Zero) ⊎ (page_at (guessed image) p ≡ NoType)
above image p forest past =
    let head : Head = head_of image in
    elim (cases_lt p (length image / head.page_size)) [
      | inr outside ↦ inr (page_past head.order head.page_size image p outside)
      | inl there ↦
          inl (page_is head.order head.page_size image p there
          ∙ salvaged_zero head.order (length image / head.page_size - 1) (page_bytes head image p)
          (tail_zero image p forest (omega (arith, past, last_page image)) (omega (arith, there, pages_are image, count_is image))))
    ]

-- What is read off a page is the same in both files, where a zero page and none at all give the same.
pub seen_alike : {X : Type 0} (f : Page → X) (image : List ℕ) (p : ℕ) → IsForest image → ((head_of image).kind ≡ Queue → ⊥) → f Zero ≡ f NoType
    → f (page_at (guessed image) p) ≡ f (page_at (file_of image) p)
seen_alike f image p forest kind alike =
    elim (cases_lt (file_of image).last p) [
      | inr low ↦ ap f (same_page image p forest kind low)
      | inl past ↦
          let nothing : f (page_at (file_of image) p) ≡ f NoType = ap f (past_last image p past) in
          elim (above image p forest past) [ inl zeros ↦ ap f zeros ∙ (alike ∙ sym nothing) | inr none ↦ ap f none ∙ sym nothing ]
    ]

pub same_count : (image : List ℕ) → (guessed image).count ≡ (file_of image).count
same_count image = salvaged_count (head_of image).order (head_of image).page_size image ∙ sym (count_is image)
