-- The pages of an image and their bytes.
use Rattle.std.proofs.Common.{◌≡◌, ◌∙◌, ℕ, ◌<◌, ◌≤◌, true, false, List, length, sym, ap, subst, arith, None}
use Rattle.bdb_law_turned.proofs.of_format.FileLemmas.{last_page, page_is, past_last}
use Rattle.bdb_law_turned.proofs.of_format.GraphLemmas.{typed_page, zero_page}
use Rattle.bdb_law_turned.specs.of_format.declared.metadata.Head.{Head}
use Rattle.bdb_law_turned.specs.of_format.Terms.{abstract_page, body_code, byte_at, file_of, form_code, head_of, is_zero, page_as, page_at, page_bytes}
use Rattle.bdb_law_turned.specs.of_format.Terms.{page_type}
use Rattle.bdb_law_turned.proofs.of_graph.ChainLengthLemmas.{size_is}
use Rattle.bdb_law_turned.proofs.of_image.FirstLemmas.{formed_accepted, formed_page}
use Rattle.bdb_law_turned.specs.of_image.Formed.{IsAccepted}
use Rattle.bdb_law_turned.specs.of_image.Linked.{IsForest}
use Rattle.bdb_stat.specs.Unused.{unused_in}
use Rattle.bdb_law_turned.proofs.PageLemmas.{body_passed}

pub accepted_as : (image : List ℕ) (head : Head) → IsForest image → head ≡ head_of image → IsAccepted image head
accepted_as image head forest is = subst (IsAccepted image) (sym is) (formed_accepted image (head_of image) forest.formed)

-- a page above the last one has none
pub nothing_above : (image : List ℕ) (head : Head) (p : ℕ) → head ≡ head_of image → head.last < p
    → 0 ≡ unused_in (file_of image).size (page_at (file_of image) p)
unfolding unused_in
nothing_above image head p is above =
    let last : (file_of image).last ≡ head.last = last_page image ∙ ap (λ (h : Head). h.last) (sym is) in
    sym (ap (unused_in (file_of image).size) (past_last image p (omega arith)))

-- a page up to it by its bytes
page_there : (image : List ℕ) (head : Head) (p : ℕ) (page : List ℕ) → head ≡ head_of image → p ≤ head.last → page ≡ page_bytes head image p
    → page_at (file_of image) p ≡ abstract_page head.order page
page_there image head p page is low bytes =
    let inside : p ≤ (head_of image).last = subst (λ (h : Head). p ≤ h.last) is low in
    page_is image p inside
    ∙ (ap (λ (h : Head). abstract_page h.order (page_bytes h image p)) (sym is) ∙ ap (abstract_page head.order) (sym bytes))

pub zero_on : (image : List ℕ) (head : Head) (p : ℕ) (page : List ℕ) → head ≡ head_of image → p ≤ head.last → page ≡ page_bytes head image p
    → is_zero page ≡ true
    → 0 ≡ unused_in (file_of image).size (page_at (file_of image) p)
unfolding unused_in
zero_on image head p page is low bytes zeros =
    sym (ap (unused_in (file_of image).size) (page_there image head p page is low bytes ∙ zero_page head.order page zeros))

pub formed_at : (image : List ℕ) (head : Head) (p : ℕ) (page : List ℕ) → IsForest image → head ≡ head_of image → p ≤ head.last → page ≡ page_bytes head image p
    → is_zero page ≡ false → body_code head.order page (page_type (byte_at page 25)) ≡ None
formed_at image head p page forest is low bytes some =
    let inside : p ≤ (head_of image).last = subst (λ (h : Head). p ≤ h.last) is low in
    let same : page ≡ page_bytes (head_of image) image p = bytes ∙ ap (λ (h : Head). page_bytes h image p) is in
    subst (λ (h : Head). body_code h.order page (page_type (byte_at page 25)) ≡ None) (sym is)
    (body_passed (head_of image) p page (ap (form_code (head_of image) p) same ∙ formed_page image p forest.formed.form inside) some)

pub some_on : (image : List ℕ) (head : Head) (p : ℕ) (page : List ℕ) → head ≡ head_of image → p ≤ head.last → page ≡ page_bytes head image p
    → length page ≡ head.page_size → is_zero page ≡ false
    → unused_in (length page) (page_as head.order page (page_type (byte_at page 25))) ≡ unused_in (file_of image).size (page_at (file_of image) p)
some_on image head p page is low bytes long some =
    let size : length page ≡ (file_of image).size = long ∙ (ap (λ (h : Head). h.page_size) is ∙ sym (size_is image)) in
    ap (λ n. unused_in n (page_as head.order page (page_type (byte_at page 25)))) size
    ∙ ap (unused_in (file_of image).size) (sym (page_there image head p page is low bytes ∙ typed_page head.order page some))
