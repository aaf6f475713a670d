-- The pages of an image, one after another.
use Rattle.std.proofs.Common.{◌≡◌, ◌∙◌, ◌⊎◌, inl, inr, ℕ, zero, suc, ◌+◌, ◌<◌, ◌≤◌, List, [], ◌∷◌, ◌++◌, length, take, drop, refl, sym, ap, subst, arith}
use Rattle.std.proofs.Common.{append-nil, length-append, length-drop, length-take-le, Bool, true, false, Some, None}
use Rattle.std.specs.List.{find, flat_map, range_with_len}
use Rattle.std.proofs.lemmas.Bool.{cases_lt}
use Rattle.std.proofs.lemmas.List.Concat.{flat_map-append}
use Rattle.bdb_io.proofs.of_format.ListLemmas.{range_zero_more}
use Rattle.bdb_io.proofs.of_format.FileLemmas.{page_is, last_page}
use Rattle.bdb_io.proofs.of_format.SizeLemmas.{size_bounds}
use Rattle.bdb_io.proofs.of_format.VerdictLemmas.{none_within, or_else_none}
use Rattle.bdb_io.specs.of_format.declared.kinds.Order.{Order}
use Rattle.bdb_io.specs.of_format.declared.metadata.Head.{Head}
use Rattle.bdb_io.specs.of_format.Terms.{abstract_page, file_faults, file_of, head_faults, head_of, is_zero, page_at, page_bytes, tail_faults}
use Rattle.bdb_law_turned.proofs.of_image.FirstLemmas.{formed_accepted, formed_page}
use Rattle.bdb_law_turned.proofs.of_image.FormedLemmas.{accepted_paged}
use Rattle.bdb_law_turned.specs.of_image.Formed.{IsAccepted}
use Rattle.bdb_law_turned.specs.of_image.Linked.{IsForest}
use Rattle.bdb_law_turned.specs.Flipped.{first_overlap, flipped}
use Rattle.bdb_law_turned.specs.Overlaps.{overlaps}
use Rattle.bdb_law_turned.specs.Turning.{turned_page}
use Rattle.bdb_law_turned.proofs.FlipLemmas.{zero_above}
use Rattle.bdb_swap.specs.Formed.{HasForm}
use Rattle.bdb_swap.specs.Turns.{pages_turned}
use Rattle.bdb_io.proofs.of_format.GraphLemmas.{zero_page}

-- The image of a linked file has form.

above : (image : List ℕ) → IsForest image → (p : ℕ) → (head_of image).last < p → p < (head_of image).pages
    → is_zero (page_bytes (head_of image) image p) ≡ true
above image forest p past there =
    let first : file_faults image ≡ [] = none_within 1 2 image 1 forest.formed.form (omega arith) (omega arith) in
    let both : (head_faults image ≡ []) × (tail_faults image ≡ []) = or_else_none (head_faults image) (tail_faults image) first in
    zero_above image p both.1 past there

pub forest_has_form : (image : List ℕ) (head : Head) → IsForest image → head ≡ head_of image → HasForm head image
forest_has_form image head forest is = subst (λ h. HasForm h image) (sym is) (record {
  accepted = formed_accepted image (head_of image) forest.formed;
  formed = λ p lt some.
      elim (cases_lt (head_of image).last p) [
        | inl past ↦ absurd (let zeros : is_zero (page_bytes (head_of image) image p) ≡ true = above image forest p past lt in cc)
        | inr low ↦ formed_page image p forest.formed.form low
      ];
  zeros = above image forest;
})

-- no items of any of its pages overlap, where no page is the first
pub no_overlap_on_zeros : (order : Order) (page : List ℕ) → is_zero page ≡ true → overlaps (abstract_page order page) ≡ false
unfolding overlaps
no_overlap_on_zeros order page zeros = ap overlaps (zero_page order page zeros)

-- The search for the first page.

-- no items overlap on the pages below a number
abbrev pub NoneBelow : Head → List ℕ → ℕ → Type 0
NoneBelow head image n = (p : ℕ) → p < n → overlaps (abstract_page head.order (page_bytes head image p)) ≡ false

-- a page of the file is what is read here
page_there : (image : List ℕ) (head : Head) (p : ℕ) → head ≡ head_of image → p ≤ head.last
    → overlaps (page_at (file_of image) p) ≡ overlaps (abstract_page head.order (page_bytes head image p))
page_there image head p is low =
    ap overlaps (page_is image p (subst (λ (h : Head). p ≤ h.last) is low)
    ∙ ap (λ (h : Head). abstract_page h.order (page_bytes h image p)) (sym is))

last_same : (image : List ℕ) (head : Head) → head ≡ head_of image → (file_of image).last ≡ head.last
last_same image head is = last_page image ∙ ap (λ (h : Head). h.last) (sym is)

find_first : (test : ℕ → Bool) (a n k : ℕ) → ((p : ℕ) → p < k → test (a + p) ≡ false) → test (a + k) ≡ true → k < n → find test (range_with_len a n)
    ≡ Some (a + k)
find_first test a zero k none here lt = absurd (omega arith)
find_first test a (suc n) zero none here lt =
    let same : a + 0 ≡ a = omega arith in
    let first : test a ≡ true = ap test (sym same) ∙ here in
    rw first (ap (λ (k : ℕ). Some k) (sym same))
find_first test a (suc n) (suc k) none here lt =
    let next : a + suc k ≡ a + 1 + k = omega arith in
    let first : test a ≡ false = ap test (omega arith) ∙ none 0 (omega arith) in
    rw first (find_first test (a + 1) n k (λ p low. ap test (omega arith) ∙ none (suc p) (omega arith)) (ap test (sym next) ∙ here) (omega arith)
    ∙ ap (λ (j : ℕ). Some j) (sym next))

find_none : (test : ℕ → Bool) (a n : ℕ) → ((p : ℕ) → p < n → test (a + p) ≡ false) → find test (range_with_len a n) ≡ None
find_none test a zero none = refl
find_none test a (suc n) none =
    let first : test a ≡ false = ap test (omega arith) ∙ none 0 (omega arith) in
    rw first (find_none test (a + 1) n (λ p low. ap test (omega arith) ∙ none (suc p) (omega arith)))

-- a page that overlaps isn't zero, so it's none above the last
pub overlap_found : (image : List ℕ) (head : Head) (n : ℕ) (result : Bool) (source : List ℕ) → HasForm head image → n < head.pages → NoneBelow head image n
    → source ≡ page_bytes head image n → result ≡ overlaps (abstract_page head.order source) → result ≡ true
    → first_overlap (file_of image) ≡ Some n
unfolding first_overlap
overlap_found image head n result source form there none bytes found here =
    let is : head ≡ head_of image = form.accepted.head_is in
    let last : (file_of image).last ≡ head.last = last_same image head is in
    let on_page : overlaps (abstract_page head.order (page_bytes head image n)) ≡ true =
    ap (λ xs. overlaps (abstract_page head.order xs)) (sym bytes) ∙ (sym found ∙ here) in
    let at : (p : ℕ) → overlaps (page_at (file_of image) (0 + p)) ≡ overlaps (page_at (file_of image) p) =
    λ p. ap (λ (k : ℕ). overlaps (page_at (file_of image) k)) (omega arith) in
    elim (cases_lt head.last n) [
      | inl past ↦
          absurd (let zeros : overlaps (abstract_page head.order (page_bytes head image n)) ≡ false =
          no_overlap_on_zeros head.order (page_bytes head image n) (form.zeros n past there) in cc)
      | inr low ↦
          find_first (λ p. overlaps (page_at (file_of image) p)) 0 ((file_of image).last + 1) n
          (λ p lt. at p ∙ (page_there image head p is (omega arith) ∙ none p lt)) (at n ∙ (page_there image head n is low ∙ on_page)) (omega arith)
          ∙ ap (λ (k : ℕ). Some k) (omega arith)
    ]

pub none_more : (image : List ℕ) (head : Head) (n : ℕ) (result : Bool) (source : List ℕ) → NoneBelow head image n
    → source ≡ page_bytes head image n → result ≡ overlaps (abstract_page head.order source) → result ≡ false → NoneBelow head image (n + 1)
none_more image head n result source none bytes found here = λ p lt. elim (cases p n lt) [
  | inl before ↦ none p before
  | inr same ↦
      ap (λ (q : ℕ). overlaps (abstract_page head.order (page_bytes head image q))) same
      ∙ (ap (λ xs. overlaps (abstract_page head.order xs)) (sym bytes) ∙ (sym found ∙ here))
]
  where
    cases : (p n : ℕ) → p < n + 1 → (p < n) ⊎ (p ≡ n)
    cases p n lt = grind arith

no_overlap : (image : List ℕ) (head : Head) → HasForm head image → NoneBelow head image head.pages → first_overlap (file_of image) ≡ None
unfolding first_overlap
no_overlap image head form none =
    let is : head ≡ head_of image = form.accepted.head_is in
    let last : (file_of image).last ≡ head.last = last_same image head is in
    let inside : head.last < head.pages = (accepted_paged image head form.accepted).last in
    find_none (λ p. overlaps (page_at (file_of image) p)) 0 ((file_of image).last + 1)
    (λ p lt. ap (λ (k : ℕ). overlaps (page_at (file_of image) k)) (omega arith) ∙ (page_there image head p is (omega arith) ∙ none p (omega arith)))

-- Of a longer row of places so many are lent.

pub taken_whole : (n : ℕ) (xs : List ℕ) → n ≤ length xs → n ≡ length (take n xs)
taken_whole n xs room = sym (length-take-le n xs room)

pub joined_long : (page buffer : List ℕ) (n : ℕ) → length page ≡ n → n ≤ length buffer → length (page ++ drop n buffer) ≡ length buffer
joined_long page buffer n long room = omega (arith, length-append page (drop n buffer), length-drop n buffer)

-- The pages byte-swapped.

pub page_bounds : (image : List ℕ) (head : Head) → IsAccepted image head → (512 ≤ head.page_size) × (head.page_size ≤ 32768)
page_bounds image head accepted = size_bounds head.page_size (accepted_paged image head accepted).legal

pub pages_more : (head : Head) (image : List ℕ) (n : ℕ)
    → pages_turned head image n ++ turned_page head.order (page_bytes head image n) ≡ pages_turned head image (n + 1)
pages_more head image n =
    let part : ℕ → List ℕ = λ p. turned_page head.order (page_bytes head image p) in
    ap (λ xs. flat_map part (range_with_len 0 n) ++ xs) (sym (append-nil (part n)))
    ∙ (sym (flat_map-append part (range_with_len 0 n) (n ∷ []))
    ∙ sym (ap (flat_map part) (range_zero_more n)))

-- all of them
pub all_turned : (image copy : List ℕ) (head : Head) (n : ℕ) → HasForm head image → n ≡ head.pages → copy ≡ pages_turned head image n → NoneBelow head image n
    → (copy ≡ flipped image) × (first_overlap (file_of image) ≡ None)
unfolding flipped
all_turned image copy head n form all are none = (
  are ∙ (ap (pages_turned head image) all ∙ ap (λ (h : Head). pages_turned h image h.pages) form.accepted.head_is),
  no_overlap image head form (subst (NoneBelow head image) all none),
)
