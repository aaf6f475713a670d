-- The pages that a guess reads.
use Rattle.std.proofs.Common.{◌≡◌, ℕ, ◌-◌, ◌*◌, ◌/◌, ◌^◌, ◌<◌, ◌≤◌, true, List, length, arith, refl, sym, ◌∙◌, ap, inl, inr, is_some, Option, Some, None}
use Rattle.std.proofs.Common.{Result, Ok, Err}
use Rattle.std.proofs.lemmas.Bool.{cases_lt}
use Rattle.std.proofs.Math.Nat.{div-le_of_le-mul}
use Rattle.bdb_law_sums.specs.of_form.declared.view.PageView.{PageView}
use Rattle.bdb_law_sums.specs.of_form.Formed.{unless}
use Rattle.bdb_law_sums.specs.of_form.Seen.{form_seen, page_seen}
use Rattle.bdb_law_sums.specs.of_format.declared.kinds.Order.{Order}
use Rattle.bdb_law_sums.specs.of_format.Terms.{File, NoType, Page, abstract_page, byte_at, four_at, is_page_size, page_at, page_code, page_type}
use Rattle.bdb_law_sums.specs.of_format.Terms.{piece_in}
use Rattle.bdb_law_sums.proofs.of_format.SizeLemmas.{size_bounds}
use Rattle.bdb_law_sums.proofs.of_image.PieceLemmas.{piece_fits}
use Rattle.bdb_law_sums.specs.of_overflow.Whole.{bytes_of}
use Rattle.bdb_law_sums.proofs.of_overflow.WholeLemmas.{page_length}
use Rattle.bdb_survey.specs.Items.{slots_in}
use Rattle.bdb_survey.specs.Salvage.{meta_code, salvaged_file, salvaged_page, unless_code}
use Rattle.bdb_survey.proofs.MetaLemmas.{both_none, with_meta, without_meta}
use Rattle.bdb_survey.proofs.StoredPageLemmas.{count_is, page_is, page_past}

few_pages : (n size : ℕ) → 512 ≤ size → n ≤ 2 ^ 30 → n / size ≤ 2 ^ 21
few_pages n size large small = div-le_of_le-mul size (omega (arith, small, bound size large))
  where
    bound : (size : ℕ) → 512 ≤ size → 2 ^ 30 ≤ size * 2 ^ 21
    bound size large = omega arith

pub few : (n size : ℕ) → is_page_size size ≡ true → n ≤ 2 ^ 30 → n / size ≤ 2 ^ 21
few n size legal small = few_pages n size (size_bounds size legal).0 small

-- the count of the pages is that of the image
pub counted : (order : Order) (size : ℕ) (image : List ℕ) (count : ℕ) (file : File) → file ≡ salvaged_file order size image → count ≡ file.count
    → count ≡ length image / size
counted order size image count file is same = same ∙ (ap (λ (f : File). f.count) is ∙ count_is order size image)

-- The data on a page are no longer than a page.

coded_short : (n : ℕ) (page : Page) (code : Option ℕ) → length (piece_in page) ≤ n → length (piece_in (unless_code code page)) ≤ n
coded_short n page None short = short
coded_short n page (Some code) short = omega arith

salvaged_short : (order : Order) (last : ℕ) (page : List ℕ) → length (piece_in (salvaged_page order last page)) ≤ length page
unfolding salvaged_page
salvaged_short order last page =
    coded_short (length page) _ (page_code order (four_at order page 8) page)
    (coded_short (length page) (abstract_page order page) (meta_code order last page (page_type (byte_at page 25))) (piece_fits order page))

pub short_page : (order : Order) (size : ℕ) (image : List ℕ) (p : ℕ) → is_page_size size ≡ true → p < length image / size
    → length (piece_in (page_at (salvaged_file order size image) p)) ≤ 32768
short_page order size image p legal there =
    let bytes : List ℕ = bytes_of size image p in
    let last : ℕ = length image / size - 1 in
    let same : length (piece_in (page_at (salvaged_file order size image) p)) ≡ length (piece_in (salvaged_page order last bytes)) = ap
    (λ page. length (piece_in page)) (page_is order size image p there) in
    omega (arith, same, salvaged_short order last bytes, page_length size image p (omega (arith, (size_bounds size legal).0)) there, (size_bounds size legal).1)

-- the view that a test of a page answers, if it answers one
abbrev pub answer_page : Result PageView ℕ → Page
answer_page (Ok view) = page_seen view
answer_page (Err code) = NoType

abbrev pub kept_page : Result Page ℕ → Page
kept_page (Ok page) = page
kept_page (Err code) = NoType

answered : (answer : Result PageView ℕ) → kept_page (form_seen answer) ≡ answer_page answer
answered (Ok view) = refl
answered (Err code) = refl

unlessed : (code : Option ℕ) (page : Page) → kept_page (unless code page) ≡ unless_code code page
unlessed None page = refl
unlessed (Some code) page = refl

pub answer_is : (order : Order) (size : ℕ) (image : List ℕ) (p : ℕ) (page : List ℕ) (number : ℕ) (answer : Result PageView ℕ) (file : File)
    → file ≡ salvaged_file order size image
    → p < length image / size → page ≡ bytes_of size image p → number ≡ four_at order page 8
    → meta_code order (length image / size - 1) page (page_type (byte_at page 25)) ≡ None
    → form_seen answer ≡ unless (page_code order number page) (abstract_page order page)
    → answer_page answer ≡ page_at file p
answer_is order size image p page number answer file is there bytes own none same =
    sym (answered answer)
    ∙ (ap kept_page same
    ∙ (unlessed (page_code order number page) (abstract_page order page)
    ∙ (ap (λ n. unless_code (page_code order n page) (abstract_page order page)) own
    ∙ (sym (without_meta order (length image / size - 1) page none)
    ∙ (ap (salvaged_page order (length image / size - 1)) bytes
    ∙ (sym (page_is order size image p there) ∙ ap (λ f. page_at f p) (sym is)))))))

-- a page is what its bytes stand for
pub page_same : (order : Order) (size : ℕ) (image : List ℕ) (p : ℕ) (page : List ℕ) (file : File) → file ≡ salvaged_file order size image
    → p < length image / size → page ≡ bytes_of size image p
    → page_at file p ≡ salvaged_page order (length image / size - 1) page
page_same order size image p page file is there bytes =
    ap (λ f. page_at f p) is ∙ (page_is order size image p there ∙ sym (ap (salvaged_page order (length image / size - 1)) bytes))

-- none where a row of metadata holds
pub refused_is : (order : Order) (size : ℕ) (image : List ℕ) (p : ℕ) (page : List ℕ) (file : File) → file ≡ salvaged_file order size image
    → p < length image / size → page ≡ bytes_of size image p
    → is_some (meta_code order (length image / size - 1) page (page_type (byte_at page 25))) ≡ true
    → NoType ≡ page_at file p
refused_is order size image p page file is there bytes some =
    sym (page_same order size image p page file is there bytes ∙ with_meta order (length image / size - 1) page some)

pub answer_short : (size : ℕ) (order : Order) (image : List ℕ) (p : ℕ) (file : File) → file ≡ salvaged_file order size image → is_page_size size ≡ true
    → p < length image / size
    → (page : Page) → page ≡ page_at file p → length (piece_in page) ≤ 32768
answer_short size order image p file is legal there page same =
    let eq : length (piece_in page) ≡ length (piece_in (page_at (salvaged_file order size image) p)) = ap (λ x. length (piece_in x))
    (same ∙ ap (λ f. page_at f p) is) in
    omega (arith, eq, short_page order size image p legal there)

-- A page with items has no fault.

coded_some : (page : Page) (code : Option ℕ) → 1 ≤ length (slots_in (unless_code code page)) → (code ≡ None) × (1 ≤ length (slots_in page))
coded_some page None some = (refl, some)
coded_some page (Some code) some = absurd (omega (arith, some))

pub known_there : (order : Order) (size : ℕ) (image : List ℕ) (p : ℕ) → 1 ≤ length (slots_in (page_at (salvaged_file order size image) p))
    → p < length image / size
known_there order size image p some =
    elim (cases_lt p (length image / size)) [
      | inl lt ↦ lt
      | inr ge ↦ absurd (let none : length (slots_in (page_at (salvaged_file order size image) p))
          ≡ 0 = ap (λ page. length (slots_in page)) (page_past order size image p ge) in omega (arith, none, some))
    ]

codes_none : (order : Order) (last : ℕ) (page : List ℕ) → 1 ≤ length (slots_in (salvaged_page order last page))
    → (page_code order (four_at order page 8) page ≡ None) × (meta_code order last page (page_type (byte_at page 25)) ≡ None)
unfolding salvaged_page
codes_none order last page some =
    let form = coded_some _ (page_code order (four_at order page 8) page) some in
    (form.0, (coded_some (abstract_page order page) (meta_code order last page (page_type (byte_at page 25))) form.1).0)

page_codes : (order : Order) (size : ℕ) (image : List ℕ) (p : ℕ) → 1 ≤ length (slots_in (page_at (salvaged_file order size image) p))
    → (page_code order (four_at order (bytes_of size image p) 8) (bytes_of size image p) ≡ None)
    × (meta_code order (length image / size - 1) (bytes_of size image p) (page_type (byte_at (bytes_of size image p) 25)) ≡ None)
page_codes order size image p some =
    let last : ℕ = length image / size - 1 in
    let page : List ℕ = bytes_of size image p in
    let same : length (slots_in (page_at (salvaged_file order size image) p)) ≡ length (slots_in (salvaged_page order last page)) = ap
    (λ x. length (slots_in x)) (page_is order size image p (known_there order size image p some)) in
    codes_none order last page (omega (arith, same, some))

pub known_code : (order : Order) (size : ℕ) (image : List ℕ) (p : ℕ) → 1 ≤ length (slots_in (page_at (salvaged_file order size image) p))
    → page_code order (four_at order (bytes_of size image p) 8) (bytes_of size image p) ≡ None
known_code order size image p some = (page_codes order size image p some).0

pub known_same : (order : Order) (size : ℕ) (image : List ℕ) (p : ℕ) → 1 ≤ length (slots_in (page_at (salvaged_file order size image) p))
    → abstract_page order (bytes_of size image p) ≡ page_at (salvaged_file order size image) p
known_same order size image p some =
    let codes = page_codes order size image p some in
    sym (page_is order size image p (known_there order size image p some)
    ∙ both_none order (length image / size - 1) (bytes_of size image p) codes.0 codes.1)
