-- What an accepted page 0 says of the pages, and what a formed image says of each of them.
use Rattle.std.proofs.Common.{◌≡◌, ℕ, zero, suc, ◌+◌, ◌*◌, ◌-◌, ◌/◌, ◌%◌, ◌^◌, ◌<◌, ◌≤◌, Bool, true, false, List, length, arith, refl, sym, ◌∙◌, subst, ◌==◌}
use Rattle.std.proofs.Common.{◌||◌, not, None}
use Rattle.std.proofs.Math.Nat.{mul-le-mul_left, mul-le-mul_right}
use Rattle.std.proofs.lemmas.Bool.{eqb-true, leb-false, ltb-false, not-false}
use Rattle.std.proofs.lemmas.List.{length-take-le, length-drop}
use Rattle.bdb_faults.specs.of_format.declared.metadata.FileKind.{FileKind}
use Rattle.bdb_faults.specs.of_format.declared.metadata.FileKind.TheVariants.{Btree, Hash, Queue}
use Rattle.bdb_faults.specs.of_format.declared.metadata.Head.{Head}
use Rattle.bdb_faults.specs.of_format.Terms.{file_kind, first_row, form_code, four_at, head_of, head_rows, is_page_size, is_past, is_zero, last_page, magic_at}
use Rattle.bdb_faults.specs.of_format.Terms.{order_of, page_bytes, pages_of}
use Rattle.bdb_faults.proofs.of_format.VerdictLemmas.{AllFail, none_is_first_row}
use Rattle.bdb_faults.proofs.of_format.SizeLemmas.{size_bounds}
use Rattle.bdb_slots.proofs.of_form.FormedLemmas.{numbered}
use Rattle.bdb_image.specs.Formed.{IsAccepted}

-- Page 0.

-- what no row of page 0 says of the pages
pub record IsPaged (image : List ℕ) (head : Head) : Type 0 where
  pub legal : is_page_size head.page_size ≡ true
  pub least : 512 ≤ head.page_size
  pub whole : length image ≡ head.pages * head.page_size
  pub last : head.last < head.pages
  pub few : head.pages ≤ 2 ^ 21

legal_size : (legal large : Bool) → not (legal || large) ≡ false → large ≡ false → legal ≡ true
legal_size true large either small = refl
legal_size false true either small = absurd cc
legal_size false false either small = absurd cc

whole_pages : (n size : ℕ) → 512 ≤ size → not (n % size == 0) ≡ false → n ≡ n / size * size
whole_pages n size least even = let none : n % size ≡ 0 = eqb-true (n % size) 0 (not-false _ even) in omega arith

some_page : (n pages size : ℕ) → 512 ≤ n → n ≡ pages * size → 0 < pages
some_page n zero size long whole = absurd (omega arith)
some_page n (suc pages) size long whole = omega arith

last_there : (kind : FileKind) (image : List ℕ) → is_past kind image ≡ false → 0 < pages_of image → last_page kind image < pages_of image
last_there Btree image past some = leb-false (pages_of image) (last_page Btree image) past
last_there Hash image past some = leb-false (pages_of image) (last_page Hash image) past
last_there Queue image past some = omega arith

few_pages : (n pages size : ℕ) → n ≤ 2 ^ 30 → 512 ≤ size → n ≡ pages * size → pages ≤ 2 ^ 21
few_pages n pages size small least whole = let room : pages * 512 ≤ pages * size = mul-le-mul_left pages least in omega arith

paged : (image : List ℕ) → length image ≤ 2 ^ 30 → first_row (head_rows image) ≡ None → IsPaged image (head_of image)
unfolding head_rows head_of
paged image small none =
    let fail : AllFail (head_rows image) = none_is_first_row (head_rows image) none in
    let size : ℕ = four_at (order_of image) image 20 in
    let legal : is_page_size size ≡ true = legal_size (is_page_size size) (size == 65536) fail.1.1.1.1.0 fail.1.1.1.1.1.0 in
    let least : 512 ≤ size = (size_bounds size legal).0 in
    let long : 512 ≤ length image = ltb-false (length image) 512 fail.0 in
    let whole : length image ≡ length image / size * size = whole_pages (length image) size least fail.1.1.1.1.1.1.1.1.1.0 in
    let some : 0 < pages_of image = some_page (length image) (length image / size) size long whole in
    record {
      legal = legal;
      least = least;
      whole = whole;
      last = last_there (file_kind (magic_at image)) image fail.1.1.1.1.1.1.1.1.1.1.0 some;
      few = few_pages (length image) (length image / size) size small least whole;
    }

pub accepted_paged : (image : List ℕ) (head : Head) → IsAccepted image head → IsPaged image head
accepted_paged image head accepted = subst (IsPaged image) (sym accepted.head_is) (paged image accepted.size accepted.accepted)

-- a page lies within the image
pub page_room : (image : List ℕ) (head : Head) (number : ℕ) → IsAccepted image head → number < head.pages
    → number * head.page_size + head.page_size ≤ length image
page_room image head number accepted below =
    let is : IsPaged image head = accepted_paged image head accepted in
    let next : number + 1 ≤ head.pages = omega arith in
    let room : (number + 1) * head.page_size ≤ head.pages * head.page_size = mul-le-mul_right head.page_size next in
    omega (arith, is.whole)

pub page_length : (image : List ℕ) (head : Head) (number : ℕ) → IsAccepted image head → number < head.pages → length (page_bytes head image number)
    ≡ head.page_size
page_length image head number accepted below = grind (arith, page_room, length-take-le, length-drop)

-- a page that isn't a zero page tells its own number
pub tells_number : (head : Head) (number : ℕ) (page : List ℕ) → form_code head number page ≡ None → is_zero page ≡ false
    → four_at head.order page 8 ≡ number
unfolding form_code
tells_number head number page none other = grind (arith, numbered)
