-- A whole image in the other order.
use Rattle.std.proofs.Common.{◌≡◌, ◌∙◌, ◌⊎◌, inl, inr, ℕ, ◌+◌, ◌-◌, ◌*◌, ◌/◌, ◌%◌, ◌^◌, ◌<◌, ◌≤◌, List, [], ◌∷◌, map, length, drop, take, refl, sym, ap, arith}
use Rattle.std.proofs.Common.{length-drop, mul-le-mul_right, cond, not, nat_lt, nat_le, ◌||◌, ◌&&◌, ◌==◌, reverse, Bool, true, false, Some, None}
use Rattle.std.proofs.Common.{option_to_list}
use Rattle.std.specs.List.{Contains, find, flat_map, range_with_len}
use Rattle.std.proofs.lemmas.Bool.{cases_lt, eqb-true, not-false}
use Rattle.bdb_graph.proofs.of_format.MemberLemmas.{in_range, member_cases, no_member, of_range}
use Rattle.bdb_graph.proofs.of_format.ListLemmas.{flat_map_same}
use Rattle.bdb_graph.proofs.of_format.FileLemmas.{page_is, last_page as last_page_is}
use Rattle.std.proofs.lemmas.List.{get_or-take, length-reverse, length-take-le, reverse-reverse}
use Rattle.bdb_graph.proofs.of_format.VerdictLemmas.{all_fail, no_code, no_codes_at, no_faults, none_is_first_row, none_within, or_else_none}
use Rattle.bdb_graph.proofs.of_image.CodeLemmas.{differs}
use Rattle.bdb_graph.proofs.of_image.FormedLemmas.{IsPaged, accepted_paged, page_length}
use Rattle.bdb_graph.specs.of_format.declared.kinds.Order.{Order}
use Rattle.bdb_graph.specs.of_format.declared.kinds.Order.TheVariants.{Big, Little}
use Rattle.bdb_graph.specs.of_format.declared.kinds.Fault.{Fault}
use Rattle.bdb_graph.specs.of_format.declared.metadata.FileKind.{FileKind}
use Rattle.bdb_graph.specs.of_format.declared.metadata.Head.{Head}
use Rattle.bdb_graph.specs.of_format.Terms.{File, Page, Row, abstract_page, by_page, byte_at, contents_faults, faults_in, faults_of, file_faults, file_kind}
use Rattle.bdb_graph.specs.of_format.Terms.{file_of, first_row, form_code, form_faults, four_at, from_low_end, has_bit, head_faults, head_of, head_rows}
use Rattle.bdb_graph.specs.of_format.Terms.{heap_magic, is_magic, is_page_size, is_past, is_queue, is_zero, last_page, magic_at, master_faults, number_at}
use Rattle.bdb_graph.specs.of_format.Terms.{order_of, ownership_faults, page_at, page_bytes, pages_of, reach_faults, reference_faults, stage_faults}
use Rattle.bdb_graph.specs.of_format.Terms.{structure_faults, tail_faults, tail_rows, turned, version_of, ◌:?◌}
use Rattle.bdb_graph.specs.of_format.Verdict.{holding}
use Rattle.bdb_graph.specs.of_image.Formed.{IsAccepted}
use Rattle.bdb_law_turned.specs.Flipped.{first_overlap, flipped}
use Rattle.bdb_law_turned.specs.Laws.{TurnsRound, turned_head}
use Rattle.bdb_law_turned.specs.Overlaps.{overlaps}
use Rattle.bdb_law_turned.specs.Turning.{turned_page}
use Rattle.bdb_law_turned.proofs.JoinedLemmas.{joins_back, length_joined, number_in_front, page_of_joined}
use Rattle.bdb_law_turned.proofs.ListedLemmas.{map_same}
use Rattle.bdb_law_turned.proofs.PageLemmas.{first_page_common, pages_turn_round, zero_stays}
use Rattle.bdb_law_turned.proofs.PlainLemmas.{CommonSame}
use Rattle.bdb_graph.proofs.of_format.FaultLemmas.{or_none}

-- what the pages of an image are, and what they become
record CanFlip (image : List ℕ) : Type 0 where
  paged : IsPaged image (head_of image)
  rows : first_row (head_rows image) ≡ None
  sizes : (p : ℕ) → p < (head_of image).pages → length (page_bytes (head_of image) image p) ≡ (head_of image).page_size
  formed : (p : ℕ) → p ≤ (head_of image).last → form_code (head_of image) p (page_bytes (head_of image) image p) ≡ None
  turns : (p : ℕ) → p ≤ (head_of image).last → TurnsRound (head_of image) p (page_bytes (head_of image) image p)
  zeros : (p : ℕ) → (head_of image).last < p → p < (head_of image).pages → is_zero (page_bytes (head_of image) image p) ≡ true

abbrev turn : List ℕ → ℕ → List ℕ
turn image p = turned_page (head_of image).order (page_bytes (head_of image) image p)

-- a list without one that passes
none_found : (test : ℕ → Bool) (xs : List ℕ) (x : ℕ) → find test xs ≡ None → Contains xs x → test x ≡ false
none_found test [] x none at = absurd (no_member [] x refl at)
none_found test (y ∷ xs) x none at =
    elim (test y) as (λ b. test y ≡ b → cond b (Some y) (find test xs) ≡ None → test x ≡ false) [
      | true ↦ λ is found. absurd cc
      | false ↦ λ is found. elim (member_cases y xs x at) [ inl same ↦ ap test (sym same) ∙ is | inr later ↦ none_found test xs x found later ]
    ] refl none

pub no_overlap_at : (image : List ℕ) (p : ℕ) → first_overlap (file_of image) ≡ None → p ≤ (head_of image).last
    → overlaps (abstract_page (head_of image).order (page_bytes (head_of image) image p)) ≡ false
unfolding first_overlap
no_overlap_at image p none low =
    ap overlaps (sym (page_is image p low))
    ∙ none_found (λ q. overlaps (page_at (file_of image) q)) (range_with_len 0 ((file_of image).last + 1)) p none
    (in_range 0 ((file_of image).last + 1) p (omega arith) (let last : (file_of image).last ≡ (head_of image).last = last_of image in omega arith))
  where
    last_of : (image : List ℕ) → (file_of image).last ≡ (head_of image).last
    last_of image = last_page_is image

-- a page above the last one is all zeros
pub zero_above : (image : List ℕ) (p : ℕ) → tail_faults image ≡ [] → (head_of image).last < p → p < (head_of image).pages
    → is_zero (page_bytes (head_of image) image p) ≡ true
unfolding tail_faults
zero_above image p none past there =
    let head : Head = head_of image in
    let codes : holding (tail_rows head image p) ≡ [] =
    no_codes_at 1 (head.last + 1) (head.pages - (head.last + 1)) p (λ q. holding (tail_rows head image q)) none (omega arith) (omega arith) in
    not-false (is_zero (page_bytes head image p)) (all_fail (tail_rows head image p) codes).0

can_flip : (image : List ℕ) → length image ≤ 2 ^ 30 → faults_of image ≡ [] → first_overlap (file_of image) ≡ None → CanFlip image
unfolding faults_of head_faults form_faults
can_flip image small none no_overlap =
    let head : Head = head_of image in
    let first : file_faults image ≡ [] = none_within 1 8 image 1 none (omega arith) (omega arith) in
    let both : (head_faults image ≡ []) × (tail_faults image ≡ []) = or_else_none (head_faults image) (tail_faults image) first in
    let second : form_faults image ≡ [] = none_within 1 8 image 2 none (omega arith) (omega arith) in
    let rows : first_row (head_rows image) ≡ None =
    no_code (first_row (head_rows image)) (no_codes_at 1 0 1 0 (λ p. option_to_list (first_row (head_rows image))) both.0 (omega arith) (omega arith)) in
    let accepted : IsAccepted image head = record { size = small; head_is = refl; accepted = rows } in
    let paged : IsPaged image head = accepted_paged image head accepted in
    let sizes : (p : ℕ) → p < head.pages → length (page_bytes head image p) ≡ head.page_size = λ p lt. page_length image head p accepted lt in
    let last : head.last < head.pages = paged.last in
    let formed : (p : ℕ) → p ≤ head.last → form_code head p (page_bytes head image p) ≡ None =
    λ p low. no_code (form_code head p (page_bytes head image p))
    (no_codes_at 2 0 (head.last + 1) p (λ q. option_to_list (form_code head q (page_bytes head image q))) second (omega arith) (omega arith)) in
    record {
      paged = paged;
      rows = rows;
      sizes = sizes;
      formed = formed;
      turns = λ p low. pages_turn_round head p (page_bytes head image p) (ap is_page_size (sizes p (omega arith)) ∙ paged.legal) (formed p low)
          (no_overlap_at image p no_overlap low);
      zeros = λ p past there. zero_above image p both.1 past there;
    }

-- The pages of the flipped image.

turn_size : (image : List ℕ) → CanFlip image → (p : ℕ) → p < (head_of image).pages → length (turn image p) ≡ (head_of image).page_size
turn_size image can p lt =
    elim (cases_lt (head_of image).last p) [
      | inl past ↦ ap length (zero_stays (head_of image).order (page_bytes (head_of image) image p) (can.zeros p past lt)) ∙ can.sizes p lt
      | inr low ↦ (can.turns p low).long ∙ can.sizes p lt
    ]

flipped_page : (image : List ℕ) → CanFlip image → (p : ℕ) → p < (head_of image).pages → page_bytes (head_of image) (flipped image) p ≡ turn image p
unfolding flipped
flipped_page image can p lt =
    let head : Head = head_of image in
    page_of_joined (turn image) head.page_size 0 head.pages p (λ q low high. turn_size image can q (omega arith)) lt
    ∙ ap (turn image) (let same : 0 + p ≡ p = omega arith in same)

length-flipped : (image : List ℕ) → CanFlip image → length (flipped image) ≡ length image
unfolding flipped
length-flipped image can =
    length_joined (turn image) (head_of image).page_size 0 (head_of image).pages (λ q low high. turn_size image can q (omega arith)) ∙ sym can.paged.whole

-- Page 0.

front : (image : List ℕ) → page_bytes (head_of image) image 0 ≡ take (head_of image).page_size image
front image = let none : 0 * (head_of image).page_size ≡ 0 = omega arith in ap (λ (k : ℕ). take (head_of image).page_size (drop k image)) none

-- a number of the file's head reads the same in the other order
head_number : (image : List ℕ) → CanFlip image → (order : Order) (at : ℕ) → at + 4 ≤ 512
    → four_at order (turn image 0) at ≡ four_at (head_of image).order (page_bytes (head_of image) image 0) at
    → four_at order (flipped image) at ≡ four_at (head_of image).order image at
head_number image can order at inside same =
    let head : Head = head_of image in
    let least : 512 ≤ head.page_size = can.paged.least in
    let some : 0 < head.pages = let last : head.last < head.pages = can.paged.last in omega arith in
    let none : 0 * head.page_size ≡ 0 = omega arith in
    let page : take head.page_size (flipped image) ≡ turn image 0 =
    ap (λ (k : ℕ). take head.page_size (drop k (flipped image))) (sym none) ∙ flipped_page image can 0 some in
    sym (number_in_front 4 order (flipped image) head.page_size at (omega arith))
    ∙ (ap (λ bytes. four_at order bytes at) page
    ∙ (same ∙ (ap (λ bytes. four_at head.order bytes at) (front image) ∙ number_in_front 4 head.order image head.page_size at (omega arith))))

head_byte : (image : List ℕ) → CanFlip image → (at : ℕ) → at < 512 → byte_at (turn image 0) at ≡ byte_at (page_bytes (head_of image) image 0) at
    → byte_at (flipped image) at ≡ byte_at image at
head_byte image can at inside same =
    let head : Head = head_of image in
    let least : 512 ≤ head.page_size = can.paged.least in
    let some : 0 < head.pages = let last : head.last < head.pages = can.paged.last in omega arith in
    let none : 0 * head.page_size ≡ 0 = omega arith in
    let page : take head.page_size (flipped image) ≡ turn image 0 =
    ap (λ (k : ℕ). take head.page_size (drop k (flipped image))) (sym none) ∙ flipped_page image can 0 some in
    sym (get_or-take head.page_size (flipped image) at 0 (omega arith))
    ∙ (ap (λ bytes. byte_at bytes at) page ∙ (same ∙ (ap (λ bytes. byte_at bytes at) (front image) ∙ get_or-take head.page_size image at 0 (omega arith))))

pub record HeadFlips (image : List ℕ) : Type 0 where
  pub order : order_of (flipped image) ≡ turned (order_of image)
  pub magic : magic_at (flipped image) ≡ magic_at image
  pub version : four_at (order_of (flipped image)) (flipped image) 16 ≡ four_at (order_of image) image 16
  pub size : four_at (order_of (flipped image)) (flipped image) 20 ≡ four_at (order_of image) image 20
  pub last : four_at (order_of (flipped image)) (flipped image) 32 ≡ four_at (order_of image) image 32
  pub partitions : four_at (order_of (flipped image)) (flipped image) 36 ≡ four_at (order_of image) image 36
  pub encryption : byte_at (flipped image) 24 ≡ byte_at image 24
  pub metaflags : byte_at (flipped image) 26 ≡ byte_at image 26

-- four bytes that are a magic number in one order are none in the other

one_of : (p q r s : Bool) (a b c d : Type 0) → (p ≡ true → a) → (q ≡ true → b) → (r ≡ true → c) → (s ≡ true → d) → (p || q || r || s) ≡ true → a ⊎ (b ⊎ (c ⊎ d))
one_of true q r s a b c d f g h i some = inl (f refl)
one_of false true r s a b c d f g h i some = inr (inl (g refl))
one_of false false true s a b c d f g h i some = inr (inr (inl (h refl)))
one_of false false false true a b c d f g h i some = inr (inr (inr (i refl)))
one_of false false false false a b c d f g h i some = absurd cc

magic_small : (n : ℕ) → is_magic n ≡ true → n < 16777216
magic_small n is =
    let cases = one_of (n == 0x053162) (n == 0x061561) (n == 0x042253) (n == 0x074582) (n < 16777216) (n < 16777216) (n < 16777216) (n < 16777216)
    (λ e. let v : n ≡ 0x053162 = eqb-true n 0x053162 e in omega arith)
    (λ e. let v : n ≡ 0x061561 = eqb-true n 0x061561 e in omega arith)
    (λ e. let v : n ≡ 0x042253 = eqb-true n 0x042253 e in omega arith)
    (λ e. let v : n ≡ 0x074582 = eqb-true n 0x074582 e in omega arith) is in
    elim cases [ inl a ↦ a | inr (inl a) ↦ a | inr (inr (inl a)) ↦ a | inr (inr (inr a)) ↦ a ]

no_magic : (m : ℕ) → is_magic (256 * m) ≡ false
no_magic m =
    rw (
      differs (256 * m) 0x053162 (λ e. omega arith),
      differs (256 * m) 0x061561 (λ e. omega arith),
      differs (256 * m) 0x042253 (λ e. omega arith),
      differs (256 * m) 0x074582 (λ e. omega arith),
    ) refl

one_order : (a b c d : ℕ) → is_magic (from_low_end (a ∷ b ∷ c ∷ d ∷ [])) ≡ true → is_magic (from_low_end (d ∷ c ∷ b ∷ a ∷ [])) ≡ false
one_order a b c d is =
    let small : a + 256 * (b + 256 * (c + 256 * (d + 0))) < 16777216 = magic_small (a + 256 * (b + 256 * (c + 256 * (d + 0)))) is in
    let high : d ≡ 0 = omega arith in
    let sum : d + 256 * (c + 256 * (b + 256 * (a + 0))) ≡ 256 * (c + 256 * (b + 256 * (a + 0))) = omega arith in
    ap is_magic sum ∙ no_magic (c + 256 * (b + 256 * (a + 0)))

-- bytes 12 to 15 in each order
four_bytes : (bytes : List ℕ) → length bytes ≡ 4 → is_magic (from_low_end bytes) ≡ true → is_magic (from_low_end (reverse bytes)) ≡ false
four_bytes [] long is = absurd (omega arith)
four_bytes (a ∷ []) long is = absurd (omega arith)
four_bytes (a ∷ b ∷ []) long is = absurd (omega arith)
four_bytes (a ∷ b ∷ c ∷ []) long is = absurd (omega arith)
four_bytes (a ∷ b ∷ c ∷ d ∷ []) long is = one_order a b c d is
four_bytes (a ∷ b ∷ c ∷ d ∷ e ∷ rest) long is = absurd (omega arith)

other_magic : (order : Order) (bytes : List ℕ) (at : ℕ) → at + 4 ≤ length bytes → is_magic (four_at (turned order) bytes at) ≡ true
    → is_magic (four_at order bytes at) ≡ false
unfolding number_at
other_magic Little bytes at inside is =
    let four : List ℕ = take 4 (drop at bytes) in
    let long : length (reverse four) ≡ 4 = length-reverse four ∙ length-take-le 4 (drop at bytes) (omega (arith, length-drop at bytes)) in
    let back : reverse (reverse four) ≡ four = reverse-reverse four in
    ap (λ bs. is_magic (from_low_end bs)) (sym back) ∙ four_bytes (reverse four) long is
other_magic Big bytes at inside is =
    let four : List ℕ = take 4 (drop at bytes) in
    let long : length four ≡ 4 = length-take-le 4 (drop at bytes) (omega (arith, length-drop at bytes)) in
    four_bytes four long is

-- so the flipped image has the other order
flipped_order : (order : Order) (image other : List ℕ) → order_of image ≡ order → is_magic (magic_at image) ≡ true → 16 ≤ length other
    → four_at (turned order) other 12 ≡ four_at order image 12 → order_of other ≡ turned order
flipped_order Little image other order magic long same =
    let here : four_at (turned Little) other 12 ≡ magic_at image = same ∙ ap (λ o. four_at o image 12) (sym order) in
    let none : is_magic (four_at Little other 12) ≡ false = other_magic Little other 12 (omega arith) (ap is_magic here ∙ magic) in
    rw none refl
flipped_order Big image other order magic long same =
    let here : four_at Little other 12 ≡ magic_at image = same ∙ ap (λ o. four_at o image 12) (sym order) in
    let is : is_magic (four_at Little other 12) ≡ true = ap is_magic here ∙ magic in
    rw is refl

magic_is : (image : List ℕ) → first_row (head_rows image) ≡ None → is_magic (magic_at image) ≡ true
unfolding head_rows
magic_is image none = let fail = none_is_first_row (head_rows image) none in not-false (is_magic (magic_at image)) fail.1.0

order_is : (image : List ℕ) → (head_of image).order ≡ order_of image
unfolding head_of
order_is image = refl

head_flips : (image : List ℕ) → CanFlip image → HeadFlips image
head_flips image can =
    let head : Head = head_of image in
    let order : Order = order_of image in
    let is : head.order ≡ order = order_is image in
    let least : 512 ≤ head.page_size = can.paged.least in
    let last : head.last < head.pages = can.paged.last in
    let size : length (page_bytes head image 0) ≡ head.page_size = can.sizes 0 (omega arith) in
    let common : CommonSame head.order (page_bytes head image 0) (turn image 0) =
    first_page_common head (page_bytes head image 0) (ap is_page_size size ∙ can.paged.legal) (can.formed 0 (omega arith)) in
    let number : (at : ℕ) → at + 4 ≤ 512 → four_at (turned head.order) (turn image 0) at ≡ four_at head.order (page_bytes head image 0) at
    → four_at (turned order) (flipped image) at ≡ four_at order image at =
    λ at inside same. ap (λ o. four_at (turned o) (flipped image) at) (sym is)
    ∙ (head_number image can (turned head.order) at inside same ∙ ap (λ o. four_at o image at) is) in
    let long : length (flipped image) ≡ length image = length-flipped image can in
    let enough : 512 ≤ length image = let rows = can.rows in long_image image can in
    let there : order_of (flipped image) ≡ turned order =
    flipped_order order image (flipped image) refl (magic_is image can.rows) (omega arith) (number 12 (omega arith) common.magic) in
    let at : (k : ℕ) → four_at (turned order) (flipped image) k ≡ four_at order image k → four_at (order_of (flipped image)) (flipped image) k
    ≡ four_at order image k =
    λ k same. ap (λ o. four_at o (flipped image) k) there ∙ same in
    record {
      order = there;
      magic = at 12 (number 12 (omega arith) common.magic);
      version = at 16 (number 16 (omega arith) common.version);
      size = at 20 (number 20 (omega arith) common.size);
      last = at 32 (number 32 (omega arith) common.last);
      partitions = at 36 (number 36 (omega arith) common.partitions);
      encryption = head_byte image can 24 (omega arith) common.encryption;
      metaflags = head_byte image can 26 (omega arith) common.metaflags;
    }
  where
    long_image : (image : List ℕ) → CanFlip image → 512 ≤ length image
    long_image image can =
        let whole : length image ≡ (head_of image).pages * (head_of image).page_size = can.paged.whole in
        let last : (head_of image).last < (head_of image).pages = can.paged.last in
        let least : 512 ≤ (head_of image).page_size = can.paged.least in
        let some : 1 ≤ (head_of image).pages = omega arith in
        let one : 1 * (head_of image).page_size ≤ (head_of image).pages * (head_of image).page_size = mul-le-mul_right (head_of image).page_size some in
        omega arith

-- What the head says.

same_head : (order : Order) (size last pages : ℕ) (kind : FileKind) (b : Head) → order ≡ b.order → size ≡ b.page_size → kind ≡ b.kind → last ≡ b.last
    → pages ≡ b.pages
    → record { order = order; page_size = size; kind = kind; last = last; pages = pages } ≡ b
same_head order size last pages kind b one two three four five = rw (one, two, three, four, five)

pages_same : (image : List ℕ) → CanFlip image → pages_of (flipped image) ≡ pages_of image
pages_same image can =
    let flips : HeadFlips image = head_flips image can in
    ap (λ (n : ℕ). n / four_at (order_of (flipped image)) (flipped image) 20) (length-flipped image can) ∙ ap (λ (s : ℕ). length image / s) flips.size

last_same : (image : List ℕ) → CanFlip image → (kind : FileKind) → last_page kind (flipped image) ≡ last_page kind image
last_same image can kind =
    let flips : HeadFlips image = head_flips image can in
    ap (λ (n : ℕ). cond (is_queue kind) (n - 1) (four_at (order_of (flipped image)) (flipped image) 32)) (pages_same image can)
    ∙ ap (λ (n : ℕ). cond (is_queue kind) (pages_of image - 1) n) flips.last

head_turned : (image : List ℕ) → CanFlip image → head_of (flipped image) ≡ turned_head (head_of image)
unfolding head_of
head_turned image can =
    let flips : HeadFlips image = head_flips image can in
    same_head (order_of (flipped image)) (four_at (order_of (flipped image)) (flipped image) 20)
    (last_page (file_kind (magic_at (flipped image))) (flipped image))
    (pages_of (flipped image)) (file_kind (magic_at (flipped image))) (turned_head (head_of image))
    flips.order flips.size (ap file_kind flips.magic)
    (ap (λ (m : ℕ). last_page (file_kind m) (flipped image)) flips.magic ∙ last_same image can (file_kind (magic_at image))) (pages_same image can)

-- the rows of the file, by what they look at
abbrev head_rows_by : ℕ → ℕ → ℕ → ℕ → ℕ → ℕ → ℕ → Bool → List (Row ℕ)
head_rows_by long magic version size encryption metaflags partitions past =
    1 :? nat_lt long 512
    ∷ 2 :? not (is_magic magic)
    ∷ 3 :? (magic == heap_magic)
    ∷ 4 :? not (version == version_of (file_kind magic))
    ∷ 5 :? not (is_page_size size || size == 65536)
    ∷ 6 :? (size == 65536)
    ∷ 7 :? not (encryption == 0)
    ∷ 8 :? has_bit metaflags 0x01
    ∷ 9 :? (has_bit metaflags 0x06 || not (partitions == 0))
    ∷ 10 :? not (long % size == 0)
    ∷ 11 :? past
    ∷ []

rows_by : (image : List ℕ) → head_rows image
    ≡ head_rows_by (length image) (magic_at image) (four_at (order_of image) image 16) (four_at (order_of image) image 20) (byte_at image 24) (byte_at image 26)
    (four_at (order_of image) image 36) (is_past (file_kind (magic_at image)) image)
unfolding head_rows
rows_by image = refl

by_parts : (l l' m m' v v' s s' e e' f f' q q' : ℕ) (p p' : Bool) → l ≡ l' → m ≡ m' → v ≡ v' → s ≡ s' → e ≡ e' → f ≡ f' → q ≡ q' → p ≡ p'
    → first_row (head_rows_by l m v s e f q p) ≡ first_row (head_rows_by l' m' v' s' e' f' q' p')
by_parts l l' m m' v v' s s' e e' f f' q q' p p' a b c d g h i j =
    ap (λ x. first_row (head_rows_by x m v s e f q p)) a ∙ (ap (λ x. first_row (head_rows_by l' x v s e f q p)) b
    ∙ (ap (λ x. first_row (head_rows_by l' m' x s e f q p)) c
    ∙ (ap (λ x. first_row (head_rows_by l' m' v' x e f q p)) d ∙ (ap (λ x. first_row (head_rows_by l' m' v' s' x f q p)) g
    ∙ (ap (λ x. first_row (head_rows_by l' m' v' s' e' x q p)) h
    ∙ (ap (λ x. first_row (head_rows_by l' m' v' s' e' f' x p)) i ∙ ap (λ x. first_row (head_rows_by l' m' v' s' e' f' q' x)) j))))))

past_same : (image : List ℕ) → CanFlip image → is_past (file_kind (magic_at (flipped image))) (flipped image) ≡ is_past (file_kind (magic_at image)) image
past_same image can =
    let flips : HeadFlips image = head_flips image can in
    let kind : FileKind = file_kind (magic_at image) in
    ap (λ (m : ℕ). is_past (file_kind m) (flipped image)) flips.magic
    ∙ (ap (λ (n : ℕ). not (is_queue kind) && nat_le n (last_page kind (flipped image))) (pages_same image can)
    ∙ ap (λ (n : ℕ). not (is_queue kind) && nat_le (pages_of image) n) (last_same image can kind))

rows_none : (image : List ℕ) → CanFlip image → first_row (head_rows (flipped image)) ≡ None
rows_none image can =
    let flips : HeadFlips image = head_flips image can in
    ap first_row (rows_by (flipped image))
    ∙ (by_parts (length (flipped image)) (length image) (magic_at (flipped image)) (magic_at image)
    (four_at (order_of (flipped image)) (flipped image) 16) (four_at (order_of image) image 16) (four_at (order_of (flipped image)) (flipped image) 20)
    (four_at (order_of image) image 20)
    (byte_at (flipped image) 24) (byte_at image 24) (byte_at (flipped image) 26) (byte_at image 26)
    (four_at (order_of (flipped image)) (flipped image) 36) (four_at (order_of image) image 36)
    (is_past (file_kind (magic_at (flipped image))) (flipped image)) (is_past (file_kind (magic_at image)) image)
    (length-flipped image can) flips.magic flips.version flips.size flips.encryption flips.metaflags flips.partitions (past_same image can)
    ∙ (sym (ap first_row (rows_by image)) ∙ can.rows))

-- The file.

page_there : (image : List ℕ) → CanFlip image → (p : ℕ) → p < (head_of image).pages → page_bytes (head_of (flipped image)) (flipped image) p ≡ turn image p
page_there image can p lt = ap (λ h. page_bytes h (flipped image) p) (head_turned image can) ∙ flipped_page image can p lt

file_same : (image : List ℕ) → CanFlip image → file_of (flipped image) ≡ file_of image
unfolding file_of
file_same image can =
    let head : Head = head_of image in
    let last : head.last < head.pages = can.paged.last in
    let read : Head → ℕ → Page = λ h p. abstract_page h.order (page_bytes h (flipped image) p) in
    let pages : map (read (turned_head head)) (range_with_len 0 (head.last + 1)) ≡ map (λ p. abstract_page head.order (page_bytes head image p))
    (range_with_len 0 (head.last + 1)) =
    map_same (read (turned_head head)) (λ p. abstract_page head.order (page_bytes head image p)) (range_with_len 0 (head.last + 1))
    (λ p at.
    let range : (0 ≤ p) × (p < 0 + (head.last + 1)) = of_range 0 (head.last + 1) p at in
    ap (abstract_page (turned head.order)) (flipped_page image can p (omega arith)) ∙ (can.turns p (omega arith)).reads) in
    let whole : File → File = λ f. f in
    ap (λ (h : Head). let f : File = record {
      kind = h.kind;
      size = h.page_size;
      count = h.pages;
      last = h.last;
      pages = map (read h)
          (range_with_len 0 (h.last + 1));
    } in f) (head_turned image can)
    ∙ ap (λ ps. let f : File = record { kind = head.kind; size = head.page_size; count = head.pages; last = head.last; pages = ps } in f) pages

-- It is sound.

first_none : (image : List ℕ) → CanFlip image → head_faults (flipped image) ≡ []
unfolding head_faults
first_none image can = ap (λ code. by_page 1 0 1 (λ p. option_to_list code)) (rows_none image can)

tail_zero : (image : List ℕ) → CanFlip image → (p : ℕ) → (head_of image).last < p → p < (head_of image).pages
    → is_zero (page_bytes (head_of (flipped image)) (flipped image) p) ≡ true
tail_zero image can p past there =
    let zeros : is_zero (page_bytes (head_of image) image p) ≡ true = can.zeros p past there in
    ap is_zero (page_there image can p there ∙ zero_stays (head_of image).order (page_bytes (head_of image) image p) zeros) ∙ zeros

tail_of : (image : List ℕ) → CanFlip image → tail_faults (flipped image) ≡ []
unfolding tail_faults
tail_of image can =
    let there : Head = head_of (flipped image) in
    let head : Head = head_of image in
    let same : there ≡ turned_head head = head_turned image can in
    let last : there.last ≡ head.last = ap (λ (h : Head). h.last) same in
    let pages : there.pages ≡ head.pages = ap (λ (h : Head). h.pages) same in
    no_faults 1 (there.last + 1) (there.pages - (there.last + 1)) (λ p. holding (tail_rows there (flipped image) p))
    (λ p low high. let zeros : is_zero (page_bytes there (flipped image) p) ≡ true = tail_zero image can p (omega arith) (omega arith) in rw zeros refl)

form_of : (image : List ℕ) → CanFlip image → form_faults (flipped image) ≡ []
unfolding form_faults
form_of image can =
    let there : Head = head_of (flipped image) in
    let head : Head = head_of image in
    let same : there ≡ turned_head head = head_turned image can in
    let last : there.last ≡ head.last = ap (λ (h : Head). h.last) same in
    let inside : head.last < head.pages = can.paged.last in
    no_faults 2 0 (there.last + 1) (λ p. option_to_list (form_code there p (page_bytes there (flipped image) p)))
    (λ p low high.
    let code : form_code there p (page_bytes there (flipped image) p) ≡ None =
    ap (λ h. form_code h p (page_bytes there (flipped image) p)) same
    ∙ (ap (form_code (turned_head head) p) (page_there image can p (omega arith)) ∙ (can.turns p (omega arith)).formed) in
    ap option_to_list code)

-- each stage from the third on looks at the file alone
later : (image : List ℕ) → CanFlip image → (faults : File → List Fault) → faults (file_of image) ≡ [] → faults (file_of (flipped image)) ≡ []
later image can faults none = ap faults (file_same image can) ∙ none

sound_of : (image : List ℕ) → CanFlip image → faults_of image ≡ [] → faults_of (flipped image) ≡ []
unfolding faults_of faults_in
sound_of image can none =
    let stage : (s : ℕ) → 1 ≤ s → s < 9 → stage_faults image s ≡ [] = λ s low high. none_within 1 8 image s none low (omega arith) in
    let i : List ℕ = flipped image in
    let s1 : stage_faults i 1 ≡ [] = or_none (head_faults i) (tail_faults i) (first_none image can) (tail_of image can) in
    let s2 : stage_faults i 2 ≡ [] = form_of image can in
    let s3 : stage_faults i 3 ≡ [] = later image can reference_faults (stage 3 (omega arith) (omega arith)) in
    let s4 : stage_faults i 4 ≡ [] = later image can ownership_faults (stage 4 (omega arith) (omega arith)) in
    let s5 : stage_faults i 5 ≡ [] = later image can reach_faults (stage 5 (omega arith) (omega arith)) in
    let s6 : stage_faults i 6 ≡ [] = later image can structure_faults (stage 6 (omega arith) (omega arith)) in
    let s7 : stage_faults i 7 ≡ [] = later image can master_faults (stage 7 (omega arith) (omega arith)) in
    let s8 : stage_faults i 8 ≡ [] = later image can contents_faults (stage 8 (omega arith) (omega arith)) in
    or_none (stage_faults i 1) (faults_in (range_with_len 2 7) i) s1
    (or_none (stage_faults i 2) (faults_in (range_with_len 3 6) i) s2
    (or_none (stage_faults i 3) (faults_in (range_with_len 4 5) i) s3
    (or_none (stage_faults i 4) (faults_in (range_with_len 5 4) i) s4
    (or_none (stage_faults i 5) (faults_in (range_with_len 6 3) i) s5
    (or_none (stage_faults i 6) (faults_in (range_with_len 7 2) i) s6
    (or_none (stage_faults i 7) (faults_in (range_with_len 8 1) i) s7 (or_none (stage_faults i 8) [] s8 refl)))))))

-- It flips back.

back_at : (image : List ℕ) → CanFlip image → (p : ℕ) → p < (head_of image).pages → turned_page (turned (head_of image).order) (turn image p)
    ≡ page_bytes (head_of image) image p
back_at image can p lt =
    let head : Head = head_of image in
    elim (cases_lt head.last p) [
      | inl past ↦
          let zeros : is_zero (page_bytes head image p) ≡ true = can.zeros p past lt in
          ap (turned_page (turned head.order)) (zero_stays head.order (page_bytes head image p) zeros)
          ∙ zero_stays (turned head.order) (page_bytes head image p) zeros
      | inr low ↦ (can.turns p low).back
    ]

flips_back : (image : List ℕ) → CanFlip image → flipped (flipped image) ≡ image
unfolding flipped
flips_back image can =
    let head : Head = head_of image in
    let i : List ℕ = flipped image in
    let same : head_of i ≡ turned_head head = head_turned image can in
    ap (λ (h : Head). flat_map (λ p. turned_page h.order (page_bytes h i p)) (range_with_len 0 h.pages)) same
    ∙ (flat_map_same (λ p. turned_page (turned head.order) (page_bytes head i p)) (page_bytes head image) (range_with_len 0 head.pages)
    (λ p at.
    let range : (0 ≤ p) × (p < 0 + head.pages) = of_range 0 head.pages p at in
    ap (turned_page (turned head.order)) (flipped_page image can p (omega arith)) ∙ back_at image can p (omega arith))
    ∙ joins_back image head.page_size head.pages can.paged.whole)

-- An image with all its pages byte-swapped is the same file, and turns back to the first bytes.
pub record TurnsWhole (image : List ℕ) : Type 0 where
  pub head : head_of (flipped image) ≡ turned_head (head_of image)
  pub file : file_of (flipped image) ≡ file_of image
  pub long : length (flipped image) ≡ length image
  pub sound : faults_of (flipped image) ≡ []
  pub back : flipped (flipped image) ≡ image

pub image_turns : (image : List ℕ) → length image ≤ 2 ^ 30 → faults_of image ≡ [] → first_overlap (file_of image) ≡ None → TurnsWhole image
image_turns image small none no_overlap =
    let can : CanFlip image = can_flip image small none no_overlap in
    record {
      head = head_turned image can;
      file = file_same image can;
      long = length-flipped image can;
      sound = sound_of image can none;
      back = flips_back image can;
    }
