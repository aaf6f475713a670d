-- How many pairs a page of an image gives at most, and how many all pages give.
use Rattle.std.proofs.Common.{◌≡◌, ℕ, zero, suc, ◌+◌, ◌-◌, ◌*◌, ◌/◌, ◌^◌, ◌≤◌, ◌<◌, Bool, true, false, cond, List, [], ◌∷◌, length, map, take, drop, arith}
use Rattle.std.proofs.Common.{refl, sym, ◌∙◌, ap, subst, inl, inr, length-append, length-drop, length-take, Option, Some, None}
use Rattle.std.proofs.lemmas.List.{length-map}
use Rattle.std.specs.Prelude.{nat_lt, ◌==◌, ◌&&◌, ◌||◌, not, slice_range}
use Rattle.std.specs.List.{filter, flat_map, range_with_len}
use Rattle.std.specs.Option.{option_map, unwrap_or}
use Rattle.std.proofs.Math.Nat.{div-mul-le_self, mul-le-mul_right}
use Rattle.std.proofs.lemmas.Bool.{cases_lt}
use Rattle.std.proofs.lemmas.List.FromFn.{length-range_with_len}
use Rattle.bdb_apart.specs.of_format.declared.kinds.Order.{Order}
use Rattle.bdb_apart.specs.of_format.declared.pages.PageType.{PageType}
use Rattle.bdb_apart.specs.of_format.declared.pages.PageType.TheVariants.{DupLeaf as DupLeafPage, Hash as HashPage, Leaf as LeafPage}
use Rattle.bdb_apart.specs.of_format.declared.pages.PageType.TheVariants.{RecnoLeaf as RecnoLeafPage}
use Rattle.bdb_apart.specs.of_format.Reading.{blocks_in}
use Rattle.bdb_apart.specs.of_format.Terms.{Chain, Content, File, Hash, Inline, Item, Leaf, Page, Set, Tree, Unknown, Zero, abstract_page, blocks_of, byte_at}
use Rattle.bdb_apart.specs.of_format.Terms.{chain}
use Rattle.bdb_apart.specs.of_format.Terms.{entries_of, four_at, hash_end, hash_item_at, is_page_size, is_zero, kind_at, leaf_item_at, listed, offset_of}
use Rattle.bdb_apart.specs.of_format.Terms.{page_as, page_at}
use Rattle.bdb_apart.specs.of_format.Terms.{page_code, page_type, two_at, value_of}
use Rattle.bdb_apart.specs.of_survey.Items.{is_valued, slot_at, slots_in}
use Rattle.bdb_apart.specs.of_survey.Salvage.{down, is_like, is_row, is_taken, is_whole, live_whole, meta_code, paired_items, row_from, salvaged_file}
use Rattle.bdb_apart.specs.of_survey.Salvage.{salvaged_page, set_start}
use Rattle.bdb_apart.specs.of_survey.Salvage.{stored_on, unless_code}
use Rattle.bdb_apart.specs.of_rescue.Kept.{Reading, data_at, data_here, data_places, file_in, given, given_live, item_of, kept_on, kept_pair, under, untaken_on}
use Rattle.bdb_apart.specs.of_rescue.Kept.{value_at, values_on}
use Rattle.bdb_apart.specs.of_rescue.declared.kept.KeptValue.{KeptValue}
use Rattle.bdb_apart.specs.of_rescue.declared.kept.DataPlace.{DataPlace}
use Rattle.bdb_apart.specs.of_rescue.declared.kept.DataPlace.TheVariants.{Here, Set as OnLeaves}
use Rattle.bdb_apart.specs.of_rescue.declared.kept.KeptPair.{KeptPair}
use Rattle.bdb_apart.specs.Found.{found, is_master_leaf}
use Rattle.bdb_apart.specs.Given.{above, are_given, names_found, pairs_left_on}
use Rattle.bdb_apart.specs.Kept.{row_in}
use Rattle.bdb_apart.specs.Rows.{is_below}
use Rattle.bdb_apart.proofs.of_format.ChainLemmas.{chain_few}
use Rattle.bdb_apart.proofs.of_format.SizeLemmas.{size_bounds}
use Rattle.bdb_apart.proofs.of_rescue.LooseCountLemmas.{joined_short, live_short, slots_short}
use Rattle.bdb_apart.proofs.of_rescue.LooseLemmas.{leaf_values}
use Rattle.bdb_apart.proofs.of_rescue.StoredLemmas.{stored_on_is}
use Rattle.bdb_apart.proofs.of_survey.StoredPageLemmas.{count_is, page_is, page_past}
use Rattle.bdb_damage.specs.Tallies.{set_size}
use Rattle.bdb_apart.proofs.of_format.MemberLemmas.{few_pass}

-- Sets on a page.

-- a run has at most as many blocks as bytes
blocks_short : (turns : ℕ) (order : Order) (bytes : List ℕ) (blocks : List (List ℕ)) → blocks_in turns order bytes ≡ Some blocks
    → length blocks ≤ length bytes
blocks_short turns order [] blocks is = let same : [] ≡ blocks = cc in subst (λ (bs : List (List ℕ)). length bs ≤ 0) same (omega arith)
blocks_short zero order (b ∷ bs) blocks is = absurd cc
blocks_short (suc turns) order (b ∷ bs) blocks is =
    by_test (nat_lt (length bytes) (n + 4) || not (two_at order bytes (n + 2) == n)) (blocks_in turns order (drop (n + 4) bytes)) is
    (λ later are. blocks_short turns order (drop (n + 4) bytes) later are)
  where
    bytes : List ℕ
    bytes = b ∷ bs

    n : ℕ
    n = two_at order bytes 0

    by_test : (wrong : Bool) (rest : Option (List (List ℕ))) → cond wrong None (option_map (λ later. take n (drop 2 bytes) ∷ later) rest) ≡ Some blocks
        → ((later : List (List ℕ)) → rest ≡ Some later → length later ≤ length (drop (n + 4) bytes))
        → length blocks ≤ length bytes
    by_test true rest is each = absurd cc
    by_test false None is each = absurd cc
    by_test false (Some later) is each =
        let same : take n (drop 2 bytes) ∷ later ≡ blocks = cc in
        subst (λ (bs : List (List ℕ)). length bs ≤ length bytes) same (omega (arith, each later refl, length-drop (n + 4) bytes))

run_short : (order : Order) (bytes : List ℕ) → length (unwrap_or (blocks_of order bytes) []) ≤ length bytes
unfolding blocks_of
run_short order bytes = by_run (blocks_in (length bytes) order bytes) (blocks_short (length bytes) order bytes)
  where
    by_run : (run : Option (List (List ℕ))) → ((blocks : List (List ℕ)) → run ≡ Some blocks → length blocks ≤ length bytes)
        → length (unwrap_or run []) ≤ length bytes
    by_run None short = omega arith
    by_run (Some blocks) short = short blocks refl

by_kind : (n : ℕ) (bytes : List ℕ) (blocks : List (List ℕ)) (head total root : ℕ) (a b c d : Bool) → length blocks ≤ n
    → set_size (cond a (Inline bytes) (cond b (Set blocks) (cond c (Chain head total) (cond d (Tree root) Unknown)))) ≤ n
by_kind n bytes blocks head total root true b c d short = omega arith
by_kind n bytes blocks head total root false true c d short = short
by_kind n bytes blocks head total root false false true d short = omega arith
by_kind n bytes blocks head total root false false false true short = omega arith
by_kind n bytes blocks head total root false false false false short = omega arith

hash_short : (order : Order) (page : List ℕ) (i : ℕ) → set_size (hash_item_at order page i).content ≤ length page
unfolding hash_item_at
hash_short order page i =
    let at : ℕ = offset_of order page i in
    let piece : List ℕ = slice_range page (at + 1) (hash_end order page i) in
    let kind : ℕ = byte_at page at in
    by_kind (length page) piece (unwrap_or (blocks_of order piece) []) (four_at order page (at + 4)) (four_at order page (at + 8)) (four_at order page (at + 4))
    (kind == 1) (kind == 2) (kind == 3) (kind == 4)
    (omega (arith, run_short order piece, length-take (hash_end order page i - (at + 1)) (drop (at + 1) page), length-drop (at + 1) page))

leaf_short : (order : Order) (page : List ℕ) (i : ℕ) → set_size (leaf_item_at order page i).content ≤ length page
unfolding leaf_item_at
leaf_short order page i =
    let at : ℕ = offset_of order page i in
    let kind : ℕ = kind_at page at in
    by_leaf (length page) (slice_range page (at + 3) (at + 3 + two_at order page at)) (four_at order page (at + 4)) (four_at order page (at + 4))
    (four_at order page (at + 8)) (kind == 1) (kind == 2) (kind == 3)
  where
    by_leaf : (n : ℕ) (bytes : List ℕ) (root head total : ℕ) (a b c : Bool)
        → set_size (cond a (Inline bytes) (cond b (Tree root) (cond c (Chain head total) Unknown))) ≤ n
    by_leaf n bytes root head total true b c = omega arith
    by_leaf n bytes root head total false true c = omega arith
    by_leaf n bytes root head total false false true = omega arith
    by_leaf n bytes root head total false false false = omega arith

mapped_short : (n : ℕ) (item_at : ℕ → Item) (indices : List ℕ) (i : ℕ) → ((j : ℕ) → set_size (item_at j).content ≤ n)
    → set_size (slot_at (map item_at indices) i).content ≤ n
mapped_short n item_at [] i each = omega arith
mapped_short n item_at (j ∷ indices) zero each = each j
mapped_short n item_at (j ∷ indices) (suc i) each = mapped_short n item_at indices i each

listed_short : (order : Order) (page : List ℕ) (item_at : ℕ → Item) (i : ℕ) → ((j : ℕ) → set_size (item_at j).content ≤ length page)
    → set_size (slot_at (listed order page item_at).items i).content ≤ length page
unfolding listed
listed_short order page item_at i each = mapped_short (length page) item_at (range_with_len 0 (entries_of order page)) i each

typed_short : (order : Order) (page : List ℕ) (i : ℕ) (t : PageType) → set_size (slot_at (slots_in (page_as order page t)) i).content ≤ length page
typed_short order page i LeafPage = listed_short order page (leaf_item_at order page) i (leaf_short order page)
typed_short order page i HashPage = listed_short order page (hash_item_at order page) i (hash_short order page)
typed_short order page i RecnoLeafPage = listed_short order page (leaf_item_at order page) i (leaf_short order page)
typed_short order page i DupLeafPage = listed_short order page (leaf_item_at order page) i (leaf_short order page)
typed_short order page i t = omega arith

page_short : (order : Order) (last : ℕ) (page : List ℕ) (i : ℕ) → set_size (slot_at (slots_in (salvaged_page order last page)) i).content ≤ length page
unfolding salvaged_page abstract_page
page_short order last page i =
    by_codes (page_code order (four_at order page 8) page) (meta_code order last page (page_type (byte_at page 25))) (is_zero page)
  where
    t : PageType
    t = page_type (byte_at page 25)

    by_codes : (code meta : Option ℕ) (empty : Bool)
        → set_size (slot_at (slots_in (unless_code code (unless_code meta (elim empty [ true ↦ Zero | false ↦ page_as order page t ])))) i).content
        ≤ length page
    by_codes (Some code) meta empty = omega arith
    by_codes None (Some code) empty = omega arith
    by_codes None None true = omega arith
    by_codes None None false = typed_short order page i t

set_short : (order : Order) (size : ℕ) (image : List ℕ) (p i : ℕ)
    → set_size (slot_at (slots_in (page_at (salvaged_file order size image) p)) i).content ≤ size
set_short order size image p i =
    elim (cases_lt p (length image / size)) [
      | inl there ↦
          subst (λ page. set_size (slot_at (slots_in page) i).content ≤ size) (sym (page_is order size image p there))
          (omega (arith, page_short order (length image / size - 1) (take size (drop (p * size) image)) i, length-take size (drop (p * size) image)))
      | inr past ↦ subst (λ page. set_size (slot_at (slots_in page) i).content ≤ size) (sym (page_past order size image p past)) (omega arith)
    ]

-- What a kept pair gives.

-- lists that are at most so long, joined
pub flat_short : {A B : Type 0} (f : A → List B) (k : ℕ) (xs : List A) → ((x : A) → length (f x) ≤ k) → length (flat_map f xs) ≤ length xs * k
flat_short f k [] short = omega arith
flat_short f k (x ∷ xs) short = omega (arith, length-append (f x) (flat_map f xs), short x, flat_short f k xs short)

-- the data of a set that begins at a page
leaves_short : (order : Order) (size : ℕ) (image : List ℕ) (leaf : ℕ)
    → 2 * length (flat_map (live_whole (salvaged_file order size image)) (chain (salvaged_file order size image) leaf)) ≤ length image
leaves_short order size image leaf =
    let file : File = salvaged_file order size image in
    let few : length (chain file leaf) ≤ length image / size =
    subst (λ n. length (chain file leaf) ≤ n) (count_is order size image) (chain_few file.count file leaf) in
    omega (
      arith,
      joined_short (live_whole file) size (chain file leaf) (live_short order size image),
      mul-le-mul_right size few,
      div-mul-le_self (length image) size,
    )

here_short : (file : File) (content : Content) → length (data_here file content) ≤ 1 + set_size content
here_short file (Inline bytes) = omega arith
here_short file (Set blocks) = omega arith
here_short file (Chain head total) = omega arith
here_short file (Tree root) = omega arith
here_short file Unknown = omega arith

abbrev pub IsLegal : Reading → Type 0
IsLegal reading = is_page_size reading.guess.page_size ≡ true

abbrev pub IsSmall : Reading → Type 0
IsSmall reading = length reading.image ≤ 2 ^ 30

-- a set on a page is short
pub set_few : (reading : Reading) (p i : ℕ) → IsLegal reading → set_size (slot_at (slots_in (page_at (file_in reading) p)) i).content < 2 ^ 32
set_few reading p i legal =
    omega (
      arith,
      set_short reading.guess.order reading.guess.page_size reading.image p i,
      (size_bounds reading.guess.page_size legal).1,
    )

data_short : (reading : Reading) (p i : ℕ) (place : DataPlace) → IsLegal reading → IsSmall reading
    → length (data_at (file_in reading) (item_of (file_in reading) p i).content place) ≤ 536870912
data_short reading p i Here legal small =
    omega (
      arith,
      here_short (file_in reading) (item_of (file_in reading) p i).content,
      set_short reading.guess.order reading.guess.page_size reading.image p i,
      (size_bounds reading.guess.page_size legal).1,
    )
data_short reading p i (OnLeaves leaf) legal small =
    omega (arith, leaves_short reading.guess.order reading.guess.page_size reading.image leaf, small)

given_short : (reading : Reading) (kept : KeptPair) → IsLegal reading → IsSmall reading → length (given_live (file_in reading) kept) ≤ 536870912
unfolding given
given_short reading kept legal small =
    by_live kept.live (data_short reading kept.page (2 * kept.index + 1) kept.place legal small)
  where
    file : File
    file = file_in reading

    key : List ℕ
    key = value_of file (item_of file kept.page (2 * kept.index)).content

    values : List (List ℕ)
    values = data_at file (item_of file kept.page (2 * kept.index + 1)).content kept.place

    by_live : (live : Bool) → length values ≤ 536870912 → length (cond live (under key values) []) ≤ 536870912
    by_live true short = omega (arith, length-map {B = List ℕ × List ℕ} values (λ value. (key, value)), short)
    by_live false short = omega arith

-- The pairs of a page.

start_short : (file : File) (leaf : Option ℕ) → length (row_from file leaf) ≤ 1
start_short file None = omega arith
start_short file (Some leaf) = by_row (is_row file (is_like (page_at file leaf)) leaf)
  where
    by_row : (whole : Bool) → length (cond whole (leaf ∷ []) []) ≤ 1
    by_row true = omega arith
    by_row false = omega arith

pub places_short : (file : File) (content : Content) → length (data_places file content) ≤ 1
unfolding set_start
places_short file (Inline bytes) = omega arith
places_short file (Set blocks) = omega arith
places_short file (Chain head total) = by_whole (is_whole file head total)
  where
    by_whole : (whole : Bool) → length (cond whole (Here ∷ []) []) ≤ 1
    by_whole true = omega arith
    by_whole false = omega arith
places_short file (Tree root) = omega (arith, length-map (set_start file root) OnLeaves, start_short file (down file root))
places_short file Unknown = omega arith

kept_short : (file : File) (p : ℕ) (items : List Item) (i : ℕ) → length (kept_pair file p items i) ≤ 1
kept_short file p items i =
    by_key (is_valued file (slot_at items (2 * i)).content)
    (λ place. record { page = p; index = i; live = not (slot_at items (2 * i + 1)).deleted; place = place })
    (data_places file (slot_at items (2 * i + 1)).content) (places_short file (slot_at items (2 * i + 1)).content)
  where
    by_key : (valued : Bool) (at : DataPlace → KeptPair) (places : List DataPlace) → length places ≤ 1 → length (cond valued (map at places) []) ≤ 1
    by_key true at places short = omega (arith, length-map places at, short)
    by_key false at places short = omega arith

paired_are : (page : Page) → length (paired_items page) ≤ length (slots_in page)
paired_are (Leaf page) = omega arith
paired_are (Hash page) = omega arith
paired_are page = omega arith

pub kept_few : (reading : Reading) (p : ℕ) → IsLegal reading → length (kept_on (file_in reading) p) ≤ 8192
kept_few reading p legal =
    let file : File = file_in reading in
    let items : List Item = paired_items (page_at file p) in
    omega (
      arith,
      flat_short (kept_pair file p items) 1 (range_with_len 0 (length items / 2)) (kept_short file p items),
      length-range_with_len 0 (length items / 2),
      paired_are (page_at file p),
      slots_short reading.guess.order reading.guess.page_size reading.image p,
      (size_bounds reading.guess.page_size legal).1,
    )

-- so many pairs a page has at most
pub stored_few : (reading : Reading) (p : ℕ) → IsLegal reading → IsSmall reading → length (stored_on (file_in reading) p) ≤ 4398046511104
stored_few reading p legal small =
    omega (
      arith,
      flat_short (given_live (file_in reading)) 536870912 (kept_on (file_in reading) p) (λ kept. given_short reading kept legal small),
      kept_few reading p legal,
      ap (λ pairs. length pairs) (stored_on_is (file_in reading) p),
    )

-- All pages.

-- the pages of a row are pages of the image
pub row_few : (reading : Reading) (m : ℕ) → length (row_in reading m) ≤ (file_in reading).count
row_few reading m =
    let all : List (Option ℕ) = map (above (file_in reading)) (range_with_len 0 (file_in reading).count) in
    omega (
      arith,
      few_pass (is_below all m) (range_with_len 0 (length all - 0)),
      length-range_with_len 0 (length all - 0),
      length-map (range_with_len 0 (file_in reading).count) (above (file_in reading)),
      length-range_with_len 0 (file_in reading).count,
    )

left_short : (reading : Reading) (p : ℕ) → IsLegal reading → IsSmall reading
    → length (pairs_left_on (file_in reading) (found reading) p) ≤ 4398046511104
left_short reading p legal small =
    by_given (are_given (file_in reading) (found reading) p) (λ pair. not (is_master_leaf (file_in reading) p && names_found (found reading) pair))
    (stored_few reading p legal small)
  where
    by_given : (b : Bool) (test : (List ℕ × List ℕ) → Bool) → length (stored_on (file_in reading) p) ≤ 4398046511104
        → length (cond b [] (filter test (stored_on (file_in reading) p))) ≤ 4398046511104
    by_given true test few = omega arith
    by_given false test few = omega (arith, few_pass test (stored_on (file_in reading) p), few)

-- so many pairs are left at most
pub left_few : (reading : Reading) (n : ℕ) → IsLegal reading → IsSmall reading → n ≤ 2 ^ 21
    → length (flat_map (pairs_left_on (file_in reading) (found reading)) (range_with_len 0 n)) < 2 ^ 64
left_few reading n legal small few =
    omega (
      arith,
      flat_short (pairs_left_on (file_in reading) (found reading)) 4398046511104 (range_with_len 0 n) (λ p. left_short reading p legal small),
      length-range_with_len 0 n,
      few,
    )

-- so many records a page has at most that belong to no set
pub untaken_few : (reading : Reading) (p : ℕ) → IsLegal reading → length (untaken_on (file_in reading) p) ≤ 16384
untaken_few reading p legal = by_taken (is_taken (file_in reading) p)
  where
    values : List KeptValue
    values = values_on (file_in reading) p

    by_taken : (taken : Bool) → length (cond taken [] values) ≤ 16384
    by_taken true = omega arith
    by_taken false =
        omega (
          arith,
          length-map values (value_at (file_in reading)),
          ap (λ xs. length xs) (leaf_values (file_in reading) p),
          live_short reading.guess.order reading.guess.page_size reading.image p,
          (size_bounds reading.guess.page_size legal).1,
        )
