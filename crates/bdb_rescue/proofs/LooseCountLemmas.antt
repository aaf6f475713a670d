-- How many loose records there are: an index takes two bytes for each.
use Rattle.std.proofs.Common.{◌≡◌, ℕ, ◌-◌, ◌*◌, ◌/◌, ◌≤◌, Bool, true, false, List, [], ◌∷◌, length, take, drop, arith, refl, sym, ◌∙◌, ap, subst, inl, inr}
use Rattle.std.proofs.Common.{length-append, length-take, ltb-false, Option, Some, None, if◌then◌else◌}
use Rattle.std.specs.List.{flat_map, range_with_len}
use Rattle.std.proofs.Math.Nat.{mul_comm}
use Rattle.std.proofs.lemmas.Bool.{cases_lt}
use Rattle.std.proofs.lemmas.List.FromFn.{length-range_with_len}
use Rattle.bdb_text_format.specs.of_format.declared.kinds.Order.{Order}
use Rattle.bdb_text_format.specs.of_format.Terms.{Chain, Content, DupLeaf, File, Inline, Item, Page, RecnoLeaf, Set, Tree, Unknown, Zero, abstract_page, body_code}
use Rattle.bdb_text_format.specs.of_format.Terms.{byte_at, entries_in, first_row, four_at, hash_item_at, identity_rows, index_end, is_tree_type, is_zero, joined}
use Rattle.bdb_text_format.specs.of_format.Terms.{leaf_item_at, listed, listed_code, page_as, page_at, page_code, page_type, pieces_of}
use Rattle.bdb_text_format.specs.of_format.declared.pages.PageType.{PageType}
use Rattle.bdb_text_format.specs.of_format.declared.pages.PageType.TheVariants.{DupLeaf as DupLeafPage, Hash as HashPage, Leaf as LeafPage}
use Rattle.bdb_text_format.specs.of_format.declared.pages.PageType.TheVariants.{RecnoLeaf as RecnoLeafPage}
use Rattle.bdb_text_format.proofs.of_format.ItemLemmas.{index_passes, no_index_row}
use Rattle.bdb_text_format.proofs.of_format.PageLemmas.{length_items}
use Rattle.bdb_survey.specs.Items.{slots_in}
use Rattle.bdb_survey.specs.Salvage.{is_taken, is_whole, live_value, live_whole, loose, loose_on, meta_code, salvaged_file, salvaged_page}
use Rattle.bdb_survey.specs.Salvage.{unless_code, whole_values}
use Rattle.bdb_survey.proofs.StoredPageLemmas.{page_is, page_past}
use Rattle.bdb_survey.proofs.StoredPageLemmas.{count_is as whole_pages}

-- lists that are at most so long, joined
pub joined_short : {A B : Type 0} (f : A → List B) (k : ℕ) (xs : List A) → ((x : A) → 2 * length (f x) ≤ k)
    → 2 * length (flat_map f xs) ≤ length xs * k
joined_short f k [] short = omega arith
joined_short f k (x ∷ xs) short = omega (arith, length-append (f x) (flat_map f xs), short x, joined_short f k xs short)

-- The items of a page.

listed_room : (order : Order) (page : List ℕ) (t : PageType) → listed_code order page t ≡ None → (item_at : ℕ → Item)
    → 2 * length (listed order page item_at).items ≤ length page
listed_room order page t none item_at =
    let room : index_end order page ≤ length page = ltb-false _ _ (index_passes order page t (no_index_row order page t none)).room in
    omega (arith, length_items order page item_at)

room_by : (order : Order) (page : List ℕ) (t : PageType) → body_code order page t ≡ None
    → 2 * length (slots_in (page_as order page t)) ≤ length page
room_by order page LeafPage none = listed_room order page LeafPage none (leaf_item_at order page)
room_by order page HashPage none = listed_room order page HashPage none (hash_item_at order page)
room_by order page RecnoLeafPage none = listed_room order page RecnoLeafPage none (leaf_item_at order page)
room_by order page DupLeafPage none = listed_room order page DupLeafPage none (leaf_item_at order page)
room_by order page t none = omega arith

room_coded : (order : Order) (page : List ℕ) (t : PageType) (meta code : Option ℕ) → body_code order page t ≡ code
    → 2 * length (slots_in (unless_code code (unless_code meta (page_as order page t)))) ≤ length page
room_coded order page t None None is = room_by order page t is
room_coded order page t (Some row) None is = omega arith
room_coded order page t meta (Some code) is = omega arith

room_of : (order : Order) (page : List ℕ) (t : PageType) (meta : Option ℕ) (zero : Bool) (identity : Option ℕ)
    → 2 * length (slots_in (unless_code
    (elim zero as (λ _. Option ℕ) [ true ↦ None | false ↦ elim identity as (λ _. Option ℕ) [ Some code ↦ Some code | None ↦ body_code order page t ] ])
    (unless_code meta (elim zero [ true ↦ Zero | false ↦ page_as order page t ])))) ≤ length page
room_of order page t None true identity = omega arith
room_of order page t (Some row) true identity = omega arith
room_of order page t meta false (Some code) = omega arith
room_of order page t meta false None = room_coded order page t meta (body_code order page t) refl

-- the items of a page that is looked at take two bytes each in its index
page_room : (order : Order) (last : ℕ) (page : List ℕ) → 2 * length (slots_in (salvaged_page order last page)) ≤ length page
unfolding salvaged_page page_code abstract_page
page_room order last page =
    room_of order page (page_type (byte_at page 25)) (meta_code order last page (page_type (byte_at page 25))) (is_zero page)
    (first_row (identity_rows order page (four_at order page 8) is_tree_type))

pub slots_short : (order : Order) (size : ℕ) (image : List ℕ) (p : ℕ) → 2 * length (slots_in (page_at (salvaged_file order size image) p)) ≤ size
slots_short order size image p =
    elim (cases_lt p (length image / size)) [
      | inl there ↦
          subst (λ page. 2 * length (slots_in page) ≤ size) (sym (page_is order size image p there))
          (omega (arith, page_room order (length image / size - 1) (take size (drop (p * size) image)), length-take size (drop (p * size) image)))
      | inr past ↦ subst (λ page. 2 * length (slots_in page) ≤ size) (sym (page_past order size image p past)) (omega arith)
    ]

-- the entries of a page are its items
entries_are : (page : Page) → length (entries_in page) ≤ length (slots_in page)
entries_are (RecnoLeaf page) = omega arith
entries_are (DupLeaf page) = omega arith
entries_are page = omega arith

entries_short : (order : Order) (size : ℕ) (image : List ℕ) (p : ℕ) → 2 * length (entries_in (page_at (salvaged_file order size image) p)) ≤ size
entries_short order size image p =
    omega (arith, slots_short order size image p, entries_are (page_at (salvaged_file order size image) p))

-- The records of a page.

one_where : {A : Type 0} (holds : Bool) (x : A) → length (if holds then x ∷ [] else []) ≤ 1
one_where true x = omega arith
one_where false x = omega arith

fewer_where : {A : Type 0} (nothing : Bool) (n : ℕ) (xs : List A) → 2 * length xs ≤ n → 2 * length (if nothing then [] else xs) ≤ n
fewer_where true n xs few = omega arith
fewer_where false n xs few = few

-- an item has one value at most
pub one_at_most : (file : File) (content : Content) → length (whole_values file content) ≤ 1
unfolding whole_values
one_at_most file (Inline bytes) = omega arith
one_at_most file (Set blocks) = omega arith
one_at_most file (Chain head total) = one_where (is_whole file head total) (joined (pieces_of file head))
one_at_most file (Tree root) = omega arith
one_at_most file Unknown = omega arith

one_live : (file : File) (item : Item) → 2 * length (live_value file item) ≤ 2
one_live file item = fewer_where item.deleted 2 (whole_values file item.content) (omega (arith, one_at_most file item.content))

-- the live entries of a page with a whole value
pub live_short : (order : Order) (size : ℕ) (image : List ℕ) (p : ℕ) → 2 * length (live_whole (salvaged_file order size image) p) ≤ size
unfolding live_whole
live_short order size image p =
    omega (
      arith,
      entries_short order size image p,
      joined_short (live_value (salvaged_file order size image)) 2 (entries_in (page_at (salvaged_file order size image) p))
          (one_live (salvaged_file order size image)),
    )

loose_short : (order : Order) (size : ℕ) (image : List ℕ) (p : ℕ) → 2 * length (loose_on (salvaged_file order size image) p) ≤ size
loose_short order size image p =
    fewer_where (is_taken (salvaged_file order size image) p) size (live_whole (salvaged_file order size image) p) (live_short order size image p)

loose_room : (order : Order) (size : ℕ) (image : List ℕ) → 2 * length (loose (salvaged_file order size image)) ≤ length image / size * size
unfolding loose
loose_room order size image =
    subst (λ n. 2 * length (flat_map (loose_on (salvaged_file order size image)) (range_with_len 0 (salvaged_file order size image).count)) ≤ n * size)
    (length-range_with_len 0 (salvaged_file order size image).count ∙ whole_pages order size image)
    (joined_short (loose_on (salvaged_file order size image)) size (range_with_len 0 (salvaged_file order size image).count) (loose_short order size image))

-- there are at most half as many loose records as the image has bytes
pub loose_few : (order : Order) (size : ℕ) (image : List ℕ) → 2 * length (loose (salvaged_file order size image)) ≤ length image
loose_few order size image =
    elim (cases_lt 0 size) [
      | inl some ↦ omega (arith, loose_room order size image, mul_comm size (length image / size))
      | inr none ↦
          let zero : size ≡ 0 = omega arith in
          let nothing : length image / size * size ≡ length image / size * 0 = ap (λ n. length image / size * n) zero in
          omega (arith, loose_room order size image, nothing)
    ]
