-- An internal page that takes the item of a child holds one child more; the head of a chain that counts two references is the page of before.
use Rattle.std.proofs.Common.{◌≡◌, ℕ, suc, ◌+◌, ◌-◌, ◌<◌, ◌≤◌, ◌^◌, true, false, not, List, [], ◌∷◌, ◌++◌, length, take, drop, replicate, Option, Some, None}
use Rattle.std.proofs.Common.{arith, refl, sym, ◌∙◌, ap, subst, inr, length-append, ◌==◌, nat_lt}
use Rattle.bdb_mkleaves.proofs.Common.{ne_eqb, get_or_push, length-map, length-replicate, map-append, sum_by_push, Order, Header, RecnoItem, Chain, Content, Inline, Internal, InternalItem, IsKey}
use Rattle.bdb_mkleaves.proofs.Common.{Listed, Overflow, Page, RecnoInternal, Set, Tree, Unknown, abstract_page, byte_at, first_row, four_at, header_bytes, header_of, index_end, internal_bytes}
use Rattle.bdb_mkleaves.proofs.Common.{internal_item_at, is_page_size, is_tree_type, is_wrong_entry_count, is_wrong_level, listed, number_at, overwritten, pad4, page_code, page_type, recno_item_at}
use Rattle.bdb_mkleaves.proofs.Common.{spelled, two_at, ◌:?◌, header_listed, length_items, length-overwritten, length-spelled, size_bounds, IsSamePage, above, length-internal_chain}
use Rattle.bdb_mkleaves.proofs.Common.{length-internal_inline, InnerType, Keyed, Numbered, Node, keyed_item, keyed_items, numbered_item, AreWhole, Built, bytes_of, with_page, with_zeros, written_over}
use Rattle.bdb_mkleaves.proofs.Common.{HasPlace, IsWritable, OnInternal, OnRecno, PageItem, extent, holds_item, item_bytes, takes_items, with_item_on, HasRoom, begun_header, begun_page, empty_listed}
use Rattle.bdb_mkleaves.proofs.Common.{empty_page, high_free_of, page_and_item, page_with, place_below, with_item, begun_stays, written_whole, begun_is_formed, begun_pages_take_items, header_read}
use Rattle.bdb_mkleaves.proofs.Common.{length-header, recno_length, open_is, behind, byte_same, drop_same, number_before, number_here, number_same, IsPlaced, is_below, items_are_placed, not_zero}
use Rattle.bdb_mkleaves.proofs.Common.{typed, CanTakeChild, ChildrenAreFormed, ChildrenStand, CountsFew, HasNodes, HoldsChildren, HoldsChildrenOn, RaisedPagesStand, added_key, child_cost, child_item}
use Rattle.bdb_mkleaves.proofs.Common.{counting_two, first_cost, inner_header, inner_number, key_cost, nodes_cost, raised, with_inner, room_of}
use Rattle.bdb_places.specs.of_format.Terms.{entries_of}
use Rattle.bdb_mkleaves.proofs.EntryLemmas.{bytes_with}
use Rattle.bdb_mkleaves.proofs.LiveLemmas.{live_added}

-- What the types of internal pages have in common.

holds_child : (inner : InnerType) (key : Content) (node : Node) → holds_item (inner_number inner) (child_item inner key node) ≡ true
holds_child Keyed key node = refl
holds_child Numbered key node = refl

pub inner_extent : (inner : InnerType) (n : ℕ) → extent (inner_number inner) n ≡ pad4 n
inner_extent Keyed n = refl
inner_extent Numbered n = refl

any_place : (inner : InnerType) (type index : ℕ) (key : Content) (node : Node) → HasPlace type index (child_item inner key node)
any_place Keyed type index key node = tt
any_place Numbered type index key node = tt

takes_inner : (inner : InnerType) → takes_items (inner_number inner) ≡ true
takes_inner Keyed = refl
takes_inner Numbered = refl

-- What a page holds, with one node more.

items_more : (nodes : List Node) (node : Node) → keyed_items nodes ++ (keyed_item (added_key nodes node) node ∷ [])
    ≡ keyed_items (nodes ++ (node ∷ []))
items_more [] node = refl
items_more (other ∷ others) node = ap (λ items. keyed_item (Inline []) other ∷ items) (sym (map-append (λ (n : Node). keyed_item n.key n) others (node ∷ [])))

nodes_more : (inner : InnerType) (q : Page) (at : ℕ) (nodes : List Node) (node : Node) → HasNodes inner q nodes
    → HasNodes inner (page_with q at (child_item inner (added_key nodes node) node)) (nodes ++ (node ∷ []))
nodes_more Keyed q at nodes node (l, is, items) =
    let item : InternalItem = keyed_item (added_key nodes node) node in (
      with_item l at at item,
      ap (λ (x : Page). page_with x at (OnInternal item)) is,
      ap (λ (xs : List InternalItem). xs ++ (item ∷ [])) items ∙ items_more nodes node,
    )
nodes_more Numbered q at nodes node (l, is, items) =
    let item : RecnoItem = numbered_item node in (
      with_item l at at item,
      ap (λ (x : Page). page_with x at (OnRecno item)) is,
      ap (λ (xs : List RecnoItem). xs ++ (item ∷ [])) items ∙ sym (map-append numbered_item nodes (node ∷ [])),
    )

-- the bytes that a node takes after others
abbrev pub added_cost : InnerType → List Node → Node → ℕ
added_cost inner [] node = first_cost inner
added_cost inner (other ∷ others) node = child_cost inner node

cost_more : (inner : InnerType) (nodes : List Node) (node : Node) → nodes_cost inner (nodes ++ (node ∷ []))
    ≡ nodes_cost inner nodes + added_cost inner nodes node
cost_more inner [] node = omega arith
cost_more inner (other ∷ others) node = omega (arith, sum_by_push (child_cost inner) others node)

-- a key that an item can have, whatever its length
abbrev pub HasShape : Content → Type 0
HasShape (Inline bytes) = Unit {0}
HasShape (Chain head total) = Unit {0}
HasShape (Set blocks) = ⊥
HasShape (Tree root) = ⊥
HasShape Unknown = ⊥

shape_of_key : (key : Content) → IsKey key → HasShape key
shape_of_key (Inline bytes) fits = tt
shape_of_key (Chain head total) fits = tt
shape_of_key (Set blocks) fits = fits
shape_of_key (Tree root) fits = fits
shape_of_key Unknown fits = fits

abbrev pub ShapeOf : InnerType → Node → Type 0
ShapeOf Keyed node = HasShape node.key
ShapeOf Numbered node = Unit {0}

keyed_cost : (order : Order) (child count : ℕ) (key : Content) → HasShape key
    → 2 + pad4 (length (internal_bytes order (record { child = child; count = count; key = key }))) ≡ key_cost key
keyed_cost order child count (Inline bytes) fits = ap (λ n. 2 + pad4 n) (length-internal_inline order child count bytes)
keyed_cost order child count (Chain head total) fits = ap (λ n. 2 + pad4 n) (length-internal_chain order child count head total)
keyed_cost order child count (Set blocks) fits = absurd fits
keyed_cost order child count (Tree root) fits = absurd fits
keyed_cost order child count Unknown fits = absurd fits

pub item_cost_is : (inner : InnerType) (order : Order) (node : Node) → ShapeOf inner node
    → 2 + pad4 (length (item_bytes order (child_item inner node.key node))) ≡ child_cost inner node
item_cost_is Keyed order node fits = keyed_cost order node.page node.count node.key fits
item_cost_is Numbered order node fits = ap (λ n. 2 + pad4 n) (recno_length order (numbered_item node))

-- the first node may have any key
pub first_cost_is : (inner : InnerType) (order : Order) (node : Node) → 2 + pad4 (length (item_bytes order (child_item inner (Inline []) node)))
    ≡ first_cost inner
first_cost_is Keyed order node = keyed_cost order node.page node.count (Inline []) tt
first_cost_is Numbered order node = ap (λ n. 2 + pad4 n) (recno_length order (numbered_item node))

shape_written : (inner : InnerType) (node : Node) → IsWritable (child_item inner node.key node) → ShapeOf inner node
shape_written Keyed node fits = shape_of_key node.key fits.0
shape_written Numbered node fits = tt

added_cost_is : (inner : InnerType) (order : Order) (nodes : List Node) (node : Node) → IsWritable (child_item inner (added_key nodes node) node)
    → 2 + pad4 (length (item_bytes order (child_item inner (added_key nodes node) node))) ≡ added_cost inner nodes node
added_cost_is inner order [] node fits = first_cost_is inner order node
added_cost_is inner order (other ∷ others) node fits = item_cost_is inner order node (shape_written inner node fits)

child_added : (inner : InnerType) (order : Order) (page : List ℕ) (p level : ℕ) (nodes : List Node) (node : Node)
    → HoldsChildren inner order page p level nodes → IsWritable (child_item inner (added_key nodes node) node)
    → HasRoom order page (length (item_bytes order (child_item inner (added_key nodes node) node)))
    → HoldsChildren inner order (page_and_item order page (item_bytes order (child_item inner (added_key nodes node) node))) p level
    (nodes ++ (node ∷ []))
child_added inner order page p level nodes node holds fits room =
    let item : PageItem = child_item inner (added_key nodes node) node in
    let piece : List ℕ = item_bytes order item in
    let kind : holds_item (byte_at page 25) item ≡ true = ap (λ t. holds_item t item) holds.type_is ∙ holds_child inner (added_key nodes node) node in
    let taken : extent (byte_at page 25) (length piece) ≡ pad4 (length piece) =
    ap (λ t. extent t (length piece)) holds.type_is ∙ inner_extent inner (length piece) in
    let below : IsPlaced order page (page_and_item order page piece) (place_below order page (length piece)) piece =
    is_below order page piece (open_is order page holds.begun) room in
    let place : HasPlace (byte_at page 25) (entries_of order page) item =
    any_place inner (byte_at page 25) (entries_of order page) (added_key nodes node) node in
    record {
      begun = begun_stays order page item holds.begun kind fits place room;
      type_is = below.entry.type ∙ holds.type_is;
      level_is = below.entry.level ∙ holds.level_is;
      number = below.entry.low 4 8 (omega arith) ∙ holds.number;
      is = subst (λ (q : Page). HasNodes inner q (nodes ++ (node ∷ []))) (sym (items_are_placed order page item holds.begun kind fits room))
          (nodes_more inner (abstract_page order page) (place_below order page (length piece)) nodes node holds.is);
      live = live_added inner order page (page_and_item order page piece) (place_below order page (length piece)) (added_key nodes node) node below
          holds.begun fits (below.entry.type ∙ holds.type_is) holds.type_is holds.live;
      room =
          let cost : 2 + pad4 (length piece) ≡ added_cost inner nodes node = added_cost_is inner order nodes node fits in
          let old : room_of order page + nodes_cost inner nodes ≡ length page - 26 = holds.room in
          let in_order : index_end order page ≤ high_free_of order page = holds.begun.room in
          omega (arith, cost_more inner nodes node, cost, old, taken, below.entry.entries, below.entry.top, below.entry.long, room, in_order);
    }

-- the same in its place among the pages
pub child_held : (inner : InnerType) (old new : Built) (p : ℕ) (item : PageItem) → p < length old.pages → new
    ≡ with_item_on old p (item_bytes old.order item)
    → CanTakeChild inner old p item → (level : ℕ) (nodes : List Node) (node : Node) → HoldsChildrenOn inner old p level nodes
    → item ≡ child_item inner (added_key nodes node) node → HoldsChildrenOn inner new p level (nodes ++ (node ∷ []))
child_held inner old new p item low is can level nodes node holds same =
    let it : PageItem = child_item inner (added_key nodes node) node in
    let page : List ℕ = page_and_item old.order (bytes_of old p) (item_bytes old.order it) in
    let written : new ≡ with_page old p page = is ∙ ap (λ (i : PageItem). with_item_on old p (item_bytes old.order i)) same in
    let fits : IsWritable it = subst IsWritable same can.fits in
    let room : HasRoom old.order (bytes_of old p) (length (item_bytes old.order it)) =
    subst (λ (i : PageItem). HasRoom old.order (bytes_of old p) (length (item_bytes old.order i))) same can.room in
    subst (λ (b : Built). HoldsChildrenOn inner b p level (nodes ++ (node ∷ []))) (sym written)
    (subst (λ bs. HoldsChildren inner old.order bs p level (nodes ++ (node ∷ []))) (sym (bytes_with old p page low))
    (child_added inner old.order (bytes_of old p) p level nodes node holds fits room))

-- A page without items.

no_nodes : (inner : InnerType) (header : Header) → HasNodes inner (empty_page (page_type (inner_number inner)) header) []
no_nodes Keyed header = (empty_listed header, refl, refl)
no_nodes Numbered header = (empty_listed header, refl, refl)

empty_inner : (inner : InnerType) (order : Order) (page : List ℕ) (number level : ℕ) → is_page_size (length page) ≡ true → number < 2 ^ 32
    → HoldsChildren inner order (begun_page order page (inner_header inner number level)) number level []
empty_inner inner order page number level legal low =
    let header : Header = inner_header inner number level in
    let new : List ℕ = begun_page order page header in
    let law = begun_pages_take_items order page header legal (takes_inner inner) (record { number = low; previous = omega arith; next = omega arith })
    in
    let h : Header = begun_header page header in
    let sizes = size_bounds (length page) legal in
    let long : length new ≡ length page = length-overwritten page 0 (header_bytes order h) (omega (arith, length-header order h, sizes.0)) in
    let is : header_of order new ≡ h =
    header_read order h (drop (0 + length (header_bytes order h)) page)
    (record { number = low; previous = omega arith; next = omega arith; entries = omega arith; high = omega (arith, sizes.1) }) in
    let none : entries_of order new ≡ 0 = ap (λ (x : Header). x.entries) is in
    let high : high_free_of order new ≡ length page = ap (λ (x : Header). x.high_free) is in
    record {
      begun = law.1;
      type_is = ap (λ (x : Header). x.page_type) is;
      level_is = ap (λ (x : Header). x.level) is;
      number = ap (λ (x : Header). x.number) is;
      is = subst (λ (q : Page). HasNodes inner q []) (sym law.0) (no_nodes inner h);
      live = λ keyed k low. absurd (omega (arith, low, none));
      room = omega (arith, none, high, long);
    }

pub inner_added : (inner : InnerType) (byte : ℕ) (old added new : Built) (number level : ℕ) → byte ≡ inner_number inner → is_page_size old.size ≡ true
    → length old.pages < 2 ^ 21 → added ≡ with_zeros old → number ≡ length old.pages
    → new ≡ with_page added number (begun_page added.order (bytes_of added number) (record (inner_header inner number level) { page_type = byte }))
    → (new ≡ with_inner inner old level) × HoldsChildrenOn inner new number level []
inner_added inner byte old added new number level type_is legal few zeros at_end begun =
    let n : ℕ = length old.pages in
    let page : List ℕ = bytes_of (with_zeros old) n in
    let blank : page ≡ replicate old.size 0 = get_or_push old.pages (replicate old.size 0) [] n refl in
    let long : length page ≡ old.size = ap length blank ∙ length-replicate old.size 0 in
    let is : new ≡ with_inner inner old level =
    begun
    ∙ (ap (λ t. with_page added number (begun_page added.order (bytes_of added number) (record (inner_header inner number level) { page_type = t })))
    type_is
    ∙ (ap (λ (b : Built). with_page b number (begun_page b.order (bytes_of b number) (inner_header inner number level))) zeros
    ∙ ap (λ k. with_page (with_zeros old) k (begun_page old.order (bytes_of (with_zeros old) k) (inner_header inner k level))) at_end)) in
    let fresh : List ℕ = begun_page old.order page (inner_header inner n level) in
    let there : n < length (with_zeros old).pages = omega (arith, length-append old.pages (replicate old.size 0 ∷ [])) in
    let here : bytes_of (with_inner inner old level) n ≡ fresh = bytes_with (with_zeros old) n fresh there in
    let holds : HoldsChildren inner old.order fresh n level [] = empty_inner inner old.order page n level (ap is_page_size long ∙ legal)
    (omega (arith, few)) in (
      is,
      subst (λ (b : Built). HoldsChildrenOn inner b number level []) (sym is)
          (subst (λ k. HoldsChildrenOn inner (with_inner inner old level) k level []) (sym at_end)
          (subst (λ bs. HoldsChildren inner old.order bs n level []) (sym here) holds)),
    )

-- What is read from a page.

-- its header, and its entries as many as its items
record IsRead {I : Type 0} (order : Order) (bytes : List ℕ) (page : Listed I) : Type 0 where
  header : page.header ≡ header_of order bytes
  entries : entries_of order bytes ≡ length page.items

is_read : {I : Type 0} (order : Order) (bytes : List ℕ) (page : Listed I) (item_at : ℕ → I) → listed order bytes item_at ≡ page
    → IsRead order bytes page
is_read {I} order bytes page item_at same = grind (arith, header_listed, length_items)

keyed_read : (order : Order) (bytes : List ℕ) (page : Listed InternalItem) → 25 < length bytes → byte_at bytes 25 ≡ 3 → abstract_page order bytes
    ≡ Internal page
    → IsRead order bytes page
keyed_read order bytes page long type is =
    let inside : (a b : Listed InternalItem) → Internal a ≡ Internal b → a ≡ b = λ a b same. cc in
    is_read order bytes page (internal_item_at order bytes) (inside _ _ (sym (typed order bytes 3 long refl type) ∙ is))

numbered_read : (order : Order) (bytes : List ℕ) (page : Listed RecnoItem) → 25 < length bytes → byte_at bytes 25 ≡ 4 → abstract_page order bytes
    ≡ RecnoInternal page
    → IsRead order bytes page
numbered_read order bytes page long type is =
    let inside : (a b : Listed RecnoItem) → RecnoInternal a ≡ RecnoInternal b → a ≡ b = λ a b same. cc in
    is_read order bytes page (recno_item_at order bytes) (inside _ _ (sym (typed order bytes 4 long refl type) ∙ is))

length-keyed : (nodes : List Node) → length (keyed_items nodes) ≡ length nodes
length-keyed [] = refl
length-keyed (node ∷ nodes) = ap (λ n. suc n) (length-map nodes (λ (n : Node). keyed_item n.key n))

-- as many entries as nodes
pub nodes_held : (inner : InnerType) (order : Order) (bytes : List ℕ) (p level : ℕ) (nodes : List Node)
    → HoldsChildren inner order bytes p level nodes
    → entries_of order bytes ≡ length nodes
nodes_held Keyed order bytes p level nodes holds = grind (arith, open_is, keyed_read, length-keyed)
nodes_held Numbered order bytes p level nodes holds = grind (arith, open_is, numbered_read, length-map)

-- Its form.

level_right : (inner : InnerType) (level : ℕ) → 2 ≤ level → is_wrong_level (page_type (inner_number inner)) level ≡ false
level_right Keyed level high = above level 2 high
level_right Numbered level high = above level 2 high

count_right : (inner : InnerType) (n : ℕ) → 0 < n → is_wrong_entry_count (page_type (inner_number inner)) n ≡ false
count_right Keyed n some = ne_eqb n 0 (λ none. omega (arith, none, some))
count_right Numbered n some = ne_eqb n 0 (λ none. omega (arith, none, some))

pub children_are_formed : ChildrenAreFormed
children_are_formed inner order bytes p level nodes holds high some =
    let count = nodes_held inner order bytes p level nodes holds in
    begun_is_formed order p bytes holds.begun holds.number
    (ap (λ t. is_wrong_level (page_type t) (byte_at bytes 24)) holds.type_is
    ∙ (ap (is_wrong_level (page_type (inner_number inner))) holds.level_is ∙ level_right inner level high))
    (ap (λ t. is_wrong_entry_count (page_type t) (entries_of order bytes)) holds.type_is
    ∙ (ap (is_wrong_entry_count (page_type (inner_number inner))) count ∙ count_right inner (length nodes) some))

-- Its items in a file.

pub children_stand : ChildrenStand
children_stand Keyed built p level [] g holds some keys same = absurd (omega (arith, some))
children_stand Keyed built p level (node ∷ nodes) g holds some keys same =
    let bounds = open_is built.order (bytes_of built p) holds.begun in
    let (page, is, items) = holds.is in
    let read = keyed_read built.order (bytes_of built p) page (omega (arith, bounds.least)) holds.type_is is in
    (page, same ∙ is, ap (λ (h : Header). h.level) read.header ∙ holds.level_is, items, keys)
children_stand Numbered built p level nodes g holds some keys same =
    let bounds = open_is built.order (bytes_of built p) holds.begun in
    let (page, is, items) = holds.is in
    let read = numbered_read built.order (bytes_of built p) page (omega (arith, bounds.least)) holds.type_is is in
    (page, same ∙ is, ap (λ (h : Header). h.level) read.header ∙ holds.level_is, items)

-- The head of a chain.

-- what is read from it after it counts two references
pub record IsRaised (order : Order) (page new : List ℕ) : Type 0 where
  pub long : length new ≡ length page
  pub body : drop 22 new ≡ drop 22 page
  pub low : (n x : ℕ) → x + n ≤ 20 → number_at n order new x ≡ number_at n order page x
  pub entries : entries_of order new ≡ 2

pub raised_again : (order : Order) (page mid new : List ℕ) → IsRaised order page mid → IsRaised order mid new → IsRaised order page new
raised_again order page mid new one two = grind arith

pub few_raised : (order : Order) (page new : List ℕ) → CountsFew order page → IsRaised order page new → CountsFew order new
few_raised order page new few is = record {
  long = let l = few.long in omega (arith, l, is.long);
  type_is = byte_same new page 22 25 is.body (omega arith) ∙ few.type_is;
  few = omega (arith, is.entries);
}

pub is_raised : (order : Order) (page : List ℕ) → 26 ≤ length page → IsRaised order page (counting_two order page)
is_raised order page long =
    let piece : List ℕ = spelled 2 order 2 in
    let two : length piece ≡ 2 = length-spelled 2 order 2 in
    record {
      long = length-overwritten page 20 piece (omega (arith, long, two));
      body = behind page 20 piece 22 (omega (arith, two)) (omega (arith, long));
      low = λ n x under. number_before n order page 20 piece x under (omega (arith, long));
      entries = number_here 2 order page 20 2 (omega arith) (omega (arith, long));
    }

-- the page by its bytes
pub chain_as : (order : Order) (bytes : List ℕ) → 26 ≤ length bytes → byte_at bytes 25 ≡ 7
    → abstract_page order bytes ≡ Overflow (header_of order bytes) (take (two_at order bytes 22) (drop 26 bytes))
chain_as order bytes long type = typed order bytes 7 (omega (arith, long)) refl type

-- its row of form
abbrev chain_code : ℕ → ℕ → ℕ → ℕ → Option ℕ
chain_code number p long high =
    elim (first_row (1 :? not (number == p) ∷ 2 :? not (is_tree_type 7) ∷ []))
    [ Some code ↦ Some code | None ↦ first_row (25 :? nat_lt long (26 + high) ∷ []) ]

code_as : (order : Order) (p : ℕ) (bytes : List ℕ) → 26 ≤ length bytes → byte_at bytes 25 ≡ 7
    → page_code order p bytes ≡ chain_code (four_at order bytes 8) p (length bytes) (two_at order bytes 22)
unfolding page_code
code_as order p bytes long type = grind (arith, not_zero, Option, Some, None)

pub raised_stands : (order : Order) (p : ℕ) (bytes new : List ℕ) → CountsFew order bytes → IsRaised order bytes new
    → IsSamePage (abstract_page order bytes) (abstract_page order new) × (page_code order p new ≡ page_code order p bytes)
raised_stands order p bytes new few is =
    let long : 26 ≤ length new = let l = few.long in omega (arith, l, is.long) in
    let high : two_at order new 22 ≡ two_at order bytes 22 = number_same 2 order new bytes 22 22 is.body (omega arith) in
    let level : byte_at new 24 ≡ byte_at bytes 24 = byte_same new bytes 22 24 is.body (omega arith) in
    let type : byte_at new 25 ≡ byte_at bytes 25 = byte_same new bytes 22 25 is.body (omega arith) in
    let rest : drop 26 new ≡ drop 26 bytes = drop_same new bytes 22 26 is.body (omega arith) in
    let header : header_of order new ≡ record (header_of order bytes) { entries = 2 } =
    rw (is.low 4 8 (omega arith), is.low 4 12 (omega arith), is.low 4 16 (omega arith), is.entries, high, level, type) refl in
    let now : abstract_page order new ≡ Overflow (record (header_of order bytes) { entries = 2 }) (take (two_at order bytes 22) (drop 26 bytes)) =
    chain_as order new long (type ∙ few.type_is)
    ∙ (ap (λ h. Overflow h (take (two_at order new 22) (drop 26 new))) header
    ∙ (ap (λ n. Overflow (record (header_of order bytes) { entries = 2 }) (take n (drop 26 new))) high
    ∙ ap (λ bs. Overflow (record (header_of order bytes) { entries = 2 }) (take (two_at order bytes 22) bs)) rest)) in (
      inr (record {
        header = header_of order bytes;
        piece = take (two_at order bytes 22) (drop 26 bytes);
        count = 2;
        before = chain_as order bytes few.long few.type_is;
        after = now;
        more = few.few;
      }),
      code_as order p new long (type ∙ few.type_is)
          ∙ (ap (λ n. chain_code n p (length new) (two_at order new 22)) (is.low 4 8 (omega arith))
          ∙ (ap (λ n. chain_code (four_at order bytes 8) p n (two_at order new 22)) is.long
          ∙ (ap (chain_code (four_at order bytes 8) p (length bytes)) high
          ∙ sym (code_as order p bytes few.long few.type_is)))),
    )

pub raised_pages_stand : RaisedPagesStand
raised_pages_stand order p bytes few = raised_stands order p bytes (counting_two order bytes) few (is_raised order bytes few.long)

-- the bytes that are written through a lent page
pub raised_written : (old : Built) (p : ℕ) (order : Order) (page written : List ℕ) → p < length old.pages → AreWhole old → is_page_size old.size
    ≡ true
    → order ≡ old.order → page ≡ bytes_of old p → written ≡ overwritten page 20 (spelled 2 order 2) → written_over old p written ≡ raised old p
raised_written old p order page written low whole legal ordered lent is = grind (arith, size_bounds, is_raised, written_whole)
