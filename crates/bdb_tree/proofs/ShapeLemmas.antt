-- What a page of a formed image is, by its type: form has looked at its level and its items.
use Rattle.std.proofs.Common.{◌≡◌, ◌⊎◌, ℕ, ◌<◌, ◌≤◌, Bool, true, false, cond, List, [], ◌∷◌, length, map, arith, refl, sym, ◌∙◌, ap, subst, inl, inr, Contains}
use Rattle.std.proofs.Common.{Some, None, ◌%◌, get_or, ◌==◌, ◌||◌, not}
use Rattle.std.proofs.lemmas.Bool.{and_parts, cases_Bool, eqb-false, eqb-true, ltb-false, not-false, true≢false}
use Rattle.bdb_overflow.specs.of_format.declared.metadata.FileKind.TheVariants.{Queue as QueueFile}
use Rattle.bdb_overflow.specs.of_format.declared.metadata.Head.{Head}
use Rattle.bdb_overflow.specs.of_form.declared.view.PageView.{PageView}
use Rattle.bdb_overflow.specs.of_form.declared.view.PageView.TheVariants.{Meta as MetaView, Leaf as LeafView, DupLeaf as DupLeafView}
use Rattle.bdb_overflow.specs.of_form.Seen.{header_seen, page_seen}
use Rattle.bdb_overflow.specs.of_format.declared.kinds.Order.{Order}
use Rattle.bdb_overflow.specs.of_format.Terms.{BtreeFields, Chain, Content, DupLeaf, Hash, Inline, Internal, InternalItem, Item, Leaf, Listed, Meta, Metadata}
use Rattle.bdb_overflow.specs.of_format.Terms.{Page, RecnoInternal, RecnoLeaf, Tree, Unknown, abstract_page, byte_at, children_in, entries_of, file_of}
use Rattle.bdb_overflow.specs.of_format.Terms.{first_row, form_code, has_type, hash_item_at, hash_rows, head_of, header_in, internal_item_at, is_zero}
use Rattle.bdb_overflow.specs.of_format.Terms.{item_rows, kind_in, leaf_item_at, leaf_rows, listed, listed_code, no_item, page_as, page_at, page_bytes}
use Rattle.bdb_overflow.specs.of_format.Terms.{page_type, recno_item_at, type_in, type_of, typed_code, wrong_leaf_types}
use Rattle.bdb_overflow.specs.of_format.declared.references.Sort.{Sort}
use Rattle.bdb_overflow.specs.of_format.declared.references.Sort.TheVariants.{DuplicateRoot, Root}
use Rattle.std.proofs.lemmas.List.FromFn.{get_or-map-range_with_len, length-map-range_with_len}
use Rattle.bdb_overflow.specs.of_format.declared.pages.PageType.{PageType}
use Rattle.bdb_overflow.specs.of_format.declared.pages.PageType.TheVariants.{Free as FreePage, Hash as HashPage, Internal as InternalPage}
use Rattle.bdb_overflow.specs.of_format.declared.pages.PageType.TheVariants.{RecnoInternal as RecnoInternalPage, Leaf as LeafPage, RecnoLeaf as RecnoLeafPage}
use Rattle.bdb_overflow.specs.of_format.declared.pages.PageType.TheVariants.{Overflow as OverflowPage, HashMeta as HashMetaPage, BtreeMeta as BtreeMetaPage}
use Rattle.bdb_overflow.specs.of_format.declared.pages.PageType.TheVariants.{QueueMeta as QueueMetaPage, Queue as QueuePage, DupLeaf as DupLeafPage, Other as OtherPage}
use Rattle.bdb_overflow.proofs.of_format.GraphLemmas.{typed_none, typed_page, zero_page}
use Rattle.bdb_overflow.proofs.of_format.ItemLemmas.{IsIndexed, index_passes, no_index_row, no_item_row}
use Rattle.bdb_overflow.proofs.of_format.MemberLemmas.{of_map}
use Rattle.std.proofs.lemmas.List.{length-map}
use Rattle.bdb_overflow.proofs.of_format.PageLemmas.{length_items}
use Rattle.bdb_overflow.specs.of_image.Formed.{IsFormed}
use Rattle.bdb_overflow.specs.of_image.Linked.{IsForest}
use Rattle.bdb_overflow.proofs.of_graph.ChildLemmas.{is_queue_page, queue_page}
use Rattle.bdb_overflow.proofs.of_image.FirstLemmas.{formed_page}
use Rattle.bdb_tree.specs.Noted.{is_leaf_page}
use Rattle.bdb_overflow.proofs.of_format.TypeLemmas.{if_type}
use Rattle.bdb_overflow.proofs.of_format.FileLemmas.{last_page, page_is}

-- Form.

-- a value by itself: bytes, or a chain
abbrev pub IsAlone : Content → Type 0
IsAlone (Inline bytes) = Unit {0}
IsAlone (Chain head total) = Unit {0}
IsAlone content = ⊥

-- no item is a set
abbrev pub AreAlone : List Item → Type 0
AreAlone items = (i : ℕ) → i < length items → IsAlone (get_or items i no_item).content

-- an item that is a set is no key
abbrev pub SetsAreData : List Item → Type 0
SetsAreData items = (i : ℕ) → i < length items → IsAlone (get_or items i no_item).content ⊎ (i % 2 ≡ 1)

-- no key of an internal page is a set off the page
abbrev pub KeysAreNoTrees : List InternalItem → Type 0
KeysAreNoTrees items = (root : ℕ) → Contains (map (λ (item : InternalItem). item.key) items) (Tree root) → ⊥

-- a page as form leaves it: internal pages have an item and stand above level 1, at which leaves stand; a hash page has no type of a tree;
-- sets are data of pairs
abbrev pub IsFormedPage : Page → Type 0
IsFormedPage (Hash page) = (has_type (3 ∷ 4 ∷ 5 ∷ 6 ∷ 12 ∷ []) (Some page.header.page_type) ≡ false) × SetsAreData page.items
IsFormedPage (Internal page) = (2 ≤ page.header.level) × (0 < length page.items) × KeysAreNoTrees page.items
IsFormedPage (RecnoInternal page) = (2 ≤ page.header.level) × (0 < length page.items)
IsFormedPage (Leaf page) = (page.header.level ≡ 1) × SetsAreData page.items
IsFormedPage (RecnoLeaf page) = (page.header.level ≡ 1) × AreAlone page.items
IsFormedPage (DupLeaf page) = (page.header.level ≡ 1) × AreAlone page.items
IsFormedPage page = Unit {0}

second_fails : {C : Type 0} (a b c : Bool) (x y z : C) → cond a (Some x) (cond b (Some y) (cond c (Some z) None)) ≡ None → b ≡ false
second_fails false false c x y z none = refl
second_fails a b c x y z none = absurd cc

-- no row of a page with an index holds: neither that of its level nor that of its entries
tests : (order : Order) (page : List ℕ) (t : PageType) → listed_code order page t ≡ None → IsIndexed t order page
tests order page t none = index_passes order page t (no_index_row order page t none)

some_items : {I : Type 0} (order : Order) (page : List ℕ) (item_at : ℕ → I) → (entries_of order page == 0) ≡ false
    → 0 < length (listed order page item_at).items
some_items order page item_at some = grind (arith, eqb-false, length_items)

no_tree : (a b : Bool) (bytes : List ℕ) (head total root : ℕ)
    → ◌≡◌ {A = Content} (cond a (Inline bytes) (cond b (Chain head total) Unknown)) (Tree root) → ⊥
no_tree false false bytes head total root same = cc
no_tree a b bytes head total root same = cc

keys_are_no_trees : (order : Order) (page : List ℕ) → KeysAreNoTrees (listed order page (internal_item_at order page)).items
unfolding listed internal_item_at
keys_are_no_trees order page root at =
    let key = of_map (λ (item : InternalItem). item.key) _ (Tree root) at in
    let item = of_map (internal_item_at order page) _ key.0 key.1 in
    no_tree _ _ _ _ _ root (ap (λ (i : InternalItem). i.key) item.2 ∙ key.2)

leaf_level : (order : Order) (page : List ℕ) → not (byte_at page 24 == 1) ≡ false → (listed order page (leaf_item_at order page)).header.level ≡ 1
unfolding listed
leaf_level order page right = eqb-true (byte_at page 24) 1 (not-false (byte_at page 24 == 1) right)

-- an item is a value by itself where it has one of two kinds; else it may have the others
alone_or : (content : ℕ → Content) (kind : ℕ) (other : Bool) → IsAlone (content 1) → IsAlone (content 3) → (kind == 1 || kind == 3 || other) ≡ true
    → IsAlone (content kind) ⊎ (other ≡ true)
alone_or content kind other one three may = grind (arith, eqb-true)

-- an item of a leaf for which no row holds: another than a value by itself is data of a btree
leaf_alone : (order : Order) (page : List ℕ) (i : ℕ) → first_row (leaf_rows order page i) ≡ None
    → IsAlone (leaf_item_at order page i).content ⊎ (((byte_at page 25 == 5) ≡ true) × (i % 2 ≡ 1))
unfolding leaf_rows leaf_item_at
leaf_alone order page i none = grind (arith, alone_or, not-false, second_fails, and_parts, eqb-true)

hash_alone : (order : Order) (page : List ℕ) (i : ℕ) → first_row (hash_rows order page i) ≡ None
    → IsAlone (hash_item_at order page i).content ⊎ (i % 2 ≡ 1)
unfolding hash_rows hash_item_at
hash_alone order page i none = grind (arith, alone_or, not-false, second_fails, eqb-true, and_parts)

-- what follows of an item from its rows holds for each item of a page
each_item : (order : Order) (page : List ℕ) (t : PageType) (item_at : ℕ → Item) (P : ℕ → Item → Type 0) → listed_code order page t ≡ None
    → ((i : ℕ) → first_row (item_rows t order page i) ≡ None → P i (item_at i))
    → (i : ℕ) → i < length (listed order page item_at).items → P i (get_or (listed order page item_at).items i no_item)
unfolding listed
each_item order page t item_at P none each i below = grind (arith, length-map-range_with_len, get_or-map-range_with_len, no_item_row)

leaf_formed : (order : Order) (page : List ℕ) → listed_code order page LeafPage ≡ None → IsFormedPage (page_as order page LeafPage)
leaf_formed order page none = (
  leaf_level order page (tests order page LeafPage none).level,
  each_item order page LeafPage (leaf_item_at order page) (λ i item. IsAlone item.content ⊎ (i % 2 ≡ 1)) none (λ i row.
      elim (leaf_alone order page i row) [ inl alone ↦ inl alone | inr other ↦ inr other.1 ]),
)

-- the items of a leaf that isn't one of a btree
all_alone : (order : Order) (page : List ℕ) (t : PageType) (byte : ℕ) → byte_at page 25 ≡ byte → (byte == 5) ≡ false → listed_code order page t ≡ None
    → ((i : ℕ) → item_rows t order page i ≡ leaf_rows order page i) → AreAlone (listed order page (leaf_item_at order page)).items
all_alone order page t byte is other none rows =
    each_item order page t (leaf_item_at order page) (λ i item. IsAlone item.content) none (λ i row.
    elim (leaf_alone order page i (ap first_row (sym (rows i)) ∙ row)) [
      | inl alone ↦ alone
      | inr five ↦ absurd
          (true≢false (sym five.0 ∙ (ap (λ b. b == 5) is ∙ other)))
    ])

hash_formed : (order : Order) (page : List ℕ) (byte : ℕ) → byte_at page 25 ≡ byte → has_type (3 ∷ 4 ∷ 5 ∷ 6 ∷ 12 ∷ []) (Some byte) ≡ false
    → listed_code order page HashPage ≡ None
    → IsFormedPage (page_as order page HashPage)
unfolding listed
hash_formed order page byte is other none = (
  ap (λ b. has_type (3 ∷ 4 ∷ 5 ∷ 6 ∷ 12 ∷ []) (Some b)) is ∙ other,
  each_item order page HashPage (hash_item_at order page) (λ i item. IsAlone item.content ⊎ (i % 2 ≡ 1)) none (hash_alone order page),
)

typed_formed : (head : Head) (number : ℕ) (page : List ℕ) → typed_code head number page (page_type (byte_at page 25)) ≡ None
    → IsFormedPage (page_as head.order page (page_type (byte_at page 25)))
unfolding listed
typed_formed head number page =
    let byte : ℕ = byte_at page 25 in
    let P : PageType → Type 0 = λ t. typed_code head number page t ≡ None → IsFormedPage (page_as head.order page t) in
    if_type P (byte == 0) FreePage _ (λ is none. tt) (λ _.
    if_type P (byte == 2) HashPage _ (λ is none. hash_formed head.order page 2 (eqb-true byte 2 is) refl none) (λ _.
    if_type P (byte == 3) InternalPage _ (λ is none.
    let passed = tests head.order page InternalPage none in (
      ltb-false (byte_at page 24) 2 passed.level,
      some_items head.order page (internal_item_at head.order page) passed.entries,
      keys_are_no_trees head.order page,
    )) (λ _.
    if_type P (byte == 4) RecnoInternalPage _ (λ is none.
    let passed = tests head.order page RecnoInternalPage none in
    (ltb-false (byte_at page 24) 2 passed.level, some_items head.order page (recno_item_at head.order page) passed.entries)) (λ _.
    if_type P (byte == 5) LeafPage _ (λ is none. leaf_formed head.order page none) (λ _.
    if_type P (byte == 6) RecnoLeafPage _ (λ is none. (
      leaf_level head.order page (tests head.order page RecnoLeafPage none).level,
      all_alone head.order page RecnoLeafPage 6 (eqb-true byte 6 is) refl none (λ i. refl),
    )) (λ _.
    if_type P (byte == 7) OverflowPage _ (λ is none. tt) (λ _.
    if_type P (byte == 8) HashMetaPage _ (λ is none. tt) (λ _.
    if_type P (byte == 9) BtreeMetaPage _ (λ is none. tt) (λ _.
    if_type P (byte == 10) QueueMetaPage _ (λ is none. tt) (λ _.
    if_type P (byte == 11) QueuePage _ (λ is none. tt) (λ _.
    if_type P (byte == 12) DupLeafPage _ (λ is none. (
      leaf_level head.order page (tests head.order page DupLeafPage none).level,
      all_alone head.order page DupLeafPage 12 (eqb-true byte 12 is) refl none (λ i. refl),
    )) (λ _.
    if_type P (byte == 13) HashPage OtherPage (λ is none. hash_formed head.order page 13 (eqb-true byte 13 is) refl none) (λ _ none. tt)))))))))))))

-- a page without a fault of form
abstract_formed : (head : Head) (number : ℕ) (page : List ℕ) → form_code head number page ≡ None → IsFormedPage (abstract_page head.order page)
abstract_formed head number page none =
    elim (cases_Bool (is_zero page)) [
      | inl zeros ↦ subst IsFormedPage (sym (zero_page head.order page zeros)) tt
      | inr some ↦
          subst IsFormedPage (sym (typed_page head.order page some)) (typed_formed head number page (typed_none head number page some none))
    ]

pub formed_at : (image : List ℕ) (p : ℕ) → IsForest image → p ≤ (file_of image).last → IsFormedPage (page_at (file_of image) p)
formed_at image p forest low =
    let inside : p ≤ (head_of image).last = omega (arith, low, last_page image) in
    subst IsFormedPage (sym (page_is image p inside))
    (abstract_formed (head_of image) p (page_bytes (head_of image) image p) (formed_page image p forest.formed.form inside))

-- Queue files.

-- a page that a queue file hasn't
pub no_queue : (image : List ℕ) (head : Head) (p : ℕ) → IsFormed image head → p ≤ (file_of image).last
    → is_queue_page (page_at (file_of image) p) ≡ false
    → (file_of image).kind ≡ QueueFile → ⊥
no_queue image head p formed low other queue = true≢false (sym (queue_page image head p formed low queue) ∙ other)

-- Shapes.

-- an internal page: the pages below it, of which there are some
pub record IsInnerPage (page : Page) : Type 0 where
  pub children : List ℕ
  pub are : children_in page ≡ Some children
  pub some : 0 < length children
  pub level : 2 ≤ (header_in page).level

-- a leaf
pub record IsLeafPage (page : Page) : Type 0 where
  pub none : children_in page ≡ None
  pub level : (header_in page).level ≡ 1
  pub type : has_type (5 ∷ 6 ∷ 12 ∷ []) (type_in page) ≡ true

-- which pages have the type of a tree
abbrev pub is_tree_in : Page → Bool
is_tree_in (Internal page) = true
is_tree_in (RecnoInternal page) = true
is_tree_in (Leaf page) = true
is_tree_in (RecnoLeaf page) = true
is_tree_in (DupLeaf page) = true
is_tree_in page = false

pub tree_in : (page : Page) → IsFormedPage page → has_type (3 ∷ 4 ∷ 5 ∷ 6 ∷ 12 ∷ []) (type_in page) ≡ true → is_tree_in page ≡ true
tree_in (Hash page) formed has = absurd (true≢false (sym has ∙ formed.0))
tree_in (Meta (BtreeFields meta)) formed has = absurd cc
tree_in page formed has = cc

-- a page of a tree is an internal page or a leaf
pub tree_shape : (page : Page) → IsFormedPage page → is_tree_in page ≡ true → IsInnerPage page ⊎ IsLeafPage page
tree_shape (Internal page) formed is =
    inl (record { children = _; are = refl; some = omega (arith, formed.1, length-map page.items (λ item. item.child)); level = formed.0 })
tree_shape (RecnoInternal page) formed is =
    inl (record { children = _; are = refl; some = omega (arith, formed.1, length-map page.items (λ item. item.child)); level = formed.0 })
tree_shape (Leaf page) formed is = inr (record { none = refl; level = formed.0; type = refl })
tree_shape (RecnoLeaf page) formed is = inr (record { none = refl; level = formed.0; type = refl })
tree_shape (DupLeaf page) formed is = inr (record { none = refl; level = formed.0; type = refl })
tree_shape page formed is = absurd cc

pub leaf_shape : (page : Page) → is_tree_in page ≡ true → has_type (5 ∷ 6 ∷ 12 ∷ []) (type_in page) ≡ true → is_leaf_page page ≡ true
leaf_shape (Leaf page) is has = refl
leaf_shape page is has = cc

no_meta : (fields : Metadata) → has_type (3 ∷ 4 ∷ 5 ∷ 6 ∷ 12 ∷ []) (Some (type_of (kind_in fields))) ≡ true → ⊥
no_meta (BtreeFields meta) has = cc
no_meta fields has = cc

-- a page of a tree tells its own header
pub tree_header : (view : PageView) → has_type (3 ∷ 4 ∷ 5 ∷ 6 ∷ 12 ∷ []) (type_in (page_seen view)) ≡ true
    → header_seen view ≡ header_in (page_seen view)
tree_header (MetaView view) has = absurd (no_meta view.fields has)
tree_header view has = cc

-- a leaf that isn't one of sorted data hasn't its type
pub no_dup_leaf : (sort : Sort) (view : PageView) → is_leaf_page (page_seen view) ≡ true → sort ≡ Root
    → ((leaf : Listed Item) → view ≡ DupLeafView leaf → ⊥)
    → false ≡ has_type (wrong_leaf_types sort) (type_in (page_seen view))
no_dup_leaf Root (DupLeafView page) leaf is other = absurd (other page refl)
no_dup_leaf Root view leaf is other = cc
no_dup_leaf sort view leaf is other = absurd cc

-- nor one that isn't one of pairs theirs
pub no_pair_leaf : (sort : Sort) (view : PageView) → is_leaf_page (page_seen view) ≡ true → sort ≡ DuplicateRoot
    → ((leaf : Listed Item) → view ≡ LeafView leaf → ⊥)
    → false ≡ has_type (wrong_leaf_types sort) (type_in (page_seen view))
no_pair_leaf DuplicateRoot (LeafView page) leaf is other = absurd (other page refl)
no_pair_leaf DuplicateRoot view leaf is other = cc
no_pair_leaf sort view leaf is other = absurd cc

-- a leaf tells its own header
pub leaf_header : (view : PageView) → is_leaf_page (page_seen view) ≡ true → header_seen view ≡ header_in (page_seen view)
leaf_header (LeafView view) leaf = refl
leaf_header view leaf = cc
