-- Keys of leaves, and an internal page that takes a child or has no room for it, or is started with one.
use Rattle.std.proofs.Common.{◌≡◌, ℕ, ◌+◌, ◌-◌, ◌<◌, ◌≤◌, true, false, List, [], ◌∷◌, ◌++◌, length, get_or, replicate, Option, Some, None, arith, refl, sym}
use Rattle.std.proofs.Common.{◌∙◌, ap, subst, inl, inr, length-set, length-append, option_map, Contains}
use Rattle.bdb_mkleaves.proofs.Common.{cases_eq, leb-false, leb-true, get_or-set_other, get_or_append_left, get_or_push, length-replicate, Order, RecnoItem, Chain, Content, Inline, InternalItem, Item}
use Rattle.bdb_mkleaves.proofs.Common.{Listed, Set, Tree, Unknown, byte_at, first_row, header_bytes, index_end, is_page_size, item_code, item_row, leaf_item_at, leaf_rows, no_item, pad4, page_type}
use Rattle.bdb_mkleaves.proofs.Common.{first_member, member_cases, no_member, length-overwritten, leaf_item_is, size_bounds, InnerType, Keyed, Numbered, Node, keyed_item, numbered_item, key_heads}
use Rattle.bdb_mkleaves.proofs.Common.{AreWhole, Built, bytes_of, with_page, with_zeros, IsWritable, PageItem, extent, item_bytes, HasRoomOn, has_room_on, with_item_on, HasRoom, begun_header}
use Rattle.bdb_mkleaves.proofs.Common.{high_free_of, page_and_item, length-header, open_is, is_below, CanTakeChild, CountsFew, HoldsChildren, HoldsChildrenOn, added_key, child_cost, child_item}
use Rattle.bdb_mkleaves.proofs.Common.{inner_header, inner_number, with_inner, Entry, HoldsEntries, room_of, type_number, BeginsWithKey, HasKey, IsStarted, TakesNode, KeyStandsOn, LacksRoom, heads_of}
use Rattle.bdb_mkleaves.proofs.Common.{raising, stored_heads, stored_key, LeafType, Pairs, Records, SortedData, Child}
use Rattle.bdb_places.specs.of_format.declared.pages.ItemFault.{ItemFault}
use Rattle.bdb_places.specs.of_format.Terms.{entries_of}
use Rattle.bdb_pack.specs.declared.values.Stored.{Stored}
use Rattle.bdb_pack.specs.declared.values.Stored.TheVariants.{Inline as OnPage, Chain as InChain}
use Rattle.bdb_mkleaves.proofs.EntryLemmas.{bytes_with, entries_held, page_is}
use Rattle.bdb_mkleaves.proofs.InnerLemmas.{HasShape, ShapeOf, first_cost_is, inner_extent, item_cost_is}
use Rattle.bdb_mkleaves.proofs.LevelHeadLemmas.{raising_count, raising_few, raising_order, raising_other, raising_size, raising_whole}

-- The first item of a leaf.

none_of : (o : Option ItemFault) → option_map item_code o ≡ None → o ≡ None
none_of None none = refl
none_of (Some fault) none = cc

leaf_row_none : (type : LeafType) (order : Order) (bytes : List ℕ) (index : ℕ) → item_row (page_type (type_number type)) order bytes index ≡ None
    → first_row (leaf_rows order bytes index) ≡ None
leaf_row_none Pairs order bytes index none = none_of (first_row (leaf_rows order bytes index)) none
leaf_row_none Records order bytes index none = none_of (first_row (leaf_rows order bytes index)) none
leaf_row_none SortedData order bytes index none = none_of (first_row (leaf_rows order bytes index)) none

pub record BeginsSo (built : Built) (leaf : ℕ) (key : Content) : Type 0 where
  pub some : 0 < entries_of built.order (bytes_of built leaf)
  pub sound : first_row (leaf_rows built.order (bytes_of built leaf) 0) ≡ None
  pub content : (leaf_item_at built.order (bytes_of built leaf) 0).content ≡ key

pub begins_so : (built : Built) (leaf : ℕ) (key : Content) → BeginsWithKey built leaf key → BeginsSo built leaf key
begins_so built leaf key begins =
    let order : Order = built.order in
    let bytes : List ℕ = bytes_of built leaf in
    let all : List Entry = begins.first ∷ begins.entries in
    let count : entries_of order bytes ≡ length all = entries_held begins.type order bytes leaf begins.previous begins.next all begins.holds in
    let some : 0 < entries_of order bytes = omega (arith, count) in
    let listed = page_is begins.type order bytes leaf begins.previous begins.next all begins.holds in
    record {
      some = some;
      sound = leaf_row_none begins.type order bytes 0
          (subst (λ t. item_row (page_type t) order bytes 0 ≡ None) begins.holds.type_is (begins.holds.begun.items 0 some));
      content = ap (λ (i : Item). i.content) (sym (leaf_item_is order bytes 0 some)
          ∙ (ap (λ (l : Listed Item). get_or l.items 0 no_item) listed ∙ ap (λ (items : List Item). get_or items 0 no_item) begins.holds.items))
          ∙ begins.key_is;
    }

pub row_read : (built : Built) (leaf : ℕ) (key : Content) (order : Order) (bytes : List ℕ) → BeginsWithKey built leaf key → order ≡ built.order
    → bytes ≡ bytes_of built leaf → first_row (leaf_rows order bytes 0) ≡ None
row_read built leaf key order bytes begins ordered lent =
    ap (λ o. first_row (leaf_rows o bytes 0)) ordered
    ∙ (ap (λ bs. first_row (leaf_rows built.order bs 0)) lent ∙ (begins_so built leaf key begins).sound)

pub key_read : (built : Built) (leaf : ℕ) (key : Content) (order : Order) (bytes : List ℕ) (item : Item) → BeginsWithKey built leaf key → order
    ≡ built.order
    → bytes ≡ bytes_of built leaf → item ≡ leaf_item_at order bytes 0 → item.content ≡ key
key_read built leaf key order bytes item begins ordered lent read =
    ap (λ (i : Item). i.content) (read ∙ (ap (λ o. leaf_item_at o bytes 0) ordered ∙ ap (λ bs. leaf_item_at built.order bs 0) lent))
    ∙ (begins_so built leaf key begins).content

pub no_tree : (built : Built) (root : ℕ) (key : Content) → Tree root ≡ key → KeyStandsOn built key → ⊥
no_tree built root key is stands = subst (KeyStandsOn built) (sym is) stands

-- The item of a child.

pub numbered_same : (child : Child) (node : Node) → node.page ≡ child.page → node.count ≡ child.count
    → let item : RecnoItem = record { child = child.page; count = child.count } in item ≡ numbered_item node
numbered_same child node page count = rw (page, count) refl

pub keyed_same : (child : Child) (node : Node) (key : Content) → node.page ≡ child.page → node.count ≡ child.count
    → let item : InternalItem = record { child = child.page; count = child.count; key = key } in item ≡ keyed_item key node
keyed_same child node key page count = rw (page, count) refl

pub added_later : (nodes : List Node) (node : Node) → 0 < length nodes → added_key nodes node ≡ node.key
added_later [] node some = absurd (omega (arith, some))
added_later (other ∷ others) node some = refl

-- Keys whose chains count few references.

abbrev pub HeadsFew : Built → List ℕ → Type 0
HeadsFew built hs = (h : ℕ) → Contains hs h → (h < length built.pages) × CountsFew built.order (bytes_of built h)

pub stored_heads_are : (stored : Stored) (bytes : List ℕ) → stored_heads stored ≡ key_heads (stored_key stored bytes)
stored_heads_are OnPage bytes = refl
stored_heads_are (InChain head total) bytes = refl

key_heads_few : (built : Built) (key : Content) → KeyStandsOn built key → HeadsFew built (key_heads key)
key_heads_few built (Inline bytes) stands = λ h at. absurd (no_member [] h refl at)
key_heads_few built (Chain head total) stands = λ h at.
    elim (member_cases head [] h at) [
      | inl here ↦ subst (λ k. (k < length built.pages) × CountsFew built.order (bytes_of built k)) here stands
      | inr later ↦ absurd (no_member [] h refl later)
    ]
key_heads_few built (Set blocks) stands = absurd stands
key_heads_few built (Tree root) stands = absurd stands
key_heads_few built Unknown stands = absurd stands

pub heads_few : (inner : InnerType) (built : Built) (leaf : ℕ) (node : Node) → HasKey inner built leaf node.key → HeadsFew built (heads_of inner node)
heads_few Keyed built leaf node begins = key_heads_few built node.key begins.stands
heads_few Numbered built leaf node none = λ h at. absurd (no_member [] h refl at)

key_shape : (built : Built) (key : Content) → KeyStandsOn built key → HasShape key
key_shape built (Inline bytes) stands = tt
key_shape built (Chain head total) stands = tt
key_shape built (Set blocks) stands = stands
key_shape built (Tree root) stands = stands
key_shape built Unknown stands = stands

pub has_shape : (inner : InnerType) (built : Built) (leaf : ℕ) (node : Node) → HasKey inner built leaf node.key → ShapeOf inner node
has_shape Keyed built leaf node begins = key_shape built node.key begins.stands
has_shape Numbered built leaf node none = tt

pub head_there : (built : Built) (stored : Stored) (bytes : List ℕ) (key : Content) (head : ℕ) → KeyStandsOn built key → stored_key stored bytes ≡ key
    → stored_heads stored ≡ head ∷ [] → head < length built.pages
head_there built stored bytes key head stands is named =
    let one : key_heads key ≡ head ∷ [] = ap key_heads (sym is) ∙ (sym (stored_heads_are stored bytes) ∙ named) in
    (key_heads_few built key stands head (subst (λ hs. Contains hs head) (sym one) (first_member head []))).0

-- Pages of which some heads of chains count two references.

pub record Keeps (old now : Built) (hs : List ℕ) : Type 0 where
  pub order : now.order ≡ old.order
  pub grows : length old.pages ≤ length now.pages
  pub same : (q : ℕ) → q < length old.pages → bytes_of now q ≡ bytes_of (raising old hs) q
  pub few : HeadsFew old hs

pub raising_keeps : (old : Built) (hs : List ℕ) → HeadsFew old hs → Keeps old (raising old hs) hs
raising_keeps old hs few = record {
  order = raising_order old hs;
  grows = omega (arith, raising_count old hs);
  same = λ q low. refl;
  few = few;
}

pub keeps_raised : (old now : Built) (stored : Stored) (bytes : List ℕ) (key : Content) → KeyStandsOn old key → stored_key stored bytes ≡ key
    → now ≡ raising old (stored_heads stored) → Keeps old now (stored_heads stored)
keeps_raised old now stored bytes key stands is raises =
    subst (λ (b : Built). Keeps old b (stored_heads stored)) (sym raises)
    (raising_keeps old (stored_heads stored)
    (subst (HeadsFew old) (ap key_heads (sym is) ∙ sym (stored_heads_are stored bytes)) (key_heads_few old key stands)))

other_kept : (old now : Built) (hs : List ℕ) (q : ℕ) → Keeps old now hs → q < length old.pages → (byte_at (bytes_of old q) 25 ≡ 7 → ⊥)
    → bytes_of now q ≡ bytes_of old q
other_kept old now hs q keeps low other = keeps.same q low ∙ raising_other old hs q (λ at. other (keeps.few q at).1.type_is)

few_kept : (old now : Built) (hs : List ℕ) (q : ℕ) → Keeps old now hs → q < length old.pages → CountsFew old.order (bytes_of old q)
    → CountsFew now.order (bytes_of now q)
few_kept old now hs q keeps low few =
    subst (λ o. CountsFew o (bytes_of now q)) (sym keeps.order) (subst (CountsFew old.order) (sym (keeps.same q low)) (raising_few old hs q low few))

stands_kept : (old now : Built) (hs : List ℕ) (key : Content) → Keeps old now hs → KeyStandsOn old key → KeyStandsOn now key
stands_kept old now hs (Inline bytes) keeps stands = tt
stands_kept old now hs (Chain head total) keeps stands =
    let low = stands.0 in
    let grows = keeps.grows in (omega (arith, low, grows), few_kept old now hs head keeps low stands.1)
stands_kept old now hs (Set blocks) keeps stands = stands
stands_kept old now hs (Tree root) keeps stands = stands
stands_kept old now hs Unknown keeps stands = stands

no_chain : (type : LeafType) (byte : ℕ) → byte ≡ type_number type → byte ≡ 7 → ⊥
no_chain Pairs byte is seven = omega (arith, is, seven)
no_chain Records byte is seven = omega (arith, is, seven)
no_chain SortedData byte is seven = omega (arith, is, seven)

no_inner_chain : (inner : InnerType) (byte : ℕ) → byte ≡ inner_number inner → byte ≡ 7 → ⊥
no_inner_chain Keyed byte is seven = omega (arith, is, seven)
no_inner_chain Numbered byte is seven = omega (arith, is, seven)

pub key_kept : (inner : InnerType) (old now : Built) (hs : List ℕ) (leaf : ℕ) (key : Content) → Keeps old now hs → HasKey inner old leaf key
    → HasKey inner now leaf key
key_kept Keyed old now hs leaf key keeps begins =
    let there = begins.there in
    let grows = keeps.grows in
    let stays : bytes_of now leaf ≡ bytes_of old leaf =
    other_kept old now hs leaf keeps there (no_chain begins.type (byte_at (bytes_of old leaf) 25) begins.holds.type_is) in
    record {
      type = begins.type;
      previous = begins.previous;
      next = begins.next;
      first = begins.first;
      entries = begins.entries;
      there = omega (arith, there, grows);
      holds = subst (λ o. HoldsEntries begins.type o (bytes_of now leaf) leaf begins.previous begins.next (begins.first ∷ begins.entries))
          (sym keeps.order)
          (subst (λ bs. HoldsEntries begins.type old.order bs leaf begins.previous begins.next (begins.first ∷ begins.entries)) (sym stays)
          begins.holds);
      key_is = begins.key_is;
      stands = stands_kept old now hs key keeps begins.stands;
    }
key_kept Numbered old now hs leaf key keeps none = tt

pub holds_kept : (inner : InnerType) (old now : Built) (hs : List ℕ) (p level : ℕ) (nodes : List Node) → Keeps old now hs → p < length old.pages
    → HoldsChildrenOn inner old p level nodes → (bytes_of now p ≡ bytes_of old p) × HoldsChildrenOn inner now p level nodes
holds_kept inner old now hs p level nodes keeps low holds =
    let stays : bytes_of now p ≡ bytes_of old p = other_kept old now hs p keeps low (no_inner_chain inner (byte_at (bytes_of old p) 25) holds.type_is)
    in (
      stays,
      subst (λ o. HoldsChildren inner o (bytes_of now p) p level nodes) (sym keeps.order)
          (subst (λ bs. HoldsChildren inner old.order bs p level nodes) (sym stays) holds),
    )

-- A page takes a child.

whole_with : (b : Built) (p : ℕ) (page : List ℕ) → AreWhole b → length page ≡ b.size → AreWhole (with_page b p page)
whole_with b p page whole long = λ q under.
    let low : q < length b.pages = omega (arith, under, length-set b.pages p page) in
    elim (cases_eq q p) [
      | inl same ↦ ap length (ap (bytes_of (with_page b p page)) same ∙ bytes_with b p page (omega (arith, low, same))) ∙ long
      | inr other ↦ ap length (get_or-set_other b.pages p q page [] other) ∙ whole q low
    ]

pub taken : (inner : InnerType) (old mid new : Built) (p level : ℕ) (nodes : List Node) (node : Node) (item : PageItem) → is_page_size old.size ≡ true
    → AreWhole old
    → p < length old.pages → HoldsChildrenOn inner old p level nodes → HeadsFew old (heads_of inner node) → mid ≡ raising old (heads_of inner node)
    → new ≡ with_item_on mid p (item_bytes mid.order item) → HasRoomOn mid p (item_bytes mid.order item)
    → (HoldsChildrenOn inner mid p level nodes → HoldsChildrenOn inner new p level (nodes ++ (node ∷ []))) → TakesNode inner level old new p nodes node
taken inner old mid new p level nodes node item legal whole low holds few raises is room more =
    let hs : List ℕ = heads_of inner node in
    let piece : List ℕ = item_bytes mid.order item in
    let page : List ℕ = page_and_item mid.order (bytes_of mid p) piece in
    let sizes = size_bounds old.size legal in
    let count : length mid.pages ≡ length old.pages = ap (λ (b : Built). length b.pages) raises ∙ raising_count old hs in
    let size : mid.size ≡ old.size = ap (λ (b : Built). b.size) raises ∙ raising_size old hs in
    let held : HoldsChildrenOn inner mid p level nodes =
    subst (λ (b : Built). HoldsChildrenOn inner b p level nodes) (sym raises)
    (holds_kept inner old (raising old hs) hs p level nodes (raising_keeps old hs few) low holds).1 in
    let mid_whole : AreWhole mid = subst AreWhole (sym raises) (raising_whole old hs (omega (arith, sizes.0)) whole) in
    let long : length page ≡ mid.size =
    (is_below mid.order (bytes_of mid p) piece (open_is mid.order (bytes_of mid p) held.begun) room).entry.long
    ∙ mid_whole p (omega (arith, low, count)) in
    record {
      size = ap (λ (b : Built). b.size) is ∙ size;
      order = ap (λ (b : Built). b.order) is ∙ (ap (λ (b : Built). b.order) raises ∙ raising_order old hs);
      whole = subst AreWhole (sym is) (whole_with mid p page mid_whole long);
      count = ap (λ (b : Built). length b.pages) is ∙ (length-set mid.pages p page ∙ count);
      same = λ q other. ap (λ (b : Built). bytes_of b q) is ∙ (get_or-set_other mid.pages p q page [] other
          ∙ ap (λ (b : Built). bytes_of b q) raises);
      holds = more held;
    }

-- or has no room for it
pub lacks : (inner : InnerType) (built : Built) (p level : ℕ) (nodes : List Node) (node : Node) → HoldsChildrenOn inner built p level nodes
    → 0 < length nodes
    → ShapeOf inner node → has_room_on built p (item_bytes built.order (child_item inner node.key node)) ≡ false → LacksRoom inner built p node
lacks inner built p level [] node holds some shape full = absurd (omega (arith, some))
lacks inner built p level (other ∷ others) node holds some shape full =
    let piece : List ℕ = item_bytes built.order (child_item inner node.key node) in
    let bytes : List ℕ = bytes_of built p in
    let cost : 2 + pad4 (length piece) ≡ child_cost inner node = item_cost_is inner built.order node shape in
    let taken : extent (byte_at bytes 25) (length piece) ≡ pad4 (length piece) =
    ap (λ t. extent t (length piece)) holds.type_is ∙ inner_extent inner (length piece) in
    let over : high_free_of built.order bytes < index_end built.order bytes + 2 + extent (byte_at bytes 25) (length piece) = leb-false _ _ full in
    let in_order : index_end built.order bytes ≤ high_free_of built.order bytes = holds.begun.room in
    omega (arith, cost, taken, over, in_order)

-- what `append_child` and `append_count` ask
pub can_take : (inner : InnerType) (old mid : Built) (hs : List ℕ) (p level : ℕ) (nodes : List Node) (item : PageItem) → Keeps old mid hs
    → p < length old.pages
    → HoldsChildrenOn inner old p level nodes → IsWritable item → has_room_on old p (item_bytes old.order item) ≡ true → CanTakeChild inner mid p item
can_take inner old mid hs p level nodes item keeps low holds fits room =
    let kept = holds_kept inner old mid hs p level nodes keeps low holds in
    let has : HasRoomOn old p (item_bytes old.order item) = leb-true _ _ room in
    record {
      level = level;
      nodes = nodes;
      holds = kept.1;
      fits = fits;
      room = subst (λ o. HasRoom o (bytes_of mid p) (length (item_bytes o item))) (sym keeps.order)
          (subst (λ bs. HasRoom old.order bs (length (item_bytes old.order item))) (sym kept.0) has);
    }

-- A page is started with a child.

pub can_start : (inner : InnerType) (built : Built) (p level : ℕ) (node : Node) → HoldsChildrenOn inner built p level []
    → IsWritable (child_item inner (Inline []) node) → CanTakeChild inner built p (child_item inner (Inline []) node)
can_start inner built p level node holds fits =
    let piece : List ℕ = item_bytes built.order (child_item inner (Inline []) node) in
    let bytes : List ℕ = bytes_of built p in
    let taken : extent (byte_at bytes 25) (length piece) ≡ pad4 (length piece) =
    ap (λ t. extent t (length piece)) holds.type_is ∙ inner_extent inner (length piece) in
    let cost : 2 + pad4 (length piece) ≤ 14 = first_least inner built.order node in
    let room : room_of built.order bytes + 0 ≡ length bytes - 26 = holds.room in
    let sizes = size_bounds (length bytes) holds.begun.size in
    record {
      level = level;
      nodes = [];
      holds = holds;
      fits = fits;
      room = omega (arith, taken, cost, room, sizes.0);
    }
  where
    first_least : (inner : InnerType) (order : Order) (node : Node) → 2 + pad4 (length (item_bytes order (child_item inner (Inline []) node))) ≤ 14
    first_least Keyed order node =
        let e : 2 + pad4 (length (item_bytes order (child_item Keyed (Inline []) node))) ≡ 14 = first_cost_is Keyed order node in omega (arith, e)
    first_least Numbered order node =
        let e : 2 + pad4 (length (item_bytes order (child_item Numbered (Inline []) node)))
        ≡ 10 = first_cost_is Numbered order node in omega (arith, e)

pub started : (inner : InnerType) (old fresh new : Built) (p level : ℕ) (node : Node) (item : PageItem) → is_page_size old.size ≡ true → AreWhole old
    → p ≡ length old.pages → fresh ≡ with_inner inner old level → new ≡ with_item_on fresh p (item_bytes fresh.order item)
    → CanTakeChild inner fresh p item → HoldsChildrenOn inner new p level (node ∷ []) → IsStarted inner level old new p node
started inner old fresh new p level node item legal whole at_end adds is can holds =
    let n : ℕ = length old.pages in
    let blank : List ℕ = bytes_of (with_zeros old) n in
    let zero : blank ≡ replicate old.size 0 = get_or_push old.pages (replicate old.size 0) [] n refl in
    let blank_long : length blank ≡ old.size = ap length zero ∙ length-replicate old.size 0 in
    let sizes = size_bounds old.size legal in
    let more : length (with_zeros old).pages ≡ n + 1 = length-append old.pages (replicate old.size 0 ∷ []) in
    let zeros_whole : AreWhole (with_zeros old) = λ q under.
    elim (cases_eq q n) [
      | inl same ↦ ap (λ k. length (bytes_of (with_zeros old) k)) same ∙ blank_long
      | inr other ↦
          let low : q < n = omega (arith, under, more, other) in
          ap length (get_or_append_left old.pages (replicate old.size 0 ∷ []) [] q low) ∙ whole q low
    ] in
    let begun_long = length-overwritten blank 0 (header_bytes old.order (begun_header blank (inner_header inner n level)))
    (omega (arith, length-header old.order (begun_header blank (inner_header inner n level)), sizes.0, blank_long)) in
    let fresh_whole : AreWhole fresh =
    subst AreWhole (sym adds) (whole_with (with_zeros old) n _ zeros_whole (begun_long ∙ blank_long)) in
    let count : length fresh.pages ≡ n + 1 = ap (λ (b : Built). length b.pages) adds ∙ (length-set (with_zeros old).pages n _ ∙ more) in
    let piece : List ℕ = item_bytes fresh.order item in
    let page : List ℕ = page_and_item fresh.order (bytes_of fresh p) piece in
    let long : length page ≡ fresh.size =
    (is_below fresh.order (bytes_of fresh p) piece (open_is fresh.order (bytes_of fresh p) can.holds.begun) can.room).entry.long
    ∙ fresh_whole p (omega (arith, at_end, count)) in
    record {
      number = at_end;
      size = ap (λ (b : Built). b.size) is ∙ ap (λ (b : Built). b.size) adds;
      order = ap (λ (b : Built). b.order) is ∙ ap (λ (b : Built). b.order) adds;
      whole = subst AreWhole (sym is) (whole_with fresh p page fresh_whole long);
      count = ap (λ (b : Built). length b.pages) is ∙ (length-set fresh.pages p page ∙ count);
      same = λ q low.
          ap (λ (b : Built). bytes_of b q) is
          ∙ (get_or-set_other fresh.pages p q page [] (λ same. omega (arith, same, low, at_end))
          ∙ (ap (λ (b : Built). bytes_of b q) adds
          ∙ (get_or-set_other (with_zeros old).pages n q _ [] (λ same. omega (arith, same, low))
          ∙ get_or_append_left old.pages (replicate old.size 0 ∷ []) [] q low)));
      holds = holds;
    }
