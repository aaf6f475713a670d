-- A leaf that takes an entry holds one entry more.
use Rattle.std.proofs.Common.{Bool, ◌≡◌, ℕ, ◌+◌, ◌-◌, ◌<◌, ◌≤◌, true, false, List, [], ◌∷◌, ◌++◌, length, get_or, arith, refl, sym, ◌∙◌, ap, subst, inl, inr, None, length-append, ◌==◌, ◌%◌, sum_by}
use Rattle.bdb_mkleaves.proofs.Common.{cases_lt, and_left, and_right, eq-eqb, le-leb, lt-leb, ne_eqb, get_or-set_same, get_or_append_left, get_or_push, length-map, map-append, get_or-map, sum_by_push}
use Rattle.bdb_mkleaves.proofs.Common.{Order, Chain, Content, Inline, IsLeafContent, Item, Leaf, Listed, Set, Tree, Unknown, abstract_page, byte_at, four_at, index_end, is_shared_key, item_row}
use Rattle.bdb_mkleaves.proofs.Common.{leaf_bytes, leaf_item_at, listed, no_item, offset_of, pad4, page_as, page_type, index_offset, length_items, leaf_item_is, length-leaf_chain, length-leaf_inline}
use Rattle.bdb_mkleaves.proofs.Common.{length-leaf_tree, Built, bytes_of, with_page, HasPlaceOn, with_item_on, HasPlace, IsWritable, OnLeaf, extent, holds_item, CanShare, HasRoom, IsBegun}
use Rattle.bdb_mkleaves.proofs.Common.{high_free_of, page_again, page_and_item, page_and_shared, page_with, place_below, with_item, begun_stays, open_is, IsEntered, IsPlaced, is_below, is_entered}
use Rattle.bdb_mkleaves.proofs.Common.{pad-le, items_are_placed, typed, CanShareKey, CanTakeEntry, Entry, HoldsEntries, HoldsEntriesOn, entry_cost, item_cost, leaf_of, no_entry, own_entry, room_of}
use Rattle.bdb_mkleaves.proofs.Common.{shared_key, type_number, LeafType, Pairs, Records, SortedData}
use Rattle.bdb_places.specs.of_format.Terms.{entries_of}
use Rattle.bdb_places.specs.of_format.declared.pages.PageType.TheVariants.{Leaf as LeafPage}
use Rattle.bdb_pack.proofs.SharedLemmas.{begins_within, entries_are_shared}

-- What the types of leaves have in common.

pub leaf_with : (type : LeafType) (l : Listed Item) (at : ℕ) (item : Item)
    → page_with (leaf_of type l) at (OnLeaf item) ≡ leaf_of type (with_item l at at item)
leaf_with Pairs l at item = refl
leaf_with Records l at item = refl
leaf_with SortedData l at item = refl

pub leaf_extent : (type : LeafType) (n : ℕ) → extent (type_number type) n ≡ pad4 n
leaf_extent Pairs n = refl
leaf_extent Records n = refl
leaf_extent SortedData n = refl

pub leaf_holds : (type : LeafType) (item : Item) → holds_item (type_number type) (OnLeaf item) ≡ true
leaf_holds Pairs item = refl
leaf_holds Records item = refl
leaf_holds SortedData item = refl

leaf_as : (type : LeafType) (order : Order) (page : List ℕ)
    → page_as order page (page_type (type_number type)) ≡ leaf_of type (listed order page (leaf_item_at order page))
leaf_as Pairs order page = refl
leaf_as Records order page = refl
leaf_as SortedData order page = refl

some_type : (type : LeafType) → (type_number type == 0) ≡ false
some_type Pairs = refl
some_type Records = refl
some_type SortedData = refl

pub leaf_inside : (type : LeafType) (a b : Listed Item) → leaf_of type a ≡ leaf_of type b → a ≡ b
leaf_inside Pairs a b same = grind arith
leaf_inside Records a b same = grind arith
leaf_inside SortedData a b same = grind arith

-- a leaf by its bytes
pub leaf_typed : (type : LeafType) (order : Order) (page : List ℕ) → 25 < length page → byte_at page 25 ≡ type_number type
    → abstract_page order page ≡ leaf_of type (listed order page (leaf_item_at order page))
leaf_typed type order page long is = typed order page (type_number type) long (some_type type) is ∙ leaf_as type order page

pub page_is : (type : LeafType) (order : Order) (bytes : List ℕ) (p previous next : ℕ) (entries : List Entry)
    (holds : HoldsEntries type order bytes p previous next entries)
    → listed order bytes (leaf_item_at order bytes) ≡ holds.page
page_is type order bytes p previous next entries holds =
    let bounds = open_is order bytes holds.begun in
    leaf_inside type _ _ (sym (leaf_typed type order bytes (omega (arith, bounds.least)) holds.type_is) ∙ holds.is)

-- it has as many entries in its index
pub entries_held : (type : LeafType) (order : Order) (bytes : List ℕ) (p previous next : ℕ) (entries : List Entry)
    → HoldsEntries type order bytes p previous next entries → entries_of order bytes ≡ length entries
entries_held type order bytes p previous next entries holds =
    sym (length_items order bytes (leaf_item_at order bytes))
    ∙ (ap (λ (l : Listed Item). length l.items) (page_is type order bytes p previous next entries holds)
    ∙ (ap length holds.items ∙ length-map entries (λ (entry : Entry). entry.item)))

-- the bytes of a page that is written
pub bytes_with : (built : Built) (p : ℕ) (page : List ℕ) → p < length built.pages → bytes_of (with_page built p page) p ≡ page
bytes_with built p page low = get_or-set_same built.pages p page [] low

-- One item, with what is known of the page after it.

pub record TakesItem (type : LeafType) (order : Order) (page new : List ℕ) (l : Listed Item) (item : Item) : Type 0 where
  pub at : ℕ
  pub begun : IsBegun order new
  pub is : abstract_page order new ≡ leaf_of type (with_item l at at item)
  pub long : length new ≡ length page
  pub type_is : byte_at new 25 ≡ type_number type
  pub level : byte_at new 24 ≡ byte_at page 24
  pub front : (x : ℕ) → x + 4 ≤ 20 → four_at order new x ≡ four_at order page x
  pub high : high_free_of order new ≡ at
  pub place : at + item_cost order item ≡ high_free_of order page
  pub end : entries_of order new ≡ entries_of order page + 1
  pub least : 1 ≤ item_cost order item

-- an item that can be written has bytes
some_bytes : (order : Order) (content : Content) (deleted : Bool) → IsLeafContent content
    → 0 < length (leaf_bytes order (record { content = content; deleted = deleted }))
some_bytes order (Inline bytes) deleted fits = omega (arith, length-leaf_inline order bytes deleted)
some_bytes order (Tree root) deleted fits = omega (arith, length-leaf_tree order root deleted)
some_bytes order (Chain head total) deleted fits = omega (arith, length-leaf_chain order head total deleted)
some_bytes order (Set blocks) deleted fits = absurd fits
some_bytes order Unknown deleted fits = absurd fits

pub takes_item : (type : LeafType) (order : Order) (page : List ℕ) (l : Listed Item) (item : Item) → IsBegun order page
    → abstract_page order page ≡ leaf_of type l
    → byte_at page 25 ≡ type_number type → IsWritable (OnLeaf item) → HasPlace (type_number type) (entries_of order page) (OnLeaf item)
    → index_end order page + 2 + item_cost order item ≤ high_free_of order page
    → TakesItem type order page (page_and_item order page (leaf_bytes order item)) l item
takes_item type order page l item begun is type_is fits place room =
    let piece : List ℕ = leaf_bytes order item in
    let new : List ℕ = page_and_item order page piece in
    let taken : extent (byte_at page 25) (length piece) ≡ item_cost order item = ap (λ t. extent t (length piece)) type_is
    ∙ leaf_extent type (length piece) in
    let enough : HasRoom order page (length piece) = omega (arith, room, taken) in
    let holds : holds_item (byte_at page 25) (OnLeaf item) ≡ true = ap (λ t. holds_item t (OnLeaf item)) type_is ∙ leaf_holds type item in
    let there : HasPlace (byte_at page 25) (entries_of order page) (OnLeaf item) =
    subst (λ t. HasPlace t (entries_of order page) (OnLeaf item)) (sym type_is) place in
    let below : IsPlaced order page new (place_below order page (length piece)) piece = is_below order page piece (open_is order page begun) enough in
    let more : length piece ≤ item_cost order item = pad-le (length piece) in
    let some : 0 < length piece = some_bytes order item.content item.deleted fits in
    record {
      at = place_below order page (length piece);
      begun = begun_stays order page (OnLeaf item) begun holds fits there enough;
      is = items_are_placed order page (OnLeaf item) begun holds fits enough
          ∙ (ap (λ p. page_with p (place_below order page (length piece)) (OnLeaf item)) is
          ∙ leaf_with type l (place_below order page (length piece)) item);
      long = below.entry.long;
      type_is = below.entry.type ∙ type_is;
      level = below.entry.level;
      front = below.entry.low 4;
      high = below.entry.top;
      place = omega (arith, room, taken);
      end = below.entry.entries;
      least = omega (arith, more, some);
    }

-- An item that is placed below all others shares no offset.

pub at_end : {X : Type 0} (xs : List X) (x d : X) (k : ℕ) → k ≡ length xs → get_or (xs ++ (x ∷ [])) k d ≡ x
at_end xs x d k end = grind (arith, get_or_push)

-- the sharing of an earlier key doesn't see later offsets
pub shared_same : (offsets : List ℕ) (at k : ℕ) → k < length offsets → is_shared_key (offsets ++ (at ∷ [])) k ≡ is_shared_key offsets k
shared_same offsets at k low = grind (arith, get_or_append_left)

lowest_own : (offsets : List ℕ) (at k : ℕ) → k ≡ length offsets → ((i : ℕ) → i < length offsets → at < get_or offsets i 0)
    → is_shared_key (offsets ++ (at ∷ [])) k ≡ false
lowest_own offsets at k end above = grind (arith, at_end, cases_lt, and_left, and_right, lt-leb, get_or_append_left, ne_eqb)

above_more : (offsets : List ℕ) (high at : ℕ) → at ≤ high → ((k : ℕ) → k < length offsets → high ≤ get_or offsets k 0)
    → (k : ℕ) → k < length (offsets ++ (at ∷ [])) → at ≤ get_or (offsets ++ (at ∷ [])) k 0
above_more offsets high at low above k under = grind (arith, cases_lt, get_or_append_left, at_end, length-append)

-- whether entries share, after one more
shares_more : (offsets : List ℕ) (at : ℕ) (entries : List Entry) (entry : Entry) → length offsets ≡ length entries
    → ((k : ℕ) → k < length entries → is_shared_key offsets k ≡ (get_or entries k no_entry).shares)
    → is_shared_key (offsets ++ (at ∷ [])) (length entries) ≡ entry.shares
    → (k : ℕ) → k < length (entries ++ (entry ∷ [])) → is_shared_key (offsets ++ (at ∷ [])) k ≡ (get_or (entries ++ (entry ∷ [])) k no_entry).shares
shares_more offsets at entries entry long old last k under = grind (arith, cases_lt, shared_same, get_or_append_left, length-append, at_end)

pub entry_added : (type : LeafType) (order : Order) (page : List ℕ) (p previous next : ℕ) (entries : List Entry) (item : Item)
    → HoldsEntries type order page p previous next entries → IsWritable (OnLeaf item) → HasPlace (type_number type) (length entries) (OnLeaf item)
    → 2 + item_cost order item ≤ room_of order page
    → HoldsEntries type order (page_and_item order page (leaf_bytes order item)) p previous next (entries ++ (own_entry item ∷ []))
entry_added type order page p previous next entries item holds fits place room =
    let n : ℕ = length entries in
    let in_order : index_end order page ≤ high_free_of order page = holds.begun.room in
    let count : entries_of order page ≡ n = entries_held type order page p previous next entries holds in
    let there : HasPlace (type_number type) (entries_of order page) (OnLeaf item) = subst (λ k. HasPlace (type_number type) k (OnLeaf item))
    (sym count) place in
    let took = takes_item type order page holds.page item holds.begun holds.is holds.type_is fits there (omega (arith, room, in_order)) in
    let offsets : List ℕ = holds.page.offsets in
    let own : is_shared_key (offsets ++ (took.at ∷ [])) n ≡ false =
    lowest_own offsets took.at n (sym holds.offsets) (λ k under. let h = holds.above k under in omega (arith, took.place, took.least)) in
    record {
      begun = took.begun;
      type_is = took.type_is;
      level = took.level ∙ holds.level;
      number = took.front 8 (omega arith) ∙ holds.number;
      before = took.front 12 (omega arith) ∙ holds.before;
      after = took.front 16 (omega arith) ∙ holds.after;
      page = with_item holds.page took.at took.at item;
      is = took.is;
      items = ap (λ items. items ++ (item ∷ [])) holds.items ∙ sym (map-append (λ (entry : Entry). entry.item) entries (own_entry item ∷ []));
      offsets = length-append offsets (took.at ∷ []) ∙ (ap (λ k. k + 1) holds.offsets ∙ sym (length-append entries (own_entry item ∷ [])));
      above = λ k under.
          let h = above_more offsets (high_free_of order page) took.at (omega (arith, took.place)) holds.above k under in omega (arith, h, took.high);
      shares = shares_more offsets took.at entries (own_entry item) holds.offsets holds.shares own;
      room =
          let sum : sum_by (entry_cost order) (entries ++ (own_entry item ∷ [])) ≡ sum_by (entry_cost order) entries + (2 + item_cost order item) =
          sum_by_push (entry_cost order) entries (own_entry item) in
          let old : room_of order page + sum_by (entry_cost order) entries ≡ length page - 26 = holds.room in
          omega (arith, sum, old, took.end, took.high, took.place, took.long, room, in_order);
    }

-- The same in its place among the pages.

entries_same : (type other : LeafType) (order : Order) (bytes : List ℕ) (p previous next before after : ℕ) (entries others : List Entry)
    → HoldsEntries type order bytes p previous next entries → HoldsEntries other order bytes p before after others
    → (type_number type ≡ type_number other) × (length entries ≡ length others)
entries_same type other order bytes p previous next before after entries others one two = grind (arith, entries_held)

pub item_held : (old new : Built) (p : ℕ) (item : Item) → p < length old.pages → new ≡ with_item_on old p (leaf_bytes old.order item)
    → CanTakeEntry old p item
    → (type : LeafType) (previous next : ℕ) (entries : List Entry) → HoldsEntriesOn type old p previous next entries
    → HoldsEntriesOn type new p previous next (entries ++ (own_entry item ∷ []))
item_held old new p item low is can type previous next entries holds = grind (arith, entries_same, bytes_with, entry_added)

-- the page keeps its length
pub item_long : (old new : Built) (p : ℕ) (item : Item) → p < length old.pages → new ≡ with_item_on old p (leaf_bytes old.order item)
    → CanTakeEntry old p item
    → length (bytes_of new p) ≡ length (bytes_of old p)
item_long old new p item low is can =
    let page : List ℕ = bytes_of old p in
    let count = entries_held can.type old.order page p can.previous can.next can.entries can.holds in
    let place : HasPlace (type_number can.type) (entries_of old.order page) (OnLeaf item) =
    subst (λ k. HasPlace (type_number can.type) k (OnLeaf item)) (sym count) can.place in
    let in_order : index_end old.order page ≤ high_free_of old.order page = can.holds.begun.room in
    let room = can.room in
    ap (λ (b : Built). length (bytes_of b p)) is
    ∙ (ap length (bytes_with old p (page_and_item old.order page (leaf_bytes old.order item)) low)
    ∙ (takes_item can.type old.order page can.holds.page item can.holds.begun can.holds.is can.holds.type_is can.fits place
    (omega (arith, room, in_order))).long)

-- what `append_leaf` asks of the leaf
pub item_placed : (built : Built) (p : ℕ) (item : Item) → CanTakeEntry built p item → HasPlaceOn built p (OnLeaf item)
item_placed built p item can =
    let count = entries_held can.type built.order (bytes_of built p) p can.previous can.next can.entries can.holds in
    subst (λ t. HasPlace t (entries_of built.order (bytes_of built p)) (OnLeaf item)) (sym can.holds.type_is)
    (subst (λ k. HasPlace (type_number can.type) k (OnLeaf item)) (sym count) can.place)

-- A shared key.

shared_last : (offsets : List ℕ) (n : ℕ) → n ≡ length offsets → n % 2 ≡ 0 → 2 ≤ n
    → is_shared_key (offsets ++ (get_or offsets (n - 2) 0 ∷ [])) n ≡ true
shared_last offsets n end even some = grind (arith, at_end, get_or_append_left, eq-eqb, le-leb)

-- a leaf of pairs with whole pairs, one at least, and room for an entry
pub shares_key : (order : Order) (page : List ℕ) (p previous next : ℕ) (entries : List Entry) → HoldsEntries Pairs order page p previous next entries
    → length entries % 2 ≡ 0 → 2 ≤ length entries → 2 ≤ room_of order page → CanShare order page
shares_key order page p previous next entries holds even some room =
    let count = entries_held Pairs order page p previous next entries holds in
    record {
      type = holds.type_is;
      even = ap (λ k. k % 2) count ∙ even;
      some = omega (arith, count, some);
      room = omega (arith, room);
    }

key_entered : (order : Order) (page : List ℕ) (p previous next : ℕ) (entries : List Entry) → HoldsEntries Pairs order page p previous next entries
    → 2 ≤ length entries → 2 ≤ room_of order page
    → IsEntered order page (page_and_shared order page) (offset_of order page (entries_of order page - 2)) (high_free_of order page)
key_entered order page p previous next entries holds some room =
    let count : entries_of order page ≡ length entries = entries_held Pairs order page p previous next entries holds in
    let bounds = open_is order page holds.begun in
    let in_order : index_end order page ≤ high_free_of order page = holds.begun.room in
    let top : high_free_of order page ≤ length page = holds.begun.high in
    let at : ℕ = offset_of order page (entries_of order page - 2) in
    let row : item_row LeafPage order page (entries_of order page - 2) ≡ None =
    subst (λ t. item_row (page_type t) order page (entries_of order page - 2) ≡ None) holds.type_is
    (holds.begun.items (entries_of order page - 2) (omega (arith, count, some))) in
    let before : at + 3 ≤ length page = begins_within order page (entries_of order page - 2) row in
    let most = bounds.most in
    (is_entered order page at (high_free_of order page) bounds (omega (arith, room, in_order, top)) (omega (arith, before, most))
    (omega (arith, top, most))).0

pub key_added : (order : Order) (page : List ℕ) (p previous next : ℕ) (entries : List Entry) → HoldsEntries Pairs order page p previous next entries
    → length entries % 2 ≡ 0 → 2 ≤ length entries → 2 ≤ room_of order page
    → HoldsEntries Pairs order (page_and_shared order page) p previous next (entries ++ (shared_key entries ∷ []))
key_added order page p previous next entries holds even some room =
    let n : ℕ = length entries in
    let new : List ℕ = page_and_shared order page in
    let count : entries_of order page ≡ n = entries_held Pairs order page p previous next entries holds in
    let can = shares_key order page p previous next entries holds even some room in
    let in_order : index_end order page ≤ high_free_of order page = holds.begun.room in
    let law = entries_are_shared order page holds.begun can in
    let at : ℕ = offset_of order page (entries_of order page - 2) in
    let is : IsEntered order page new at (high_free_of order page) = key_entered order page p previous next entries holds some room in
    let here : listed order page (leaf_item_at order page) ≡ holds.page = page_is Pairs order page p previous next entries holds in
    let offsets : List ℕ = holds.page.offsets in
    let offset : at ≡ get_or offsets (n - 2) 0 =
    ap (λ k. offset_of order page (k - 2)) count
    ∙ (sym (index_offset order page (leaf_item_at order page) (n - 2) (omega (arith, count, some)))
    ∙ ap (λ (l : Listed Item). get_or l.offsets (n - 2) 0) here) in
    let item : leaf_item_at order page (entries_of order page - 2) ≡ (get_or entries (n - 2) no_entry).item =
    ap (λ k. leaf_item_at order page (k - 2)) count
    ∙ (sym (leaf_item_is order page (n - 2) (omega (arith, count, some)))
    ∙ (ap (λ (l : Listed Item). get_or l.items (n - 2) no_item) here
    ∙ (ap (λ items. get_or items (n - 2) no_item) holds.items
    ∙ get_or-map (λ (entry : Entry). entry.item) entries (n - 2) no_entry no_item (omega (arith, some))))) in
    let shares : is_shared_key (offsets ++ (at ∷ [])) n ≡ true =
    ap (λ k. is_shared_key (offsets ++ (k ∷ [])) n) offset ∙ shared_last offsets n (sym holds.offsets) even some in
    record {
      begun = law.1;
      type_is = is.type ∙ holds.type_is;
      level = is.level ∙ holds.level;
      number = is.low 4 8 (omega arith) ∙ holds.number;
      before = is.low 4 12 (omega arith) ∙ holds.before;
      after = is.low 4 16 (omega arith) ∙ holds.after;
      page = with_item holds.page at (high_free_of order page) (get_or entries (n - 2) no_entry).item;
      is = law.0
          ∙ (ap (λ l. page_again l at (high_free_of order page) (leaf_item_at order page (entries_of order page - 2))) holds.is
          ∙ ap (λ i. Leaf (with_item holds.page at (high_free_of order page) i)) item);
      items = ap (λ items. items ++ ((get_or entries (n - 2) no_entry).item ∷ [])) holds.items
          ∙ sym (map-append (λ (entry : Entry). entry.item) entries (shared_key entries ∷ []));
      offsets = length-append offsets (at ∷ []) ∙ (ap (λ k. k + 1) holds.offsets ∙ sym (length-append entries (shared_key entries ∷ [])));
      above = λ k under.
          elim (cases_lt k (length offsets)) [
            | inl below ↦
                let old : get_or (offsets ++ (at ∷ [])) k 0 ≡ get_or offsets k 0 = get_or_append_left offsets (at ∷ []) 0 k below in
                let h = holds.above k below in omega (arith, old, h, is.top)
            | inr over ↦
                let now : get_or (offsets ++ (at ∷ [])) k 0 ≡ at = at_end offsets at 0 k
                (omega (arith, length-append offsets (at ∷ []), under, over)) in
                let up : high_free_of order page ≤ at = holds.begun.above (entries_of order page - 2) (omega (arith, count, some)) in
                omega (arith, now, up, is.top)
          ];
      shares = shares_more offsets at entries (shared_key entries) holds.offsets holds.shares shares;
      room =
          let sum : sum_by (entry_cost order) (entries ++ (shared_key entries ∷ [])) ≡ sum_by (entry_cost order) entries + 2 =
          sum_by_push (entry_cost order) entries (shared_key entries) in
          let old : room_of order page + sum_by (entry_cost order) entries ≡ length page - 26 = holds.room in
          omega (arith, sum, old, is.entries, is.top, is.long, room, in_order);
    }

-- what `append_shared` asks of the leaf
pub key_placed : (built : Built) (p : ℕ) → CanShareKey built p → CanShare built.order (bytes_of built p)
key_placed built p can = shares_key built.order (bytes_of built p) p can.previous can.next can.entries can.holds can.even can.some can.room

pub key_held : (old new : Built) (p : ℕ) → p < length old.pages → new ≡ with_page old p (page_and_shared old.order (bytes_of old p))
    → CanShareKey old p
    → (previous next : ℕ) (entries : List Entry) → HoldsEntriesOn Pairs old p previous next entries
    → HoldsEntriesOn Pairs new p previous next (entries ++ (shared_key entries ∷ []))
key_held old new p low is can previous next entries holds = grind (arith, entries_same, bytes_with, key_added)

pub key_long : (old new : Built) (p : ℕ) → p < length old.pages → new ≡ with_page old p (page_and_shared old.order (bytes_of old p))
    → CanShareKey old p
    → length (bytes_of new p) ≡ length (bytes_of old p)
key_long old new p low is can =
    let page : List ℕ = bytes_of old p in
    ap (λ (b : Built). length (bytes_of b p)) is
    ∙ (ap length (bytes_with old p (page_and_shared old.order page) low)
    ∙ (key_entered old.order page p can.previous can.next can.entries can.holds can.some can.room).long)
