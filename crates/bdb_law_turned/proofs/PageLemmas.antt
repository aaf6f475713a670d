-- Each page, byte-swapped, is the same page in the other order.
use Rattle.std.proofs.Common.{◌≡◌, ◌∙◌, ℕ, zero, suc, ◌+◌, ◌*◌, ◌<◌, ◌≤◌, List, [], ◌∷◌, ◌++◌, length, drop, take, refl, sym, ap, subst, arith}
use Rattle.std.specs.Prelude.{cond, not, nat_lt, ◌&&◌, ◌==◌, Bool, true, false, Option, Some, None}
use Rattle.std.proofs.lemmas.Bool.Decides.{nat_tests}
use Rattle.std.proofs.lemmas.List.{ext_get_or}
use Rattle.bdb_graph.proofs.of_format.MemberLemmas.{no_member}
use Rattle.bdb_graph.proofs.of_format.SizeLemmas.{size_bounds}
use Rattle.bdb_graph.proofs.of_format.ItemLemmas.{IsIndexed, index_passes, no_index_row, no_item_row}
use Rattle.bdb_graph.specs.of_format.declared.kinds.Order.{Order}
use Rattle.bdb_graph.specs.of_format.declared.metadata.Head.{Head}
use Rattle.bdb_graph.specs.of_format.declared.metadata.FileKind.{FileKind}
use Rattle.bdb_graph.specs.of_format.declared.metadata.FileKind.TheVariants.{Btree, Hash as HashFile, Queue as QueueFile}
use Rattle.bdb_graph.specs.of_format.declared.pages.Header.{Header}
use Rattle.bdb_graph.specs.of_format.declared.pages.RecnoItem.{RecnoItem}
use Rattle.bdb_graph.specs.of_format.Terms.{BtreeFields, DupLeaf, Free, Hash, HashFields, Internal, InternalItem, Item, Leaf, Meta, Metadata, Overflow, Page}
use Rattle.bdb_graph.specs.of_format.Terms.{Queue, QueueFields, RecnoInternal, RecnoLeaf, Row, Zero, abstract_page, body_code, btree_fields, byte_at}
use Rattle.bdb_graph.specs.of_format.Terms.{entries_of, first_row, form_code, four_at, hash_fields as table_fields, hash_item_at, header_of, internal_item_at}
use Rattle.bdb_graph.specs.of_format.Terms.{is_page_size, is_queue, is_queue_type, is_tree_type, is_zero, item_rows, kind_rows, leaf_item_at, listed}
use Rattle.bdb_graph.specs.of_format.Terms.{listed_code, may_have_type, meta_rows, no_item, page_as, page_type, queue_fields, recno_item_at, turned, two_at}
use Rattle.bdb_graph.specs.of_format.Terms.{type_of, typed_code, ◌:?◌}
use Rattle.bdb_graph.specs.of_format.declared.pages.PageType.{PageType}
use Rattle.bdb_graph.specs.of_format.declared.pages.PageType.TheVariants.{Free as FreePage, Hash as HashPage, Internal as InternalPage}
use Rattle.bdb_graph.specs.of_format.declared.pages.PageType.TheVariants.{RecnoInternal as RecnoInternalPage, Leaf as LeafPage, RecnoLeaf as RecnoLeafPage}
use Rattle.bdb_graph.specs.of_format.declared.pages.PageType.TheVariants.{Overflow as OverflowPage, HashMeta as HashMetaPage, BtreeMeta as BtreeMetaPage}
use Rattle.bdb_graph.specs.of_format.declared.pages.PageType.TheVariants.{QueueMeta as QueueMetaPage, Queue as QueuePage, DupLeaf as DupLeafPage}
use Rattle.bdb_graph.specs.of_format.declared.pages.PageType.TheVariants.{Other as OtherPage}
use Rattle.bdb_graph.proofs.of_image.CodeLemmas.{code_by, not_zero}
use Rattle.bdb_graph.proofs.of_format.TypeLemmas.{one_type}
use Rattle.bdb_graph.proofs.of_format.PageLemmas.{later_type}
use Rattle.std.proofs.lemmas.Bool.{eqb-true, lt-ltb}
use Rattle.bdb_law_turned.specs.Fields.{Field, field, fields_of, fours, hash_fields, header_fields, internal_fields, leaf_fields, listed_fields, no_internal}
use Rattle.bdb_law_turned.specs.Fields.{no_recno, recno_fields}
use Rattle.bdb_law_turned.specs.Laws.{PagesTurnRound, TurnsRound, turned_head}
use Rattle.bdb_graph.specs.of_form.Ends.{internal_item_end, leaf_item_end}
use Rattle.bdb_law_turned.specs.Overlaps.{listed_overlap, overlaps}
use Rattle.bdb_law_turned.specs.Apart.{AreApart, IsUntouched, LieWithin}
use Rattle.bdb_law_turned.specs.Turning.{turned_page, turned_round}
use Rattle.bdb_law_turned.proofs.PlaceLemmas.{get_or-turned_round, length-turned_round, mirror-outside}
use Rattle.bdb_law_turned.proofs.ReadLemmas.{IsTurned, number_same, rest_same, turned_is, turned_twice, zero_same}
use Rattle.bdb_law_turned.proofs.ApartLemmas.{Between, apart_between, bounds, untouched_past}
use Rattle.bdb_law_turned.proofs.ListedLemmas.{ArePlaced, all_fields, header_same, in_header, listed_fields_are, listed_same, placed_apart, placed_within}
use Rattle.bdb_law_turned.proofs.ListedLemmas.{rows_same, untouched_in_header, header_between}
use Rattle.bdb_law_turned.proofs.LeafLemmas.{IsLeaf, LeafTurned, leaf_all, leaf_high, leaf_low, leaf_part, leaf_placed, leaf_turned}
use Rattle.bdb_law_turned.proofs.HashLemmas.{IsHash, HashTurned, hash_all, hash_high, hash_low, hash_part, hash_placed}
use Rattle.bdb_law_turned.proofs.HashLemmas.{hash_turned, item_same as hash_item_same}
use Rattle.bdb_law_turned.proofs.HashLemmas.{item_rows_same as hash_rows_same}
use Rattle.bdb_law_turned.proofs.InnerLemmas.{IsInternal, InternalTurned, IsRecno, RecnoTurned, internal_all, internal_high, internal_low, internal_part}
use Rattle.bdb_law_turned.proofs.InnerLemmas.{internal_placed, internal_turned, item_same as inner_item_same, item_rows_same as inner_rows_same, recno_all}
use Rattle.bdb_law_turned.proofs.InnerLemmas.{recno_high, recno_low, recno_part, recno_placed, recno_rows_same, recno_same, recno_turned}
use Rattle.bdb_law_turned.proofs.PlainLemmas.{CommonSame, btree_rows_same, btree_same, common_rows_same, common_same, fours_between, meta_all, meta_between}
use Rattle.bdb_law_turned.proofs.PlainLemmas.{queue_rows_same, queue_same, table_rows_same, table_same}
use Rattle.bdb_graph.proofs.of_format.GraphLemmas.{typed_page, zero_page}

-- what the other order says of a page of a type
pub record TypeTurned (head : Head) (p : ℕ) (page other : List ℕ) (t : PageType) : Type 0 where
  pub type : byte_at other 25 ≡ byte_at page 25
  pub number : four_at (turned head.order) other 8 ≡ four_at head.order page 8
  pub reads : page_as (turned head.order) other t ≡ page_as head.order page t
  pub rows : typed_code (turned_head head) p other t ≡ typed_code head p page t

-- the numbers of a page of a type, and that it can be byte-swapped
pub record CanTurn (head : Head) (p : ℕ) (page : List ℕ) (t : PageType) : Type 0 where
  pub apart : AreApart (fields_of (page_as head.order page t))
  pub within : LieWithin (fields_of (page_as head.order page t)) (length page)
  pub turned : (other : List ℕ) → IsTurned (fields_of (page_as head.order page t)) page other → TypeTurned head p page other t

-- the same by other words for the numbers
made : (head : Head) (p : ℕ) (page : List ℕ) (t : PageType) (fields : List Field) → fields_of (page_as head.order page t) ≡ fields
    → AreApart fields → LieWithin fields (length page) → ((other : List ℕ) → IsTurned fields page other → TypeTurned head p page other t)
    → CanTurn head p page t
made head p page t fields are apart within turns = record {
  apart = subst AreApart (sym are) apart;
  within = subst (λ fs. LieWithin fs (length page)) (sym are) within;
  turned = λ other is. turns other (subst (λ fs. IsTurned fs page other) are is);
}

-- Pages with an index.

pub room_of : (order : Order) (page : List ℕ) (t : PageType) → listed_code order page t ≡ None → 26 + 2 * entries_of order page ≤ length page
room_of order page t none =
    let indexed : IsIndexed t order page = index_passes order page t (no_index_row order page t none) in
    grind (arith, nat_tests, indexed.room)

-- what a page with an index keeps whatever its items are
record IndexTurned (order : Order) (page other : List ℕ) : Type 0 where
  level : byte_at other 24 ≡ byte_at page 24
  type : byte_at other 25 ≡ byte_at page 25
  entries : entries_of (turned order) other ≡ entries_of order page
  number : four_at (turned order) other 8 ≡ four_at order page 8
  header : header_of (turned order) other ≡ header_of order page

index_turned : (order : Order) (page other : List ℕ) (part : ℕ → List Field) (low high : ℕ → ℕ) → ArePlaced (entries_of order page) (length page) part low high
    → IsTurned (all_fields (entries_of order page) part) page other → IndexTurned order page other
index_turned order page other part low high placed is =
    let n : ℕ = entries_of order page in
    let all : List Field = all_fields n part in
    let free : (k : ℕ) → 24 ≤ k → k < 26 → IsUntouched all k = λ k from to. untouched_in_header n (length page) part low high k placed from to in
    record {
      level = is.kept 24 (free 24 (omega arith) (omega arith));
      type = is.kept 25 (free 25 (omega arith) (omega arith));
      entries = number_same all page other order 20 2 is (in_header n part (field 20 2) (5, omega arith, refl));
      number = number_same all page other order 8 4 is (in_header n part (field 8 4) (2, omega arith, refl));
      header = header_same all page other order is (in_header n part) (free 24 (omega arith) (omega arith)) (free 25 (omega arith) (omega arith));
    }

leaf_can : (head : Head) (p : ℕ) (page : List ℕ) (t : PageType) (it : Page)
    → page_as head.order page t ≡ it → fields_of it ≡ listed_fields (λ at (item : Item). leaf_fields at item.content) no_item
    (listed head.order page (leaf_item_at head.order page))
    → ((other : List ℕ) → listed (turned head.order) other (leaf_item_at (turned head.order) other) ≡ listed head.order page (leaf_item_at head.order page)
    → page_as (turned head.order) other t ≡ page_as head.order page t)
    → ((h : Head) (bytes : List ℕ) → typed_code h p bytes t ≡ listed_code h.order bytes t)
    → ((order : Order) (bytes : List ℕ) (i : ℕ) → item_rows t order bytes i ≡ item_rows LeafPage order bytes i)
    → IsLeaf head.order page → CanTurn head p page t
leaf_can head p page t it is_as fields_as reads code rows leaf =
    let order : Order = head.order in
    let n : ℕ = entries_of order page in
    let placed = leaf_placed order page leaf in
    made head p page t (leaf_all order page)
    (ap fields_of is_as ∙ (fields_as ∙ listed_fields_are (λ at (item : Item). leaf_fields at item.content) no_item order page (leaf_item_at order page)))
    (placed_apart n (length page) (leaf_part order page) (leaf_low order page) (leaf_high order page) placed)
    (placed_within n (length page) (leaf_part order page) (leaf_low order page) (leaf_high order page) placed)
    (λ other is.
    let same : LeafTurned order page other = leaf_turned order page other leaf is in
    record {
      type = same.type;
      number = same.number;
      reads = reads other same.reads;
      rows = code (turned_head head) other ∙ (same.rows t (λ i. rows order page i) (λ i. rows (turned order) other i) ∙ sym (code head page));
    })

is_leaf : (order : Order) (page : List ℕ) (t : PageType) → ((i : ℕ) → item_rows t order page i ≡ item_rows LeafPage order page i)
    → listed_code order page t ≡ None → listed_overlap (λ at (item : Item). leaf_item_end at item.content) no_item (listed order page (leaf_item_at order page))
    ≡ false
    → IsLeaf order page
is_leaf order page t rows none apart = record {
  room = room_of order page t none;
  rows = λ i lt. ap first_row (sym (rows i)) ∙ no_item_row order page t i none lt;
  apart = apart;
}

hash_can : (head : Head) (p : ℕ) (page : List ℕ) → typed_code head p page HashPage ≡ None → CanTurn head p page HashPage
unfolding fields_of
hash_can head p page none =
    let order : Order = head.order in
    let n : ℕ = entries_of order page in
    let hash : IsHash order page = record { room = room_of order page HashPage none; rows = λ i lt. no_item_row order page HashPage i none lt } in
    let placed = hash_placed order page hash in
    made head p page HashPage (hash_all order page) (listed_fields_are (λ at (item : Item). hash_fields at item.content) no_item order page
    (hash_item_at order page))
    (placed_apart n (length page) (hash_part order page) (hash_low order page) (hash_high order page) placed)
    (placed_within n (length page) (hash_part order page) (hash_low order page) (hash_high order page) placed)
    (λ other is.
    let index : IndexTurned order page other = index_turned order page other (hash_part order page) (hash_low order page) (hash_high order page) placed is in
    let items : (i : ℕ) → i < n → HashTurned order page other i = λ i lt. hash_turned order page other i hash is lt in
    record {
      type = index.type;
      number = index.number;
      reads = ap Hash (listed_same order page other (hash_item_at order page) (hash_item_at (turned order) other) index.header index.entries
          (λ i lt. (items i lt).offset) (λ i lt. hash_item_same order page other i (items i lt)));
      rows = rows_same HashPage order page other is.same_length index.entries index.level
          (λ i lt. hash_rows_same order page other i is.same_length index.entries (items i lt));
    })

internal_can : (head : Head) (p : ℕ) (page : List ℕ) → typed_code head p page InternalPage ≡ None
    → listed_overlap (λ at (item : InternalItem). internal_item_end at item.key) no_internal (listed head.order page (internal_item_at head.order page)) ≡ false
    → CanTurn head p page InternalPage
unfolding fields_of
internal_can head p page none apart =
    let order : Order = head.order in
    let n : ℕ = entries_of order page in
    let inner : IsInternal order page =
    record { room = room_of order page InternalPage none; rows = λ i lt. no_item_row order page InternalPage i none lt; apart = apart } in
    let placed = internal_placed order page inner in
    made head p page InternalPage (internal_all order page) (listed_fields_are internal_fields no_internal order page (internal_item_at order page))
    (placed_apart n (length page) (internal_part order page) (internal_low order page) (internal_high order page) placed)
    (placed_within n (length page) (internal_part order page) (internal_low order page) (internal_high order page) placed)
    (λ other is.
    let index : IndexTurned order page other = index_turned order page other (internal_part order page) (internal_low order page) (internal_high order page)
    placed is in
    let items : (i : ℕ) → i < n → InternalTurned order page other i = λ i lt. internal_turned order page other i inner is lt in
    record {
      type = index.type;
      number = index.number;
      reads = ap Internal (listed_same order page other (internal_item_at order page) (internal_item_at (turned order) other) index.header index.entries
          (λ i lt. (items i lt).offset) (λ i lt. inner_item_same order page other i (items i lt)));
      rows = rows_same InternalPage order page other is.same_length index.entries index.level
          (λ i lt. inner_rows_same order page other i is.same_length index.entries (items i lt));
    })

recno_can : (head : Head) (p : ℕ) (page : List ℕ) → typed_code head p page RecnoInternalPage ≡ None
    → listed_overlap (λ at (item : RecnoItem). at + 8) no_recno (listed head.order page (recno_item_at head.order page)) ≡ false
    → CanTurn head p page RecnoInternalPage
unfolding fields_of
recno_can head p page none apart =
    let order : Order = head.order in
    let n : ℕ = entries_of order page in
    let inner : IsRecno order page =
    record { room = room_of order page RecnoInternalPage none; rows = λ i lt. no_item_row order page RecnoInternalPage i none lt; apart = apart } in
    let placed = recno_placed order page inner in
    made head p page RecnoInternalPage (recno_all order page) (listed_fields_are (λ at (item : RecnoItem). recno_fields at) no_recno order page
    (recno_item_at order page))
    (placed_apart n (length page) (recno_part order page) (recno_low order page) (recno_high order page) placed)
    (placed_within n (length page) (recno_part order page) (recno_low order page) (recno_high order page) placed)
    (λ other is.
    let index : IndexTurned order page other = index_turned order page other (recno_part order page) (recno_low order page) (recno_high order page) placed is in
    let items : (i : ℕ) → i < n → RecnoTurned order page other i = λ i lt. recno_turned order page other i is lt in
    record {
      type = index.type;
      number = index.number;
      reads = ap RecnoInternal (listed_same order page other (recno_item_at order page) (recno_item_at (turned order) other) index.header index.entries
          (λ i lt. (items i lt).offset) (λ i lt. recno_same order page other i (items i lt)));
      rows = rows_same RecnoInternalPage order page other is.same_length index.entries index.level
          (λ i lt. recno_rows_same order page other i is.same_length index.entries (items i lt));
    })

-- Pages of which the header alone has numbers.

within_between : (from : ℕ) (fields : List Field) (to size : ℕ) → Between from fields to → to ≤ size → LieWithin fields size
within_between from fields to size between fits f at = let b : (from ≤ f.begin) × (f.begin + f.width ≤ to) = bounds from fields to f between at in omega arith

behind_header : (k : ℕ) → 24 ≤ k → IsUntouched header_fields k
behind_header k low = untouched_past 0 header_fields 24 k header_between low

free_can : (head : Head) (p : ℕ) (page : List ℕ) → 512 ≤ length page → CanTurn head p page FreePage
unfolding fields_of
free_can head p page long =
    made head p page FreePage header_fields refl (apart_between 0 header_fields 24 header_between)
    (within_between 0 header_fields 24 (length page) header_between (omega arith))
    (λ other is. record {
      type = is.kept 25 (behind_header 25 (omega arith));
      number = number_same header_fields page other head.order 8 4 is (2, omega arith, refl);
      reads = ap Free (header_same header_fields page other head.order is (λ f at. at) (behind_header 24 (omega arith)) (behind_header 25 (omega arith)));
      rows = refl;
    })

overflow_can : (head : Head) (p : ℕ) (page : List ℕ) → 512 ≤ length page → CanTurn head p page OverflowPage
unfolding fields_of
overflow_can head p page long =
    made head p page OverflowPage header_fields refl (apart_between 0 header_fields 24 header_between)
    (within_between 0 header_fields 24 (length page) header_between (omega arith))
    (λ other is.
    let order : Order = head.order in
    let header : header_of (turned order) other ≡ header_of order page =
    header_same header_fields page other order is (λ f at. at) (behind_header 24 (omega arith)) (behind_header 25 (omega arith)) in
    let size : two_at (turned order) other 22 ≡ two_at order page 22 = number_same header_fields page other order 22 2 is (6, omega arith, refl) in
    let rest : drop 26 other ≡ drop 26 page = rest_same header_fields page other 26 is (λ k low. behind_header k (omega arith)) in
    let lengths : length other ≡ length page = is.same_length in
    record {
      type = is.kept 25 (behind_header 25 (omega arith));
      number = number_same header_fields page other order 8 4 is (2, omega arith, refl);
      reads = ap (λ (h : Header). Overflow h (take (two_at (turned order) other 22) (drop 26 other))) header
          ∙ (ap (λ (n : ℕ). Overflow (header_of order page) (take n (drop 26 other))) size
          ∙ ap (λ bytes. Overflow (header_of order page) (take (two_at order page 22) bytes)) rest);
      rows = ap (λ (n : ℕ). first_row (25 :? nat_lt n (26 + two_at (turned order) other 22) ∷ [])) lengths
          ∙ ap (λ (n : ℕ). first_row (25 :? nat_lt (length page) (26 + n) ∷ [])) size;
    })

queue_can : (head : Head) (p : ℕ) (page : List ℕ) → 512 ≤ length page → CanTurn head p page QueuePage
unfolding fields_of
queue_can head p page long =
    let between : Between 0 (fours 0 3) 12 = fours_between 0 3 in
    let free : (k : ℕ) → 12 ≤ k → IsUntouched (fours 0 3) k = λ k low. untouched_past 0 (fours 0 3) 12 k between low in
    made head p page QueuePage (fours 0 3) refl (apart_between 0 (fours 0 3) 12 between) (within_between 0 (fours 0 3) 12 (length page) between (omega arith))
    (λ other is.
    let number : four_at (turned head.order) other 8 ≡ four_at head.order page 8 = number_same (fours 0 3) page other head.order 8 4 is (2, omega arith, refl)
    in
    record {
      type = is.kept 25 (free 25 (omega arith));
      number = number;
      reads = ap (λ (n : ℕ). Queue n (drop 28 other)) number ∙ ap (Queue (four_at head.order page 8))
          (rest_same (fours 0 3) page other 28 is (λ k low. free k (omega arith)));
      rows = refl;
    })

-- Metadata.

meta_apart : (fields : Metadata) → AreApart (meta_all fields)
meta_apart fields = apart_between 0 (meta_all fields) 224 (meta_between fields)

meta_within : (fields : Metadata) (size : ℕ) → 512 ≤ size → LieWithin (meta_all fields) size
meta_within fields size long = within_between 0 (meta_all fields) 224 size (meta_between fields) (omega arith)

btree_can : (head : Head) (p : ℕ) (page : List ℕ) → 512 ≤ length page → CanTurn head p page BtreeMetaPage
unfolding fields_of
btree_can head p page long =
    let fields : Metadata = BtreeFields (btree_fields head.order page) in
    made head p page BtreeMetaPage (meta_all fields) refl (meta_apart fields) (meta_within fields (length page) long)
    (λ other is.
    let common : CommonSame head.order page other = common_same fields head.order page other is in
    record {
      type = common.type;
      number = common.number;
      reads = ap (λ meta. Meta (BtreeFields meta)) (btree_same (btree_fields head.order page) head.order page other is);
      rows = ap (λ (rows : List (Row ℕ)). first_row (rows ++ kind_rows (turned head.order) other p head.last Btree))
          (common_rows_same head.order page other p Btree is.same_length common)
          ∙ ap (λ (rows : List (Row ℕ)). first_row (meta_rows head.order page p Btree ++ rows)) (btree_rows_same head.order page other p common);
    })

table_can : (head : Head) (p : ℕ) (page : List ℕ) → 512 ≤ length page → CanTurn head p page HashMetaPage
unfolding fields_of
table_can head p page long =
    let fields : Metadata = HashFields (table_fields head.order page) in
    made head p page HashMetaPage (meta_all fields) refl (meta_apart fields) (meta_within fields (length page) long)
    (λ other is.
    let common : CommonSame head.order page other = common_same fields head.order page other is in
    let same = table_same (table_fields head.order page) head.order page other is in
    record {
      type = common.type;
      number = common.number;
      reads = ap (λ meta. Meta (HashFields meta)) same.0;
      rows = ap (λ (rows : List (Row ℕ)). first_row (rows ++ kind_rows (turned head.order) other p head.last HashFile))
          (common_rows_same head.order page other p HashFile is.same_length common)
          ∙ ap (λ (rows : List (Row ℕ)). first_row (meta_rows head.order page p HashFile ++ rows))
          (table_rows_same head.order page other head.last common same.0 same.1 same.2);
    })

queue_meta_can : (head : Head) (p : ℕ) (page : List ℕ) → 512 ≤ length page → CanTurn head p page QueueMetaPage
unfolding fields_of
queue_meta_can head p page long =
    let fields : Metadata = QueueFields (queue_fields head.order page) in
    made head p page QueueMetaPage (meta_all fields) refl (meta_apart fields) (meta_within fields (length page) long)
    (λ other is.
    let common : CommonSame head.order page other = common_same fields head.order page other is in
    let same = queue_same (queue_fields head.order page) head.order page other is in
    record {
      type = common.type;
      number = common.number;
      reads = ap (λ meta. Meta (QueueFields meta)) same.0;
      rows = ap (λ (rows : List (Row ℕ)). first_row (rows ++ kind_rows (turned head.order) other p head.last QueueFile))
          (common_rows_same head.order page other p QueueFile is.same_length common)
          ∙ ap (λ (rows : List (Row ℕ)). first_row (meta_rows head.order page p QueueFile ++ rows))
          (queue_rows_same head.order page other is.same_length same.0 same.1);
    })

-- Every type.

can_turn : (head : Head) (p : ℕ) (page : List ℕ) (t : PageType) → 512 ≤ length page → (t ≡ OtherPage → ⊥) → typed_code head p page t ≡ None
    → overlaps (page_as head.order page t) ≡ false
    → CanTurn head p page t
unfolding overlaps fields_of
can_turn head p page FreePage long known none apart = free_can head p page long
can_turn head p page HashPage long known none apart = hash_can head p page none
can_turn head p page InternalPage long known none apart = internal_can head p page none apart
can_turn head p page RecnoInternalPage long known none apart = recno_can head p page none apart
can_turn head p page LeafPage long known none apart =
    leaf_can head p page LeafPage (Leaf (listed head.order page (leaf_item_at head.order page))) refl refl (λ other same. ap Leaf same) (λ h bytes. refl)
    (λ order bytes i. refl)
    (is_leaf head.order page LeafPage (λ i. refl) none apart)
can_turn head p page RecnoLeafPage long known none apart =
    leaf_can head p page RecnoLeafPage (RecnoLeaf (listed head.order page (leaf_item_at head.order page))) refl refl (λ other same. ap RecnoLeaf same)
    (λ h bytes. refl) (λ order bytes i. refl)
    (is_leaf head.order page RecnoLeafPage (λ i. refl) none apart)
can_turn head p page OverflowPage long known none apart = overflow_can head p page long
can_turn head p page HashMetaPage long known none apart = table_can head p page long
can_turn head p page BtreeMetaPage long known none apart = btree_can head p page long
can_turn head p page QueueMetaPage long known none apart = queue_meta_can head p page long
can_turn head p page QueuePage long known none apart = queue_can head p page long
can_turn head p page DupLeafPage long known none apart =
    leaf_can head p page DupLeafPage (DupLeaf (listed head.order page (leaf_item_at head.order page))) refl refl (λ other same. ap DupLeaf same)
    (λ h bytes. refl) (λ order bytes i. refl)
    (is_leaf head.order page DupLeafPage (λ i. refl) none apart)
can_turn head p page OtherPage long known none apart = absurd (known refl)

-- The whole page.

-- a type that a page may have is one that is known
tree_type_known : (byte : ℕ) → is_tree_type byte ≡ true → page_type byte ≡ OtherPage → ⊥
tree_type_known byte known =
    one_type IsKnown (0 ∷ 2 ∷ 3 ∷ 4 ∷ 5 ∷ 6 ∷ 7 ∷ 8 ∷ 9 ∷ 12 ∷ 13 ∷ []) byte
    ((λ e. cc), ((λ e. cc), ((λ e. cc), ((λ e. cc), ((λ e. cc), ((λ e. cc), ((λ e. cc), ((λ e. cc), ((λ e. cc), ((λ e. cc), ((λ e. cc), tt))))))))))) known
  where
    IsKnown : Option ℕ → Type 0
    IsKnown None = Unit {0}
    IsKnown (Some t) = page_type t ≡ OtherPage → ⊥

meta_type_known : (kind : FileKind) → page_type (type_of kind) ≡ OtherPage → ⊥
meta_type_known Btree other = cc
meta_type_known HashFile other = cc
meta_type_known QueueFile other = cc

known_type : (kind : FileKind) (p byte : ℕ) → may_have_type kind p byte ≡ true → page_type byte ≡ OtherPage → ⊥
known_type kind zero byte may other = meta_type_known kind (ap page_type (sym (eqb-true byte (type_of kind) may)) ∙ other)
known_type kind (suc p) byte may other = later kind (sym (later_type kind p byte) ∙ may)
  where
    later : (kind : FileKind) → cond (is_queue kind) (is_queue_type byte) (is_tree_type byte) ≡ true → ⊥
    later Btree is = tree_type_known byte is other
    later HashFile is = tree_type_known byte is other
    later QueueFile is = let eleven : byte ≡ 11 = eqb-true byte 11 is in let none : page_type 11 ≡ OtherPage = ap page_type (sym eleven) ∙ other in cc

-- the code of a page by what it looks at
abbrev page_code_by : FileKind → ℕ → Bool → ℕ → ℕ → Option ℕ → Option ℕ
page_code_by kind p zeros number byte typed =
    code_by (nat_lt 0 p && zeros) (first_row (1 :? not (number == p) ∷ 2 :? not (may_have_type kind p byte) ∷ [])) typed

code_parts : (head : Head) (p : ℕ) (page : List ℕ)
    → form_code head p page ≡ page_code_by head.kind p (is_zero page) (four_at head.order page 8) (byte_at page 25)
    (typed_code head p page (page_type (byte_at page 25)))
unfolding form_code
code_parts head p page = refl

-- a page that isn't zeros has its number, a type that it may have, and no row of that type
passed : (kind : FileKind) (p : ℕ) (number byte : ℕ) (typed : Option ℕ) → page_code_by kind p false number byte typed ≡ None
    → (may_have_type kind p byte ≡ true) × (typed ≡ None)
passed kind p number byte typed none = parts (nat_lt 0 p) (number == p) (may_have_type kind p byte) typed none
  where
    parts : (above own may : Bool) (typed : Option ℕ) → code_by (above && false) (first_row (1 :? not own ∷ 2 :? not may ∷ [])) typed ≡ None
        → (may ≡ true) × (typed ≡ None)
    parts true true true typed none = (refl, none)
    parts true true false typed none = absurd cc
    parts true false may typed none = absurd cc
    parts false true true typed none = (refl, none)
    parts false true false typed none = absurd cc
    parts false false may typed none = absurd cc

pub no_fields_turn : (page : List ℕ) → turned_round [] page ≡ page
no_fields_turn page = ext_get_or 0 (turned_round [] page) page (length-turned_round [] page)
    (λ k lt. get_or-turned_round [] page k (omega (arith, length-turned_round [] page))
    ∙ ap (byte_at page) (mirror-outside [] k (λ f at. absurd (no_member [] f refl at))))

zero_fields : fields_of Zero ≡ []
unfolding fields_of
zero_fields = refl

skipped : (kind : FileKind) (p : ℕ) (above zeros : Bool) (number byte : ℕ) (typed : Option ℕ) → nat_lt 0 p ≡ true → zeros ≡ true
    → page_code_by kind p zeros number byte typed ≡ None
skipped kind p above true number byte typed low zeros = rw low refl
skipped kind p above false number byte typed low zeros = absurd cc

zero_formed : (head : Head) (p : ℕ) (page : List ℕ) → is_page_size (length page) ≡ true → is_zero page ≡ true → form_code head p page ≡ None
    → form_code (turned_head head) p page ≡ None
zero_formed head zero page size zeros none =
    let byte : ℕ = byte_at page 25 in
    let typed : Option ℕ = typed_code head 0 page (page_type byte) in
    let may : may_have_type head.kind 0 byte ≡ true = (passed head.kind 0 (four_at head.order page 8) byte typed (sym (code_parts head 0 page) ∙ none)).0 in
    let some : is_zero page ≡ false = not_zero page head.kind size (eqb-true byte (type_of head.kind) may) in
    absurd cc
zero_formed head (suc p) page size zeros none =
    code_parts (turned_head head) (suc p) page
    ∙ skipped head.kind (suc p) true (is_zero page) (four_at (turned head.order) page 8) (byte_at page 25)
    (typed_code (turned_head head) (suc p) page (page_type (byte_at page 25)))
    (lt-ltb 0 (suc p) (omega arith)) zeros

zero_turns : (head : Head) (p : ℕ) (page : List ℕ) → is_page_size (length page) ≡ true → form_code head p page ≡ None → is_zero page ≡ true
    → TurnsRound head p page
zero_turns head p page size none zeros =
    let order : Order = head.order in
    let reads : abstract_page order page ≡ Zero = zero_page order page zeros in
    let there : abstract_page (turned order) page ≡ Zero = zero_page (turned order) page zeros in
    let stays : turned_page order page ≡ page = ap (λ it. turned_round (fields_of it) page) reads
    ∙ (ap (λ fields. turned_round fields page) zero_fields ∙ no_fields_turn page) in
    let back : turned_page (turned order) page ≡ page = ap (λ it. turned_round (fields_of it) page) there
    ∙ (ap (λ fields. turned_round fields page) zero_fields ∙ no_fields_turn page) in
    record {
      reads = ap (abstract_page (turned order)) stays ∙ (there ∙ sym reads);
      formed = ap (form_code (turned_head head) p) stays ∙ zero_formed head p page size zeros none;
      long = ap length stays;
      back = ap (turned_page (turned order)) stays ∙ back;
    }

other_turns : (head : Head) (p : ℕ) (page : List ℕ) → is_page_size (length page) ≡ true → form_code head p page ≡ None
    → overlaps (abstract_page head.order page) ≡ false
    → is_zero page ≡ false → TurnsRound head p page
other_turns head p page size none apart some =
    let order : Order = head.order in
    let byte : ℕ = byte_at page 25 in
    let t : PageType = page_type byte in
    let reads : abstract_page order page ≡ page_as order page t = typed_page order page some in
    let code : page_code_by head.kind p false (four_at order page 8) byte (typed_code head p page t) ≡ None =
    ap (λ zeros. page_code_by head.kind p zeros (four_at order page 8) byte (typed_code head p page t)) (sym some) ∙ (sym (code_parts head p page) ∙ none) in
    let parts : (may_have_type head.kind p byte ≡ true) × (typed_code head p page t ≡ None) = passed head.kind p (four_at order page 8) byte
    (typed_code head p page t) code in
    let can : CanTurn head p page t =
    can_turn head p page t (size_bounds (length page) size).0 (known_type head.kind p byte parts.0) parts.1 (ap overlaps (sym reads) ∙ apart) in
    let fields : List Field = fields_of (page_as order page t) in
    let same_fields : fields_of (abstract_page order page) ≡ fields = ap fields_of reads in
    let other : List ℕ = turned_round fields page in
    let turned_is_other : turned_page order page ≡ other = ap (λ fs. turned_round fs page) same_fields in
    let turns : TypeTurned head p page other t = can.turned other (turned_is fields page can.apart can.within) in
    let not_zeros : is_zero other ≡ false = zero_same fields page can.apart can.within some in
    let type_there : page_type (byte_at other 25) ≡ t = ap page_type turns.type in
    let there : abstract_page (turned order) other ≡ page_as order page t =
    typed_page (turned order) other not_zeros ∙ (ap (page_as (turned order) other) type_there ∙ turns.reads) in
    let typed : typed_code (turned_head head) p other (page_type (byte_at other 25)) ≡ typed_code head p page t = ap (typed_code (turned_head head) p other)
    type_there ∙ turns.rows in
    let formed : form_code (turned_head head) p other ≡ None =
    code_parts (turned_head head) p other
    ∙ (ap (λ zeros. page_code_by head.kind p zeros (four_at (turned order) other 8) (byte_at other 25)
    (typed_code (turned_head head) p other (page_type (byte_at other 25)))) not_zeros
    ∙ (ap (λ (n : ℕ). page_code_by head.kind p false n (byte_at other 25) (typed_code (turned_head head) p other (page_type (byte_at other 25)))) turns.number
    ∙ (ap (λ (b : ℕ). page_code_by head.kind p false (four_at order page 8) b (typed_code (turned_head head) p other (page_type (byte_at other 25)))) turns.type
    ∙ (ap (page_code_by head.kind p false (four_at order page 8) byte) typed ∙ code)))) in
    record {
      reads = ap (abstract_page (turned order)) turned_is_other ∙ (there ∙ sym reads);
      formed = ap (form_code (turned_head head) p) turned_is_other ∙ formed;
      long = ap length turned_is_other ∙ length-turned_round fields page;
      back = ap (turned_page (turned order)) turned_is_other ∙ (ap (λ it. turned_round (fields_of it) other) there
          ∙ turned_twice fields page can.apart can.within);
    }

pub pages_turn_round : PagesTurnRound
pages_turn_round head p page size none apart =
    elim (is_zero page) as (λ b. is_zero page ≡ b → TurnsRound head p page) [
      | true ↦ λ zeros. zero_turns head p page size none zeros
      | false ↦ λ some. other_turns head p page size none apart some
    ] refl

-- a page of zeros stays
pub zero_stays : (order : Order) (page : List ℕ) → is_zero page ≡ true → turned_page order page ≡ page
zero_stays order page zeros =
    ap (λ it. turned_round (fields_of it) page) (zero_page order page zeros) ∙ (ap (λ fields. turned_round fields page) zero_fields ∙ no_fields_turn page)

-- page 0 keeps what the rows of the file look at

fields_there : (head : Head) (page : List ℕ) (t : PageType) (fields : Metadata) → is_zero page ≡ false → page_type (byte_at page 25) ≡ t
    → fields_of (page_as head.order page t) ≡ meta_all fields
    → 512 ≤ length page → CommonSame head.order page (turned_page head.order page)
fields_there head page t fields some type are long =
    let same : fields_of (abstract_page head.order page) ≡ meta_all fields = ap fields_of (typed_page head.order page some ∙ ap (page_as head.order page) type)
    ∙ are in
    let is : IsTurned (meta_all fields) page (turned_round (meta_all fields) page) = turned_is (meta_all fields) page (meta_apart fields)
    (meta_within fields (length page) long) in
    subst (CommonSame head.order page) (sym (ap (λ fs. turned_round fs page) same))
    (common_same fields head.order page (turned_round (meta_all fields) page) is)

by_kind : (head : Head) (page : List ℕ) (kind : FileKind) → is_zero page ≡ false → byte_at page 25 ≡ type_of kind → 512 ≤ length page
    → CommonSame head.order page (turned_page head.order page)
unfolding fields_of
by_kind head page Btree some type long = fields_there head page BtreeMetaPage (BtreeFields (btree_fields head.order page)) some (ap page_type type) refl long
by_kind head page HashFile some type long = fields_there head page HashMetaPage (HashFields (table_fields head.order page)) some (ap page_type type) refl long
by_kind head page QueueFile some type long = fields_there head page QueueMetaPage (QueueFields (queue_fields head.order page)) some (ap page_type type) refl
    long

pub first_page_common : (head : Head) (page : List ℕ) → is_page_size (length page) ≡ true → form_code head 0 page ≡ None
    → CommonSame head.order page (turned_page head.order page)
first_page_common head page size none =
    let byte : ℕ = byte_at page 25 in
    let typed : Option ℕ = typed_code head 0 page (page_type byte) in
    let may : may_have_type head.kind 0 byte ≡ true = (passed_at_zero head.kind (is_zero page) (four_at head.order page 8) byte typed
    (sym (code_parts head 0 page) ∙ none)) in
    let type : byte ≡ type_of head.kind = eqb-true byte (type_of head.kind) may in
    by_kind head page head.kind (not_zero page head.kind size type) type (size_bounds (length page) size).0
  where
    passed_at_zero : (kind : FileKind) (zeros : Bool) (number byte : ℕ) (typed : Option ℕ) → page_code_by kind 0 zeros number byte typed ≡ None
        → may_have_type kind 0 byte ≡ true
    passed_at_zero kind zeros number byte typed none = (passed kind 0 number byte typed none).0

-- The numbers of a page that isn't zero, by its type.

pub typed_body : (head : Head) (p : ℕ) (page : List ℕ) (t : PageType) → typed_code head p page t ≡ None → body_code head.order page t ≡ None
typed_body head p page FreePage none = none
typed_body head p page HashPage none = none
typed_body head p page InternalPage none = none
typed_body head p page RecnoInternalPage none = none
typed_body head p page LeafPage none = none
typed_body head p page RecnoLeafPage none = none
typed_body head p page OverflowPage none = none
typed_body head p page HashMetaPage none = refl
typed_body head p page BtreeMetaPage none = refl
typed_body head p page QueueMetaPage none = refl
typed_body head p page QueuePage none = none
typed_body head p page DupLeafPage none = none
typed_body head p page OtherPage none = none

type_passed : (head : Head) (p : ℕ) (page : List ℕ) → form_code head p page ≡ None → is_zero page ≡ false
    → (may_have_type head.kind p (byte_at page 25) ≡ true) × (typed_code head p page (page_type (byte_at page 25)) ≡ None)
type_passed head p page none some =
    passed head.kind p (four_at head.order page 8) (byte_at page 25) (typed_code head p page (page_type (byte_at page 25)))
    (ap (λ zeros. page_code_by head.kind p zeros (four_at head.order page 8) (byte_at page 25) (typed_code head p page (page_type (byte_at page 25))))
    (sym some)
    ∙ (sym (code_parts head p page) ∙ none))

pub body_passed : (head : Head) (p : ℕ) (page : List ℕ) → form_code head p page ≡ None → is_zero page ≡ false
    → body_code head.order page (page_type (byte_at page 25)) ≡ None
body_passed head p page none some = typed_body head p page (page_type (byte_at page 25)) (type_passed head p page none some).1

-- these are the numbers of a page: they are apart and on the page, which is byte-swapped by them
pub record AreNumbersOf (order : Order) (page : List ℕ) (fields : List Field) : Type 0 where
  pub apart : AreApart fields
  pub within : LieWithin fields (length page)
  pub turned : turned_page order page ≡ turned_round fields page

pub numbers_by_type : (head : Head) (p : ℕ) (page : List ℕ) → is_page_size (length page) ≡ true → form_code head p page ≡ None
    → overlaps (abstract_page head.order page) ≡ false → is_zero page ≡ false
    → AreNumbersOf head.order page (fields_of (page_as head.order page (page_type (byte_at page 25))))
numbers_by_type head p page size none apart some =
    let t : PageType = page_type (byte_at page 25) in
    let reads : abstract_page head.order page ≡ page_as head.order page t = typed_page head.order page some in
    let parts = type_passed head p page none some in
    let can : CanTurn head p page t =
    can_turn head p page t (size_bounds (length page) size).0 (known_type head.kind p (byte_at page 25) parts.0) parts.1 (ap overlaps (sym reads) ∙ apart) in
    record { apart = can.apart; within = can.within; turned = ap (λ it. turned_round (fields_of it) page) reads }

pub zero_page_turns : (head : Head) (page : List ℕ) → is_zero page ≡ true → page ≡ turned_page head.order page
zero_page_turns head page zeros =
    sym (ap (λ it. turned_round (fields_of it) page) (zero_page head.order page zeros)
    ∙ (ap (λ fields. turned_round fields page) zero_fields ∙ no_fields_turn page))
