-- A leaf that is added, and a leaf whose links change.
use Rattle.std.proofs.Common.{◌≡◌, ℕ, ◌+◌, ◌-◌, ◌*◌, ◌<◌, ◌≤◌, ◌^◌, true, List, [], ◌∷◌, map, length, drop, replicate, arith, refl, sym, ◌∙◌, ap, subst, length-append}
use Rattle.bdb_mkleaves.proofs.Common.{range_with_len, sum_by, get_or_push, length-replicate, same_lists, get_or-map-range_with_len, length-map-range_with_len, Order, Header, Listed, abstract_page}
use Rattle.bdb_mkleaves.proofs.Common.{byte_at, four_at, header_bytes, header_of, index_end, is_page_size, item_row, leaf_item_at, listed, offset_of, overwritten, page_type, spelled, two_at}
use Rattle.bdb_mkleaves.proofs.Common.{length-overwritten, length-spelled, size_bounds, above, AreWhole, Built, bytes_of, with_page, with_zeros, written_over, takes_items, IsBegun, begun_header}
use Rattle.bdb_mkleaves.proofs.Common.{begun_page, empty_listed, empty_page, high_free_of, written_whole, begun_pages_take_items, header_read, length-header, open_is, behind, byte_same, number_before}
use Rattle.bdb_mkleaves.proofs.Common.{number_here, number_same, leaf_item_same, listing, Entry, HoldsEntries, HoldsEntriesOn, entry_cost, leaf_header, leaf_of, room_of, type_number, with_field}
use Rattle.bdb_mkleaves.proofs.Common.{with_leaf, LeafType, Pairs, Records, SortedData}
use Rattle.bdb_places.specs.of_format.Terms.{entries_of}
use Rattle.bdb_pack.proofs.KeptLemmas.{IsKept, rows_same}
use Rattle.bdb_mkleaves.proofs.EntryLemmas.{bytes_with, leaf_typed, page_is}

-- functions that agree below a number
map_below : {X : Type 0} (f g : ℕ → X) (n : ℕ) → ((k : ℕ) → k < n → f k ≡ g k) → map f (range_with_len 0 n) ≡ map g (range_with_len 0 n)
map_below f g n same = grind (arith, same_lists, length-map-range_with_len, get_or-map-range_with_len)

-- A leaf without entries.

takes_leaves : (type : LeafType) → takes_items (type_number type) ≡ true
takes_leaves Pairs = refl
takes_leaves Records = refl
takes_leaves SortedData = refl

empty_as : (type : LeafType) (header : Header) → empty_page (page_type (type_number type)) header ≡ leaf_of type (empty_listed header)
empty_as Pairs header = refl
empty_as Records header = refl
empty_as SortedData header = refl

empty_leaf : (type : LeafType) (order : Order) (page : List ℕ) (number previous : ℕ) → is_page_size (length page) ≡ true → number < 2 ^ 32
    → previous < 2 ^ 32
    → HoldsEntries type order (begun_page order page (leaf_header type number previous)) number previous 0 []
empty_leaf type order page number previous legal low_number low_previous =
    let header : Header = leaf_header type number previous in
    let new : List ℕ = begun_page order page header in
    let law = begun_pages_take_items order page header legal (takes_leaves type)
    (record { number = low_number; previous = low_previous; next = omega arith }) in
    let begun : IsBegun order new = law.1 in
    let h : Header = begun_header page header in
    let bounds = open_is order new begun in
    let sizes = size_bounds (length page) legal in
    let long : length new ≡ length page =
    length-overwritten page 0 (header_bytes order h) (omega (arith, length-header order h, sizes.0)) in
    let is : header_of order new ≡ h =
    header_read order h (drop (0 + length (header_bytes order h)) page)
    (record { number = low_number; previous = low_previous; next = omega arith; entries = omega arith; high = omega (arith, sizes.1) }) in
    let none : entries_of order new ≡ 0 = ap (λ (x : Header). x.entries) is in
    let high : high_free_of order new ≡ length page = ap (λ (x : Header). x.high_free) is in
    record {
      begun = begun;
      type_is = ap (λ (x : Header). x.page_type) is;
      level = ap (λ (x : Header). x.level) is;
      number = ap (λ (x : Header). x.number) is;
      before = ap (λ (x : Header). x.previous) is;
      after = ap (λ (x : Header). x.next) is;
      page = empty_listed h;
      is = law.0 ∙ empty_as type h;
      items = refl;
      offsets = refl;
      above = λ k under. absurd (omega (arith, under));
      shares = λ k under. absurd (omega (arith, under));
      room = omega (arith, none, high, long);
    }

pub leaf_added : (type : LeafType) (byte : ℕ) (old added new : Built) (number previous : ℕ) → byte ≡ type_number type → is_page_size old.size ≡ true
    → length old.pages < 2 ^ 21 → previous < 2 ^ 32
    → added ≡ with_zeros old → number ≡ length old.pages
    → new ≡ with_page added number (begun_page added.order (bytes_of added number) (record (leaf_header type number previous) { page_type = byte }))
    → (new ≡ with_leaf type old previous) × HoldsEntriesOn type new number previous 0 [] × (length (bytes_of new number) ≡ old.size)
leaf_added type byte old added new number previous type_is legal few low zeros at_end begun =
    let n : ℕ = length old.pages in
    let page : List ℕ = bytes_of (with_zeros old) n in
    let blank : page ≡ replicate old.size 0 = get_or_push old.pages (replicate old.size 0) [] n refl in
    let long : length page ≡ old.size = ap length blank ∙ length-replicate old.size 0 in
    let is : new ≡ with_leaf type old previous =
    begun
    ∙ (ap (λ t. with_page added number
    (begun_page added.order (bytes_of added number) (record (leaf_header type number previous) { page_type = t }))) type_is
    ∙ (ap (λ (b : Built). with_page b number (begun_page b.order (bytes_of b number) (leaf_header type number previous))) zeros
    ∙ ap (λ k. with_page (with_zeros old) k (begun_page old.order (bytes_of (with_zeros old) k) (leaf_header type k previous))) at_end)) in
    let leaf : List ℕ = begun_page old.order page (leaf_header type n previous) in
    let there : n < length (with_zeros old).pages = omega (arith, length-append old.pages (replicate old.size 0 ∷ [])) in
    let here : bytes_of (with_leaf type old previous) n ≡ leaf = bytes_with (with_zeros old) n leaf there in
    let header : Header = begun_header page (leaf_header type n previous) in
    let sizes = size_bounds old.size legal in
    let length-begun : length leaf ≡ length page =
    length-overwritten page 0 (header_bytes old.order header) (omega (arith, length-header old.order header, sizes.0, long)) in
    let holds : HoldsEntries type old.order leaf n previous 0 [] =
    empty_leaf type old.order page n previous (ap is_page_size long ∙ legal) (omega (arith, few)) low in (
      is,
      subst (λ (b : Built). HoldsEntriesOn type b number previous 0 []) (sym is)
          (subst (λ k. HoldsEntriesOn type (with_leaf type old previous) k previous 0 []) (sym at_end)
          (subst (λ bs. HoldsEntries type old.order bs n previous 0 []) (sym here) holds)),
      ap (λ (b : Built). length (bytes_of b number)) is
          ∙ (ap (λ k. length (bytes_of (with_leaf type old previous) k)) at_end ∙ (ap length here ∙ (length-begun ∙ long))),
    )

-- Other numbers in the header: the page's own, and those of the pages before and after it.

-- what is read from a page after these are written
pub record HasLinks (order : Order) (page new : List ℕ) (number previous next : ℕ) : Type 0 where
  pub long : length new ≡ length page
  pub body : drop 20 new ≡ drop 20 page
  pub number_is : four_at order new 8 ≡ number
  pub previous_is : four_at order new 12 ≡ previous
  pub next_is : four_at order new 16 ≡ next

-- what stands behind the fields stays when one is written
field_body : (order : Order) (page : List ℕ) (at number : ℕ) → at + 4 ≤ 20 → 26 ≤ length page
    → drop 20 (with_field order page at number) ≡ drop 20 page
field_body order page at number low long =
    behind page at (spelled 4 order number) 20 (omega (arith, length-spelled 4 order number, low)) (omega (arith, low, long))

pub length-field : (order : Order) (page : List ℕ) (at number : ℕ) → at + 4 ≤ 20 → 26 ≤ length page
    → length (with_field order page at number) ≡ length page
length-field order page at number low long = length-overwritten page at (spelled 4 order number) (omega (arith, length-spelled 4 order number, low, long))

-- a field behind the one that is written
field_behind : (order : Order) (page : List ℕ) (at number x : ℕ) → at + 4 ≤ x → 26 ≤ length page → at ≤ 20
    → four_at order (with_field order page at number) x ≡ four_at order page x
field_behind order page at number x low long least = grind (arith, number_same, behind, length-spelled)

pub number_written : (order : Order) (page : List ℕ) (number previous next : ℕ) → 26 ≤ length page → number < 2 ^ 32
    → four_at order page 12 ≡ previous
    → four_at order page 16 ≡ next → HasLinks order page (with_field order page 8 number) number previous next
number_written order page number previous next long low before after =
    record {
      long = length-field order page 8 number (omega arith) long;
      body = field_body order page 8 number (omega arith) long;
      number_is = number_here 4 order page 8 number low (omega (arith, long));
      previous_is = field_behind order page 8 number 12 (omega arith) long (omega arith) ∙ before;
      next_is = field_behind order page 8 number 16 (omega arith) long (omega arith) ∙ after;
    }

pub previous_written : (order : Order) (page : List ℕ) (number previous next : ℕ) → 26 ≤ length page → previous < 2 ^ 32 → four_at order page 8 ≡ number
    → four_at order page 16 ≡ next → HasLinks order page (with_field order page 12 previous) number previous next
previous_written order page number previous next long low own after =
    record {
      long = length-field order page 12 previous (omega arith) long;
      body = field_body order page 12 previous (omega arith) long;
      number_is = number_before 4 order page 12 (spelled 4 order previous) 8 (omega arith) (omega (arith, long)) ∙ own;
      previous_is = number_here 4 order page 12 previous low (omega (arith, long));
      next_is = field_behind order page 12 previous 16 (omega arith) long (omega arith) ∙ after;
    }

next_written : (order : Order) (page : List ℕ) (number previous next : ℕ) → 26 ≤ length page → next < 2 ^ 32 → four_at order page 8 ≡ number
    → four_at order page 12 ≡ previous → HasLinks order page (with_field order page 16 next) number previous next
next_written order page number previous next long low own before =
    record {
      long = length-field order page 16 next (omega arith) long;
      body = field_body order page 16 next (omega arith) long;
      number_is = number_before 4 order page 16 (spelled 4 order next) 8 (omega arith) (omega (arith, long)) ∙ own;
      previous_is = number_before 4 order page 16 (spelled 4 order next) 12 (omega arith) (omega (arith, long)) ∙ before;
      next_is = number_here 4 order page 16 next low (omega (arith, long));
    }

pub linked_begun : (order : Order) (page new : List ℕ) (number previous next : ℕ) → IsBegun order page
    → HasLinks order page new number previous next → IsBegun order new
linked_begun order page new number previous next begun is =
    let body = is.body in
    let entries : entries_of order new ≡ entries_of order page = number_same 2 order new page 20 20 body (omega arith) in
    let high : high_free_of order new ≡ high_free_of order page = number_same 2 order new page 20 22 body (omega arith) in
    let type : byte_at new 25 ≡ byte_at page 25 = byte_same new page 20 25 body (omega arith) in
    let offset : (k : ℕ) → offset_of order new k ≡ offset_of order page k = λ k. number_same 2 order new page 20 (26 + 2 * k) body (omega arith) in
    let room : index_end order page ≤ high_free_of order page = begun.room in
    record {
      size = ap is_page_size is.long ∙ begun.size;
      type = ap takes_items type ∙ begun.type;
      room = omega (arith, room, entries, high);
      high = let top = begun.high in omega (arith, top, high, is.long);
      above = λ i low. let up = begun.above i (omega (arith, low, entries)) in omega (arith, up, high, offset i);
      least = λ some. let l = begun.least (omega (arith, some, entries)) in (l.0, omega (arith, l.1, entries), offset l.0 ∙ (l.2 ∙ sym high));
      empty = λ none. high ∙ (begun.empty (sym entries ∙ none) ∙ sym is.long);
      items = λ i low.
          let under : i < entries_of order page = omega (arith, low, entries) in
          let up : high_free_of order page ≤ offset_of order page i = begun.above i under in
          let kept : IsKept order page new i = record {
            high = 20;
            long = is.long;
            type = type;
            body = body;
            low = omega (arith, up, room);
            offset = offset i;
            before = offset (i - 1);
            now = above (offset_of order page i) (index_end order new) (omega (arith, up, room, entries));
            once = above (offset_of order page i) (index_end order page) (omega (arith, up, room));
          } in
          ap (λ b. item_row (page_type b) order new i) type ∙ (rows_same order page new i (page_type (byte_at page 25)) kept ∙ begun.items i under);
    }

abbrev pub with_links : {I : Type 0} → Listed I → ℕ → ℕ → ℕ → Listed I
with_links l number previous next = record l { header = record l.header { number = number; previous = previous; next = next } }

-- an item stands behind the links
pub offset_linked : (order : Order) (page new : List ℕ) (number previous next k : ℕ) → IsBegun order page
    → HasLinks order page new number previous next → k < entries_of order page
    → (offset_of order new k ≡ offset_of order page k) × (20 ≤ offset_of order page k)
offset_linked order page new number previous next k begun is low =
    let up = begun.above k low in
    let room : index_end order page ≤ high_free_of order page = begun.room in
    (number_same 2 order new page 20 (26 + 2 * k) is.body (omega arith), omega (arith, up, room))

-- the page with another header, and the same items
pub linked_page : {I : Type 0} (order : Order) (page new : List ℕ) (number previous next : ℕ) (now before : ℕ → I) → IsBegun order page
    → HasLinks order page new number previous next → ((k : ℕ) → k < entries_of order page → now k ≡ before k)
    → listed order new now ≡ with_links (listed order page before) number previous next
unfolding listed
linked_page {I} order page new number previous next now before begun is same =
    let n : ℕ = entries_of order page in
    let body = is.body in
    let entries : entries_of order new ≡ n = number_same 2 order new page 20 20 body (omega arith) in
    let high : two_at order new 22 ≡ two_at order page 22 = number_same 2 order new page 20 22 body (omega arith) in
    let level : byte_at new 24 ≡ byte_at page 24 = byte_same new page 20 24 body (omega arith) in
    let type : byte_at new 25 ≡ byte_at page 25 = byte_same new page 20 25 body (omega arith) in
    let offset : (k : ℕ) → offset_of order new k ≡ offset_of order page k = λ k. number_same 2 order new page 20 (26 + 2 * k) body (omega arith) in
    let links : Header = record (header_of order page) { number = number; previous = previous; next = next } in
    let header : header_of order new ≡ links = rw (is.number_is, is.previous_is, is.next_is, entries, high, level, type) refl in
    let offsets : map (offset_of order new) (range_with_len 0 n) ≡ map (offset_of order page) (range_with_len 0 n) =
    map_below (offset_of order new) (offset_of order page) n (λ k low. offset k) in
    let items : map now (range_with_len 0 n) ≡ map before (range_with_len 0 n) = map_below now before n same in
    ap (λ m. listing (header_of order new) (map (offset_of order new) (range_with_len 0 m)) (map now (range_with_len 0 m))) entries
    ∙ (ap (λ hd. listing hd (map (offset_of order new) (range_with_len 0 n)) (map now (range_with_len 0 n))) header
    ∙ (ap (λ os. listing links os (map now (range_with_len 0 n))) offsets
    ∙ ap (listing links (map (offset_of order page) (range_with_len 0 n))) items))

-- a leaf holds its entries whatever its links
linked_held : (type : LeafType) (order : Order) (page new : List ℕ) (p previous next number before after : ℕ) (entries : List Entry)
    → HasLinks order page new number before after → HoldsEntries type order page p previous next entries
    → HoldsEntries type order new number before after entries
linked_held type order page new p previous next number before after entries is holds =
    let bounds = open_is order page holds.begun in
    let type_is : byte_at new 25 ≡ type_number type = byte_same new page 20 25 is.body (omega arith) ∙ holds.type_is in
    let old_page : listed order page (leaf_item_at order page) ≡ holds.page = page_is type order page p previous next entries holds in
    let items : (k : ℕ) → k < entries_of order page → leaf_item_at order new k ≡ leaf_item_at order page k =
    λ k low.
    let at = offset_linked order page new number before after k holds.begun is low in
    leaf_item_same order new page 20 k is.body at.0 at.1 in
    let there : abstract_page order new ≡ leaf_of type (with_links holds.page number before after) =
    leaf_typed type order new (omega (arith, bounds.least, is.long)) type_is
    ∙ ap (leaf_of type) (linked_page order page new number before after (leaf_item_at order new) (leaf_item_at order page) holds.begun is items
    ∙ ap (λ l. with_links l number before after) old_page) in
    let high : high_free_of order new ≡ high_free_of order page = number_same 2 order new page 20 22 is.body (omega arith) in
    let count : entries_of order new ≡ entries_of order page = number_same 2 order new page 20 20 is.body (omega arith) in
    record {
      begun = linked_begun order page new number before after holds.begun is;
      type_is = type_is;
      level = byte_same new page 20 24 is.body (omega arith) ∙ holds.level;
      number = is.number_is;
      before = is.previous_is;
      after = is.next_is;
      page = with_links holds.page number before after;
      is = there;
      items = holds.items;
      offsets = holds.offsets;
      above = λ k under. let up = holds.above k under in omega (arith, up, high);
      shares = holds.shares;
      room = let room : room_of order page + sum_by (entry_cost order) entries ≡ length page - 26 = holds.room in omega
          (arith, room, high, count, is.long);
    }

-- one of its links changes
pub numbered : (type : LeafType) (order : Order) (page : List ℕ) (p previous next number : ℕ) (entries : List Entry) → number < 2 ^ 32
    → HoldsEntries type order page p previous next entries → HoldsEntries type order (with_field order page 8 number) number previous next entries
numbered type order page p previous next number entries low holds = grind (arith, open_is, linked_held, number_written)

preceded : (type : LeafType) (order : Order) (page : List ℕ) (p before previous next : ℕ) (entries : List Entry) → previous < 2 ^ 32
    → HoldsEntries type order page p before next entries → HoldsEntries type order (with_field order page 12 previous) p previous next entries
preceded type order page p before previous next entries low holds = grind (arith, open_is, linked_held, previous_written)

followed : (type : LeafType) (order : Order) (page : List ℕ) (p previous before next : ℕ) (entries : List Entry) → next < 2 ^ 32
    → HoldsEntries type order page p previous before entries → HoldsEntries type order (with_field order page 16 next) p previous next entries
followed type order page p previous before next entries low holds = grind (arith, open_is, linked_held, next_written)

-- a page that takes items has a header
pub begun_long : (built : Built) (p : ℕ) → p < length built.pages → AreWhole built → IsBegun built.order (bytes_of built p) → 26 ≤ built.size
begun_long built p low whole begun = let bounds = open_is built.order (bytes_of built p) begun in omega (arith, bounds.least, whole p low)

-- the bytes that are written through a lent page
pub field_written : (old : Built) (p at number : ℕ) (order : Order) (page written : List ℕ) → at + 4 ≤ 20 → p < length old.pages → AreWhole old
    → 26 ≤ old.size → order ≡ old.order → page ≡ bytes_of old p → written ≡ overwritten page at (spelled 4 order number)
    → written_over old p written ≡ with_page old p (with_field old.order (bytes_of old p) at number)
field_written old p at number order page written field low whole legal ordered lent is = grind (arith, length-field, written_whole)

-- a page with these bytes holds what they hold
pub held_on : (type : LeafType) (old new : Built) (p number previous next : ℕ) (page : List ℕ) (entries : List Entry) → p < length old.pages
    → new ≡ with_page old p page
    → HoldsEntries type old.order page number previous next entries → HoldsEntries type new.order (bytes_of new p) number previous next entries
held_on type old new p number previous next page entries low is holds = grind (arith, bytes_with)

pub previous_set : (type : LeafType) (old new : Built) (p previous : ℕ) → p < length old.pages → previous < 2 ^ 32
    → new ≡ with_page old p (with_field old.order (bytes_of old p) 12 previous)
    → (before next : ℕ) (entries : List Entry) → HoldsEntriesOn type old p before next entries → HoldsEntriesOn type new p previous next entries
previous_set type old new p previous low fits is before next entries holds = grind (arith, held_on, preceded)

pub next_set : (type : LeafType) (old new : Built) (p next : ℕ) → p < length old.pages → next < 2 ^ 32
    → new ≡ with_page old p (with_field old.order (bytes_of old p) 16 next)
    → (previous before : ℕ) (entries : List Entry) → HoldsEntriesOn type old p previous before entries
    → HoldsEntriesOn type new p previous next entries
next_set type old new p next low fits is previous before entries holds = grind (arith, held_on, followed)
