-- A page of a table that begins, takes an item, or gets a next page, and what it is in a file.
use Rattle.std.proofs.Common.{◌≡◌, ℕ, ◌+◌, ◌-◌, ◌<◌, ◌≤◌, true, List, [], ◌∷◌, ◌++◌, length, drop, replicate, arith, refl, sym, ◌∙◌, ap, subst, length-append, ◌^◌, ◌%◌, ◌==◌, sum_by}
use Rattle.bdb_mkhash.proofs.Common.{get_or-set_other, get_or_append_left, get_or_push, length-map, length-replicate, length-set, map-append, sum_by_push, Order, Content, Hash, Item, Listed, byte_at}
use Rattle.bdb_mkhash.proofs.Common.{entries_of, four_at, hash_bytes, hash_item_at, header_bytes, header_of, index_end, is_page_size, is_wrong_entry_count, is_wrong_level, listed, offset_of}
use Rattle.bdb_mkhash.proofs.Common.{page_type, spelled, length-overwritten, length-spelled, size_bounds, Built, bytes_of, with_page, with_zeros, HasPlace, IsWritable, OnHash, extent, holds_item}
use Rattle.bdb_mkhash.proofs.Common.{open_is, HasLinks, linked_begun, linked_page, offset_linked, with_links, hash_item, IsGrown, CanTakeContent, HashPagesAreFormed, HashPagesStand, HoldsContents}
use Rattle.bdb_mkhash.proofs.Common.{HoldsContentsOn, content_cost, page_header, room_of, with_hash_page, with_next}
use Rattle.bdb_mktree.specs.of_format.declared.pages.Header.{Header}
use Rattle.bdb_mktree.proofs.of_format.PageLemmas.{header_listed, length_items}
use Rattle.bdb_mktree.specs.of_pack.OnPages.{HasPlaceOn, with_item_on}
use Rattle.bdb_mktree.specs.of_pack.Placing.{HasRoom, begun_header, begun_page, empty_listed, high_free_of, page_and_item, page_with, place_below, with_item}
use Rattle.bdb_mktree.proofs.of_pack.BegunLemmas.{begun_stays}
use Rattle.bdb_mktree.proofs.of_pack.FormLemmas.{begun_is_formed}
use Rattle.bdb_mktree.proofs.of_pack.HeaderLemmas.{begun_pages_take_items, header_read, length-header}
use Rattle.bdb_mktree.proofs.of_pack.PlacedLemmas.{IsPlaced, is_below}
use Rattle.bdb_mktree.proofs.of_pack.PlaceLemmas.{behind, byte_same, number_before, number_here, number_same}
use Rattle.bdb_mktree.proofs.of_pack.PlacingLaws.{items_are_placed}
use Rattle.bdb_mktree.proofs.of_pack.StandingLemmas.{end_same, hash_item_same, typed}
use Rattle.bdb_mktree.proofs.of_mkleaves.EntryLemmas.{bytes_with}
use Rattle.bdb_mktree.proofs.of_pack.NewRowLemmas.{hash_least as some_bytes}

-- The page by its bytes.

hash_inside : (a b : Listed Item) → Hash a ≡ Hash b → a ≡ b
hash_inside a b same = cc

pub page_is : (order : Order) (bytes : List ℕ) (p previous next : ℕ) (contents : List Content)
    (holds : HoldsContents order bytes p previous next contents) → listed order bytes (hash_item_at order bytes) ≡ holds.page
page_is order bytes p previous next contents holds =
    let bounds = open_is order bytes holds.begun in
    hash_inside _ _ (sym (typed order bytes 2 (omega (arith, bounds.least)) refl holds.type_is) ∙ holds.is)

-- it has as many entries in its index
pub contents_held : (order : Order) (bytes : List ℕ) (p previous next : ℕ) (contents : List Content)
    → HoldsContents order bytes p previous next contents → entries_of order bytes ≡ length contents
contents_held order bytes p previous next contents holds =
    sym (length_items order bytes (hash_item_at order bytes))
    ∙ (ap (λ (l : Listed Item). length l.items) (page_is order bytes p previous next contents holds)
    ∙ (ap length holds.items ∙ length-map contents hash_item))

pub hash_pages_are_formed : HashPagesAreFormed
hash_pages_are_formed order bytes p previous next contents holds even =
    begun_is_formed order p bytes holds.begun holds.number (ap (λ t. is_wrong_level (page_type t) (byte_at bytes 24)) holds.type_is)
    (ap (λ t. is_wrong_entry_count (page_type t) (entries_of order bytes)) holds.type_is
    ∙ (ap (λ n. n % 2 == 1) (contents_held order bytes p previous next contents holds) ∙ ap (λ n. n == 1) even))

pub hash_pages_stand : HashPagesStand
hash_pages_stand built p previous next contents g holds same =
    let bytes : List ℕ = bytes_of built p in
    let header : holds.page.header ≡ header_of built.order bytes =
    ap (λ (l : Listed Item). l.header) (sym (page_is built.order bytes p previous next contents holds))
    ∙ header_listed built.order bytes (hash_item_at built.order bytes) in
    record {
      page = holds.page;
      is = same ∙ holds.is;
      type_is = ap (λ (h : Header). h.page_type) header ∙ holds.type_is;
      previous_is = ap (λ (h : Header). h.previous) header ∙ holds.before;
      next_is = ap (λ (h : Header). h.next) header ∙ holds.after;
      items = holds.items;
    }

-- An item more.

item_added : (order : Order) (page : List ℕ) (p previous next : ℕ) (contents : List Content) (content : Content)
    → HoldsContents order page p previous next contents → IsWritable (OnHash content) → HasPlace 2 (length contents) (OnHash content)
    → content_cost order content ≤ room_of order page
    → HoldsContents order (page_and_item order page (hash_bytes order content)) p previous next (contents ++ (content ∷ []))
    × (length (page_and_item order page (hash_bytes order content)) ≡ length page)
item_added order page p previous next contents content holds fits place room =
    let piece : List ℕ = hash_bytes order content in
    let n : ℕ = length piece in
    let new : List ℕ = page_and_item order page piece in
    let in_order : index_end order page ≤ high_free_of order page = holds.begun.room in
    let taken : extent (byte_at page 25) n ≡ n = ap (λ t. extent t n) holds.type_is in
    let some : 0 < n = some_bytes order content fits in
    let enough : HasRoom order page n = omega (arith, room, taken, in_order) in
    let is_hash : holds_item (byte_at page 25) (OnHash content) ≡ true = ap (λ t. holds_item t (OnHash content)) holds.type_is in
    let count : entries_of order page ≡ length contents = contents_held order page p previous next contents holds in
    let there : HasPlace (byte_at page 25) (entries_of order page) (OnHash content) =
    subst (λ t. HasPlace t (entries_of order page) (OnHash content)) (sym holds.type_is)
    (subst (λ k. HasPlace 2 k (OnHash content)) (sym count) place) in
    let below : IsPlaced order page new (place_below order page n) piece = is_below order page piece (open_is order page holds.begun) enough in
    let at : ℕ = place_below order page n in (
      record {
        begun = begun_stays order page (OnHash content) holds.begun is_hash fits there enough;
        type_is = below.entry.type ∙ holds.type_is;
        number = below.entry.low 4 8 (omega arith) ∙ holds.number;
        before = below.entry.low 4 12 (omega arith) ∙ holds.before;
        after = below.entry.low 4 16 (omega arith) ∙ holds.after;
        page = with_item holds.page at at (hash_item content);
        is = items_are_placed order page (OnHash content) holds.begun is_hash fits enough ∙ ap (λ l. page_with l at (OnHash content)) holds.is;
        items = ap (λ items. items ++ (hash_item content ∷ [])) holds.items ∙ sym (map-append hash_item contents (content ∷ []));
        room =
            let sum : sum_by (content_cost order) (contents ++ (content ∷ [])) ≡ sum_by (content_cost order) contents + content_cost order content =
            sum_by_push (content_cost order) contents content in
            let old : room_of order page + sum_by (content_cost order) contents ≡ length page - 26 = holds.room in
            omega (arith, sum, old, below.entry.entries, below.entry.top, below.entry.long, room, in_order, taken);
      },
      below.entry.long,
    )

contents_same : (order : Order) (bytes : List ℕ) (p previous next before after : ℕ) (contents others : List Content)
    → HoldsContents order bytes p previous next contents → HoldsContents order bytes p before after others → length contents ≡ length others
contents_same order bytes p previous next before after contents others one two =
    sym (contents_held order bytes p previous next contents one) ∙ contents_held order bytes p before after others two

pub item_grown : (old new : Built) (p : ℕ) (content : Content) → p < length old.pages → new ≡ with_item_on old p (hash_bytes old.order content)
    → CanTakeContent old p content → IsGrown p old new content
item_grown old new p content low is can =
    let page : List ℕ = page_and_item old.order (bytes_of old p) (hash_bytes old.order content) in
    subst (λ (b : Built). IsGrown p old b content) (sym is)
    (record {
      kept = record {
        size = refl;
        order = refl;
        grows = omega (arith, length-set old.pages p page);
        same = λ q under other. get_or-set_other old.pages p q page [] other;
      };
      count = length-set old.pages p page;
      long = ap length (bytes_with old p page low)
          ∙ (item_added old.order (bytes_of old p) p can.previous can.next can.contents content can.holds can.fits can.place can.room).1;
      hold = λ previous next contents holds.
          let same = contents_same old.order (bytes_of old p) p can.previous can.next previous next can.contents contents can.holds holds in
          subst (λ bs. HoldsContents old.order bs p previous next (contents ++ (content ∷ []))) (sym (bytes_with old p page low))
          (item_added old.order (bytes_of old p) p previous next contents content holds can.fits
          (subst (λ k. HasPlace 2 k (OnHash content)) same can.place) can.room).0;
    })

-- what `append_hash` asks of the page
pub item_placed : (built : Built) (p : ℕ) (content : Content) → CanTakeContent built p content → HasPlaceOn built p (OnHash content)
item_placed built p content can =
    let count = contents_held built.order (bytes_of built p) p can.previous can.next can.contents can.holds in
    subst (λ t. HasPlace t (entries_of built.order (bytes_of built p)) (OnHash content)) (sym can.holds.type_is)
    (subst (λ k. HasPlace 2 k (OnHash content)) (sym count) can.place)

-- A page that begins.

empty_page_held : (order : Order) (page : List ℕ) (number previous : ℕ) → is_page_size (length page) ≡ true → number < 2 ^ 32 → previous < 2 ^ 32
    → HoldsContents order (begun_page order page (page_header number previous)) number previous 0 []
empty_page_held order page number previous legal low_number low_previous =
    let header : Header = page_header number previous in
    let new : List ℕ = begun_page order page header in
    let law = begun_pages_take_items order page header legal refl
    (record { number = low_number; previous = low_previous; next = omega arith }) in
    let h : Header = begun_header page header in
    let sizes = size_bounds (length page) legal in
    let long : length new ≡ length page =
    length-overwritten page 0 (header_bytes order h) (omega (arith, length-header order h, sizes.0)) in
    let is : header_of order new ≡ h =
    header_read order h (drop (0 + length (header_bytes order h)) page)
    (record { number = low_number; previous = low_previous; next = omega arith; entries = omega arith; high = omega (arith, sizes.1) }) in
    let none : entries_of order new ≡ 0 = ap (λ (x : Header). x.entries) is in
    let high : high_free_of order new ≡ length page = ap (λ (x : Header). x.high_free) is in
    record {
      begun = law.1;
      type_is = ap (λ (x : Header). x.page_type) is;
      number = ap (λ (x : Header). x.number) is;
      before = ap (λ (x : Header). x.previous) is;
      after = ap (λ (x : Header). x.next) is;
      page = empty_listed h;
      is = law.0;
      items = refl;
      room = omega (arith, none, high, long);
    }

pub page_added : (old added new : Built) (number previous : ℕ) → is_page_size old.size ≡ true → length old.pages < 2 ^ 21 → previous < 2 ^ 32
    → added ≡ with_zeros old → number ≡ length old.pages
    → new ≡ with_page added number (begun_page added.order (bytes_of added number) (page_header number previous))
    → (new ≡ with_hash_page old previous) × HoldsContentsOn new number previous 0 []
page_added old added new number previous legal few low zeros at_end begun =
    let n : ℕ = length old.pages in
    let page : List ℕ = bytes_of (with_zeros old) n in
    let blank : page ≡ replicate old.size 0 = get_or_push old.pages (replicate old.size 0) [] n refl in
    let long : length page ≡ old.size = ap length blank ∙ length-replicate old.size 0 in
    let is : new ≡ with_hash_page old previous =
    begun
    ∙ (ap (λ (b : Built). with_page b number (begun_page b.order (bytes_of b number) (page_header number previous))) zeros
    ∙ ap (λ k. with_page (with_zeros old) k (begun_page old.order (bytes_of (with_zeros old) k) (page_header k previous))) at_end) in
    let leaf : List ℕ = begun_page old.order page (page_header n previous) in
    let there : n < length (with_zeros old).pages = omega (arith, length-append old.pages (replicate old.size 0 ∷ [])) in
    let here : bytes_of (with_hash_page old previous) n ≡ leaf = bytes_with (with_zeros old) n leaf there in
    let holds : HoldsContents old.order leaf n previous 0 [] =
    empty_page_held old.order page n previous (ap is_page_size long ∙ legal) (omega (arith, few)) low in (
      is,
      subst (λ (b : Built). HoldsContentsOn b number previous 0 []) (sym is)
          (subst (λ k. HoldsContentsOn (with_hash_page old previous) k previous 0 []) (sym at_end)
          (subst (λ bs. HoldsContents old.order bs n previous 0 []) (sym here) holds)),
    )

-- the other pages stay
pub added_keeps : (old new : Built) (previous : ℕ) → new ≡ with_hash_page old previous
    → (new.size ≡ old.size) × (new.order ≡ old.order) × (length new.pages ≡ length old.pages + 1)
    × ((q : ℕ) → q < length old.pages → bytes_of new q ≡ bytes_of old q)
added_keeps old new previous is = grind (arith, length-set, length-append, get_or-set_other, get_or_append_left)

-- The next page.

next_written : (order : Order) (page : List ℕ) (number previous next : ℕ) → 26 ≤ length page → next < 2 ^ 32 → four_at order page 8 ≡ number
    → four_at order page 12 ≡ previous → HasLinks order page (with_next order page next) number previous next
next_written order page number previous next long low own before =
    record {
      long = length-overwritten page 16 (spelled 4 order next) (omega (arith, length-spelled 4 order next, long));
      body = behind page 16 (spelled 4 order next) 20 (omega (arith, length-spelled 4 order next)) (omega (arith, long));
      number_is = number_before 4 order page 16 (spelled 4 order next) 8 (omega arith) (omega (arith, long)) ∙ own;
      previous_is = number_before 4 order page 16 (spelled 4 order next) 12 (omega arith) (omega (arith, long)) ∙ before;
      next_is = number_here 4 order page 16 next low (omega (arith, long));
    }

followed : (order : Order) (page : List ℕ) (p previous before next : ℕ) (contents : List Content) → next < 2 ^ 32
    → HoldsContents order page p previous before contents → HoldsContents order (with_next order page next) p previous next contents
followed order page p previous before next contents low holds =
    let bounds = open_is order page holds.begun in
    let new : List ℕ = with_next order page next in
    let is : HasLinks order page new p previous next = next_written order page p previous next bounds.least low holds.number holds.before in
    let type_is : byte_at new 25 ≡ 2 = byte_same new page 20 25 is.body (omega arith) ∙ holds.type_is in
    let index : (k : ℕ) → k < entries_of order page → offset_of order new k ≡ offset_of order page k =
    λ k low. (offset_linked order page new p previous next k holds.begun is low).0 in
    let items : (k : ℕ) → k < entries_of order page → hash_item_at order new k ≡ hash_item_at order page k =
    λ k low.
    let at = offset_linked order page new p previous next k holds.begun is low in
    hash_item_same order new page 20 k is.body at.0 (end_same order new page k (entries_of order page) is.long index (omega (arith, low))) at.1 in
    let high : high_free_of order new ≡ high_free_of order page = number_same 2 order new page 20 22 is.body (omega arith) in
    let count : entries_of order new ≡ entries_of order page = number_same 2 order new page 20 20 is.body (omega arith) in
    record {
      begun = linked_begun order page new p previous next holds.begun is;
      type_is = type_is;
      number = is.number_is;
      before = is.previous_is;
      after = is.next_is;
      page = with_links holds.page p previous next;
      is = typed order new 2 (omega (arith, bounds.least, is.long)) refl type_is
          ∙ ap Hash (linked_page order page new p previous next (hash_item_at order new) (hash_item_at order page) holds.begun is items
          ∙ ap (λ l. with_links l p previous next) (page_is order page p previous before contents holds));
      items = holds.items;
      room =
          let room : room_of order page + sum_by (content_cost order) contents ≡ length page - 26 = holds.room in
          omega (arith, room, high, count, is.long);
    }

pub next_set : (old new : Built) (p next : ℕ) → p < length old.pages → next < 2 ^ 32
    → new ≡ with_page old p (with_next old.order (bytes_of old p) next)
    → (previous before : ℕ) (contents : List Content) → HoldsContentsOn old p previous before contents → HoldsContentsOn new p previous next contents
next_set old new p next low fits is previous before contents holds = grind (arith, bytes_with, followed)
