-- A root that is placed on another page.
use Rattle.std.proofs.Common.{◌≡◌, ℕ, ◌+◌, ◌-◌, ◌<◌, ◌≤◌, ◌^◌, true, List, [], length, arith, refl, sym, ◌∙◌, ap, subst, length-set, length-take}
use Rattle.bdb_mkleaves.proofs.Common.{get_or-set_other, get_or-take, Order, RecnoItem, Internal, InternalItem, Listed, RecnoInternal, abstract_page, byte_at, four_at, internal_item_at, is_page_size}
use Rattle.bdb_mkleaves.proofs.Common.{listed, recno_item_at, size_bounds, InnerType, Keyed, Numbered, Node, AreWhole, Built, bytes_of, with_page, without_last, high_free_of, page_whole, open_is}
use Rattle.bdb_mkleaves.proofs.Common.{byte_same, number_same, internal_item_same, recno_item_same, typed, IsRootPlaced, HasNodes, HoldsChildren, inner_number, nodes_cost, room_of, with_field}
use Rattle.bdb_places.specs.of_format.Terms.{entries_of}
use Rattle.bdb_mkleaves.proofs.EntryLemmas.{bytes_with}
use Rattle.bdb_mkleaves.proofs.LiveLemmas.{live_same}
use Rattle.bdb_mkleaves.proofs.LeafLemmas.{HasLinks, length-field, linked_begun, linked_page, number_written, previous_written, offset_linked, with_links}

-- An internal page holds its nodes whatever its links.

linked_nodes : (inner : InnerType) (order : Order) (page new : List ℕ) (p level number before after : ℕ) (nodes : List Node)
    → HasLinks order page new number before after → HoldsChildren inner order page p level nodes → byte_at new 25 ≡ inner_number inner
    → 25 < length page → 25 < length new → HasNodes inner (abstract_page order new) nodes
linked_nodes Keyed order page new p level number before after nodes is holds type long long_new =
    let inside : (a b : Listed InternalItem) → Internal a ≡ Internal b → a ≡ b = λ a b e. cc in
    let (l, page_is, items) = holds.is in
    let read : listed order page (internal_item_at order page) ≡ l = inside _ _ (sym (typed order page 3 long refl holds.type_is) ∙ page_is) in
    let same : (k : ℕ) → k < entries_of order page → internal_item_at order new k ≡ internal_item_at order page k =
    λ k low.
    let at = offset_linked order page new number before after k holds.begun is low in
    internal_item_same order new page 20 k is.body at.0 at.1 in (
      with_links l number before after,
      typed order new 3 long_new refl type
          ∙ ap Internal (linked_page order page new number before after (internal_item_at order new) (internal_item_at order page) holds.begun is same
          ∙ ap (λ m. with_links m number before after) read),
      items,
    )
linked_nodes Numbered order page new p level number before after nodes is holds type long long_new =
    let inside : (a b : Listed RecnoItem) → RecnoInternal a ≡ RecnoInternal b → a ≡ b = λ a b e. cc in
    let (l, page_is, items) = holds.is in
    let read : listed order page (recno_item_at order page) ≡ l = inside _ _ (sym (typed order page 4 long refl holds.type_is) ∙ page_is) in
    let same : (k : ℕ) → k < entries_of order page → recno_item_at order new k ≡ recno_item_at order page k =
    λ k low.
    let at = offset_linked order page new number before after k holds.begun is low in
    recno_item_same order new page 20 k is.body at.0 at.1 in (
      with_links l number before after,
      typed order new 4 long_new refl type
          ∙ ap RecnoInternal (linked_page order page new number before after (recno_item_at order new) (recno_item_at order page) holds.begun is same
          ∙ ap (λ m. with_links m number before after) read),
      items,
    )

-- its number changes
renumbered : (inner : InnerType) (order : Order) (page : List ℕ) (p level number : ℕ) (nodes : List Node) → number < 2 ^ 32
    → HoldsChildren inner order page p level nodes → HoldsChildren inner order (with_field order page 8 number) number level nodes
renumbered inner order page p level number nodes low holds =
    let bounds = open_is order page holds.begun in
    let new : List ℕ = with_field order page 8 number in
    let before : ℕ = four_at order page 12 in
    let after : ℕ = four_at order page 16 in
    let is : HasLinks order page new number before after = number_written order page number before after bounds.least low refl refl in
    let type : byte_at new 25 ≡ inner_number inner = byte_same new page 20 25 is.body (omega arith) ∙ holds.type_is in
    let high : high_free_of order new ≡ high_free_of order page = number_same 2 order new page 20 22 is.body (omega arith) in
    let count : entries_of order new ≡ entries_of order page = number_same 2 order new page 20 20 is.body (omega arith) in
    record {
      begun = linked_begun order page new number before after holds.begun is;
      type_is = type;
      level_is = byte_same new page 20 24 is.body (omega arith) ∙ holds.level_is;
      number = is.number_is;
      is = linked_nodes inner order page new p level number before after nodes is holds type (omega (arith, bounds.least))
          (omega (arith, bounds.least, is.long));
      live = live_same order page new 20 is.body (omega arith)
          (λ k low. offset_linked order page new number before after k holds.begun is low) count holds.live;
      room = let room : room_of order page + nodes_cost inner nodes ≡ length page - 26 = holds.room in omega (arith, room, high, count, is.long);
    }

-- the field of the page before it changes
summed : (inner : InnerType) (order : Order) (page : List ℕ) (p level sum : ℕ) (nodes : List Node) → sum < 2 ^ 32
    → HoldsChildren inner order page p level nodes
    → HoldsChildren inner order (with_field order page 12 sum) p level nodes
summed inner order page p level sum nodes low holds =
    let bounds = open_is order page holds.begun in
    let new : List ℕ = with_field order page 12 sum in
    let after : ℕ = four_at order page 16 in
    let is : HasLinks order page new p sum after = previous_written order page p sum after bounds.least low holds.number refl in
    let type : byte_at new 25 ≡ inner_number inner = byte_same new page 20 25 is.body (omega arith) ∙ holds.type_is in
    let high : high_free_of order new ≡ high_free_of order page = number_same 2 order new page 20 22 is.body (omega arith) in
    let count : entries_of order new ≡ entries_of order page = number_same 2 order new page 20 20 is.body (omega arith) in
    record {
      begun = linked_begun order page new p sum after holds.begun is;
      type_is = type;
      level_is = byte_same new page 20 24 is.body (omega arith) ∙ holds.level_is;
      number = is.number_is;
      is = linked_nodes inner order page new p level p sum after nodes is holds type (omega (arith, bounds.least))
          (omega (arith, bounds.least, is.long));
      live = live_same order page new 20 is.body (omega arith) (λ k low. offset_linked order page new p sum after k holds.begun is low) count holds.live;
      room = let room : room_of order page + nodes_cost inner nodes ≡ length page - 26 = holds.room in omega (arith, room, high, count, is.long);
    }

-- The root.

-- the sum is in its field
sum_here : (order : Order) (page : List ℕ) (sum : ℕ) → sum < 2 ^ 32 → 26 ≤ length page → four_at order (with_field order page 12 sum) 12 ≡ sum
sum_here order page sum small long =
    let is = previous_written order page (four_at order page 8) sum (four_at order page 16) long small refl refl in is.previous_is

copied_whole : (old : Built) (first root : ℕ) → AreWhole old → first < root → root + 1 ≡ length old.pages
    → AreWhole (with_page old first (bytes_of old root))
copied_whole old first root whole low last = page_whole old first (bytes_of old root) whole (omega (arith, low, last)) (whole root (omega (arith, last)))

-- with its new number it is whole
pub renamed_whole : (old copied numbered : Built) (first root : ℕ) → AreWhole old → is_page_size old.size ≡ true → first < root
    → root + 1 ≡ length old.pages → copied ≡ with_page old first (bytes_of old root)
    → numbered ≡ with_page copied first (with_field copied.order (bytes_of copied first) 8 first) → AreWhole numbered
renamed_whole old copied numbered first root whole legal low last copy number =
    let one : AreWhole copied = subst AreWhole (sym copy) (copied_whole old first root whole low last) in
    let size : copied.size ≡ old.size = ap (λ (b : Built). b.size) copy in
    let count : length copied.pages ≡ length old.pages = ap (λ (b : Built). length b.pages) copy ∙ length-set old.pages first (bytes_of old root) in
    let under : first < length copied.pages = omega (arith, low, last, count) in
    let long : length (bytes_of copied first) ≡ copied.size = one first under in
    subst AreWhole (sym number)
    (page_whole copied first (with_field copied.order (bytes_of copied first) 8 first) one under
    (length-field copied.order (bytes_of copied first) 8 first (omega arith) (omega (arith, long, size, (size_bounds old.size legal).0)) ∙ long))

pub root_placed : (old copied numbered counted new : Built) (first root sum : ℕ) → AreWhole old → is_page_size old.size ≡ true → first < 2 ^ 32
    → sum < 2 ^ 32 → first < root → root + 1 ≡ length old.pages
    → copied ≡ with_page old first (bytes_of old root)
    → numbered ≡ with_page copied first (with_field copied.order (bytes_of copied first) 8 first)
    → counted ≡ with_page numbered first (with_field numbered.order (bytes_of numbered first) 12 sum) → new ≡ without_last counted
    → IsRootPlaced first root sum old new
root_placed old copied numbered counted new first root sum whole legal fits small low last copy number count_is drops =
    let page : List ℕ = bytes_of old root in
    let one : Built = with_page old first page in
    let renamed : List ℕ = with_field old.order page 8 first in
    let two : Built = with_page one first renamed in
    let bytes : List ℕ = with_field old.order renamed 12 sum in
    let three : Built = with_page two first bytes in
    let all : Built = without_last three in
    let under : first < length old.pages = omega (arith, low, last) in
    let count_one : length one.pages ≡ length old.pages = length-set old.pages first page in
    let count_two : length two.pages ≡ length one.pages = length-set one.pages first renamed in
    let count_three : length three.pages ≡ length two.pages = length-set two.pages first bytes in
    let rest : length three.pages - 1 ≡ root = omega (arith, count_one, count_two, count_three, last) in
    let is_two : numbered ≡ two =
    number
    ∙ (ap (λ (b : Built). with_page b first (with_field b.order (bytes_of b first) 8 first)) copy
    ∙ ap (λ bs. with_page one first (with_field old.order bs 8 first)) (bytes_with old first page under)) in
    let is_three : counted ≡ three =
    count_is
    ∙ (ap (λ (b : Built). with_page b first (with_field b.order (bytes_of b first) 12 sum)) is_two
    ∙ ap (λ bs. with_page two first (with_field old.order bs 12 sum)) (bytes_with one first renamed (omega (arith, under, count_one)))) in
    let is_all : new ≡ all = drops ∙ ap without_last is_three in
    let stays : (p : ℕ) → p < root
    → bytes_of all p ≡ bytes_of three p = λ p here. get_or-take (length three.pages - 1) three.pages p [] (omega (arith, here, rest)) in
    let there : bytes_of all first ≡ bytes = stays first low ∙ bytes_with two first bytes (omega (arith, under, count_one, count_two)) in
    let long_page : length page ≡ old.size = whole root (omega (arith, last)) in
    let long_renamed : length renamed ≡ old.size =
    length-field old.order page 8 first (omega arith) (omega (arith, long_page, (size_bounds old.size legal).0)) ∙ long_page in
    let long : length bytes ≡ old.size =
    length-field old.order renamed 12 sum (omega arith) (omega (arith, long_renamed, (size_bounds old.size legal).0)) ∙ long_renamed in
    let count : length all.pages ≡ root = omega (arith, length-take (length three.pages - 1) three.pages, rest) in
    let whole_two : AreWhole two =
    page_whole one first renamed (copied_whole old first root whole low last) (omega (arith, under, count_one)) long_renamed in
    let whole_three : AreWhole three = page_whole two first bytes whole_two (omega (arith, under, count_one, count_two)) long in
    subst (IsRootPlaced first root sum old) (sym is_all) (record {
      size = refl;
      order = refl;
      whole = λ p here.
          ap length (stays p (omega (arith, here, count)))
          ∙ whole_three p (omega (arith, here, count, count_one, count_two, count_three, last));
      count = count;
      bytes = there;
      summed = ap (λ bs. four_at old.order bs 12) there ∙ sum_here old.order renamed sum small (omega (arith, long_renamed, (size_bounds old.size legal).0));
      same = λ p here other.
          stays p here
          ∙ (get_or-set_other two.pages first p bytes [] other
          ∙ (get_or-set_other one.pages first p renamed [] other ∙ get_or-set_other old.pages first p page [] other));
      holds = λ inner level nodes hold.
          subst (λ bs. HoldsChildren inner old.order bs first level nodes) (sym there)
          (summed inner old.order renamed first level sum nodes small (renumbered inner old.order page root level first nodes fits hold));
    })
