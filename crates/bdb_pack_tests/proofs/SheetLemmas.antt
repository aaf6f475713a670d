-- A sheet stays one.
use Rattle.std.proofs.Common.{◌≡◌, ℕ, ◌+◌, ◌-◌, ◌≤◌, true, List, [], ◌∷◌, length, replicate, refl, ap, subst, arith, ◌∙◌, length-append}
use Rattle.bdb_form.specs.of_format.declared.pages.Header.{Header}
use Rattle.bdb_form.specs.of_format.Terms.{index_end, is_page_size}
use Rattle.std.proofs.lemmas.Bool.Decides.{nat_tests}
use Rattle.std.proofs.lemmas.List.{length-set}
use Rattle.bdb_form.specs.of_format.declared.kinds.Order.{Order}
use Rattle.bdb_pack.specs.Built.{Built, bytes_of, with_page, with_zeros}
use Rattle.bdb_pack.specs.Items.{IsWritable, PageItem, item_bytes, takes_items}
use Rattle.bdb_pack.specs.OnPages.{HasRoomOn, IsBegunOn, has_room_on, with_item_on}
use Rattle.bdb_pack.specs.Placing.{CanShare, FitsFields, begun_page, high_free_of, page_and_item, page_and_shared}
use Rattle.bdb_pack.proofs.AddedLemmas.{begun_added}
use Rattle.bdb_pack.proofs.BegunLemmas.{begun_on, begun_with}
use Rattle.bdb_pack.proofs.SharedLemmas.{entries_are_shared}
use Rattle.bdb_pack_tests.specs.Sheet.{HasPairs, IsSheet, Takes}

room_is : (built : Built) (piece : List ℕ) → true ≡ has_room_on built 1 piece → HasRoomOn built 1 piece
room_is built piece room = grind (arith, nat_tests)

-- it takes an item
pub with_taken : (old : Built) (order : Order) (page : List ℕ) (item : PageItem) → IsSheet old → order ≡ old.order → page ≡ bytes_of old 1
    → Takes order page item → IsWritable item → true ≡ has_room_on old 1 (item_bytes old.order item)
    → IsSheet (with_item_on old 1 (item_bytes old.order item))
with_taken old order page item sheet same is takes fits room =
    let here : Takes old.order (bytes_of old 1) item = rw (← same, ← is) takes in
    let two : length old.pages ≡ 2 = sheet.two in
    record {
      two = length-set old.pages 1 (page_and_item old.order (bytes_of old 1) (item_bytes old.order item)) ∙ two;
      begun = begun_with old 1 item (omega arith) sheet.begun here.holds fits here.place (room_is old (item_bytes old.order item) room);
    }

-- it begins
pub begun_sheet : (old now new : Built) (number : ℕ) (header : Header) → length old.pages ≡ 1 → is_page_size old.size ≡ true
    → takes_items header.page_type ≡ true
    → FitsFields header → now ≡ with_zeros old → number ≡ length old.pages
    → new ≡ with_page now number (begun_page now.order (bytes_of now number) header) → IsSheet new
begun_sheet old now new number header one legal takes fits added is written =
    let n : ℕ = length old.pages in
    let z : Built = with_zeros old in
    let page : List ℕ = begun_page old.order (bytes_of z n) header in
    let made : new ≡ with_page z n page = written ∙ rw (added, is) refl in
    let two : length z.pages ≡ 2 = length-append old.pages (replicate old.size 0 ∷ []) ∙ ap (λ k. k + 1) one in
    let begun : IsBegunOn (with_page z n page) n = begun_added old header legal takes fits in
    rw made (record { two = length-set z.pages n page ∙ two; begun = subst (IsBegunOn (with_page z n page)) one begun })

-- it shares an entry
pub with_shared : (old : Built) (order : Order) (page : List ℕ) (room : ℕ) → IsSheet old → order ≡ old.order → page ≡ bytes_of old 1
    → HasPairs order page → room ≡ high_free_of old.order (bytes_of old 1) - index_end old.order (bytes_of old 1) → 2 ≤ room
    → IsSheet (with_page old 1 (page_and_shared old.order (bytes_of old 1)))
with_shared old order page room sheet same is pairs room_is some =
    let here : HasPairs old.order (bytes_of old 1) = rw (← same, ← is) pairs in
    let can : CanShare old.order (bytes_of old 1) = record { type = here.type; even = here.even; some = here.some; room = omega (arith, room_is, some) } in
    let two : length old.pages ≡ 2 = sheet.two in
    record {
      two = length-set old.pages 1 (page_and_shared old.order (bytes_of old 1)) ∙ two;
      begun = begun_on old 1 (page_and_shared old.order (bytes_of old 1)) (omega arith) (entries_are_shared old.order (bytes_of old 1) sheet.begun can).1;
    }
