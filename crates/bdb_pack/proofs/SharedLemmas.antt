-- An entry that is shared.
use Rattle.std.proofs.Common.{◌≡◌, ℕ, ◌+◌, ◌-◌, ◌≤◌, List, length, drop, None, arith, refl, sym, ◌∙◌, ap, subst, ◌%◌, option_map}
use Rattle.bdb_pack.proofs.Common.{ltb-false, or_parts, Order, Leaf, byte_at, entries_of, first_row, index_end, item_code, item_row, leaf_item_at, leaf_rows, listed, offset_of, page_type}
use Rattle.bdb_pack.proofs.Common.{EntriesAreShared, high_free_of, page_again, page_and_shared, with_item}
use Rattle.bdb_layout.specs.of_format.declared.pages.PageType.TheVariants.{Leaf as LeafPage}
use Rattle.bdb_layout.proofs.of_format.LeafLemmas.{one_offset}
use Rattle.bdb_pack.proofs.BegunLemmas.{grown_stays, still_none}
use Rattle.bdb_pack.proofs.OpenLemmas.{open_is}
use Rattle.bdb_pack.proofs.PlacedLemmas.{IsEntered, is_entered}
use Rattle.bdb_pack.proofs.PlaceLemmas.{drop_same}
use Rattle.bdb_pack.proofs.RowsLemmas.{none_of_three}
use Rattle.bdb_pack.proofs.StandingLemmas.{leaf_item_same, listed_more, typed}

-- an item of a leaf begins before the page's end
pub begins_within : (order : Order) (page : List ℕ) (i : ℕ) → item_row LeafPage order page i ≡ None → offset_of order page i + 3 ≤ length page
unfolding leaf_rows
begins_within order page i none = grind (arith, ltb-false, or_parts, none_of_three)

-- an item is read, and has its rows, by its offset and by whether it stands as data
rows_again : (order : Order) (page : List ℕ) (n k : ℕ) → offset_of order page n ≡ offset_of order page k → n % 2 ≡ k % 2
    → leaf_rows order page n ≡ leaf_rows order page k
unfolding leaf_rows
rows_again order page n k same parity = rw (same, parity) refl

even_before : (n : ℕ) → n % 2 ≡ 0 → 2 ≤ n → n % 2 ≡ (n - 2) % 2
even_before n even some = omega (arith, even, some)

pub entries_are_shared : EntriesAreShared
entries_are_shared order page begun can =
    let n : ℕ = entries_of order page in
    let some : 2 ≤ n = can.some in
    let at : ℕ = offset_of order page (n - 2) in
    let h : ℕ = high_free_of order page in
    let new : List ℕ = page_and_shared order page in
    let free = open_is order page begun in
    let most = free.most in
    let least = free.least in
    let high : h ≤ length page = begun.high in
    let room : index_end order page + 2 ≤ h = can.room in
    let five : page_type (byte_at page 25) ≡ LeafPage = ap page_type can.type in
    let row : item_row LeafPage order page (n - 2) ≡ None =
    subst (λ t. item_row t order page (n - 2) ≡ None) five (begun.items (n - 2) (omega (arith, some))) in
    let before : at + 3 ≤ length page = begins_within order page (n - 2) row in
    let both = is_entered order page at h free (omega (arith, room, high)) (omega (arith, before, most)) (omega (arith, high, most)) in
    let is : IsEntered order page new at h = both.0 in
    let body : drop h new ≡ drop h page = drop_same new page (index_end order page + 2) h both.1 room in
    let up : h ≤ at = begun.above (n - 2) (omega (arith, some)) in
    let end : index_end order new ≤ h = omega (arith, room, is.entries) in
    let same : offset_of order new n ≡ offset_of order new (n - 2) = is.last ∙ sym (is.index (n - 2) (omega (arith, some))) in
    let item : leaf_item_at order new n ≡ leaf_item_at order page (n - 2) =
    one_offset order new n (n - 2) same ∙ leaf_item_same order new page h (n - 2) body (is.index (n - 2) (omega (arith, some))) up in
    let grows : listed order new (leaf_item_at order new) ≡ with_item (listed order page (leaf_item_at order page)) at h (leaf_item_at order page (n - 2)) =
    listed_more order page new at h (leaf_item_at order new) (leaf_item_at order page) (leaf_item_at order page (n - 2)) is
    (λ k low. leaf_item_same order new page h k body (is.index k low) (begun.above k low)) item in
    let once = begun.least (omega (arith, some)) in
    let five_now : byte_at new 25 ≡ 5 = is.type ∙ can.type in
    let none : item_row (page_type (byte_at new 25)) order new n ≡ None =
    ap (λ b. item_row (page_type b) order new n) five_now
    ∙ (ap (λ rows. option_map item_code (first_row rows)) (rows_again order new n (n - 2) same (even_before n can.even some))
    ∙ (ap (λ b. item_row (page_type b) order new (n - 2)) (sym five_now) ∙ still_none order page new at h (n - 2) begun is body end (omega (arith, some)))) in (
      typed order new 5 (omega (arith, least, is.long)) refl five_now
          ∙ (ap (λ l. Leaf l) grows ∙ ap (λ p. page_again p at h (leaf_item_at order page (n - 2)))
          (sym (typed order page 5 (omega (arith, least)) refl can.type))),
      grown_stays order page new at h begun is body end (omega arith) up
          (once.0, (let low = once.1 in omega (arith, low, is.entries)), is.index once.0 once.1 ∙ once.2) none,
    )
