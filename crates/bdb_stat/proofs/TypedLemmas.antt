-- A page by its type.
use Rattle.std.proofs.Common.{◌≡◌, ◌∙◌, ℕ, ◌+◌, ◌-◌, ◌≤◌, List, drop, length, length-drop, length-take, take, ap, arith, refl, None, min}
use Rattle.std.proofs.lemmas.Bool.Decides.{nat_tests}
use Rattle.bdb_law_turned.specs.of_format.declared.kinds.Order.{Order}
use Rattle.bdb_law_turned.specs.of_format.declared.pages.PageType.{PageType}
use Rattle.bdb_law_turned.specs.of_format.declared.pages.PageType.TheVariants.{Hash as HashPage, Internal as InternalPage, RecnoInternal as RecnoInternalPage}
use Rattle.bdb_law_turned.specs.of_format.declared.pages.PageType.TheVariants.{Leaf as LeafPage, RecnoLeaf as RecnoLeafPage, DupLeaf as DupLeafPage}
use Rattle.bdb_law_turned.specs.of_format.declared.pages.PageType.TheVariants.{Overflow as OverflowPage}
use Rattle.bdb_law_turned.specs.of_format.Terms.{body_code, page_as, two_at}
use Rattle.bdb_law_turned.proofs.of_format.PageLemmas.{chain_room}
use Rattle.bdb_stat.specs.Unused.{unused_in}

-- a page of a chain has the bytes behind its piece
pub chain_unused : (order : Order) (page : List ℕ) (piece : ℕ) → body_code order page OverflowPage ≡ None → piece ≡ two_at order page 22
    → length page - 26 - piece ≡ unused_in (length page) (page_as order page OverflowPage)
unfolding unused_in
chain_unused order page piece code piece_is =
    let room : 26 + two_at order page 22 ≤ length page = chain_room order page code in
    let long : length (take (two_at order page 22) (drop 26 page)) ≡ min (two_at order page 22) (length page - 26) =
    length-take (two_at order page 22) (drop 26 page) ∙ ap (min (two_at order page 22)) (length-drop 26 page) in
    omega arith

-- other pages have no unused bytes
pub nothing_unused : (order : Order) (page : List ℕ) (size : ℕ) (t : PageType) → (t ≡ HashPage → ⊥) → (t ≡ InternalPage → ⊥) → (t ≡ RecnoInternalPage → ⊥)
    → (t ≡ LeafPage → ⊥) → (t ≡ RecnoLeafPage → ⊥) → (t ≡ DupLeafPage → ⊥) → (t ≡ OverflowPage → ⊥) → 0 ≡ unused_in size (page_as order page t)
unfolding unused_in
nothing_unused order page size HashPage hash internal recno leaf records sorted chain = absurd (hash refl)
nothing_unused order page size InternalPage hash internal recno leaf records sorted chain = absurd (internal refl)
nothing_unused order page size RecnoInternalPage hash internal recno leaf records sorted chain = absurd (recno refl)
nothing_unused order page size LeafPage hash internal recno leaf records sorted chain = absurd (leaf refl)
nothing_unused order page size RecnoLeafPage hash internal recno leaf records sorted chain = absurd (records refl)
nothing_unused order page size DupLeafPage hash internal recno leaf records sorted chain = absurd (sorted refl)
nothing_unused order page size OverflowPage hash internal recno leaf records sorted chain = absurd (chain refl)
nothing_unused order page size t hash internal recno leaf records sorted chain = refl
