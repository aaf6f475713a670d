-- No row of an item holds that was just placed.
use Rattle.std.proofs.Common.{◌≡◌, ℕ, zero, suc, ◌+◌, ◌-◌, ◌<◌, ◌≤◌, Bool, true, false, not, cond, List, [], ◌∷◌, ◌++◌, length, drop, Option, Some, None, arith}
use Rattle.std.proofs.Common.{refl, ◌∙◌, ap, length-append, ◌==◌, ◌||◌, ◌&&◌, ◌%◌, is_none, nat_le, nat_lt, slice_range, flat_map, unwrap_or}
use Rattle.bdb_pack.proofs.Common.{and_right, eq-eqb, or_from, append_assoc, Order, RecnoItem, Chain, Content, Inline, IsHashContent, IsKey, IsLeafContent, Item, Set, Tree, Unknown, block_bytes}
use Rattle.bdb_pack.proofs.Common.{blocks_of, byte_at, hash_bytes, hash_end, hash_item_at, hash_rows, index_end, internal_bytes, internal_rows, is_hash_kind, is_leaf_kind, item_row, kind_at}
use Rattle.bdb_pack.proofs.Common.{kind_byte, leaf_bytes, leaf_end, leaf_rows, offset_of, recno_bytes, recno_rows, spelled, two_at, zeros, byte_at-in, length-spelled, number_at-in, slice_range-in}
use Rattle.bdb_pack.proofs.Common.{length-hash_chain, length-hash_tree, length-internal_chain, length-internal_inline, length-leaf_chain, length-leaf_tree, above, IsHashPlace, IsLeafPlace}
use Rattle.bdb_layout.specs.of_format.declared.pages.PageType.TheVariants.{Hash as HashPage, Internal as InternalPage, Leaf as LeafPage, RecnoInternal as RecnoInternalPage}
use Rattle.bdb_pack.proofs.OpenLemmas.{recno_length}
use Rattle.bdb_pack.proofs.RowsLemmas.{three_none}
use Rattle.bdb_pack.proofs.StandingLemmas.{hash_here}

-- an item that was placed
pub record IsNew (order : Order) (new : List ℕ) (index at : ℕ) (piece rest : List ℕ) : Type 0 where
  pub here : drop at new ≡ piece ++ rest
  pub offset : offset_of order new index ≡ at
  pub end : index_end order new ≤ at
  pub room : at + length piece ≤ length new

-- Leaves: what the bytes of an item say of its kind, and where it ends.

record SaysItem (order : Order) (new : List ℕ) (at : ℕ) (type index n : ℕ) : Type 0 where
  least : 3 ≤ n
  kind : is_leaf_kind type index (kind_at new at) ≡ true
  end : leaf_end order new at ≡ at + n

kind_is : (kind : ℕ) (deleted : Bool) → kind < 128 → kind_byte kind deleted % 128 ≡ kind
kind_is kind true low = grind arith
kind_is kind false low = grind arith

says_kind : (new : List ℕ) (at kind : ℕ) (deleted : Bool) (front rest : List ℕ) → kind < 128 → length front ≡ 2
    → drop at new ≡ front ++ (kind_byte kind deleted ∷ rest) → kind_at new at ≡ kind
says_kind new at kind deleted front rest low two here =
    ap (λ b. b % 128) (byte_at-in new at (at + 2) front (kind_byte kind deleted) rest here (omega arith)) ∙ kind_is kind deleted low

says_item : (order : Order) (new : List ℕ) (at type index : ℕ) (content : Content) (deleted : Bool) (rest : List ℕ) → IsLeafContent content
    → IsLeafPlace type index content
    → drop at new ≡ leaf_bytes order (record { content = content; deleted = deleted }) ++ rest
    → SaysItem order new at type index (length (leaf_bytes order (record { content = content; deleted = deleted })))
unfolding leaf_bytes
says_item order new at type index (Inline bytes) deleted rest is place here =
    let size : List ℕ = spelled 2 order (length bytes) in
    let two : length size ≡ 2 = length-spelled 2 order (length bytes) in
    let from : drop at new ≡ size ++ (kind_byte 1 deleted ∷ (bytes ++ rest)) = here ∙ append_assoc size (kind_byte 1 deleted ∷ bytes) rest in
    let long : length (size ++ (kind_byte 1 deleted ∷ bytes)) ≡ 3 + length bytes = omega (arith, length-append size (kind_byte 1 deleted ∷ bytes), two) in
    let kind : kind_at new at ≡ 1 = says_kind new at 1 deleted size (bytes ++ rest) (omega arith) two from in
    let n : two_at order new at ≡ length bytes =
    number_at-in 2 order (length bytes) new at at [] (kind_byte 1 deleted ∷ (bytes ++ rest)) from (omega arith) (omega arith) in
    record {
      least = omega (arith, long);
      kind = ap (is_leaf_kind type index) kind;
      end = ap (λ k. cond (k == 1) (at + 3 + two_at order new at) (at + 12)) kind ∙ (ap (λ m. at + 3 + m) n ∙ (omega (arith, long)));
    }
says_item order new at type index (Tree root) deleted rest is place here =
    let kind : kind_at new at ≡ 2 = says_kind new at 2 deleted (0 ∷ 0 ∷ []) (0 ∷ ((spelled 4 order root ++ zeros 4) ++ rest)) (omega arith) refl here in
    let long = length-leaf_tree order root deleted in
    record {
      least = omega (arith, long);
      kind = ap (is_leaf_kind type index) kind ∙ (rw (place.0, place.1) refl);
      end = ap (λ k. cond (k == 1) (at + 3 + two_at order new at) (at + 12)) kind ∙ (omega (arith, long));
    }
says_item order new at type index (Chain head total) deleted rest is place here =
    let kind : kind_at new at ≡ 3 =
    says_kind new at 3 deleted (0 ∷ 0 ∷ []) (0 ∷ ((spelled 4 order head ++ spelled 4 order total) ++ rest)) (omega arith) refl here in
    let long = length-leaf_chain order head total deleted in
    record {
      least = omega (arith, long);
      kind = ap (is_leaf_kind type index) kind;
      end = ap (λ k. cond (k == 1) (at + 3 + two_at order new at) (at + 12)) kind ∙ (omega (arith, long));
    }
says_item order new at type index (Set blocks) deleted rest is place here = absurd is
says_item order new at type index Unknown deleted rest is place here = absurd is

pub leaf_row_none : (order : Order) (new : List ℕ) (index at : ℕ) (item : Item) (rest : List ℕ) → IsNew order new index at (leaf_bytes order item) rest
    → IsLeafContent item.content
    → IsLeafPlace (byte_at new 25) index item.content → item_row LeafPage order new index ≡ None
unfolding leaf_rows
leaf_row_none order new index at item rest is fits place =
    let says : SaysItem order new at (byte_at new 25) index (length (leaf_bytes order item)) =
    says_item order new at (byte_at new 25) index item.content item.deleted rest fits place is.here in
    let least = says.least in
    let end = is.end in
    let room = is.room in
    let offset : (nat_lt at (index_end order new) || nat_lt (length new) (at + 3)) ≡ false =
    or_from (nat_lt at (index_end order new)) (nat_lt (length new) (at + 3)) (above at (index_end order new) end)
    (above (length new) (at + 3) (omega (arith, least, room))) in
    let kind : not (is_leaf_kind (byte_at new 25) index (kind_at new at)) ≡ false = ap not says.kind in
    let extent : nat_lt (length new) (leaf_end order new at) ≡ false = above (length new) (leaf_end order new at) (omega (arith, says.end, room)) in
    rw is.offset (three_none _ _ _ offset kind extent)

-- Internal pages.

-- what the bytes of an item say of its kind and the length of its key
record SaysKey (order : Order) (new : List ℕ) (at kind n : ℕ) : Type 0 where
  kind_is : kind_at new at ≡ kind
  size : two_at order new at ≡ n

says_key : (order : Order) (new : List ℕ) (at kind n : ℕ) (rest : List ℕ) → kind < 128 → n < 65536 → drop at new ≡ spelled 2 order n ++ (kind ∷ rest)
    → SaysKey order new at kind n
says_key order new at kind n rest low short here =
    let two : length (spelled 2 order n) ≡ 2 = length-spelled 2 order n in
    record {
      kind_is = says_kind new at kind false (spelled 2 order n) rest low two here;
      size = number_at-in 2 order n new at at [] (kind ∷ rest) here (omega arith) short;
    }

internal_tests : (order : Order) (new : List ℕ) (index at kind n : ℕ) → offset_of order new index ≡ at → SaysKey order new at kind n
    → (kind == 1 || kind == 3) ≡ true → (kind == 3 && not (n == 12)) ≡ false
    → index_end order new ≤ at → at + 12 + n ≤ length new → item_row InternalPage order new index ≡ None
unfolding internal_rows
internal_tests order new index at kind n offset says right twelve end room = grind (arith, or_from, above, kind_is, three_none)

pub internal_row_none : (order : Order) (new : List ℕ) (index at child count : ℕ) (key : Content) (rest : List ℕ)
    → IsNew order new index at (internal_bytes order (record { child = child; count = count; key = key })) rest → IsKey key
    → item_row InternalPage order new index ≡ None
unfolding internal_bytes
internal_row_none order new index at child count (Inline key) rest is fits =
    let long = length-internal_inline order child count key in
    let names : List ℕ = spelled 4 order child ++ spelled 4 order count in
    let here : drop at new ≡ spelled 2 order (length key) ++ (1 ∷ (0 ∷ ((names ++ key) ++ rest))) =
    is.here ∙ append_assoc (spelled 2 order (length key)) (1 ∷ 0 ∷ (names ++ key)) rest in
    let room = is.room in
    internal_tests order new index at 1 (length key) is.offset (says_key order new at 1 (length key) _ (omega arith) (omega (arith, fits)) here)
    refl refl is.end (omega (arith, room, long))
internal_row_none order new index at child count (Chain head total) rest is fits =
    let long = length-internal_chain order child count head total in
    let names : List ℕ = spelled 4 order child ++ spelled 4 order count in
    let chain : List ℕ = 0 ∷ 0 ∷ 3 ∷ 0 ∷ (spelled 4 order head ++ spelled 4 order total) in
    let here : drop at new ≡ spelled 2 order 12 ++ (3 ∷ (0 ∷ ((names ++ chain) ++ rest))) =
    is.here ∙ append_assoc (spelled 2 order 12) (3 ∷ 0 ∷ (names ++ chain)) rest in
    let room = is.room in
    internal_tests order new index at 3 12 is.offset (says_key order new at 3 12 _ (omega arith) (omega arith) here) refl refl is.end
    (omega (arith, room, long))
internal_row_none order new index at child count (Set blocks) rest is fits = absurd fits
internal_row_none order new index at child count (Tree root) rest is fits = absurd fits
internal_row_none order new index at child count Unknown rest is fits = absurd fits

pub recno_row_none : (order : Order) (new : List ℕ) (index at : ℕ) (item : RecnoItem) (rest : List ℕ)
    → IsNew order new index at (recno_bytes order item) rest → item_row RecnoInternalPage order new index ≡ None
unfolding recno_rows
recno_row_none order new index at item rest is = grind (arith, recno_length, or_from, above)

-- Hash pages.

three_or : (a b c : Bool) → a ≡ false → b ≡ false → c ≡ false → (a || b || c) ≡ false
three_or a b c p q r = rw (p, q, r) refl

four_or : (a b c d : Bool) → a ≡ false → b ≡ false → c ≡ false → d ≡ false → (a || b || c || d) ≡ false
four_or a b c d p q r s = rw (p, q, r, s) refl

not_at_least : (a b : ℕ) → b < a → nat_le a b ≡ false
not_at_least a b low = grind arith

not_fallen : (order : Order) (new : List ℕ) (index at : ℕ) → (0 < index → at < offset_of order new (index - 1))
    → (not (index == 0) && nat_le (offset_of order new (index - 1)) at) ≡ false
not_fallen order new zero at apart = refl
not_fallen order new (suc k) at apart =
    and_right (not (suc k == 0)) (nat_le (offset_of order new (suc k - 1)) at) (not_at_least (offset_of order new (suc k - 1)) at (apart (omega arith)))

-- what the bytes of an item say of its kind, and that it has the extent of its kind
record SaysHash (order : Order) (new : List ℕ) (index at kind end : ℕ) : Type 0 where
  is : byte_at new at ≡ kind
  right : is_hash_kind index kind ≡ true
  some : at < end
  set : (kind == 2 && is_none (blocks_of order (slice_range new (at + 1) end))) ≡ false
  chain : (kind == 3 && not (end == at + 12)) ≡ false
  root : (kind == 4 && not (end == at + 8)) ≡ false

hash_tests : (order : Order) (new : List ℕ) (index at kind end : ℕ) → SaysHash order new index at kind end → offset_of order new index ≡ at
    → hash_end order new index ≡ end → index_end order new ≤ at → end ≤ length new
    → (0 < index → at < offset_of order new (index - 1)) → item_row HashPage order new index ≡ None
unfolding hash_rows
hash_tests order new index at kind end says offset ends index_ends room apart = grind (arith, three_or, above, not_at_least, not_fallen, four_or, three_none)

no_blocks : (order : Order) → blocks_of order [] ≡ Some []
unfolding blocks_of
no_blocks order = refl

-- a set that was written is read as blocks
blocks_found : (order : Order) (run : List ℕ) (blocks : List (List ℕ)) → run ≡ flat_map (block_bytes order) blocks
    → unwrap_or (blocks_of order run) [] ≡ blocks → is_none (blocks_of order run) ≡ false
blocks_found order run blocks spelled_is read = grind (arith, Option, Some, None, no_blocks)

blocks_in_set : Content → List (List ℕ)
blocks_in_set (Set blocks) = blocks
blocks_in_set (Inline bytes) = []
blocks_in_set (Chain head total) = []
blocks_in_set (Tree root) = []
blocks_in_set Unknown = []

set_read : (order : Order) (new : List ℕ) (index at end : ℕ) (blocks : List (List ℕ))
    → hash_item_at order new index ≡ record { content = Set blocks; deleted = false } → offset_of order new index ≡ at
    → hash_end order new index ≡ end → byte_at new at ≡ 2 → unwrap_or (blocks_of order (slice_range new (at + 1) end)) [] ≡ blocks
unfolding hash_item_at blocks_in_set
set_read order new index at end blocks is offset ends kind = grind (arith, blocks_in_set)

says_hash : (order : Order) (new : List ℕ) (index at end : ℕ) (content : Content) (rest : List ℕ) → IsNew order new index at (hash_bytes order content) rest
    → IsHashContent content → IsHashPlace index content
    → hash_end order new index ≡ end → end ≡ at + length (hash_bytes order content) → (kind : ℕ) × SaysHash order new index at kind end
unfolding hash_bytes
says_hash order new index at end (Inline bytes) rest is fits place ends long = (
  1,
  record {
    is = byte_at-in new at at [] 1 (bytes ++ rest) is.here (omega arith);
    right = refl;
    some = omega (arith, long);
    set = refl;
    chain = refl;
    root = refl;
  },
)
says_hash order new index at end (Set blocks) rest is fits place ends long =
    let run : List ℕ = flat_map (block_bytes order) blocks in
    let kind : byte_at new at ≡ 2 = byte_at-in new at at [] 2 (run ++ rest) is.here (omega arith) in
    let room = is.room in
    let item : hash_item_at order new index ≡ record { content = Set blocks; deleted = false } =
    hash_here order new index at (Set blocks) rest fits (omega (arith, room)) is.here is.offset (ends ∙ long) in
    let piece : slice_range new (at + 1) end ≡ run = slice_range-in new at (at + 1) end (2 ∷ []) run rest is.here (omega arith) (omega (arith, long)) in (
      2,
      record {
        is = kind;
        right = rw place refl;
        some = omega (arith, long);
        set = blocks_found order (slice_range new (at + 1) end) blocks piece (set_read order new index at end blocks item is.offset ends kind);
        chain = refl;
        root = refl;
      },
    )
says_hash order new index at end (Chain head total) rest is fits place ends long =
    let twelve = length-hash_chain order head total in
    let e : end ≡ at + 12 = omega (arith, long, twelve) in (
      3,
      record {
        is = byte_at-in new at at [] 3 (0 ∷ 0 ∷ 0 ∷ ((spelled 4 order head ++ spelled 4 order total) ++ rest)) is.here (omega arith);
        right = refl;
        some = omega (arith, e);
        set = refl;
        chain = ap not (eq-eqb end (at + 12) e);
        root = refl;
      },
    )
says_hash order new index at end (Tree root) rest is fits place ends long =
    let eight = length-hash_tree order root in
    let e : end ≡ at + 8 = omega (arith, long, eight) in (
      4,
      record {
        is = byte_at-in new at at [] 4 (0 ∷ 0 ∷ 0 ∷ (spelled 4 order root ++ rest)) is.here (omega arith);
        right = rw place refl;
        some = omega (arith, e);
        set = refl;
        chain = refl;
        root = ap not (eq-eqb end (at + 8) e);
      },
    )
says_hash order new index at end Unknown rest is fits place ends long = absurd fits

pub hash_row_none : (order : Order) (new : List ℕ) (index at : ℕ) (content : Content) (rest : List ℕ)
    → IsNew order new index at (hash_bytes order content) rest → IsHashContent content → IsHashPlace index content
    → hash_end order new index ≡ at + length (hash_bytes order content) → (0 < index → at < offset_of order new (index - 1))
    → item_row HashPage order new index ≡ None
hash_row_none order new index at content rest is fits place ends apart =
    let end : ℕ = at + length (hash_bytes order content) in
    let says = says_hash order new index at end content rest is fits place ends refl in
    hash_tests order new index at says.0 end says.1 is.offset ends is.end is.room apart

-- an item of a hash page has a byte at least
pub hash_least : (order : Order) (content : Content) → IsHashContent content → 0 < length (hash_bytes order content)
unfolding hash_bytes
hash_least order (Inline bytes) fits = omega arith
hash_least order (Set blocks) fits = omega arith
hash_least order (Chain head total) fits = omega arith
hash_least order (Tree root) fits = omega arith
hash_least order Unknown fits = absurd fits
