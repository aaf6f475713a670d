-- An item that stands at its offset is read from there: each kind of item of a leaf, an internal page and a hash page.
use Rattle.std.proofs.Common.{◌≡◌, ℕ, suc, ◌+◌, ◌%◌, ◌^◌, ◌<◌, ◌≤◌, Bool, true, false, List, [], ◌∷◌, ◌++◌, length, take, drop, replicate, refl, sym, ap, ◌∙◌}
use Rattle.std.proofs.Common.{arith, append_assoc, length-append, le-ltb, eq-eqb, slice_range, nat_le, Some, option_map, All, flat_map}
use Rattle.std.proofs.Math.Seq.{drop-append_seam}
use Rattle.std.proofs.lemmas.List.{take_at}
use Rattle.bdb_format.specs.declared.kinds.Order.{Order}
use Rattle.bdb_format.specs.Terms.{Chain, Content, HashItemsReadBack, Inline, InternalItemsReadBack, IsHashContent, IsKey, IsLeafContent, LeafItemsReadBack}
use Rattle.bdb_format.specs.Terms.{RecnoItemsReadBack, Set, Tree, Unknown, block_bytes, blocks_of, byte_at, four_at, hash_bytes, hash_content, hash_end}
use Rattle.bdb_format.specs.Terms.{hash_item_at, internal_bytes, internal_content_bytes, internal_item_at, internal_key, kind_byte, leaf_bytes, leaf_content}
use Rattle.bdb_format.specs.Terms.{leaf_content_bytes, leaf_item_at, offset_of, recno_bytes, recno_item_at, spelled, two_at}
use Rattle.bdb_layout.proofs.BlockLemmas.{blocks_of-cons}
use Rattle.bdb_format.proofs.SpellingLemmas.{length-spelled, drop-behind, number_at-in, byte_at-in, slice_range-in}

-- the byte of a kind says the kind, and whether the item is deleted
pub record SaysKind (kind : ℕ) (deleted : Bool) (byte : ℕ) : Type 0 where
  pub kind_is : byte % 128 ≡ kind
  pub deleted_is : nat_le 128 byte ≡ deleted

says_kind_1 : (deleted : Bool) → SaysKind 1 deleted (kind_byte 1 deleted)
says_kind_1 true = record { kind_is = refl; deleted_is = refl }
says_kind_1 false = record { kind_is = refl; deleted_is = refl }

says_kind_2 : (deleted : Bool) → SaysKind 2 deleted (kind_byte 2 deleted)
says_kind_2 true = record { kind_is = refl; deleted_is = refl }
says_kind_2 false = record { kind_is = refl; deleted_is = refl }

says_kind_3 : (deleted : Bool) → SaysKind 3 deleted (kind_byte 3 deleted)
says_kind_3 true = record { kind_is = refl; deleted_is = refl }
says_kind_3 false = record { kind_is = refl; deleted_is = refl }

-- an item of a leaf, from what its place says
leaf_item-at : (order : Order) (page : List ℕ) (index at byte kind : ℕ) (content : Content) (deleted : Bool)
    → offset_of order page index ≡ at → byte_at page (at + 2) ≡ byte → SaysKind kind deleted byte → leaf_content order page at kind ≡ content
    → leaf_item_at order page index ≡ record { content = content; deleted = deleted }
unfolding leaf_item_at
leaf_item-at order page index at byte kind content deleted o b k e = rw (o, b, k.kind_is, k.deleted_is, e) refl

-- two numbers of four bytes, one after the other
pub record ReadsPair (order : Order) (page : List ℕ) (at next x y : ℕ) : Type 0 where
  pub first : four_at order page at ≡ x
  pub second : four_at order page next ≡ y

pair-in : (order : Order) (x y : ℕ) (page : List ℕ) (at place next : ℕ) (front after : List ℕ)
    → drop at page ≡ front ++ ((spelled 4 order x ++ spelled 4 order y) ++ after) → place ≡ at + length front → next ≡ place + 4 → x < 2 ^ 32 → y < 2 ^ 32
    → ReadsPair order page place next x y
pair-in order x y page at place next front after e p q fits_x fits_y =
    let e : drop at page ≡ front ++ (spelled 4 order x ++ (spelled 4 order y ++ after)) = e
    ∙ ap (λ (bs : List ℕ). front ++ bs) (append_assoc (spelled 4 order x) (spelled 4 order y) after) in
    let both : length (front ++ spelled 4 order x) ≡ length front + 4 = length-append front (spelled 4 order x)
    ∙ ap (λ (n : ℕ). length front + n) (length-spelled 4 order x) in
    record {
      first = number_at-in 4 order x page at place front (spelled 4 order y ++ after) e p fits_x;
      second = number_at-in 4 order y page at next (front ++ spelled 4 order x) after
          (e ∙ sym (append_assoc front (spelled 4 order x) (spelled 4 order y ++ after))) (omega arith) fits_y;
    }

leaf_content-back : (order : Order) (content : Content) (deleted : Bool) (page after : List ℕ) (index at : ℕ) → IsLeafContent content
    → offset_of order page index ≡ at → drop at page ≡ leaf_content_bytes order content deleted ++ after
    → leaf_item_at order page index ≡ record { content = content; deleted = deleted }
leaf_content-back order (Inline bytes) deleted page after index at fits o e =
    let e : drop at page ≡ spelled 2 order (length bytes) ++ (kind_byte 1 deleted ∷ (bytes ++ after)) = e ∙ append_assoc (spelled 2 order (length bytes))
    (kind_byte 1 deleted ∷ bytes) after in
    let two = length-spelled 2 order (length bytes) in
    let n : two_at order page at ≡ length bytes = number_at-in 2 order (length bytes) page at at [] (kind_byte 1 deleted ∷ (bytes ++ after)) e (omega arith)
    (omega arith) in
    let b : byte_at page (at + 2) ≡ kind_byte 1 deleted = byte_at-in page at (at + 2) (spelled 2 order (length bytes)) (kind_byte 1 deleted) (bytes ++ after) e
    (omega arith) in
    let piece : slice_range page (at + 3) (at + 3 + length bytes) ≡ bytes =
    slice_range-in page at (at + 3) (at + 3 + length bytes) (spelled 2 order (length bytes) ++ (kind_byte 1 deleted ∷ [])) bytes after
    (e ∙ sym (append_assoc (spelled 2 order (length bytes)) (kind_byte 1 deleted ∷ []) (bytes ++ after)))
    (omega (arith, length-append (spelled 2 order (length bytes)) (kind_byte 1 deleted ∷ []))) refl in
    leaf_item-at order page index at (kind_byte 1 deleted) 1 (Inline bytes) deleted o b (says_kind_1 deleted) (rw (n, piece) refl)
leaf_content-back order (Tree root) deleted page after index at fits o e =
    let four = length-spelled 4 order root in
    let b : byte_at page (at + 2) ≡ kind_byte 2 deleted = byte_at-in page at (at + 2) (0 ∷ 0 ∷ []) (kind_byte 2 deleted)
    (0 ∷ ((spelled 4 order root ++ replicate 4 0) ++ after)) e (omega arith) in
    let front : List ℕ = 0 ∷ 0 ∷ kind_byte 2 deleted ∷ 0 ∷ [] in
    let r : four_at order page (at + 4) ≡ root = number_at-in 4 order root page at (at + 4) front (replicate 4 0 ++ after)
    (e ∙ ap (λ (bs : List ℕ). front ++ bs) (append_assoc (spelled 4 order root) (replicate 4 0) after)) (omega arith) fits in
    leaf_item-at order page index at (kind_byte 2 deleted) 2 (Tree root) deleted o b (says_kind_2 deleted) (rw r refl)
leaf_content-back order (Chain head total) deleted page after index at fits o e =
    let b : byte_at page (at + 2) ≡ kind_byte 3 deleted = byte_at-in page at (at + 2) (0 ∷ 0 ∷ []) (kind_byte 3 deleted)
    (0 ∷ ((spelled 4 order head ++ spelled 4 order total) ++ after)) e (omega arith) in
    let both = pair-in order head total page at (at + 4) (at + 8) (0 ∷ 0 ∷ kind_byte 3 deleted ∷ 0 ∷ []) after e (omega arith) (omega arith) fits.0 fits.1 in
    leaf_item-at order page index at (kind_byte 3 deleted) 3 (Chain head total) deleted o b (says_kind_3 deleted) (rw (both.first, both.second) refl)
leaf_content-back order content deleted page after index at fits o e = absurd fits

pub leaf_items_read_back : LeafItemsReadBack
unfolding leaf_bytes
leaf_items_read_back order item before after index fits o = grind (arith, leaf_content-back, drop-append_seam)

-- an item of an internal page, from what its place says
internal_item-at : (order : Order) (page : List ℕ) (index at byte child count : ℕ) (key : Content)
    → offset_of order page index ≡ at → byte_at page (at + 2) ≡ byte → ReadsPair order page (at + 4) (at + 8) child count
    → internal_key order page at (byte % 128) ≡ key
    → internal_item_at order page index ≡ record { child = child; count = count; key = key }
unfolding internal_item_at
internal_item-at order page index at byte child count key o b p e = rw (o, b, p.first, p.second, e) refl

internal_content-back : (order : Order) (content : Content) (child count : ℕ) (page after : List ℕ) (index at : ℕ) → IsKey content → child < 2 ^ 32
    → count < 2 ^ 32
    → offset_of order page index ≡ at → drop at page ≡ internal_content_bytes order (spelled 4 order child ++ spelled 4 order count) content ++ after
    → internal_item_at order page index ≡ record { child = child; count = count; key = content }
internal_content-back order (Inline key) child count page after index at fits p q o e =
    let size : List ℕ = spelled 2 order (length key) in
    let names : List ℕ = spelled 4 order child ++ spelled 4 order count in
    let two : length size ≡ 2 = length-spelled 2 order (length key) in
    let eight : length names ≡ 8 = omega (
      arith,
      length-append (spelled 4 order child) (spelled 4 order count),
      length-spelled 4 order child,
      length-spelled 4
          order count,
    ) in
    let e1 : drop at page ≡ size ++ (1 ∷ 0 ∷ ((names ++ key) ++ after)) = e ∙ append_assoc size (1 ∷ 0 ∷ (names ++ key)) after in
    let e2 : drop at page ≡ size ++ (1 ∷ 0 ∷ (names ++ (key ++ after))) = e1 ∙ ap (λ (bs : List ℕ). size ++ (1 ∷ 0 ∷ bs)) (append_assoc names key after) in
    let n : two_at order page at ≡ length key = number_at-in 2 order (length key) page at at [] (1 ∷ 0 ∷ ((names ++ key) ++ after)) e1 (omega arith) fits in
    let b : byte_at page (at + 2) ≡ 1 = byte_at-in page at (at + 2) size 1 (0 ∷ ((names ++ key) ++ after)) e1 (omega arith) in
    let front : List ℕ = size ++ (1 ∷ 0 ∷ []) in
    let long : length front ≡ 4 = omega (arith, length-append size (1 ∷ 0 ∷ [])) in
    let both = pair-in order child count page at (at + 4) (at + 8) front (key ++ after) (e2 ∙ sym (append_assoc size (1 ∷ 0 ∷ []) (names ++ (key ++ after))))
    (omega arith) (omega arith) p q in
    let whole : List ℕ = size ++ (1 ∷ 0 ∷ names) in
    let piece : slice_range page (at + 12) (at + 12 + length key) ≡ key =
    slice_range-in page at (at + 12) (at + 12 + length key) whole key after (e2 ∙ sym (append_assoc size (1 ∷ 0 ∷ names) (key ++ after)))
    (omega (arith, length-append size (1 ∷ 0 ∷ names))) refl in
    internal_item-at order page index at 1 child count (Inline key) o b both (rw (n, piece) refl)
internal_content-back order (Chain head total) child count page after index at fits p q o e =
    let size : List ℕ = spelled 2 order 12 in
    let names : List ℕ = spelled 4 order child ++ spelled 4 order count in
    let chain : List ℕ = spelled 4 order head ++ spelled 4 order total in
    let two : length size ≡ 2 = length-spelled 2 order 12 in
    let eight : length names ≡ 8 = omega (
      arith,
      length-append (spelled 4 order child) (spelled 4 order count),
      length-spelled 4 order child,
      length-spelled 4
          order count,
    ) in
    let e1 : drop at page ≡ size ++ (3 ∷ 0 ∷ ((names ++ (0 ∷ 0 ∷ 3 ∷ 0 ∷ chain)) ++ after)) = e ∙ append_assoc size (3 ∷ 0 ∷ (names ++ (0 ∷ 0 ∷ 3 ∷ 0 ∷ chain)))
    after in
    let e2 : drop at page ≡ size ++ (3 ∷ 0 ∷ (names ++ (0 ∷ 0 ∷ 3 ∷ 0 ∷ (chain ++ after)))) = e1
    ∙ ap (λ (bs : List ℕ). size ++ (3 ∷ 0 ∷ bs)) (append_assoc names (0 ∷ 0 ∷ 3 ∷ 0 ∷ chain) after) in
    let b : byte_at page (at + 2) ≡ 3 = byte_at-in page at (at + 2) size 3 (0 ∷ ((names ++ (0 ∷ 0 ∷ 3 ∷ 0 ∷ chain)) ++ after)) e1 (omega arith) in
    let front : List ℕ = size ++ (3 ∷ 0 ∷ []) in
    let long : length front ≡ 4 = omega (arith, length-append size (3 ∷ 0 ∷ [])) in
    let both = pair-in order child count page at (at + 4) (at + 8) front (0 ∷ 0 ∷ 3 ∷ 0 ∷ (chain ++ after))
    (e2 ∙ sym (append_assoc size (3 ∷ 0 ∷ []) (names ++ (0 ∷ 0 ∷ 3 ∷ 0 ∷ (chain ++ after))))) (omega arith) (omega arith) p q in
    let inner : List ℕ = names ++ (0 ∷ 0 ∷ 3 ∷ 0 ∷ []) in
    let whole : List ℕ = size ++ (3 ∷ 0 ∷ inner) in
    let e3 : drop at page ≡ whole ++ (chain ++ after) =
    e2 ∙ ap (λ (bs : List ℕ). size ++ (3 ∷ 0 ∷ bs)) (sym (append_assoc names (0 ∷ 0 ∷ 3 ∷ 0 ∷ []) (chain ++ after)))
    ∙ sym (append_assoc size (3 ∷ 0 ∷ inner) (chain ++ after)) in
    let sixteen : length whole ≡ 16 = omega (arith, length-append size (3 ∷ 0 ∷ inner), length-append names (0 ∷ 0 ∷ 3 ∷ 0 ∷ [])) in
    let ends = pair-in order head total page at (at + 16) (at + 20) whole after e3 (omega arith) (omega arith) fits.0 fits.1 in
    internal_item-at order page index at 3 child count (Chain head total) o b both (rw (ends.first, ends.second) refl)
internal_content-back order content child count page after index at fits p q o e = absurd fits

pub internal_items_read_back : InternalItemsReadBack
unfolding internal_bytes
internal_items_read_back order item before after index fits p q o = grind (arith, internal_content-back, drop-append_seam)

recno_item-at : (order : Order) (page : List ℕ) (index at child count : ℕ) → offset_of order page index ≡ at → ReadsPair order page at (at + 4) child count
    → recno_item_at order page index ≡ record { child = child; count = count }
unfolding recno_item_at
recno_item-at order page index at child count o p = rw (o, p.first, p.second) refl

pub recno_items_read_back : RecnoItemsReadBack
unfolding recno_bytes
recno_items_read_back order item before after index p q o =
    let piece : List ℕ = spelled 4 order item.child ++ spelled 4 order item.count in
    let at : ℕ = length before in
    let both = pair-in order item.child item.count (before ++ (piece ++ after)) at at (at + 4) [] after (drop-append_seam before (piece ++ after)) (omega arith)
    (omega arith) p q in
    recno_item-at order (before ++ (piece ++ after)) index at item.child item.count o both

-- Sets of a hash page.

-- a run begins with a block of this length, and goes on with this rest
pub record BeginsBlock (order : Order) (bytes block rest : List ℕ) : Type 0 where
  pub fits : length block + 4 ≤ length bytes
  pub size : two_at order bytes 0 ≡ length block
  pub again : two_at order bytes (length block + 2) ≡ length block
  pub block_is : take (length block) (drop 2 bytes) ≡ block
  pub rest_is : drop (length block + 4) bytes ≡ rest

block_begins : (order : Order) (block rest : List ℕ) → length block < 2 ^ 16 → BeginsBlock order (block_bytes order block ++ rest) block rest
block_begins order block rest short =
    let size : List ℕ = spelled 2 order (length block) in
    let two : length size ≡ 2 = length-spelled 2 order (length block) in
    let bytes : List ℕ = block_bytes order block ++ rest in
    let e1 : bytes ≡ size ++ (block ++ (size ++ rest)) =
    append_assoc size (block ++ size) rest ∙ ap (λ (bs : List ℕ). size ++ bs) (append_assoc block size rest) in
    let front : List ℕ = size ++ block in
    let long : length front ≡ 2 + length block = omega (arith, length-append size block) in
    let e2 : bytes ≡ front ++ (size ++ rest) = e1 ∙ sym (append_assoc size block (size ++ rest)) in
    let whole : List ℕ = front ++ size in
    let longer : length whole ≡ 4 + length block = omega (arith, length-append front size) in
    let e3 : bytes ≡ whole ++ rest = e2 ∙ sym (append_assoc front size rest) in
    record {
      fits = omega (arith, ap length e3, length-append whole rest);
      size = number_at-in 2 order (length block) bytes 0 0 [] (block ++ (size ++ rest)) e1 (omega arith) short;
      again = number_at-in 2 order (length block) bytes 0 (length block + 2) front rest e2 (omega arith) short;
      block_is = ap (take (length block)) (drop-behind bytes 0 2 size (block ++ (size ++ rest)) e1 (omega arith)) ∙ take_at block (size ++ rest) (length block)
          refl;
      rest_is = drop-behind bytes 0 (length block + 4) whole rest e3 (omega arith);
    }

first_block : (order : Order) (bytes block rest : List ℕ) → BeginsBlock order bytes block rest
    → blocks_of order bytes ≡ option_map (λ blocks. block ∷ blocks) (blocks_of order rest)
first_block order [] block rest is = absurd (omega (arith, is.fits))
first_block order (b ∷ bs) block rest is = grind (arith, le-ltb, eq-eqb, blocks_of-cons)

pub blocks_of-back : (order : Order) (blocks : List (List ℕ)) → All (λ block. length block < 2 ^ 16) blocks
    → blocks_of order (flat_map (block_bytes order) blocks) ≡ Some blocks
unfolding blocks_of
blocks_of-back order [] short = refl
blocks_of-back order (block ∷ blocks) short =
    let rest : List ℕ = flat_map (block_bytes order) blocks in
    let is = block_begins order block rest (short 0 [] (omega arith)) in
    first_block order (block_bytes order block ++ rest) block rest is
    ∙ ap (option_map (λ bs. block ∷ bs)) (blocks_of-back order blocks (λ k d h. short (suc k) d (omega arith)))

-- an item of a hash page, from what its place says
hash_item-at : (order : Order) (page : List ℕ) (index at end kind : ℕ) (content : Content) → offset_of order page index ≡ at → hash_end order page index ≡ end
    → byte_at page at ≡ kind → hash_content order page at end kind ≡ content → hash_item_at order page index ≡ record { content = content; deleted = false }
unfolding hash_item_at
hash_item-at order page index at end kind content o p b e = rw (o, p, b, e) refl

hash_content-back : (order : Order) (content : Content) (page after : List ℕ) (index at : ℕ) → IsHashContent content → offset_of order page index ≡ at
    → hash_end order page index ≡ at + length (hash_bytes order content) → drop at page ≡ hash_bytes order content ++ after
    → hash_item_at order page index ≡ record { content = content; deleted = false }
unfolding hash_bytes
hash_content-back order (Inline bytes) page after index at fits o p e =
    let b : byte_at page at ≡ 1 = byte_at-in page at at [] 1 (bytes ++ after) e (omega arith) in
    let piece : slice_range page (at + 1) (at + suc (length bytes)) ≡ bytes = slice_range-in page at (at + 1) (at + suc (length bytes)) (1 ∷ []) bytes after e
    (omega arith) (omega arith) in
    hash_item-at order page index at (at + suc (length bytes)) 1 (Inline bytes) o p b (rw piece refl)
hash_content-back order (Set blocks) page after index at fits o p e =
    let run : List ℕ = flat_map (block_bytes order) blocks in
    let b : byte_at page at ≡ 2 = byte_at-in page at at [] 2 (run ++ after) e (omega arith) in
    let piece : slice_range page (at + 1) (at + suc (length run)) ≡ run = slice_range-in page at (at + 1) (at + suc (length run)) (2 ∷ []) run after e
    (omega arith) (omega arith) in
    hash_item-at order page index at (at + suc (length run)) 2 (Set blocks) o p b (rw (piece, blocks_of-back order blocks fits) refl)
hash_content-back order (Chain head total) page after index at fits o p e =
    let b : byte_at page at ≡ 3 = byte_at-in page at at [] 3 (0 ∷ 0 ∷ 0 ∷ ((spelled 4 order head ++ spelled 4 order total) ++ after)) e (omega arith) in
    let both = pair-in order head total page at (at + 4) (at + 8) (3 ∷ 0 ∷ 0 ∷ 0 ∷ []) after e (omega arith) (omega arith) fits.0 fits.1 in
    hash_item-at order page index at (at + length (hash_bytes order (Chain head total))) 3 (Chain head total) o p b (rw (both.first, both.second) refl)
hash_content-back order (Tree root) page after index at fits o p e =
    let b : byte_at page at ≡ 4 = byte_at-in page at at [] 4 (0 ∷ 0 ∷ 0 ∷ (spelled 4 order root ++ after)) e (omega arith) in
    let r : four_at order page (at + 4) ≡ root = number_at-in 4 order root page at (at + 4) (4 ∷ 0 ∷ 0 ∷ 0 ∷ []) after e (omega arith) fits in
    hash_item-at order page index at (at + length (hash_bytes order (Tree root))) 4 (Tree root) o p b (rw r refl)
hash_content-back order Unknown page after index at fits o p e = absurd fits

pub hash_items_read_back : HashItemsReadBack
hash_items_read_back order content before after index fits o p = grind (arith, hash_content-back, drop-append_seam)
