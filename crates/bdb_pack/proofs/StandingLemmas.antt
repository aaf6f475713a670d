-- After an item is placed, the others stand as they did, and it stands at the end.
use Rattle.std.proofs.Common.{◌≡◌, ℕ, zero, suc, ◌+◌, ◌-◌, ◌^◌, ◌<◌, ◌≤◌, false, List, [], ◌∷◌, ◌++◌, map, length, take, drop, arith, refl, sym, ◌∙◌, ap}
use Rattle.bdb_pack.proofs.Common.{◌==◌, ◌%◌, nat_le, slice_range, range_with_len, ne_eqb, length-take-le, map-append, take-append-drop, Order, Header, RecnoItem, Chain, Content, Inline, InternalItem}
use Rattle.bdb_pack.proofs.Common.{IsHashContent, IsKey, IsLeafContent, Item, Listed, abstract_page, byte_at, entries_of, four_at, hash_bytes, hash_content, hash_end, hash_item_at, internal_bytes}
use Rattle.bdb_pack.proofs.Common.{internal_item_at, internal_key, is_deleted, is_zero, kind_at, leaf_bytes, leaf_content, leaf_item_at, listed, offset_of, page_as, page_type, recno_bytes}
use Rattle.bdb_pack.proofs.Common.{recno_item_at, two_at, with_item}
use Rattle.std.proofs.lemmas.List.Folds.{list_all_at}
use Rattle.bdb_layout.proofs.of_format.ListLemmas.{range_more}
use Rattle.bdb_layout.proofs.ReadBackLemmas.{hash_items_read_back, internal_items_read_back, leaf_items_read_back, recno_items_read_back}
use Rattle.bdb_pack.proofs.PlaceLemmas.{byte_same, drop_same, number_same}
use Rattle.bdb_pack.proofs.PlacedLemmas.{IsEntered, header_entered}

-- Items are read from their offset on.

pub slice_same : (a b : List ℕ) (h x y : ℕ) → drop h a ≡ drop h b → h ≤ x → slice_range a x y ≡ slice_range b x y
slice_same a b h x y same low = ap (take (y - x)) (drop_same a b h x same low)

chain_same : (order : Order) (a b : List ℕ) (h x y : ℕ) → drop h a ≡ drop h b → h ≤ x → h ≤ y
    → Chain (four_at order a x) (four_at order a y) ≡ Chain (four_at order b x) (four_at order b y)
chain_same order a b h x y same low high =
    ap (λ n. Chain n (four_at order a y)) (number_same 4 order a b h x same low) ∙ ap (λ n. Chain (four_at order b x) n) (number_same 4 order a b h y same high)

inline_same : (order : Order) (a b : List ℕ) (h at k : ℕ) → drop h a ≡ drop h b → h ≤ at
    → Inline (slice_range a (at + k) (at + k + two_at order a at)) ≡ Inline (slice_range b (at + k) (at + k + two_at order b at))
inline_same order a b h at k same low = grind (arith, number_same, slice_same)

leaf_same : (order : Order) (a b : List ℕ) (h at kind : ℕ) → drop h a ≡ drop h b → h ≤ at → leaf_content order a at kind ≡ leaf_content order b at kind
leaf_same order a b h at kind same low = grind (arith, inline_same, number_same, chain_same)

key_same : (order : Order) (a b : List ℕ) (h at kind : ℕ) → drop h a ≡ drop h b → h ≤ at → internal_key order a at kind ≡ internal_key order b at kind
key_same order a b h at kind same low =
    let inline = inline_same order a b h at 12 same low in
    let chain = chain_same order a b h (at + 16) (at + 20) same (omega arith) (omega arith) in
    rw (inline, chain) refl

hash_same : (order : Order) (a b : List ℕ) (h at end kind : ℕ) → drop h a ≡ drop h b → h ≤ at
    → hash_content order a at end kind ≡ hash_content order b at end kind
hash_same order a b h at end kind same low = grind (arith, slice_same, number_same, chain_same)

pub leaf_item_same : (order : Order) (a b : List ℕ) (h k : ℕ) → drop h a ≡ drop h b → offset_of order a k ≡ offset_of order b k → h ≤ offset_of order b k
    → leaf_item_at order a k ≡ leaf_item_at order b k
unfolding leaf_item_at
leaf_item_same order a b h k same offset low =
    let at : ℕ = offset_of order b k in
    let byte : byte_at a (at + 2) ≡ byte_at b (at + 2) = byte_same a b h (at + 2) same (omega arith) in
    ap (λ x. let i : Item = record { content = leaf_content order a x (kind_at a x); deleted = is_deleted a x } in i) offset
    ∙ (ap (λ c. let i : Item = record { content = c; deleted = is_deleted a at } in i) (leaf_same order a b h at (kind_at a at) same low)
    ∙ ap (λ x. let i : Item = record { content = leaf_content order b at (x % 128); deleted = nat_le 128 x } in i) byte)

pub internal_item_same : (order : Order) (a b : List ℕ) (h k : ℕ) → drop h a ≡ drop h b → offset_of order a k ≡ offset_of order b k
    → h ≤ offset_of order b k → internal_item_at order a k ≡ internal_item_at order b k
unfolding internal_item_at
internal_item_same order a b h k same offset low = grind (arith, byte_same, number_same, key_same)

pub recno_item_same : (order : Order) (a b : List ℕ) (h k : ℕ) → drop h a ≡ drop h b → offset_of order a k ≡ offset_of order b k → h ≤ offset_of order b k
    → recno_item_at order a k ≡ recno_item_at order b k
unfolding recno_item_at
recno_item_same order a b h k same offset low = grind (arith, number_same)

-- an item of a hash page ends where the one before it begins
pub end_same : (order : Order) (a b : List ℕ) (k n : ℕ) → length a ≡ length b → ((j : ℕ) → j < n → offset_of order a j ≡ offset_of order b j) → k ≤ n
    → hash_end order a k ≡ hash_end order b k
end_same order a b zero n long index low = long
end_same order a b (suc k) n long index low = grind (arith, ne_eqb)

pub hash_item_same : (order : Order) (a b : List ℕ) (h k : ℕ) → drop h a ≡ drop h b → offset_of order a k ≡ offset_of order b k
    → hash_end order a k ≡ hash_end order b k → h ≤ offset_of order b k → hash_item_at order a k ≡ hash_item_at order b k
unfolding hash_item_at
hash_item_same order a b h k same offset end low =
    let at : ℕ = offset_of order b k in
    let item : Content → Item = λ content. record { content = content; deleted = false } in
    ap (λ x. item (hash_content order a x (hash_end order a k) (byte_at a x))) offset
    ∙ (ap (λ e. item (hash_content order a at e (byte_at a at))) end
    ∙ (ap item (hash_same order a b h at (hash_end order b k) (byte_at a at) same low)
    ∙ ap (λ x. item (hash_content order b at (hash_end order b k) x)) (byte_same a b h at same low)))

-- The item that was placed.

-- a page whose bytes from a place on are a piece and a rest
pub cut_here : (new piece rest : List ℕ) (at : ℕ) → drop at new ≡ piece ++ rest → take at new ++ (piece ++ rest) ≡ new
cut_here new piece rest at here = ap (λ bs. take at new ++ bs) (sym here) ∙ take-append-drop at new

pub leaf_here : (order : Order) (new : List ℕ) (k at : ℕ) (item : Item) (rest : List ℕ) → IsLeafContent item.content → at ≤ length new
    → drop at new ≡ leaf_bytes order item ++ rest → offset_of order new k ≡ at
    → leaf_item_at order new k ≡ item
leaf_here order new k at item rest is room here offset =
    let whole = cut_here new (leaf_bytes order item) rest at here in
    let long : length (take at new) ≡ at = length-take-le at new room in
    ap (λ bs. leaf_item_at order bs k) (sym whole)
    ∙ leaf_items_read_back order item (take at new) rest k is (ap (λ bs. offset_of order bs k) whole ∙ (offset ∙ sym long))

pub internal_here : (order : Order) (new : List ℕ) (k at : ℕ) (item : InternalItem) (rest : List ℕ) → IsKey item.key → item.child < 2 ^ 32
    → item.count < 2 ^ 32 → at ≤ length new
    → drop at new ≡ internal_bytes order item ++ rest → offset_of order new k ≡ at → internal_item_at order new k ≡ item
internal_here order new k at item rest is child count room here offset =
    let whole = cut_here new (internal_bytes order item) rest at here in
    let long : length (take at new) ≡ at = length-take-le at new room in
    ap (λ bs. internal_item_at order bs k) (sym whole)
    ∙ internal_items_read_back order item (take at new) rest k is child count (ap (λ bs. offset_of order bs k) whole ∙ (offset ∙ sym long))

pub recno_here : (order : Order) (new : List ℕ) (k at : ℕ) (item : RecnoItem) (rest : List ℕ) → item.child < 2 ^ 32 → item.count < 2 ^ 32 → at ≤ length new
    → drop at new ≡ recno_bytes order item ++ rest
    → offset_of order new k ≡ at → recno_item_at order new k ≡ item
recno_here order new k at item rest child count room here offset =
    let whole = cut_here new (recno_bytes order item) rest at here in
    let long : length (take at new) ≡ at = length-take-le at new room in
    ap (λ bs. recno_item_at order bs k) (sym whole)
    ∙ recno_items_read_back order item (take at new) rest k child count (ap (λ bs. offset_of order bs k) whole ∙ (offset ∙ sym long))

pub hash_here : (order : Order) (new : List ℕ) (k at : ℕ) (content : Content) (rest : List ℕ) → IsHashContent content → at ≤ length new
    → drop at new ≡ hash_bytes order content ++ rest → offset_of order new k ≡ at
    → hash_end order new k ≡ at + length (hash_bytes order content) → hash_item_at order new k ≡ record { content = content; deleted = false }
hash_here order new k at content rest is room here offset end =
    let whole = cut_here new (hash_bytes order content) rest at here in
    let long : length (take at new) ≡ at = length-take-le at new room in
    ap (λ bs. hash_item_at order bs k) (sym whole)
    ∙ hash_items_read_back order content (take at new) rest k is (ap (λ bs. offset_of order bs k) whole ∙ (offset ∙ sym long))
    (ap (λ bs. hash_end order bs k) whole ∙ (end ∙ ap (λ n. n + length (hash_bytes order content)) (sym long)))

-- Pages with an index.

pub map_same : {X : Type 0} (f g : ℕ → X) (a n : ℕ) → ((k : ℕ) → a ≤ k → k < a + n → f k ≡ g k) → map f (range_with_len a n) ≡ map g (range_with_len a n)
map_same f g a zero same = refl
map_same f g a (suc n) same = ap (λ x. x ∷ map f (range_with_len (a + 1) n)) (same a (omega arith) (omega arith))
    ∙ ap (λ xs. g a ∷ xs) (map_same f g (a + 1) n (λ k low high. same k (omega arith) (omega arith)))

map_more : {X : Type 0} (f g : ℕ → X) (n : ℕ) (x : X) → ((k : ℕ) → k < n → f k ≡ g k) → f n ≡ x
    → map f (range_with_len 0 (n + 1)) ≡ map g (range_with_len 0 n) ++ (x ∷ [])
map_more f g n x same last = grind (arith, range_more, map-append, map_same)

-- items with their offsets, under a header
abbrev pub listing : {I : Type 0} → Header → List ℕ → List I → Listed I
listing header offsets items = record { header = header; offsets = offsets; items = items }

-- one more entry, whose item is read as this one
pub listed_more : {I : Type 0} (order : Order) (page new : List ℕ) (at high : ℕ) (read before : ℕ → I) (item : I) → IsEntered order page new at high
    → ((k : ℕ) → k < entries_of order page → read k ≡ before k) → read (entries_of order page) ≡ item
    → listed order new read ≡ with_item (listed order page before) at high item
unfolding listed
listed_more {I} order page new at high read before item is same here = grind (arith, map_more, header_entered)

-- Types.

pub not_zero : (page : List ℕ) → 25 < length page → (byte_at page 25 == 0) ≡ false → is_zero page ≡ false
not_zero page long some = list_all_at (λ byte. byte == 0) page 25 0 long some

pub typed : (order : Order) (page : List ℕ) (byte : ℕ) → 25 < length page → (byte == 0) ≡ false → byte_at page 25 ≡ byte
    → abstract_page order page ≡ page_as order page (page_type byte)
unfolding abstract_page
typed order page byte long some is = grind (arith, not_zero)
