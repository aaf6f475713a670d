-- No key of an internal page is marked deleted.
use Rattle.std.proofs.Common.{◌≡◌, ℕ, ◌<◌, ◌≤◌, false, List, ◌++◌, drop, arith, sym, ◌∙◌}
use Rattle.bdb_mkleaves.proofs.Common.{cases_lt, append_assoc, Order, Chain, Content, Inline, IsKey, Set, Tree, Unknown, byte_at, internal_bytes, is_deleted, offset_of, byte_at-in, length-spelled}
use Rattle.bdb_mkleaves.proofs.Common.{InnerType, Keyed, Numbered, Node, IsWritable, item_bytes, IsBegun, byte_same, IsPlaced, HasLiveKeys, child_item, inner_number}
use Rattle.bdb_places.specs.of_format.Terms.{entries_of}

-- an item isn't, as it is spelled
spelled_live : (order : Order) (page : List ℕ) (at child count : ℕ) (key : Content) (rest : List ℕ) → IsKey key
    → drop at page ≡ internal_bytes order (record { child = child; count = count; key = key }) ++ rest → is_deleted page at ≡ false
unfolding internal_bytes
spelled_live order page at child count (Inline key) rest fits here = grind (arith, length-spelled, byte_at-in, append_assoc)
spelled_live order page at child count (Chain head total) rest fits here = grind (arith, length-spelled, byte_at-in, append_assoc)
spelled_live order page at child count (Set blocks) rest fits here = absurd fits
spelled_live order page at child count (Tree root) rest fits here = absurd fits
spelled_live order page at child count Unknown rest fits here = absurd fits

-- a page of the other type has no keys
pub no_keys : (order : Order) (page : List ℕ) (type : ℕ) → byte_at page 25 ≡ type → (type ≡ 3 → ⊥) → HasLiveKeys order page
no_keys order page type is other = λ keyed k low. absurd (other (sym is ∙ keyed))

-- so are a page and one with an item more
pub live_added : (inner : InnerType) (order : Order) (page new : List ℕ) (at : ℕ) (key : Content) (node : Node)
    → IsPlaced order page new at (item_bytes order (child_item inner key node)) → IsBegun order page → IsWritable (child_item inner key node)
    → byte_at new 25 ≡ inner_number inner → byte_at page 25 ≡ inner_number inner → HasLiveKeys order page → HasLiveKeys order new
live_added Numbered order page new at key node is begun fits type was live = no_keys order new 4 type (λ e. omega (arith, e))
live_added Keyed order page new at key node is begun fits type was live = grind (arith, cases_lt, byte_same, spelled_live)

-- so is a page of which the beginning alone changes
pub live_same : (order : Order) (page new : List ℕ) (h : ℕ) → drop h new ≡ drop h page → h ≤ 20
    → ((k : ℕ) → k < entries_of order page → (offset_of order new k ≡ offset_of order page k) × (h ≤ offset_of order page k))
    → entries_of order new ≡ entries_of order page → HasLiveKeys order page → HasLiveKeys order new
live_same order page new h same few offsets count live = grind (arith, byte_same)
