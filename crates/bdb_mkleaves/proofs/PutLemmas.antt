-- A value that is stored, and put on the last leaf.
use Rattle.std.proofs.Common.{◌≡◌, ℕ, suc, zero, ◌+◌, ◌-◌, ◌*◌, ◌<◌, ◌≤◌, ◌^◌, Bool, true, List, [], ◌∷◌, ◌++◌, length, get_or, None, arith, refl, sym, ◌∙◌, ap, subst, inl, inr, length-append, ◌/◌}
use Rattle.std.proofs.Math.Nat.{mul-le-mul_right}
use Rattle.bdb_mkleaves.proofs.Common.{cases_lt, le-leb, lt-leb, get_or-append-add, get_or_append_left, Order, Chain, Inline, Item, is_page_size, page_code, size_bounds, length-leaf_chain}
use Rattle.bdb_mkleaves.proofs.Common.{length-leaf_inline, Built, bytes_of, IsWritable, OnLeaf, AreChainPages, HasChain, chain_page, CountsOne, CanTakeEntry, Entry, HoldsEntries, item_cost, room_of}
use Rattle.bdb_mkleaves.proofs.Common.{type_number, AreLeaves, AreSomeLeaves, KeepsAll, last_of, IsItemOf, chain_pages, value_cost, Leaves}
use Rattle.std.proofs.lemmas.Nat.{div-mul-add}
use Rattle.bdb_pack.proofs.PieceLemmas.{chain_pages_are_formed}
use Rattle.bdb_pack.proofs.CountLemmas.{chains_are_counted}
use Rattle.bdb_pack.proofs.StoredLemmas.{stored_values_stand}
use Rattle.bdb_mkleaves.proofs.LeavesLemmas.{leaves_kept, at_most_last}

-- A short value.

inline_cost : (order : Order) (size : ℕ) (value : List ℕ) (deleted : Bool) → length value ≤ size / 8
    → item_cost order (record { content = Inline value; deleted = deleted }) ≡ value_cost size value
inline_cost order size value deleted short = grind (arith, length-leaf_inline, le-leb)

chain_cost : (order : Order) (size head total : ℕ) (value : List ℕ) (deleted : Bool) → size / 8 < length value
    → item_cost order (record { content = Chain head total; deleted = deleted }) ≡ value_cost size value
chain_cost order size head total value deleted long = grind (arith, length-leaf_chain, lt-leb)

pub inline_item : (old new : Built) (value : List ℕ) (deleted : Bool) → IsWritable (OnLeaf (record { content = Inline value; deleted = deleted }))
    → length value ≤ old.size / 8 → new ≡ old → IsItemOf old new value deleted (record { content = Inline value; deleted = deleted })
inline_item old new value deleted fits short same = grind (arith, inline_cost, le-leb)

-- A chain.

-- each page of a chain is without a fault of form
pieces_formed : (order : Order) (size number previous : ℕ) (rest : List ℕ) (pages : List (List ℕ)) → is_page_size size ≡ true
    → number + length pages < 2 ^ 32 → previous < 2 ^ 32 → AreChainPages order size number previous rest pages
    → (k : ℕ) → k < length pages → page_code order (number + k) (get_or pages k []) ≡ None
pieces_formed order size number previous rest [] legal few before chain k low = absurd (omega (arith, low))
pieces_formed order size number previous rest (page ∷ pages) legal few before chain zero low = grind (arith, None, chain_pages_are_formed)
pieces_formed order size number previous rest (page ∷ pages) legal few before chain (suc k) low =
    subst (λ n. page_code order n (get_or pages k []) ≡ None) (let e : number + 1 + k ≡ number + suc k = omega arith in e)
    (pieces_formed order size (number + 1) number _ pages legal (omega (arith, few)) (omega (arith, few)) chain.2 k (omega (arith, low)))

less_of_product : (a b n : ℕ) → a * n < b * n → a < b
less_of_product a b n under =
    elim (cases_lt a b) [ inl low ↦ low | inr high ↦ let more : b * n ≤ a * n = mul-le-mul_right n high in absurd (omega (arith, under, more)) ]

-- a chain has as many pages as its bytes fill
filled_up : (n room pages : ℕ) → 0 < n → n ≤ pages * room → (pages - 1) * room < n → (n + room - 1) / room ≡ pages
filled_up n room zero some enough fewest = absurd (omega (arith, some, enough))
filled_up n room (suc pages) some enough fewest =
    let b : ℕ = n - pages * room - 1 in
    let all : n ≤ pages * room + room = omega (arith, enough) in
    let less : pages * room < n = subst (λ k. k * room < n) (let e : suc pages - 1 ≡ pages = omega arith in e) fewest in
    let room_some : 0 < room = omega (arith, all, less) in
    let e : n + room - 1 ≡ suc pages * room + b = omega (arith, less, room_some) in
    ap (λ m. m / room) e ∙ div-mul-add (suc pages) room b (omega (arith, all, less))

long_pages : (size : ℕ) (value : List ℕ) (pages : ℕ) → size / 8 < length value → length value ≤ pages * (size - 26)
    → (pages - 1) * (size - 26) < length value → chain_pages size value ≡ pages
long_pages size value pages long enough fewest =
    rw (lt-leb (length value) (size / 8) long) (filled_up (length value) (size - 26) pages (omega (arith, long)) enough fewest)

pub chain_item : (old new : Built) (value : List ℕ) (deleted : Bool) (head total : ℕ)
    → IsWritable (OnLeaf (record { content = Chain head total; deleted = deleted }))
    → is_page_size old.size ≡ true → 1 ≤ length old.pages → length value ≤ (2 ^ 21 - length old.pages) * (old.size - 26)
    → old.size / 8 < length value → total ≡ length value → HasChain old new value head
    → IsItemOf old new value deleted (record { content = Chain head total; deleted = deleted })
chain_item old new value deleted head total fits legal some room long is has =
    let first : ℕ = length old.pages in
    let count : length new.pages ≡ first + length has.added = ap length has.pages ∙ length-append old.pages has.added in
    let counted = chains_are_counted old.order old.size head 0 value has.added has.chain in
    let positive : 0 < length value = omega (arith, long) in
    let last : (length has.added - 1) * (old.size - 26) < length value = counted.1 (some_pages has.added has.chain) in
    let fewer : length has.added - 1 < 2 ^ 21 - first = less_of_product _ _ (old.size - 26) (omega (arith, last, room)) in
    let few : length new.pages < 2 ^ 32 = omega (arith, count, fewer) in
    record {
      deleted_is = refl;
      fits = fits;
      place = λ type index. tt;
      cost = λ order. chain_cost order old.size head total value deleted long;
      kept = record {
        size = has.size;
        order = has.order;
        grows = omega (arith, count);
        same = λ p low. ap (λ ps. get_or ps p []) has.pages ∙ get_or_append_left old.pages has.added [] p low;
      };
      stands = λ g later_counted later.
          (long, is, has.first, stored_values_stand old new value head g has legal positive some few later_counted later);
      formed = λ p low high.
          let k : ℕ = p - first in
          let at : p ≡ first + k = omega (arith, low) in
          let bytes : bytes_of new p ≡ get_or has.added k [] =
          ap (λ ps. get_or ps p []) has.pages
          ∙ (ap (λ q. get_or (old.pages ++ has.added) q []) at ∙ get_or-append-add old.pages has.added k []) in
          ap (λ o. page_code o p (bytes_of new p)) has.order
          ∙ (ap (page_code old.order p) bytes
          ∙ subst (λ q. page_code old.order q (get_or has.added k []) ≡ None) (let e : head + k ≡ p = omega (arith, has.first, at) in e)
          (pieces_formed old.order old.size head 0 value has.added legal (omega (arith, has.first, few, count)) (omega arith) has.chain k
          (omega (arith, high, count, at))));
      heads = first_counts has.added few has.chain count has.pages;
      count = count ∙ ap (λ n. first + n) (sym (long_pages old.size value (length has.added) long counted.0 last));
    }
  where
    first_counts : (added : List (List ℕ)) → length new.pages < 2 ^ 32 → AreChainPages old.order old.size head 0 value added
        → length new.pages ≡ length old.pages + length added
        → new.pages ≡ old.pages ++ added → (length old.pages ≤ head) × (head < length new.pages) × CountsOne new.order (bytes_of new head)
    first_counts [] low chain count pages = let none : length value ≡ 0 = ap length chain in absurd (omega (arith, long, none))
    first_counts (page ∷ more) low chain count pages =
        let bounds = size_bounds old.size legal in
        let law = chain_pages_are_formed old.order old.size head 0 value legal (omega (arith, has.first, low, count)) (omega arith) in
        let here : bytes_of new head ≡ chain_page old.order old.size head 0 value =
        ap (λ ps. get_or ps head []) pages
        ∙ (ap (λ q. get_or (old.pages ++ (page ∷ more)) q []) (let e : head ≡ length old.pages + 0 = omega (arith, has.first) in e)
        ∙ (get_or-append-add old.pages (page ∷ more) 0 [] ∙ chain.1)) in (
          omega (arith, has.first),
          omega (arith, has.first, count),
          subst (λ o. CountsOne o (bytes_of new head)) (sym has.order)
              (subst (CountsOne old.order) (sym here)
              (record { long = omega (arith, law.4, bounds.0); type_is = law.2; one = law.3 })),
        )

    some_pages : (added : List (List ℕ)) → AreChainPages old.order old.size head 0 value added → 0 < length added
    some_pages [] chain = let none : length value ≡ 0 = ap length chain in absurd (omega (arith, long, none))
    some_pages (page ∷ pages) chain = omega arith

-- The leaves, after pages are added.

pub pages_stay : (leaves : Leaves) (old new : Built) → KeepsAll old new
    → (closed : List (List Entry)) (entries : List Entry) → AreLeaves leaves old closed entries → AreLeaves leaves new closed entries
pages_stay leaves old new is closed entries hold =
    let up = hold.after in
    let there = hold.there in
    let grows = is.grows in
    let rise = at_most_last leaves.leaf_type old 0 leaves.closed.items closed leaves.last hold.closed_hold in
    record {
      closed_hold = leaves_kept leaves.leaf_type old new 0 leaves.closed.items closed leaves.last is.order
          (λ q among. let most = rise.1 q among in is.same q (omega (arith, most, up, there))) hold.closed_hold;
      last_holds = subst (λ o. HoldsEntries leaves.leaf_type o (bytes_of new leaves.last) leaves.last (last_of 0 leaves.closed.items) 0 entries)
          (sym is.order)
          (subst (λ bs. HoldsEntries leaves.leaf_type old.order bs leaves.last (last_of 0 leaves.closed.items) 0 entries)
          (sym (is.same leaves.last there))
          hold.last_holds);
      after = up;
      there = omega (arith, there, grows);
    }

pub leaves_stay : (leaves : Leaves) (old new : Built) (value : List ℕ) (deleted : Bool) (item : Item) → IsItemOf old new value deleted item
    → (closed : List (List Entry)) (entries : List Entry) → AreLeaves leaves old closed entries → AreLeaves leaves new closed entries
leaves_stay leaves old new value deleted item is = pages_stay leaves old new is.kept

pub some_stay : (leaves : Leaves) (old new : Built) (value : List ℕ) (deleted : Bool) (item : Item) → IsItemOf old new value deleted item
    → AreSomeLeaves leaves old → AreSomeLeaves leaves new
some_stay leaves old new value deleted item is some =
    record {
      closed = some.closed;
      entries = some.entries;
      hold =
          leaves_stay leaves old new value deleted item is some.closed some.entries some.hold;
    }

-- the last leaf takes the item
pub takes_put : (leaves : Leaves) (old new : Built) (value : List ℕ) (deleted : Bool) (item : Item) → IsItemOf old new value deleted item
    → AreSomeLeaves leaves old → 2 + value_cost old.size value ≤ room_of old.order (bytes_of old leaves.last) → CanTakeEntry new leaves.last item
takes_put leaves old new value deleted item is some room =
    let stay = some_stay leaves old new value deleted item is some in
    let there = some.hold.there in
    let same : room_of new.order (bytes_of new leaves.last) ≡ room_of old.order (bytes_of old leaves.last) =
    ap (λ o. room_of o (bytes_of new leaves.last)) is.kept.order ∙ ap (room_of old.order) (is.kept.same leaves.last there) in
    record {
      type = leaves.leaf_type;
      previous = last_of 0 leaves.closed.items;
      next = 0;
      entries = stay.entries;
      holds = stay.hold.last_holds;
      fits = is.fits;
      place = is.place (type_number leaves.leaf_type) (length stay.entries);
      room = omega (arith, room, same, is.cost new.order);
    }
