-- The lengths of spelled items, and the forms in which they are written.
use Rattle.std.proofs.Common.{◌≡◌, ℕ, suc, ◌+◌, ◌<◌, ◌≤◌, Bool, List, ◌∷◌, ◌++◌, length, take, drop, get_or, Some, inl, inr, length-take, replicate, refl, sym}
use Rattle.std.proofs.Common.{ap, ◌∙◌, arith, length-append, append_assoc}
use Rattle.std.proofs.lemmas.Bool.{cases_lt}
use Rattle.std.proofs.lemmas.List.{drop_at, get_or_append_left, get_or_past}
use Rattle.bdb_format.specs.declared.kinds.Order.{Order}
use Rattle.bdb_format.specs.declared.kinds.Order.TheVariants.{Big, Little}
use Rattle.bdb_format.specs.Terms.{Chain, Inline, Set, Tree, blocks_of, hash_bytes, internal_bytes, kind_byte, leaf_bytes, overwritten, spelled}
use Rattle.bdb_layout.proofs.BlockLemmas.{blocks_spelled}
use Rattle.bdb_format.proofs.SpellingLemmas.{byte_at-from, length-spelled, length-pair, wrote, wrote_as, wrote_next}

pub length-leaf_inline : (order : Order) (bytes : List ℕ) (deleted : Bool) → length (leaf_bytes order (record { content = Inline bytes; deleted = deleted }))
    ≡ 3 + length bytes
unfolding leaf_bytes
length-leaf_inline order bytes deleted =
    omega (arith, length-append (spelled 2 order (length bytes)) (kind_byte 1 deleted ∷ bytes), length-spelled 2 order (length bytes))

-- four bytes of 0 are the number 0
zero_is : (order : Order) → spelled 4 order 0 ≡ replicate 4 0
unfolding spelled
zero_is Big = refl
zero_is Little = refl

-- an item with the root of a set off the page is written as the root and 0
pub leaf_tree-is : (order : Order) (root : ℕ) (deleted : Bool) → 0 ∷ 0 ∷ kind_byte 2 deleted ∷ 0 ∷ (spelled 4 order root ++ spelled 4 order 0)
    ≡ leaf_bytes order (record { content = Tree root; deleted = deleted })
unfolding leaf_bytes
leaf_tree-is order root deleted = ap (λ (bs : List ℕ). 0 ∷ 0 ∷ kind_byte 2 deleted ∷ 0 ∷ (spelled 4 order root ++ bs)) (zero_is order)

pub length-leaf_tree : (order : Order) (root : ℕ) (deleted : Bool) → length (leaf_bytes order (record { content = Tree root; deleted = deleted })) ≡ 12
length-leaf_tree order root deleted = omega (arith, ap length (leaf_tree-is order root deleted), length-pair order root 0)

pub length-leaf_chain : (order : Order) (head total : ℕ) (deleted : Bool) → length (leaf_bytes order (record { content = Chain head total; deleted = deleted }))
    ≡ 12
unfolding leaf_bytes
length-leaf_chain order head total deleted = omega (arith, length-pair order head total)

pub length-internal_inline : (order : Order) (child count : ℕ) (key : List ℕ)
    → length (internal_bytes order (record { child = child; count = count; key = Inline key })) ≡ 12 + length key
unfolding internal_bytes
length-internal_inline order child count key = grind (arith, length-append, length-spelled, length-pair)

pub length-internal_chain : (order : Order) (child count head total : ℕ)
    → length (internal_bytes order (record { child = child; count = count; key = Chain head total })) ≡ 24
unfolding internal_bytes
length-internal_chain order child count head total = grind (arith, length-append, length-spelled, length-pair)

-- the length, the kind and the two numbers with which an internal item begins
abbrev pub internal_start : Order → ℕ → ℕ → ℕ → ℕ → List ℕ
internal_start order size kind child count = spelled 2 order size ++ (kind ∷ 0 ∷ (spelled 4 order child ++ spelled 4 order count))

length-internal_start : (order : Order) (size kind child count : ℕ) → length (internal_start order size kind child count) ≡ 12
length-internal_start order size kind child count = grind (arith, length-append, length-spelled, length-pair)

-- the start of an internal item and then its key were written: so was the item
pub wrote_internal_inline : (order : Order) (child count : ℕ) (key old now new : List ℕ) (at : ℕ)
    → now ≡ overwritten old at (internal_start order (length key) 1 child count)
    → new ≡ overwritten now (at + 12) key → at + length (internal_bytes order (record { child = child; count = count; key = Inline key })) ≤ length old
    → new ≡ overwritten old at (internal_bytes order (record { child = child; count = count; key = Inline key }))
unfolding internal_bytes
wrote_internal_inline order child count key old now new at e f room =
    let enough : at + (12 + length key) ≤ length old = omega (arith, room, length-internal_inline order child count key) in
    let start : List ℕ = internal_start order (length key) 1 child count in
    let first = wrote old at start (at + 12) e (omega (arith, length-internal_start order (length key) 1 child count)) (omega arith) in
    let all = wrote_next key (at + 12 + length key) first f refl (omega arith) in
    let numbers : List ℕ = spelled 4 order child ++ spelled 4 order count in
    wrote_as (internal_bytes order (record { child = child; count = count; key = Inline key })) all
    (append_assoc (spelled 2 order (length key)) (1 ∷ 0 ∷ numbers) key)

pub wrote_internal_chain : (order : Order) (child count head total : ℕ) (old now new : List ℕ) (at : ℕ)
    → now ≡ overwritten old at (internal_start order 12 3 child count)
    → new ≡ overwritten now (at + 12) (0 ∷ 0 ∷ 3 ∷ 0 ∷ (spelled 4 order head ++ spelled 4 order total))
    → at + length (internal_bytes order (record { child = child; count = count; key = Chain head total })) ≤ length old
    → new ≡ overwritten old at (internal_bytes order (record { child = child; count = count; key = Chain head total }))
unfolding internal_bytes
wrote_internal_chain order child count head total old now new at e f room =
    let enough : at + 24 ≤ length old = omega (arith, room, length-internal_chain order child count head total) in
    let start : List ℕ = internal_start order 12 3 child count in
    let chain : List ℕ = 0 ∷ 0 ∷ 3 ∷ 0 ∷ (spelled 4 order head ++ spelled 4 order total) in
    let first = wrote old at start (at + 12) e (omega (arith, length-internal_start order 12 3 child count)) (omega arith) in
    let all = wrote_next chain (at + 24) first f (omega (arith, length-pair order head total)) enough in
    let numbers : List ℕ = spelled 4 order child ++ spelled 4 order count in
    wrote_as (internal_bytes order (record { child = child; count = count; key = Chain head total })) all
    (append_assoc (spelled 2 order 12) (3 ∷ 0 ∷ numbers) chain)

-- the run of a set, behind its kind, is the item with that set
pub hash_set-is : (order set_order : Order) (run : List ℕ) (blocks : List (List ℕ)) → ((i : ℕ) → get_or run i 0 < 256) → set_order ≡ order
    → blocks_of set_order run ≡ Some blocks
    → 2 ∷ run ≡ hash_bytes order (Set blocks)
unfolding hash_bytes
hash_set-is order set_order run blocks fit same is = rw same at (ap (λ (bs : List ℕ). 2 ∷ bs) (sym (blocks_spelled set_order run blocks fit is)))

pub length-hash_inline : (order : Order) (bytes : List ℕ) → length (hash_bytes order (Inline bytes)) ≡ 1 + length bytes
unfolding hash_bytes
length-hash_inline order bytes = omega arith

pub length-hash_chain : (order : Order) (head total : ℕ) → length (hash_bytes order (Chain head total)) ≡ 12
unfolding hash_bytes
length-hash_chain order head total = omega (arith, length-pair order head total)

pub length-hash_tree : (order : Order) (root : ℕ) → length (hash_bytes order (Tree root)) ≡ 8
unfolding hash_bytes
length-hash_tree order root = omega (arith, length-spelled 4 order root)

-- what was written on a page are bytes, since those of the page are
pub run_fits : (old new run : List ℕ) (at kind : ℕ) → new ≡ overwritten old at (kind ∷ run) → at ≤ length old → ((i : ℕ) → get_or new i 0 < 256) → (i : ℕ)
    → get_or run i 0 < 256
run_fits old new run at kind e room fit i = elim (cases_lt i (length run)) [
  | inl lt ↦
      let rest : List ℕ = drop (at + length (kind ∷ run)) old in
      let behind : drop at new ≡ kind ∷ (run ++ rest) = ap (drop at) e ∙ drop_at (take at old) ((kind ∷ run) ++ rest) at (omega (arith, length-take at old)) in
      let there : get_or new (at + suc i) 0 ≡ get_or run i 0 = byte_at-from new at (suc i) ∙ ap (λ (bs : List ℕ). get_or bs (suc i) 0) behind
      ∙ get_or_append_left run rest 0 i lt in
      omega (arith, there, fit (at + suc i))
  | inr past ↦ omega (arith, get_or_past run i 0 past)
]
