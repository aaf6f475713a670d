-- The slots of a page, one after another, are what the page names.
use Rattle.std.proofs.Common.{◌≡◌, ℕ, zero, suc, ◌+◌, ◌*◌, ◌<◌, ◌≤◌, true, List, [], ◌∷◌, ◌++◌, length, get_or, drop, map, arith, refl, append_assoc}
use Rattle.std.proofs.Common.{append-nil, add-one, le-ltb, lt-ltb, nat_eq, eq-eqb, ne_eqb, nat_lt}
use Rattle.std.specs.List.{flat_map, range_with_len}
use Rattle.std.proofs.Math.Seq.{drop-cons}
use Rattle.std.proofs.lemmas.List.{drop_all}
use Rattle.bdb_form.specs.of_format.declared.references.Sort.TheVariants.{Bucket, HashNext, Child}
use Rattle.bdb_form.specs.of_format.Terms.{InternalItem, Item, Listed, content_targets, first_page, no_item, unless_zero}
use Rattle.bdb_slots.specs.declared.source.Source.{Source}
use Rattle.bdb_slots.specs.declared.source.Source.TheVariants.{Table}
use Rattle.bdb_slots.specs.Slots.{hash_names, internal_names, names_from, no_internal_item, slot_names, slots_of}

-- behind the last slot nothing is named
pub none_from : (source : Source) (slot : ℕ) → slots_of source ≤ slot → names_from source slot ≡ []
unfolding names_from
none_from source slot past = grind arith

-- what is named from a slot on: what it names itself, and what is named from the next slot on
pub next_from : (source : Source) (slot : ℕ) → slot < slots_of source → names_from source slot ≡ slot_names source slot ++ names_from source (slot + 1)
unfolding names_from
next_from source slot lt = grind arith

-- the items from an index on, slot by slot
pub each_item : {A B : Type 0} (f : A → List B) (d : A) (items : List A) (i n : ℕ) → i + n ≡ length items
    → flat_map (λ slot. f (get_or items slot d)) (range_with_len i n) ≡ flat_map f (drop i items)
each_item f d items i zero all = rw (drop_all i items (omega arith)) refl
each_item f d items i (suc n) all = grind (arith, add-one, drop-cons, each_item f d items (i + 1) n (omega arith))

-- the items of a hash page from an index on, and the next page
pub each_of_hash : (page : Listed Item) (i n : ℕ) → i + n ≡ length page.items
    → flat_map (hash_names page) (range_with_len i (suc n))
    ≡ flat_map (λ item. content_targets item.content) (drop i page.items) ++ unless_zero HashNext page.header.next
each_of_hash page i zero all = grind (arith, le-ltb, drop_all, append-nil)
each_of_hash page i (suc n) all =
    let more : nat_lt i (length page.items) ≡ true = lt-ltb _ _ (omega arith) in
    let cut : drop i page.items ≡ get_or page.items i no_item ∷ drop (i + 1) page.items = rw add-one (drop-cons page.items i no_item (omega arith)) in
    rw (cut, more, each_of_hash page (i + 1) n (omega arith)) (rw append_assoc refl)

even_slot : (page : Listed InternalItem) (i k : ℕ) → k ≡ 2 * i → internal_names page k ≡ (Child, (get_or page.items i no_internal_item).child) ∷ []
even_slot page i k same = grind (arith, nat_eq, ne_eqb)

odd_slot : (page : Listed InternalItem) (i k : ℕ) → k ≡ 2 * i + 1 → internal_names page k ≡ content_targets (get_or page.items i no_internal_item).key
odd_slot page i k same = grind (arith, nat_eq, eq-eqb)

-- the items of an internal page from an index on, each as two slots
pub each_of_internal : (page : Listed InternalItem) (i n k m : ℕ) → i + n ≡ length page.items → k ≡ 2 * i → m ≡ 2 * n
    → flat_map (internal_names page) (range_with_len k m) ≡ flat_map (λ item. (Child, item.child) ∷ content_targets item.key) (drop i page.items)
each_of_internal page i zero k m all place twice = grind (arith, drop_all)
each_of_internal page i (suc n) k m all place twice =
    let two : m ≡ suc (suc (2 * n)) = omega arith in
    let cut : drop i page.items ≡ get_or page.items i no_internal_item ∷ drop (i + 1) page.items = rw add-one
    (drop-cons page.items i no_internal_item (omega arith)) in
    rw (
      two,
      cut,
      even_slot page i k place,
      odd_slot page i (k + 1) (omega arith),
      each_of_internal page (i + 1) n (k + 1 + 1) (2 * n) (omega arith)
          (omega arith) refl,
    ) refl

-- the buckets from one on, each with the slot after its number
pub each_bucket : (free last : ℕ) (spares : List ℕ) (b n : ℕ)
    → flat_map (slot_names (Table free last spares)) (range_with_len (b + 1) n) ≡ map (λ b. (Bucket, first_page b spares)) (range_with_len b n)
each_bucket free last spares b zero = refl
each_bucket free last spares b (suc n) = grind (arith, nat_eq, ne_eqb, each_bucket free last spares (b + 1) n)
