-- What each kind of page names is what its slots name.
use Rattle.std.proofs.Common.{◌≡◌, ℕ, suc, ◌+◌, ◌*◌, ◌-◌, [], ◌∷◌, ◌++◌, length, map, arith, refl, sym, ◌∙◌, ap}
use Rattle.std.specs.List.{flat_map, range_with_len}
use Rattle.std.proofs.lemmas.List.Concat.{flat_map_single}
use Rattle.bdb_form.specs.of_format.declared.metadata.BtreeMeta.{BtreeMeta}
use Rattle.bdb_form.specs.of_format.declared.metadata.HashMeta.{HashMeta}
use Rattle.bdb_form.specs.of_format.declared.pages.RecnoItem.{RecnoItem}
use Rattle.bdb_form.specs.of_format.declared.references.Sort.TheVariants.{Free as FreeRef, HashNext, Child}
use Rattle.bdb_form.specs.of_format.Terms.{BtreeFields, DupLeaf as AnyDupLeaf, Hash as AnyHash, HashFields, Internal as AnyInternal, InternalItem, Item}
use Rattle.bdb_form.specs.of_format.Terms.{Leaf as AnyLeaf, Listed, Meta, RecnoInternal as AnyRecnoInternal, RecnoLeaf as AnyRecnoLeaf, content_targets}
use Rattle.bdb_form.specs.of_format.Terms.{first_free, no_item, targets_in, unless_zero}
use Rattle.bdb_form.proofs.of_format.TargetLemmas.{each_content, each_own}
use Rattle.bdb_slots.specs.declared.source.Source.TheVariants.{Nothing, Tree, Table, Leaf, RecnoLeaf, DupLeaf, RecnoInternal, Internal, Hash}
use Rattle.bdb_slots.specs.Slots.{item_names, names_from, no_recno_item}
use Rattle.bdb_slots.proofs.SlotLemmas.{each_item, each_of_hash, each_of_internal, each_bucket}

pub of_nothing : names_from Nothing 0 ≡ []
unfolding names_from
of_nothing = refl

pub of_tree : (p : ℕ) (meta : BtreeMeta) (free : ℕ) → unless_zero FreeRef free ≡ first_free p meta.free
    → names_from (Tree free meta.root) 0 ≡ targets_in p (Meta (BtreeFields meta))
unfolding names_from
of_tree p meta free same = rw same refl

pub of_table : (p : ℕ) (meta : HashMeta) (free : ℕ) → unless_zero FreeRef free ≡ first_free p meta.free
    → names_from (Table free meta.max_bucket meta.spares) 0 ≡ targets_in p (Meta (HashFields meta))
unfolding names_from
of_table p meta free same =
    let all : meta.max_bucket + 2 - 0 ≡ suc (meta.max_bucket + 1) = omega arith in
    rw (all, same, each_bucket free meta.max_bucket meta.spares 0 (meta.max_bucket + 1)) refl

pub of_leaf : (p : ℕ) (page : Listed Item) → names_from (Leaf page) 0 ≡ targets_in p (AnyLeaf page)
unfolding names_from
of_leaf p page = let all : length page.items - 0 ≡ length page.items = omega arith in rw all (sym (each_own content_targets page))

-- the slots of a page of items are what the items hold
each_slot : (page : Listed Item)
    → flat_map (item_names page) (range_with_len 0 (length page.items - 0)) ≡ flat_map content_targets (map (λ (item : Item). item.content) page.items)
each_slot page =
    let all : length page.items - 0 ≡ length page.items = omega arith in
    rw all (each_item (λ item. content_targets item.content) no_item page.items 0 (length page.items) (omega arith))
    ∙ sym (each_content content_targets page.items)

pub of_recno_leaf : (p : ℕ) (page : Listed Item) → names_from (RecnoLeaf page) 0 ≡ targets_in p (AnyRecnoLeaf page)
unfolding names_from
of_recno_leaf p page = each_slot page

pub of_dup_leaf : (p : ℕ) (page : Listed Item) → names_from (DupLeaf page) 0 ≡ targets_in p (AnyDupLeaf page)
unfolding names_from
of_dup_leaf p page = each_slot page

pub of_recno_internal : (p : ℕ) (page : Listed RecnoItem) → names_from (RecnoInternal page) 0 ≡ targets_in p (AnyRecnoInternal page)
unfolding names_from
of_recno_internal p page =
    let all : length page.items - 0 ≡ length page.items = omega arith in
    rw all (each_item (λ item. (Child, item.child) ∷ []) no_recno_item page.items 0 (length page.items) (omega arith)
    ∙ flat_map_single (λ item. (Child, item.child)) page.items)

pub of_internal : (p : ℕ) (page : Listed InternalItem) → names_from (Internal page) 0 ≡ targets_in p (AnyInternal page)
unfolding names_from
of_internal p page = each_of_internal page 0 (length page.items) 0 (2 * length page.items - 0) (omega arith) refl (omega arith)

pub of_hash : (p : ℕ) (page : Listed Item) → names_from (Hash page) 0 ≡ targets_in p (AnyHash page)
unfolding names_from
of_hash p page =
    let all : length page.items + 1 - 0 ≡ suc (length page.items) = omega arith in
    rw all (each_of_hash page 0 (length page.items) (omega arith))
    ∙ ap (λ names. names ++ unless_zero HashNext page.header.next) (sym (each_content content_targets page.items))
