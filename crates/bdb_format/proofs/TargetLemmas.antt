-- What the items of pages hold, item by item, and the pages that they name.
use Rattle.std.proofs.Common.{◌≡◌, ℕ, ◌<◌, false, Bool, cond, List, [], ◌∷◌, map, length, arith, refl, sym, ◌∙◌, ap, subst, not}
use Rattle.std.specs.List.{Contains, filter, flat_map, range_with_len}
use Rattle.std.proofs.lemmas.List.Elements.{Contains-append_left}
use Rattle.std.proofs.lemmas.List.Folds.{flat_map-map}
use Rattle.bdb_format.specs.declared.references.Sort.{Sort}
use Rattle.bdb_format.specs.declared.references.Sort.TheVariants.{HashNext, Child}
use Rattle.bdb_format.specs.Terms.{Content, DupLeaf, Hash, Internal, InternalItem, Item, Leaf, Listed, Page, RecnoLeaf, content_targets, contents_in}
use Rattle.bdb_format.specs.Terms.{internal_targets, is_shared_key, item_at, own_entries, targets_in, unless_zero}
use Rattle.bdb_format.proofs.MemberLemmas.{in_filter, in_flat_map, in_map, in_range, later_member, no_member, of_map}

-- what is taken from the contents of items is taken item by item
pub each_content : {X : Type 0} (f : Content → List X) (items : List Item)
    → flat_map f (map (λ (item : Item). item.content) items) ≡ flat_map (λ (item : Item). f item.content) items
each_content f items = flat_map-map f (λ (item : Item). item.content) items

-- nothing is taken from the elements that a test drops
flat_kept : {X Y : Type 0} (f : X → List Y) (drops : X → Bool) (xs : List X)
    → flat_map f (filter (λ x. not (drops x)) xs) ≡ flat_map (λ x. cond (drops x) [] (f x)) xs
flat_kept f drops [] = refl
flat_kept f drops (x ∷ xs) = grind (arith, flat_kept f drops xs)

-- what is taken from the contents of a btree leaf is taken entry by entry, nothing from a shared key
pub each_own : {X : Type 0} (f : Content → List X) (page : Listed Item)
    → flat_map f (contents_in (Leaf page))
    ≡ flat_map (λ index. cond (is_shared_key page.offsets index) [] (f (item_at page index).content)) (range_with_len 0 (length page.items))
each_own f page =
    flat_map-map f (λ index. (item_at page index).content) (own_entries page)
    ∙ flat_kept (λ index. f (item_at page index).content) (is_shared_key page.offsets) (range_with_len 0 (length page.items))

-- an entry of a btree leaf that is no shared key holds its own content
pub own_held : (page : Listed Item) (index : ℕ) → index < length page.items → is_shared_key page.offsets index ≡ false
    → Contains (contents_in (Leaf page)) (item_at page index).content
own_held page index inside own =
    in_map (λ i. (item_at page i).content) (own_entries page) index
    (in_filter (λ i. not (is_shared_key page.offsets i)) (range_with_len 0 (length page.items)) index
    (in_range 0 (length page.items) index (omega arith) (omega arith)) (ap not own))

-- a page names what its items hold
pub held_named : (p : ℕ) (page : Page) (content : Content) (target : Sort × ℕ) → Contains (contents_in page) content → Contains (content_targets content) target
    → Contains (targets_in p page) target
held_named p (Hash page) content target held named =
    Contains-append_left (flat_map content_targets (contents_in (Hash page))) (unless_zero HashNext page.header.next) target
    (in_flat_map content_targets (contents_in (Hash page)) content target held named)
held_named p (Internal page) content target held named =
    let found : (item : InternalItem) × Contains page.items item × (item.key ≡ content) = of_map (λ (item : InternalItem). item.key) page.items content held in
    in_flat_map internal_targets page.items found.0 target found.1
    (later_member (Child, found.0.child) (content_targets found.0.key) target (subst (λ c. Contains (content_targets c) target) (sym found.2) named))
held_named p (Leaf page) content target held named = in_flat_map content_targets (contents_in (Leaf page)) content target held named
held_named p (RecnoLeaf page) content target held named = in_flat_map content_targets (contents_in (RecnoLeaf page)) content target held named
held_named p (DupLeaf page) content target held named = in_flat_map content_targets (contents_in (DupLeaf page)) content target held named
held_named p page content target held named = absurd (no_member [] content refl held)
