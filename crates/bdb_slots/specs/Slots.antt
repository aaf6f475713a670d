-- What a page names, slot by slot, as the code walks over it. What it names as a whole is `targets_in` of bdb_format.
use Rattle.std.specs.Prelude.{ℕ, ◌+◌, ◌-◌, ◌*◌, ◌/◌, ◌%◌, ◌^◌, ◌<◌, ◌≤◌, nat_lt, ◌==◌, if◌then◌else◌, List, [], ◌∷◌, map, length, get_or}
use Rattle.std.specs.List.{enumerate_from, flat_map, range_with_len}
use Rattle.bdb_form.specs.declared.view.PageView.{PageView}
use Rattle.bdb_form.specs.declared.view.PageView.TheVariants.{Zero, Free, Meta, Leaf as LeafPage, Internal as InternalPage, RecnoLeaf as RecnoLeafPage}
use Rattle.bdb_form.specs.declared.view.PageView.TheVariants.{RecnoInternal as RecnoInternalPage, DupLeaf as DupLeafPage, Hash as HashPage, Overflow, Queue}
use Rattle.bdb_slots.specs.declared.source.Source.{Source}
use Rattle.bdb_slots.specs.declared.source.Source.TheVariants.{Nothing, Next, Tree, Table, Leaf, RecnoLeaf, DupLeaf, RecnoInternal, Internal, Hash}
use Rattle.bdb_form.specs.of_format.declared.pages.RecnoItem.{RecnoItem}
use Rattle.bdb_form.specs.of_format.declared.references.Reference.{Reference}
use Rattle.bdb_form.specs.of_format.declared.references.Sort.{Sort}
use Rattle.bdb_form.specs.of_format.declared.references.Sort.TheVariants.{Free as FreeRef, Root, Bucket, HashNext, Child}
use Rattle.bdb_form.specs.of_format.Terms.{InternalItem, Item, Listed, Unknown, content_targets, first_page, is_shared_key, no_item, unless_zero}

abbrev pub no_internal_item : InternalItem
no_internal_item = record { child = 0; count = 0; key = Unknown }

abbrev pub no_recno_item : RecnoItem
no_recno_item = record { child = 0; count = 0 }

-- what an item names
abbrev pub item_names : Listed Item → ℕ → List (Sort × ℕ)
item_names page slot = content_targets (get_or page.items slot no_item).content

-- what an entry of a btree leaf names; a key that is shared names nothing of its own
abbrev pub entry_names : Listed Item → ℕ → List (Sort × ℕ)
entry_names page slot = if is_shared_key page.offsets slot then [] else item_names page slot

abbrev pub child_names : Listed RecnoItem → ℕ → List (Sort × ℕ)
child_names page slot = (Child, (get_or page.items slot no_recno_item).child) ∷ []

-- an item is two slots: the page below, and the chain of its key
abbrev pub internal_names : Listed InternalItem → ℕ → List (Sort × ℕ)
internal_names page slot =
    let item : InternalItem = get_or page.items (slot / 2) no_internal_item in
    if slot % 2 == 1 then content_targets item.key else (Child, item.child) ∷ []

-- the items, and behind them the next page
abbrev pub hash_names : Listed Item → ℕ → List (Sort × ℕ)
hash_names page slot =
    if nat_lt slot (length page.items) then item_names page slot else unless_zero HashNext page.header.next

abbrev pub slots_of : Source → ℕ
slots_of Nothing = 0
slots_of (Next sort next) = 1
slots_of (Tree free root) = 2
slots_of (Table free max_bucket spares) = max_bucket + 2
slots_of (Leaf page) = length page.items
slots_of (RecnoLeaf page) = length page.items
slots_of (DupLeaf page) = length page.items
slots_of (RecnoInternal page) = length page.items
slots_of (Internal page) = 2 * length page.items
slots_of (Hash page) = length page.items + 1

abbrev pub slot_names : Source → ℕ → List (Sort × ℕ)
slot_names Nothing slot = []
slot_names (Next sort next) slot = unless_zero sort next
slot_names (Tree free root) slot = if slot == 0 then unless_zero FreeRef free else (Root, root) ∷ []
slot_names (Table free max_bucket spares) slot = if slot == 0 then unless_zero FreeRef free else (Bucket, first_page (slot - 1) spares) ∷ []
slot_names (Leaf page) slot = entry_names page slot
slot_names (RecnoLeaf page) slot = item_names page slot
slot_names (DupLeaf page) slot = item_names page slot
slot_names (RecnoInternal page) slot = child_names page slot
slot_names (Internal page) slot = internal_names page slot
slot_names (Hash page) slot = hash_names page slot

-- what is named from a slot on
unfoldable pub names_from : Source → ℕ → List (Sort × ℕ)
names_from source slot = flat_map (slot_names source) (range_with_len slot (slots_of source - slot))

-- the buckets are few enough for their slots to be counted
abbrev pub HasRoom : Source → Type 0
HasRoom (Table free max_bucket spares) = max_bucket < 2 ^ 31
HasRoom Nothing = Unit {0}
HasRoom (Next sort next) = Unit {0}
HasRoom (Tree free root) = Unit {0}
HasRoom (Leaf page) = Unit {0}
HasRoom (RecnoLeaf page) = Unit {0}
HasRoom (DupLeaf page) = Unit {0}
HasRoom (RecnoInternal page) = Unit {0}
HasRoom (Internal page) = Unit {0}
HasRoom (Hash page) = Unit {0}

-- a place counts the names before a slot, and each slot names at most one page
pub record HasPlace (source : Source) (slot place : ℕ) : Type 0 where
  pub room : HasRoom source
  pub before : place ≤ slot

-- a page whose fields needn't be read to tell what it names
abbrev pub IsNoMetadata : PageView → Type 0
IsNoMetadata (Meta view) = ⊥
IsNoMetadata (Zero view) = Unit {0}
IsNoMetadata (Free view) = Unit {0}
IsNoMetadata (LeafPage view) = Unit {0}
IsNoMetadata (InternalPage view) = Unit {0}
IsNoMetadata (RecnoLeafPage view) = Unit {0}
IsNoMetadata (RecnoInternalPage view) = Unit {0}
IsNoMetadata (DupLeafPage view) = Unit {0}
IsNoMetadata (HashPage view) = Unit {0}
IsNoMetadata (Overflow view) = Unit {0}
IsNoMetadata (Queue view) = Unit {0}

-- names as references, the first at this place
abbrev pub placed : ℕ → List (Sort × ℕ) → List Reference
placed place names = map (λ named. record { place = named.0; sort = named.1.0; target = named.1.1 }) (enumerate_from place names)
