-- The list of a master: it is one that a tree can be built of, and the pages that it takes don't depend on the numbers in it.
use Rattle.std.proofs.Common.{◌≡◌, ℕ, ◌+◌, ◌-◌, ◌/◌, ◌||◌, ◌&&◌, Bool, true, false, cond, List, [], ◌∷◌, length, map, replicate, arith, refl, sym, ◌∙◌, ap, subst, if◌then◌else◌, nat_le, nat_lt, All, sum_by}
use Rattle.std.proofs.Math.Path.{fun_ext}
use Rattle.bdb_mkfile.proofs.Common.{both_true, bytes_eq, and_parts, length-map, length-replicate, All-cons, All-head, All-nil, All-tail, sum_by-cons, Order, Big, ascends, ascends_from, less, pad4}
use Rattle.bdb_mkfile.proofs.Common.{length-spelled, Pair, Bytes, Section, LeafType, IsShort, inner_cost, leaf_key, leaves_and_levels, own_pages, pages_over, set_pages, set_type, spread_on}
use Rattle.bdb_mkfile.proofs.Common.{spread_units, tree_size, EntryUnit, KeyedUnit, TreeUnit, chain_pages, has_own_tree, page_room, set_cost, unit_cost, value_cost, IsPairFor, bytes_in, is_in_order}
use Rattle.bdb_mkfile.proofs.Common.{keyed_units, onto_units, name_in, IsNamed, name_entry, EntriesAreListed, EntriesTakePages, entries_from, entry_of, settings_of_master}
use Rattle.std.proofs.lemmas.Simd.{map-map}
use Rattle.bdb_need.specs.of_law_levels.declared.inner_type.InnerType.{InnerType}
use Rattle.bdb_need.specs.of_law_levels.declared.inner_type.InnerType.TheVariants.{Keyed, Numbered}
use Rattle.bdb_need.specs.of_mkleaves.declared.leaf_type.LeafType.TheVariants.{Pairs}
use Rattle.bdb_need.specs.of_mkleaves.Inner.{first_cost}
use Rattle.bdb_need.specs.of_mkleaves.Laid.{inner_of}
use Rattle.bdb_need.proofs.of_mkleaves.SpreadLemmas.{spread_map}
use Rattle.bdb_mkfile.proofs.NamingLemmas.{names_of}

-- The list.

all_fit : (size : ℕ) (order : Order) (number : ℕ) (sections : List Section) → All (IsNamed size) sections
    → All (IsPairFor (settings_of_master size order)) (entries_from number sections)
all_fit size order number [] named = All-nil (IsPairFor (settings_of_master size order))
all_fit size order number (section ∷ sections) named =
    let first : IsNamed size section = All-head (IsNamed size) section sections named in
    All-cons (IsPairFor (settings_of_master size order)) (entry_of number section) (entries_from (number + 1) sections)
    (record {
      key = (tt, subst IsShort (sym (ap name_in first.name_is)) first.short);
      short = omega (arith, length-spelled 4 Big number);
      long = λ recno. absurd (cc recno);
    })
    (all_fit size order (number + 1) sections (All-tail (IsNamed size) section sections named))

-- names that ascend are in the order of keys
follow_after : (size : ℕ) (order : Order) (number : ℕ) (section : Section) (sections : List Section)
    → ascends_from (name_in section.name) (names_of sections) ≡ true
    → is_in_order (settings_of_master size order) (entries_from number (section ∷ sections)) ≡ true
follow_after size order number section [] rise = refl
follow_after size order number section (next ∷ sections) rise =
    let low : List ℕ = name_in section.name in
    let high : List ℕ = name_in next.name in
    let parts = and_parts (less low high) (ascends_from high (names_of sections)) rise in
    both_true (ap (λ b. b || (bytes_eq low high && false)) parts.0) (follow_after size order (number + 1) next sections parts.1)

all_follow : (size : ℕ) (order : Order) (number : ℕ) (sections : List Section) → ascends (names_of sections) ≡ true
    → is_in_order (settings_of_master size order) (entries_from number sections) ≡ true
all_follow size order number [] rise = refl
all_follow size order number (section ∷ sections) rise = follow_after size order number section sections rise

pub entries_are_listed : EntriesAreListed
entries_are_listed size order number sections named =
    record { each = all_fit size order number sections named.each; in_order = all_follow size order number sections named.ascend }

-- Blank data: all bytes are 0. What a tree takes looks at their lengths alone.

abbrev blank_value : List ℕ → List ℕ
blank_value value = replicate (length value) 0

abbrev blank_unit : TreeUnit → TreeUnit
blank_unit (KeyedUnit key values) = KeyedUnit key (map blank_value values)
blank_unit (EntryUnit value deleted) = EntryUnit (blank_value value) deleted

abbrev blank_pair : Pair → Pair
blank_pair pair = record { key = pair.key; value = blank_value pair.value }

same_length : (value : List ℕ) → length (blank_value value) ≡ length value
same_length value = length-replicate (length value) 0

value_blank : (size : ℕ) (value : List ℕ) → value_cost size (blank_value value) ≡ value_cost size value
value_blank size value = ap (λ n. if nat_le n (size / 8) then pad4 (3 + n) else 12) (same_length value)

chain_blank : (size : ℕ) (value : List ℕ) → chain_pages size (blank_value value) ≡ chain_pages size value
chain_blank size value = ap (λ n. if nat_le n (size / 8) then 0 else (n + page_room size - 1) / page_room size) (same_length value)

-- a sum of what stays
sum_stays : {A : Type 0} (f : A → ℕ) (g : A → A) (xs : List A) → ((x : A) → f (g x) ≡ f x) → sum_by f (map g xs) ≡ sum_by f xs
sum_stays f g [] same = refl
sum_stays f g (x ∷ xs) same = omega (arith, sum_by-cons f (g x) (map g xs), sum_by-cons f x xs, same x, sum_stays f g xs same)

-- Units.

set_blank : (size : ℕ) (key : List ℕ) (values : List (List ℕ)) → set_cost size key (map blank_value values) ≡ set_cost size key values
set_blank size key values = grind (arith, value_cost, sum_stays, value_blank)

own_tree_blank : (size : ℕ) (key : List ℕ) (values : List (List ℕ))
    → has_own_tree size key (map blank_value values) ≡ has_own_tree size key values
own_tree_blank size key values = grind (arith, nat_lt, set_cost, length-map, set_blank)

cost_blank : (size : ℕ) (unit : TreeUnit) → unit_cost size (blank_unit unit) ≡ unit_cost size unit
cost_blank size (KeyedUnit key values) = grind (arith, value_cost, set_cost, own_tree_blank, has_own_tree, set_blank)
cost_blank size (EntryUnit value deleted) = ap (λ n. 2 + n) (value_blank size value)

-- Leaves and levels.

spread_blank : (size : ℕ) (units : List TreeUnit) → spread_units size (map blank_unit units) ≡ map (map blank_unit) (spread_units size units)
spread_blank size units =
    let room : ℕ = page_room size in
    spread_map blank_unit room (unit_cost size) (unit_cost size) room [] units
    ∙ ap (λ (cost : TreeUnit → ℕ). map (map blank_unit) (spread_on room cost cost room [] units)) (fun_ext (cost_blank size))

by_length : (inner : InnerType) (size : ℕ) (a b : List ℕ) → length a ≡ length b → inner_cost inner size a ≡ inner_cost inner size b
by_length Keyed size a b same = ap (λ n. if nat_le n (size / 8) then 2 + pad4 (12 + n) else 26) same
by_length Numbered size a b same = refl

item_blank : (inner : InnerType) (size : ℕ) (leaf : List TreeUnit)
    → inner_cost inner size (leaf_key (map blank_unit leaf)) ≡ inner_cost inner size (leaf_key leaf)
item_blank inner size [] = refl
item_blank inner size (KeyedUnit key values ∷ units) = refl
item_blank inner size (EntryUnit value deleted ∷ units) = by_length inner size (blank_value value) value (same_length value)

-- the pages of leaves and of the levels over them
abbrev pages_of : LeafType → ℕ → List (List TreeUnit) → ℕ
pages_of type size leaves =
    length leaves
    + pages_over (length leaves) (page_room size) (first_cost (inner_of type))
    (map (λ (leaf : List TreeUnit). inner_cost (inner_of type) size (leaf_key leaf)) leaves)

pages_blank : (type : LeafType) (size : ℕ) (leaves : List (List TreeUnit))
    → pages_of type size (map (map blank_unit) leaves) ≡ pages_of type size leaves
pages_blank type size leaves = grind (arith, TreeUnit, inner_cost, leaf_key, page_room, map-map, fun_ext, item_blank, pages_over, length-map)

levels_blank : (type : LeafType) (size : ℕ) (units : List TreeUnit)
    → leaves_and_levels type size (map blank_unit units) ≡ leaves_and_levels type size units
levels_blank type size units = ap (pages_of type size) (spread_blank size units) ∙ pages_blank type size (spread_units size units)

-- Trees.

chains_blank : (size : ℕ) (values : List (List ℕ)) → sum_by (chain_pages size) (map blank_value values) ≡ sum_by (chain_pages size) values
chains_blank size values = sum_stays (chain_pages size) blank_value values (chain_blank size)

-- the tree of a key's data
own_set_blank : (size : ℕ) (sorted : Bool) (values : List (List ℕ)) → set_pages size sorted (map blank_value values) ≡ set_pages size sorted values
own_set_blank size sorted values =
    let entry : List ℕ → TreeUnit = λ value. EntryUnit value false in
    let entries : map entry (map blank_value values) ≡ map blank_unit (map entry values) =
    map-map entry blank_value values ∙ sym (map-map blank_unit entry values) in
    ap (λ n. n + leaves_and_levels (set_type sorted) size (map entry (map blank_value values))) (chains_blank size values)
    ∙ ap (λ n. sum_by (chain_pages size) values + n)
    (ap (leaves_and_levels (set_type sorted) size) entries ∙ levels_blank (set_type sorted) size (map entry values))

own_blank : (size : ℕ) (sorted : Bool) (unit : TreeUnit) → own_pages size sorted (blank_unit unit) ≡ own_pages size sorted unit
own_blank size sorted (KeyedUnit key values) =
    let blank : List (List ℕ) = map blank_value values in
    ap (λ b. chain_pages size key + cond b (set_pages size sorted blank) (sum_by (chain_pages size) blank)) (own_tree_blank size key values)
    ∙ (ap (λ n. chain_pages size key + cond (has_own_tree size key values) n (sum_by (chain_pages size) blank)) (own_set_blank size sorted values)
    ∙ ap (λ n. chain_pages size key + cond (has_own_tree size key values) (set_pages size sorted values) n) (chains_blank size values))
own_blank size sorted (EntryUnit value deleted) = chain_blank size value

tree_blank : (type : LeafType) (size : ℕ) (sorted : Bool) (units : List TreeUnit)
    → tree_size type size sorted (map blank_unit units) ≡ tree_size type size sorted units
tree_blank type size sorted units = omega (arith, sum_stays (own_pages size sorted) blank_unit units (own_blank size sorted), levels_blank type size units)

-- The units of blank pairs are blank.

with_blank : (key value : List ℕ) (units : List TreeUnit)
    → onto_units key (blank_value value) (map blank_unit units) ≡ map blank_unit (onto_units key value units)
with_blank key value [] = refl
with_blank key value (KeyedUnit other values ∷ units) = grind (arith, bytes_eq, KeyedUnit)
with_blank key value (EntryUnit other deleted ∷ units) = refl

units_blank : (pairs : List Pair) → keyed_units (map blank_pair pairs) ≡ map blank_unit (keyed_units pairs)
units_blank [] = refl
units_blank (pair ∷ pairs) = grind (arith, onto_units, bytes_in, with_blank, keyed_units, units_blank pairs)

-- the entries of sections are those of their names with numbers in place of zeros
entries_blank : (number : ℕ) (sections : List Section) → map blank_pair (entries_from number sections) ≡ map name_entry sections
entries_blank number [] = refl
entries_blank number (section ∷ sections) =
    grind (arith, Pair, Bytes, name_in, entries_from, length-spelled, Big, name_entry, entries_blank (number + 1) sections)

pub entries_take_pages : EntriesTakePages
entries_take_pages size order number sections =
    sym (tree_blank Pairs size false (keyed_units (entries_from number sections)))
    ∙ ap (tree_size Pairs size false) (sym (units_blank (entries_from number sections)) ∙ ap keyed_units (entries_blank number sections))
