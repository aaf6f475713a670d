-- Trees whose units are counted one after the other.
use Rattle.std.proofs.Common.{◌≡◌, ℕ, suc, ◌+◌, ◌-◌, ◌<◌, ◌≤◌, false, List, [], ◌∷◌, ◌++◌, length, map, replicate, get_or, drop, arith, refl, sym, ◌∙◌, ap, subst, inl, inr, All}
use Rattle.bdb_need.proofs.Common.{drop_of_length-le, cases_lt, append-nil, append_assoc, drop_more, length-map, map-append, All-nil, All-push, inner_cost, key_item_cost, leaf_key, leaves_and_levels}
use Rattle.bdb_need.proofs.Common.{pages_over, spread_units, unit_key, EntryUnit, TreeUnit, page_room, unit_cost, Records, OpenPage, ArePut, data_units, pages_on}
use Rattle.bdb_mkhash.specs.of_law_levels.declared.inner_type.InnerType.{InnerType}
use Rattle.bdb_mkhash.specs.of_law_levels.declared.inner_type.InnerType.TheVariants.{Keyed}
use Rattle.bdb_mkhash.specs.of_mkleaves.Inner.{first_cost}
use Rattle.bdb_mkhash.specs.of_mkleaves.Laid.{inner_of}
use Rattle.bdb_mkhash.specs.of_mkleaves.declared.leaf_type.LeafType.{LeafType}
use Rattle.bdb_need.proofs.BehindLemmas.{behind, behind-map, behind_new, behind_open, length-spread, self, spread_from}
use Rattle.bdb_need.proofs.OpenLemmas.{pages-behind}

-- Trees whose items count records.

pub same_for_all : {A : Type 0} (c : ℕ) (xs : List A) → map (λ x. c) xs ≡ replicate (length xs) c
same_for_all c [] = refl
same_for_all c (x ∷ xs) = ap (λ (ns : List ℕ). c ∷ ns) (same_for_all c xs)

leaves_of : (size : ℕ) (units : List TreeUnit)
    → length (spread_units size units) ≡ pages_on (page_room size) (page_room size) (map (unit_cost size) units)
leaves_of size units =
    length-spread (page_room size) (unit_cost size) (unit_cost size) (unit_cost size) (page_room size) [] units
    ∙ (ap (λ (ns : List ℕ). suc (length ns)) (sym (behind-map (unit_cost size) (page_room size) self self self (page_room size) units))
    ∙ sym (pages-behind (page_room size) (page_room size) (map (unit_cost size) units)))

-- Of units these are still to come, and the pages with those before them are open.
pub record CountedTo (size : ℕ) (all rest : List TreeUnit) (open_page : OpenPage) : Type 0 where
  pub room : open_page.room ≡ page_room size
  pub pages : open_page.closed + pages_on open_page.room open_page.left (map (unit_cost size) rest)
      ≡ pages_on (page_room size) (page_room size) (map (unit_cost size) all)

pub counted_next : (size : ℕ) (all done rest : List TreeUnit) (costs : List ℕ) (old new : OpenPage) → CountedTo size all (done ++ rest) old
    → ArePut old new costs → costs ≡ map (unit_cost size) done → CountedTo size all rest new
counted_next size all done rest costs old new counted put are =
    let step = put.pages (map (unit_cost size) rest) in
    let joined = ap (λ (ns : List ℕ). pages_on old.room old.left (ns ++ map (unit_cost size) rest)) are
    ∙ ap (pages_on old.room old.left) (sym (map-append (unit_cost size) done rest)) in
    let before = counted.pages in
    record {
      room = put.room ∙ counted.room;
      pages =
          ap (λ r. new.closed + pages_on r new.left (map (unit_cost size) rest)) put.room
          ∙ (step ∙ (ap (λ n. old.closed + n) joined ∙ before));
    }

pub counted_end : (size total : ℕ) (all : List TreeUnit) (open_page : OpenPage) → CountedTo size all [] open_page
    → total ≡ (open_page.closed + 1) + pages_over (open_page.closed + 1) open_page.room 10 (replicate (open_page.closed + 1) 10)
    → total ≡ leaves_and_levels Records size all
counted_end size total all open_page counted is =
    let leaves : ℕ = length (spread_units size all) in
    let long : open_page.closed + 1 ≡ leaves = counted.pages ∙ sym (leaves_of size all) in
    is
    ∙ (ap (λ n. n + pages_over n open_page.room 10 (replicate n 10)) long
    ∙ (ap (λ r. leaves + pages_over leaves r 10 (replicate leaves 10)) counted.room
    ∙ ap (λ (ns : List ℕ). leaves + pages_over leaves (page_room size) 10 ns) (sym (same_for_all 10 (spread_units size all)))))

-- Trees whose items have keys.

-- what the item over a leaf takes that begins with a unit
abbrev pub head_cost : ℕ → TreeUnit → ℕ
head_cost size unit = key_item_cost size (unit_key unit)

-- what the items take that the rest of units will add, where the open leaf has so many bytes left
abbrev pub heads_behind : ℕ → ℕ → List TreeUnit → List ℕ
heads_behind size left rest = behind (page_room size) (unit_cost size) (unit_cost size) (head_cost size) left rest

-- Of units these are still to come, and the leaves with those before them have so many bytes left, and items over them that take so much.
pub record KeyedTo (size : ℕ) (all rest : List TreeUnit) (left : ℕ) (items : List ℕ) : Type 0 where
  pub sum : items ++ heads_behind size left rest ≡ heads_behind size (page_room size) all
  pub fit : All (λ c. c ≤ page_room size - 14) items

pub keyed_begun : (size : ℕ) (all : List TreeUnit) → KeyedTo size all all (page_room size) []
keyed_begun size all = record { sum = refl; fit = All-nil (λ (c : ℕ). c ≤ page_room size - 14) }

pub keyed_next : (size left left_now room cost item : ℕ) (all rest : List TreeUnit) (unit : TreeUnit) (items items_now : List ℕ)
    → KeyedTo size all (unit ∷ rest) left items → room ≡ page_room size → cost ≡ unit_cost size unit → item ≡ head_cost size unit
    → item + 14 ≤ page_room size → (cost ≤ left → left_now ≡ left - cost) → (cost ≤ left → items_now ≡ items)
    → (left < cost → left_now ≡ room - cost) → (left < cost → items_now ≡ items ++ (item ∷ [])) → KeyedTo size all rest left_now items_now
keyed_next size left left_now room cost item all rest unit items items_now was room_is cost_is item_is fits open_left open_items new_left new_items =
    elim (cases_lt left cost) [
      | inl full ↦ record {
        sum =
            rw (new_left full, room_is, new_items full, cost_is, item_is)
            (append_assoc items (head_cost size unit ∷ []) (heads_behind size (page_room size - unit_cost size unit) rest)
            ∙ (ap (λ (ns : List ℕ). items ++ ns)
            (sym (behind_new (page_room size) (unit_cost size) (unit_cost size) (head_cost size) left unit rest
            (subst (λ n. left < n) cost_is full)))
            ∙ was.sum));
        fit = rw (new_items full) (All-push (λ (c : ℕ). c ≤ page_room size - 14) items item was.fit (omega (arith, fits)));
      }
      | inr low ↦ record {
        sum =
            rw (open_left low, open_items low, cost_is)
            (ap (λ (ns : List ℕ). items ++ ns)
            (sym (behind_open (page_room size) (unit_cost size) (unit_cost size) (head_cost size) left unit rest
            (subst (λ n. n ≤ left) cost_is low)))
            ∙ was.sum);
        fit = rw (open_items low) was.fit;
      }
    ]

-- the pages of a tree over leaves of a type
over : InnerType → ℕ → List TreeUnit → ℕ
over inner size units =
    length (spread_units size units)
    + pages_over (length (spread_units size units)) (page_room size) (first_cost inner)
    (map (λ (leaf : List TreeUnit). inner_cost inner size (leaf_key leaf)) (spread_units size units))

over_keyed : (size total : ℕ) (all : List TreeUnit) (items : List ℕ) → items ≡ heads_behind size (page_room size) all
    → ((first : ℕ) → total ≡ (length items + 1) + pages_over (length items + 1) (page_room size) 14 (first ∷ items)) → total ≡ over Keyed size all
unfolding over
over_keyed size total all items are is =
    let (first, heads) =
    spread_from (page_room size) (unit_cost size) (unit_cost size) (head_cost size) (λ (leaf : List TreeUnit). key_item_cost size (leaf_key leaf))
    (page_room size) all (λ unit more. refl) in
    let list : map (λ (leaf : List TreeUnit). key_item_cost size (leaf_key leaf)) (spread_units size all) ≡ first ∷ items =
    heads ∙ ap (λ (ns : List ℕ). first ∷ ns) (sym are) in
    let long : length items + 1 ≡ length (spread_units size all) =
    (let one : length items + 1 ≡ length (first ∷ items) = omega arith in one)
    ∙ (sym (ap length list) ∙ length-map (spread_units size all) (λ (leaf : List TreeUnit). key_item_cost size (leaf_key leaf))) in
    is first
    ∙ (ap (λ (ns : List ℕ). (length items + 1) + pages_over (length items + 1) (page_room size) 14 ns) (sym list)
    ∙ ap
    (λ n. n + pages_over n (page_room size) 14 (map (λ (leaf : List TreeUnit). key_item_cost size (leaf_key leaf)) (spread_units size all))) long)

pub keyed_end : (type : LeafType) (size total left room : ℕ) (all : List TreeUnit) (items : List ℕ) → inner_of type ≡ Keyed
    → KeyedTo size all [] left items → room ≡ page_room size
    → ((first : ℕ) → total ≡ (length items + 1) + pages_over (length items + 1) room 14 (first ∷ items)) → total ≡ leaves_and_levels type size all
unfolding over
keyed_end type size total left room all items keyed counted room_is is =
    over_keyed size total all items (sym (append-nil items) ∙ counted.sum)
    (λ first. is first ∙ ap (λ r. (length items + 1) + pages_over (length items + 1) r 14 (first ∷ items)) room_is)
    ∙ ap (λ inner. over inner size all) (sym keyed)

-- The data of a key.

pub data_here : (values : List (List ℕ)) (i : ℕ) (value : List ℕ) → i < length values → value ≡ get_or values i []
    → data_units (drop i values) ≡ EntryUnit value false ∷ data_units (drop (i + 1) values)
data_here values i value within is = ap data_units (drop_more values i [] within) ∙ ap (λ v. EntryUnit v false ∷ data_units (drop (i + 1) values)) (sym is)

pub data_past : (values : List (List ℕ)) (i : ℕ) → length values ≤ i → data_units (drop i values) ≡ []
data_past values i past = ap data_units (drop_of_length-le values past)
