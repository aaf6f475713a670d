-- Units that are put on leaves.
use Rattle.std.proofs.Common.{◌≡◌, ℕ, suc, ◌+◌, ◌<◌, ◌≤◌, Bool, false, List, [], ◌∷◌, length, map, arith, refl, sym, ◌∙◌, ap, subst, All, flat_map, sum_by}
use Rattle.bdb_mkleaves.proofs.Common.{map-map, All-cons, All-nil, sum_by-cons, Chain, Content, File, Inline, Set, Tree, Unknown, value_of, IsLater, AscendIn, content_pages, between, Built}
use Rattle.bdb_mkleaves.proofs.Common.{file_so_far, counted_so_far, IsUnitPut, StandOn, unit_contents, HasTreeOn, own_content, AreSomeLeaves, HasValue, IsDatum, IsOneValue, IsPlacedBySize}
use Rattle.bdb_mkleaves.proofs.Common.{IsStoredBySize, Placed, PlacedEntry, PlacedPairs, StandsBySize, StandsPlaced, ValueItem, entries_of, further_entries, unit_of, own_pages, chain_pages}
use Rattle.bdb_mkleaves.proofs.Common.{has_own_tree, CountsOneFrom, IsPut, ValueStands, ArePairsPut, IsLiveItem, IsRunPut, ValuesStand, held_by_item, LeafType, Pairs, Records, SortedData, Leaves}
use Rattle.bdb_mkleaves.proofs.RunLemmas.{put_is_run}
use Rattle.bdb_mkleaves.proofs.StandLemmas.{inline_read, values_stand_on}

-- One value.

-- a value that stands is read as it is
pub value_read : (g : File) (size first beyond : ℕ) (content : Content) (value : List ℕ) → ValueStands g size first beyond content value
    → value_of g content ≡ value
value_read g size first beyond (Inline bytes) value stands = inline_read g bytes ∙ stands.0
value_read g size first beyond (Chain head total) value (long, is, at, stands) = stands.chain.value total ∙ stands.joined_is
value_read g size first beyond (Set blocks) value stands = absurd stands
value_read g size first beyond (Tree root) value stands = absurd stands
value_read g size first beyond Unknown value stands = absurd stands

one_value : (g : File) (size first beyond : ℕ) (content : Content) (value : List ℕ) → ValueStands g size first beyond content value
    → IsOneValue content
one_value g size first beyond (Inline bytes) value stands = tt
one_value g size first beyond (Chain head total) value stands = tt
one_value g size first beyond (Set blocks) value stands = absurd stands
one_value g size first beyond (Tree root) value stands = absurd stands
one_value g size first beyond Unknown value stands = absurd stands

pub by_size : (g : File) (size first beyond : ℕ) (content : Content) (value : List ℕ) → ValueStands g size first beyond content value
    → StandsBySize size content value
by_size g size first beyond (Inline bytes) value stands = (stands.0, stands.1)
by_size g size first beyond (Chain head total) value stands = stands.0
by_size g size first beyond (Set blocks) value stands = absurd stands
by_size g size first beyond (Tree root) value stands = absurd stands
by_size g size first beyond Unknown value stands = absurd stands

-- The file so far.

pub later_self : (built : Built) (pages : ℕ → Bool) → IsLater pages (file_so_far built) (file_so_far built)
later_self built pages = grind arith

-- Runs are units.

abbrev contents_held : List (Content × List ℕ) → List Content
contents_held held = map (λ (one : Content × List ℕ). one.0) held

all_over : {X Y : Type 0} (P : Y → Type 0) (f : X → Y) (xs : List X) → All (λ x. P (f x)) xs → All P (map f xs)
all_over P f [] all = λ k d low. absurd (omega (arith, low))
all_over P f (x ∷ xs) all = All-cons P (f x) (map f xs) (all 0 x (omega arith)) (all_over P f xs (λ k d low. all (suc k) d (omega (arith, low))))

run_is_unit : (leaves : Leaves) (old new : Built) (unit : Placed) (held : List (Content × List ℕ)) → 1 ≤ length old.pages
    → IsRunPut leaves old new (entries_of unit) held → unit_contents leaves.leaf_type unit ≡ contents_held held
    → ((g : File) → ValuesStand g old.size (length old.pages) (length new.pages) held → StandsPlaced leaves.leaf_type g unit)
    → ((g : File) → ValuesStand g old.size (length old.pages) (length new.pages) held → IsPlacedBySize old.size unit)
    → ((sorted : Bool) → sum_by (λ (one : Content × List ℕ). chain_pages old.size one.1) held ≡ own_pages old.size sorted (unit_of unit))
    → HasTreeOn new (between (length old.pages) (length new.pages)) (unit_contents leaves.leaf_type unit) unit → IsUnitPut leaves old new unit
run_is_unit leaves old new unit held some run contents placed sizes own tree =
    let grows = run.kept.grows in
    let f : File = file_so_far new in
    let counted = counted_so_far new (omega (arith, some, grows)) in
    let here = run.stands f counted (later_self new (between (length old.pages) (length new.pages))) in
    let all = values_stand_on f old.size (length old.pages) (length new.pages) held counted some (omega (arith, some, grows)) here in
    record {
      kept = run.kept;
      hold = run.hold;
      ascend = subst (λ cs. AscendIn (length old.pages) (length new.pages) (flat_map content_pages cs)) (sym contents) all.1;
      stands = λ g counted_g later.
          let there = run.stands g counted_g later in
          let ups = later.grows in
          record {
            on = subst (StandOn g (between (length old.pages) (length new.pages))) (sym contents)
                (values_stand_on g old.size (length old.pages) (length new.pages) held counted_g some (omega (arith, some, grows, ups)) there).0;
            placed = placed g there;
          };
      sizes = sizes f here;
      heads = subst (All (CountsOneFrom (length old.pages) new)) (sym contents)
          (all_over (CountsOneFrom (length old.pages) new) (λ (one : Content × List ℕ). one.0) held run.heads);
      formed = run.formed;
      count = λ sorted few. run.count ∙ ap (λ n. length old.pages + n) (own sorted);
      tree = tree;
    }

-- an entry
entry_contents : (type : LeafType) (entry : ValueItem) → unit_contents type (PlacedEntry entry) ≡ entry.item.content ∷ []
entry_contents Pairs entry = refl
entry_contents Records entry = refl
entry_contents SortedData entry = refl

entry_stands : (type : LeafType) (g : File) (entry : ValueItem) → (type ≡ Pairs → ⊥) → HasValue g entry → StandsPlaced type g (PlacedEntry entry)
entry_stands Pairs g entry other has = absurd (other refl)
entry_stands Records g entry other has = has
entry_stands SortedData g entry other has = has

pub entry_is_unit : (leaves : Leaves) (old new : Built) (value : List ℕ) (deleted : Bool) → (leaves.leaf_type ≡ Pairs → ⊥) → 1 ≤ length old.pages
    → leaves.last < length old.pages → (put : IsPut leaves old new value deleted) → AreSomeLeaves leaves old
    → IsUnitPut leaves old new (PlacedEntry (record { item = put.item; value = value }))
entry_is_unit leaves old new value deleted other positive low put some =
    let entry : ValueItem = record { item = put.item; value = value } in
    run_is_unit leaves old new (PlacedEntry entry) ((put.item.content, value) ∷ []) positive (put_is_run leaves old new value deleted low put some)
    (entry_contents leaves.leaf_type entry)
    (λ g stand. entry_stands leaves.leaf_type g entry other (value_read g old.size (length old.pages) stand.0 put.item.content value stand.3))
    (λ g stand. by_size g old.size (length old.pages) stand.0 put.item.content value stand.3)
    (λ sorted. sum_by-cons (λ (one : Content × List ℕ). chain_pages old.size one.1) (put.item.content, value) [] ∙ omega arith) tt

-- a key with its data

-- the pages of the chains of some data
data_pages : (size : ℕ) (more : List ValueItem) → sum_by (λ (one : Content × List ℕ). chain_pages size one.1) (map held_by_item more)
    ≡ sum_by (chain_pages size) (map (λ (datum : ValueItem). datum.value) more)
data_pages size [] = refl
data_pages size (datum ∷ more) = omega (arith, sum_by-cons, data_pages size more)

pairs_contents : (key first : ValueItem) (more : List ValueItem)
    → unit_contents Pairs (PlacedPairs key first more) ≡ key.item.content ∷ first.item.content ∷ map (λ (datum : ValueItem). datum.item.content) more
pairs_contents key first more = ap (λ cs. key.item.content ∷ first.item.content ∷ cs) (own_of_more more)
  where
    own_of_more : (more : List ValueItem)
        → flat_map own_content (flat_map (further_entries key) more) ≡ map (λ (datum : ValueItem). datum.item.content) more
    own_of_more [] = refl
    own_of_more (datum ∷ more) = ap (λ cs. datum.item.content ∷ cs) (own_of_more more)

-- data that stand one after the other
data_stand : (g : File) (size first beyond : ℕ) (more : List ValueItem) → All (λ (d : ValueItem). IsLiveItem size d.item d.value) more
    → ValuesStand g size first beyond (map held_by_item more) → All (IsDatum g) more × All (IsStoredBySize size) more
data_stand g size first beyond [] live stand = (All-nil (IsDatum g), All-nil (IsStoredBySize size))
data_stand g size first beyond (datum ∷ more) live (middle, up, low, here, rest) =
    grind (arith, All-cons, one_value, value_read, by_size, data_stand g size middle beyond more (λ k d under. live (suc k) d (omega (arith, under))) rest)

pub pairs_are_unit : (leaves : Leaves) (old new : Built) (key first : List ℕ) (more : List (List ℕ)) → leaves.leaf_type ≡ Pairs → 1 ≤ length old.pages
    → (put : ArePairsPut leaves old new key first more) → has_own_tree old.size key (first ∷ more) ≡ false
    → IsUnitPut leaves old new
    (PlacedPairs (record { item = put.key_item; value = key }) (record { item = put.first_item; value = first }) put.others)
pairs_are_unit leaves old new key first more type positive put small =
    let k : ValueItem = record { item = put.key_item; value = key } in
    let f : ValueItem = record { item = put.first_item; value = first } in
    let live : All (λ (d : ValueItem). IsLiveItem old.size d.item d.value) (f ∷ put.others) =
    All-cons (λ (d : ValueItem). IsLiveItem old.size d.item d.value) f put.others put.first_live put.others_live in
    run_is_unit leaves old new (PlacedPairs k f put.others) (map held_by_item (k ∷ f ∷ put.others)) positive put.run
    (ap (λ t. unit_contents t (PlacedPairs k f put.others)) type
    ∙ (pairs_contents k f put.others ∙ sym (map-map (λ (one : Content × List ℕ). one.0) held_by_item (k ∷ f ∷ put.others))))
    (λ g stand.
    let all = data_stand g old.size stand.0 (length new.pages) (f ∷ put.others) live stand.4 in
    subst (λ t. StandsPlaced t g (PlacedPairs k f put.others)) (sym type) (
      record { live = put.key_live.live; value = value_read g old.size (length old.pages) stand.0 put.key_item.content key stand.3 },
      all.0 0 f (omega arith),
      (λ i d low. all.0 (suc i) d (omega (arith, low))),
    ))
    (λ g stand. (
      by_size g old.size (length old.pages) stand.0 put.key_item.content key stand.3,
      (data_stand g old.size stand.0 (length new.pages) (f ∷ put.others) live stand.4).1,
      ap (λ vs. has_own_tree old.size key (first ∷ vs)) put.values ∙ small,
    ))
    (λ sorted.
    sum_by-cons (λ (one : Content × List ℕ). chain_pages old.size one.1) (held_by_item k) (map held_by_item (f ∷ put.others))
    ∙ rw (ap (λ vs. has_own_tree old.size key (first ∷ vs)) put.values ∙ small)
    (ap (λ n. chain_pages old.size key + n) (data_pages old.size (f ∷ put.others)))) tt
