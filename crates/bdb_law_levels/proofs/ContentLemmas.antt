-- Separators and counts of the internal pages of towers.
use Rattle.std.proofs.Common.{◌≡◌, ℕ, zero, suc, ◌+◌, ◌<◌, eq-eqb, true, false, not, Bool, List, [], ◌∷◌, ◌++◌, map, length, take, get_or, append-nil}
use Rattle.std.proofs.Common.{append_assoc, arith, refl, sym, ◌∙◌, ap, subst, ◌==◌}
use Rattle.std.specs.List.{All, Contains, flat_map, list_any, sum_by}
use Rattle.std.proofs.lemmas.Bool.{le-ltb, or_from}
use Rattle.std.proofs.lemmas.Grind.{flat_map-append}
use Rattle.std.proofs.lemmas.List.{map-append}
use Rattle.std.proofs.lemmas.List.Concat.{length-flat_map}
use Rattle.std.proofs.lemmas.List.Elements.{All-contains, All-head, All-tail}
use Rattle.std.proofs.lemmas.List.Sums.{count_by-le-length, length-filter, sum_by-cons}
use Rattle.bdb_law_grove.specs.of_format.declared.pages.RecnoItem.{RecnoItem}
use Rattle.bdb_law_grove.specs.of_format.Terms.{Content, File, Inline, InternalItem, Item, Page, Separated, StoredPair, entries_in, has_wrong_count}
use Rattle.bdb_law_grove.specs.of_format.Terms.{has_wrong_separator, is_wrong_count, leaves_in, less, no_separator, page_at, pairs_of, separated, tree_entries}
use Rattle.bdb_law_grove.specs.of_format.Terms.{tree_pairs, value_of}
use Rattle.bdb_law_grove.proofs.of_format.ListLemmas.{flat_map_twice}
use Rattle.bdb_law_grove.proofs.of_format.MemberLemmas.{first_member, in_map, of_map}
use Rattle.bdb_law_levels.specs.Contents.{BeginsWith, CountsOfRecords, CountsOfTowers, Follow, SeparatorsOfTowers, entries_below, pairs_below}
use Rattle.bdb_law_levels.specs.Nodes.{AreOver, HasItems, HasLeaves, IsOver, Node, keyed_item, keyed_items, numbered_item}
use Rattle.bdb_law_levels.specs.declared.inner_type.InnerType.{InnerType}
use Rattle.bdb_law_levels.specs.declared.inner_type.InnerType.TheVariants.{Keyed, Numbered}
use Rattle.bdb_law_levels.specs.Separators.{AreInOrder, EachLess, KeysRise, NoneLess}
use Rattle.bdb_law_levels.proofs.FollowLemmas.{all_less, first_least, follow_in, follow_left, follow_right}
use Rattle.bdb_law_levels.proofs.InnerLemmas.{Climbs, IsRight, tower_right}
use Rattle.bdb_law_levels.proofs.NodeLemmas.{all_left, all_over, all_right, leaves_joined, level_has_leaves}
use Rattle.bdb_law_levels.proofs.SeparatorLemmas.{separators_stand}

-- What is below a page of a tower.

pairs_are : (g : File) (level : ℕ) (node : Node) → HasLeaves g level node → tree_pairs g node.page ≡ pairs_below g node
unfolding tree_pairs
pairs_are g level node have = ap (flat_map (pairs_of g)) (ap (λ n. leaves_in n g node.page) have.level_is ∙ have.leaves_are)

entries_are : (g : File) (level : ℕ) (node : Node) → HasLeaves g level node → tree_entries g node.page ≡ entries_below g node
unfolding tree_entries
entries_are g level node have =
    ap (flat_map (λ p. entries_in (page_at g p))) (ap (λ n. leaves_in n g node.page) have.level_is ∙ have.leaves_are)

-- what is on the leaves of a page over a run is what is on theirs, joined
joined_below : {X : Type 0} (f : ℕ → List X) (leaves : List ℕ) (nodes : List Node) → leaves ≡ flat_map (λ (node : Node). node.leaves) nodes
    → flat_map f leaves ≡ flat_map (λ (node : Node). flat_map f node.leaves) nodes
joined_below f leaves nodes is = ap (flat_map f) is ∙ flat_map_twice f (λ (node : Node). node.leaves) nodes

-- Counts.

abbrev Counts : {X : Type 0} → (ℕ → List X) → Node → Type 0
Counts f node = node.count ≡ length (flat_map f node.leaves)

sum_of_counts : {X : Type 0} (f : ℕ → List X) (nodes : List Node) → All (Counts f) nodes
    → sum_by (λ (node : Node). node.count) nodes ≡ sum_by (λ (node : Node). length (flat_map f node.leaves)) nodes
sum_of_counts f [] all = refl
sum_of_counts f (node ∷ nodes) all =
    omega (
      arith,
      All-head (Counts f) node nodes all,
      sum_of_counts f nodes (All-tail (Counts f) node nodes all),
      sum_by-cons (λ (node : Node). node.count) node nodes,
      sum_by-cons (λ (node : Node). length (flat_map f node.leaves)) node nodes,
    )

counts_over : {X : Type 0} (f : ℕ → List X) (type : InnerType) (g : File) (level : ℕ) (node : Node) (run : List Node) → IsOver type g level node run
    → All (Counts f) run → Counts f node
counts_over f type g level node run over all =
    over.count ∙ sum_of_counts f run all ∙ sym (length-flat_map (λ (child : Node). flat_map f child.leaves) run)
    ∙ ap length (sym (joined_below f node.leaves run over.leaves))

-- a level whose pages have their leaves, and count what is on them
abbrev AreCounted : {X : Type 0} → File → (ℕ → List X) → ℕ → List Node → Type 0
AreCounted g f level nodes = All (HasLeaves g level) nodes × All (Counts f) nodes

-- such levels are lifted, and so it is enough that the page over a run of such pages is right
counted_climb : {X : Type 0} (f : ℕ → List X) (type : InnerType) (g : File) (test : Page → Bool)
    → ((level : ℕ) (node : Node) (run : List Node) → IsOver type g (level + 1) node run → AreCounted g f level run → IsRight g test node)
    → Climbs type g test (AreCounted g f)
counted_climb f type g test right = record {
  left = λ level run rest counted. (all_left (HasLeaves g level) run rest counted.0, all_left (Counts f) run rest counted.1);
  right = λ level run rest counted. (all_right (HasLeaves g level) run rest counted.0, all_right (Counts f) run rest counted.1);
  up = λ level nodes below over counted. (
    level_has_leaves type g level nodes below over counted.0,
    all_over type g (level + 1) (Counts f) (Counts f) (counts_over f type g (level + 1)) nodes below over counted.1,
  );
  page = right;
}

-- the item of a page is right that counts the pairs below it
right_count : (g : File) (item : InternalItem) (pairs : List StoredPair) → tree_pairs g item.child ≡ pairs → item.count ≡ length pairs
    → is_wrong_count g item ≡ false
right_count g item pairs are counts = grind (arith, length-filter, count_by-le-length, or_from, le-ltb)

node_count : (g : File) (level : ℕ) (key : Content) (node : Node) (nodes : List Node) → AreCounted g (pairs_of g) level (node ∷ nodes)
    → is_wrong_count g (keyed_item key node) ≡ false
node_count g level key node nodes counted =
    right_count g (keyed_item key node) (pairs_below g node) (pairs_are g level node (All-head (HasLeaves g level) node nodes counted.0))
    (All-head (Counts (pairs_of g)) node nodes counted.1)

later_counted : {X : Type 0} (g : File) (f : ℕ → List X) (level : ℕ) (node : Node) (nodes : List Node) → AreCounted g f level (node ∷ nodes)
    → AreCounted g f level nodes
later_counted g f level node nodes counted = (All-tail (HasLeaves g level) node nodes counted.0, All-tail (Counts f) node nodes counted.1)

later_counts : (g : File) (level : ℕ) (nodes : List Node) → AreCounted g (pairs_of g) level nodes
    → list_any (is_wrong_count g) (map (λ (other : Node). keyed_item other.key other) nodes) ≡ false
later_counts g level [] counted = refl
later_counts g level (node ∷ nodes) counted =
    or_from _ _ (node_count g level node.key node nodes counted)
    (later_counts g level nodes (later_counted g (pairs_of g) level node nodes counted))

keyed_counts : (g : File) (level : ℕ) (nodes : List Node) → AreCounted g (pairs_of g) level nodes
    → list_any (is_wrong_count g) (keyed_items nodes) ≡ false
keyed_counts g level [] counted = refl
keyed_counts g level (node ∷ nodes) counted =
    or_from _ _ (node_count g level (Inline []) node nodes counted)
    (later_counts g level nodes (later_counted g (pairs_of g) level node nodes counted))

keyed_right : (g : File) (p level above : ℕ) (run : List Node) → HasItems Keyed g p above run → AreCounted g (pairs_of g) level run
    → has_wrong_count g (page_at g p) ≡ false
keyed_right g p level above [] has counted = absurd has
keyed_right g p level above (node ∷ nodes) (page, is, level_is, items, keys) counted =
    ap (has_wrong_count g) is ∙ ap (list_any (is_wrong_count g)) items ∙ keyed_counts g level (node ∷ nodes) counted

pub counts_of_towers : CountsOfTowers
counts_of_towers g level p below above root tower leaves have counts =
    tower_right Keyed g (has_wrong_count g) (AreCounted g (pairs_of g)) level p below above root
    (counted_climb (pairs_of g) Keyed g (has_wrong_count g) (λ level node run over. keyed_right g node.page level (level + 1) run over.items))
    tower (have, counts) leaves

-- Records.

abbrev is_wrong_record_count : File → RecnoItem → Bool
is_wrong_record_count g item = not (item.count == length (tree_entries g item.child))

abbrev entries_on : File → ℕ → List Item
entries_on g p = entries_in (page_at g p)

numbered_counts : (g : File) (level : ℕ) (nodes : List Node) → AreCounted g (entries_on g) level nodes
    → list_any (is_wrong_record_count g) (map numbered_item nodes) ≡ false
numbered_counts g level [] counted = refl
numbered_counts g level (node ∷ nodes) counted =
    let here : node.count ≡ length (tree_entries g node.page) =
    All-head (Counts (entries_on g)) node nodes counted.1
    ∙ ap length (sym (entries_are g level node (All-head (HasLeaves g level) node nodes counted.0))) in
    or_from _ _ (ap not (eq-eqb node.count (length (tree_entries g node.page)) here))
    (numbered_counts g level nodes (later_counted g (entries_on g) level node nodes counted))

numbered_right : (g : File) (p level above : ℕ) (run : List Node) → HasItems Numbered g p above run → AreCounted g (entries_on g) level run
    → has_wrong_count g (page_at g p) ≡ false
numbered_right g p level above run (page, is, level_is, items) counted =
    ap (has_wrong_count g) is ∙ ap (list_any (is_wrong_record_count g)) items ∙ numbered_counts g level run counted

pub counts_of_records : CountsOfRecords
counts_of_records g level p below above root tower leaves have counts =
    tower_right Numbered g (has_wrong_count g) (AreCounted g (entries_on g)) level p below above root
    (counted_climb (entries_on g) Numbered g (has_wrong_count g) (λ level node run over. numbered_right g node.page level (level + 1) run over.items))
    tower (have, counts) leaves

-- Separators.

abbrev keys_of : List StoredPair → List (List ℕ)
keys_of pairs = map (λ (pair : StoredPair). pair.key) pairs

-- what a separator of a tower and the pairs below its child are
abbrev part : File → Node → Separated
part g node = record { key = value_of g node.key; below = keys_of (pairs_below g node) }

part_is : (g : File) (level : ℕ) (key : Content) (node : Node) → HasLeaves g level node
    → separated g (keyed_item key node) ≡ record { key = value_of g key; below = (part g node).below }
part_is g level key node have =
    ap (λ pairs. record { key = value_of g key; below = keys_of pairs }) (pairs_are g level node have)

parts_are : (g : File) (level : ℕ) (nodes : List Node) → All (HasLeaves g level) nodes
    → map (separated g) (map (λ (other : Node). keyed_item other.key other) nodes) ≡ map (part g) nodes
parts_are g level [] have = refl
parts_are g level (node ∷ nodes) have = grind (arith, part_is, All-head, All-tail, parts_are g level nodes (All-tail (HasLeaves g level) node nodes have))

-- a page whose pairs begin with one of its own key
abbrev Begins : File → Node → Type 0
Begins g node = BeginsWith g node (pairs_below g node)

record HasFirst (g : File) (node : Node) (pairs : List StoredPair) : Type 0 where
  first : StoredPair
  others : List StoredPair
  are : pairs ≡ first ∷ others
  own : first.shares ≡ false
  key : first.key ≡ value_of g node.key

has_first : (g : File) (node : Node) (pairs : List StoredPair) → BeginsWith g node pairs → HasFirst g node pairs
has_first g node [] begins = absurd begins
has_first g node (pair ∷ pairs) begins = record { first = pair; others = pairs; are = refl; own = begins.0; key = begins.1 }

own_key : (g : File) (node : Node) (pairs : List StoredPair) → HasFirst g node pairs → Follow pairs
    → NoneLess (keys_of pairs) (value_of g node.key)
own_key g node pairs has follow k at =
    let found = of_map (λ (pair : StoredPair). pair.key) pairs k at in
    let low : less found.0.key has.first.key ≡ false =
    first_least has.first has.others (subst Follow has.are follow) found.0 (subst (λ ps. Contains ps found.0) has.are found.1) in
    ap (λ other. less other (value_of g node.key)) (sym found.2) ∙ ap (less found.0.key) (sym has.key) ∙ low

before_key : (g : File) (xs : List StoredPair) (node : Node) (pairs ys : List StoredPair) → HasFirst g node pairs → Follow (xs ++ (pairs ++ ys))
    → EachLess (keys_of xs) (value_of g node.key)
before_key g xs node pairs ys has follow k at =
    let found = of_map (λ (pair : StoredPair). pair.key) xs k at in
    let low : less found.0.key has.first.key ≡ true =
    all_less xs has.first (has.others ++ ys) has.own (subst (λ ps. Follow (xs ++ (ps ++ ys))) has.are follow) found.0 found.1 in
    ap (λ other. less other (value_of g node.key)) (sym found.2) ∙ ap (less found.0.key) (sym has.key) ∙ low

first_among : (g : File) (node : Node) (pairs : List StoredPair) → HasFirst g node pairs
    → Contains (keys_of pairs) (value_of g node.key)
first_among g node pairs has = grind (arith, in_map, first_member)

keys_rise : (g : File) (nodes : List Node) → All (Begins g) nodes → Follow (flat_map (pairs_below g) nodes) → KeysRise (map (part g) nodes)
keys_rise g [] begin follow = tt
keys_rise g (node ∷ []) begin follow = tt
keys_rise g (node ∷ next ∷ nodes) begin follow =
    let later : All (Begins g) (next ∷ nodes) = All-tail (Begins g) node (next ∷ nodes) begin in (
      before_key g (pairs_below g node) next (pairs_below g next) (flat_map (pairs_below g) nodes)
          (has_first g next (pairs_below g next) (All-head (Begins g) next nodes later)) follow (value_of g node.key)
          (first_among g node (pairs_below g node) (has_first g node (pairs_below g node) (All-head (Begins g) node (next ∷ nodes) begin))),
      keys_rise g (next ∷ nodes) later (follow_right (pairs_below g node) (flat_map (pairs_below g) (next ∷ nodes)) follow),
    )

own_keys : (g : File) (nodes : List Node) → All (Begins g) nodes → Follow (flat_map (pairs_below g) nodes)
    → (some : Separated) → Contains (map (part g) nodes) some → NoneLess some.below some.key
own_keys g nodes begin follow some at =
    let found = of_map (part g) nodes some at in
    subst (λ (other : Separated). NoneLess other.below other.key) found.2
    (own_key g found.0 (pairs_below g found.0) (has_first g found.0 (pairs_below g found.0) (All-contains (Begins g) nodes found.0 begin found.1))
    (follow_in (pairs_below g) nodes found.0 follow found.1))

keys_before : (g : File) (xs : List StoredPair) (nodes : List Node) (i : ℕ) → i < length (map (part g) nodes) → All (Begins g) nodes
    → Follow (xs ++ flat_map (pairs_below g) nodes)
    → EachLess (keys_of xs ++ flat_map (λ (some : Separated). some.below) (take i (map (part g) nodes)))
    (get_or (map (part g) nodes) i no_separator).key
keys_before g xs [] i low begin follow = absurd (omega arith)
keys_before g xs (node ∷ nodes) zero low begin follow =
    subst (λ keys. EachLess keys (value_of g node.key)) (sym (append-nil (keys_of xs)))
    (before_key g xs node (pairs_below g node) (flat_map (pairs_below g) nodes)
    (has_first g node (pairs_below g node) (All-head (Begins g) node nodes begin)) follow)
keys_before g xs (node ∷ nodes) (suc i) low begin follow =
    let key : List ℕ = (get_or (map (part g) nodes) i no_separator).key in
    let later : List (List ℕ) = flat_map (λ (some : Separated). some.below) (take i (map (part g) nodes)) in
    subst (λ keys. EachLess keys key)
    (ap (λ keys. keys ++ later) (map-append (λ (pair : StoredPair). pair.key) xs (pairs_below g node))
    ∙ append_assoc (keys_of xs) (part g node).below later)
    (keys_before g (xs ++ pairs_below g node) nodes i (omega arith) (All-tail (Begins g) node nodes begin)
    (subst Follow (sym (append_assoc xs (pairs_below g node) (flat_map (pairs_below g) nodes))) follow))

in_order : (g : File) (node : Node) (nodes : List Node) → All (Begins g) (node ∷ nodes) → Follow (flat_map (pairs_below g) (node ∷ nodes))
    → AreInOrder (record { key = value_of g (Inline []); below = (part g node).below }) (map (part g) nodes)
in_order g node nodes begin follow =
    let later : All (Begins g) nodes = All-tail (Begins g) node nodes begin in
    let after : Follow (flat_map (pairs_below g) nodes) = follow_right (pairs_below g node) (flat_map (pairs_below g) nodes) follow in
    record {
      rise = keys_rise g nodes later after;
      own = own_keys g nodes later after;
      before = λ i low. keys_before g (pairs_below g node) nodes i low later follow;
    }

-- a level whose pages have their leaves, and pairs that begin with one of the page's key and follow each other
abbrev AreOrdered : File → ℕ → List Node → Type 0
AreOrdered g level nodes = All (HasLeaves g level) nodes × All (Begins g) nodes × Follow (flat_map (pairs_below g) nodes)

begins_more : (g : File) (child node : Node) (pairs more : List StoredPair) → node.key ≡ child.key → BeginsWith g child pairs
    → BeginsWith g node (pairs ++ more)
begins_more g child node [] more same begins = absurd begins
begins_more g child node (pair ∷ pairs) more same begins = (begins.0, begins.1 ∙ ap (value_of g) (sym same))

begins_over : (type : InnerType) (g : File) (level : ℕ) (node : Node) (run : List Node) → IsOver type g level node run
    → All (Begins g) run → Begins g node
begins_over type g level node [] over begin = let some : 0 < 0 = over.some in absurd (omega arith)
begins_over type g level node (child ∷ children) over begin =
    subst (BeginsWith g node) (sym (joined_below (pairs_of g) node.leaves (child ∷ children) over.leaves))
    (begins_more g child node (pairs_below g child) (flat_map (pairs_below g) children) over.key (All-head (Begins g) child children begin))

same_pairs : (type : InnerType) (g : File) (level : ℕ) (nodes below : List Node) → AreOver type g level nodes below
    → flat_map (pairs_below g) nodes ≡ flat_map (pairs_below g) below
same_pairs type g level nodes below over =
    sym (flat_map_twice (pairs_of g) (λ (node : Node). node.leaves) nodes)
    ∙ joined_below (pairs_of g) (flat_map (λ (node : Node). node.leaves) nodes) below (leaves_joined type g level nodes below over)

parts_follow : (g : File) (run rest : List Node) → Follow (flat_map (pairs_below g) (run ++ rest))
    → Follow (flat_map (pairs_below g) run ++ flat_map (pairs_below g) rest)
parts_follow g run rest follow = subst Follow (flat_map-append (pairs_below g) run rest) follow

separator_right : (g : File) (p level above : ℕ) (run : List Node) → HasItems Keyed g p above run → AreOrdered g level run
    → has_wrong_separator g (page_at g p) ≡ false
separator_right g p level above [] has ordered = absurd has
separator_right g p level above (node ∷ nodes) (page, is, level_is, items, keys) ordered =
    let first : separated g (keyed_item (Inline []) node) ≡ record { key = value_of g (Inline []); below = (part g node).below } =
    part_is g level (Inline []) node (All-head (HasLeaves g level) node nodes ordered.0) in
    let later : map (separated g) (map (λ (other : Node). keyed_item other.key other) nodes) ≡ map (part g) nodes =
    parts_are g level nodes (All-tail (HasLeaves g level) node nodes ordered.0) in
    let parts : map (separated g) page.items ≡ record { key = value_of g (Inline []); below = (part g node).below } ∷ map (part g) nodes =
    ap (map (separated g)) items ∙ cc in
    ap (has_wrong_separator g) is
    ∙ separators_stand g page (record { key = value_of g (Inline []); below = (part g node).below }) (map (part g) nodes) parts
    (in_order g node nodes ordered.1 ordered.2)

ordered_climb : (g : File) → Climbs Keyed g (has_wrong_separator g) (AreOrdered g)
ordered_climb g = record {
  left = λ level run rest ordered. (
    all_left (HasLeaves g level) run rest ordered.0,
    all_left (Begins g) run rest ordered.1,
    follow_left (flat_map (pairs_below g) run) (flat_map (pairs_below g) rest) (parts_follow g run rest ordered.2),
  );
  right = λ level run rest ordered. (
    all_right (HasLeaves g level) run rest ordered.0,
    all_right (Begins g) run rest ordered.1,
    follow_right (flat_map (pairs_below g) run) (flat_map (pairs_below g) rest) (parts_follow g run rest ordered.2),
  );
  up = λ level nodes below over ordered. (
    level_has_leaves Keyed g level nodes below over ordered.0,
    all_over Keyed g (level + 1) (Begins g) (Begins g) (begins_over Keyed g (level + 1)) nodes below over ordered.1,
    subst Follow (sym (same_pairs Keyed g (level + 1) nodes below over)) ordered.2,
  );
  page = λ level node run over. separator_right g node.page level (level + 1) run over.items;
}

pub separators_of_towers : SeparatorsOfTowers
separators_of_towers g level p below above root tower leaves have begin follow =
    tower_right Keyed g (has_wrong_separator g) (AreOrdered g) level p below above root (ordered_climb g) tower (have, begin, follow) leaves
