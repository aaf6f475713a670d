-- Levels that are laid over pages of a tree, one after the other.
use Rattle.std.proofs.Common.{◌≡◌, ℕ, zero, suc, ◌+◌, ◌-◌, ◌<◌, ◌≤◌, ◌&&◌, Bool, true, List, [], ◌∷◌, ◌++◌, length, map, get_or, None, arith, refl, sym, ◌∙◌, ap, subst, inl, inr}
use Rattle.bdb_mkleaves.proofs.Common.{AllZip, Contains, flat_map, range_with_len, and_parts, cases_lt, lt-leb, lt-ltb, ltb-true, flat_map-append, append-nil, append_assoc, get_or_default, length-map}
use Rattle.bdb_mkleaves.proofs.Common.{Contains-append_cases, Contains-append_left, Contains-append_right, ltb, File, page_code, first_member, in_flat_map, later_member, member_cases, member_or_not}
use Rattle.bdb_mkleaves.proofs.Common.{no_member, of_flat_map, range_parts, IsLater, InnerType, Keyed, Numbered, IsTower, Node, no_node, key_heads, AreWhole, Built, bytes_of, file_so_far, HasLiveKeys}
use Rattle.bdb_mkleaves.proofs.Common.{child_cost, first_cost, key_cost, AreChildren, IsLevelLaid, heads_in, heads_of, heads_under, no_child, node_over, nodes_over, AreSpreadLevels, IsNodeOver}
use Rattle.bdb_mkleaves.proofs.Common.{first_or, named_heads, pages_over, spread_items, spread_nodes, CountsAll, EndsInRoot, HasTower, Child}
use Rattle.bdb_places.specs.of_format.Terms.{entries_of}
use Rattle.bdb_law_levels.specs.Roots.{pages_of}
use Rattle.bdb_mkleaves.proofs.FilledLemmas.{later_self}
use Rattle.bdb_mkleaves.proofs.LevelLawLemmas.{keys_of, levels_are_formed, levels_are_later, levels_go_on, levels_keep_pages, levels_shrink, numbers_over, levels_live, levels_stand, member_at}
use Rattle.bdb_mkleaves.proofs.LaterLemmas.{later_chain}
use Rattle.bdb_mkleaves.proofs.LevelLemmas.{as_many}
use Rattle.bdb_mkleaves.proofs.LevelTakeLemmas.{heads_few}
use Rattle.bdb_mkleaves.proofs.RunLemmas.{later_before}
use Rattle.bdb_mkleaves.proofs.SpreadLemmas.{items_are_spread, nodes_are_spread}

-- Keys.

-- a node has the key of one of these
pub record HasKeyOf (nodes : List Node) (node : Node) : Type 0 where
  pub other : Node
  pub among : Contains nodes other
  pub same : node.key ≡ other.key

heads_like : (inner : InnerType) (node other : Node) → node.key ≡ other.key → heads_of inner node ≡ heads_of inner other
heads_like Keyed node other same = ap key_heads same
heads_like Numbered node other same = refl

cost_like : (inner : InnerType) (node other : Node) → node.key ≡ other.key → child_cost inner node ≡ child_cost inner other
cost_like Keyed node other same = ap key_cost same
cost_like Numbered node other same = refl

-- so it names no other head
pub heads_among : (inner : InnerType) (nodes others : List Node) (h : ℕ) → ((node : Node) → Contains nodes node → HasKeyOf others node)
    → Contains (flat_map (heads_of inner) nodes) h → Contains (flat_map (heads_of inner) others) h
heads_among inner nodes others h keys at =
    let (node, there, head) = of_flat_map (heads_of inner) nodes h at in
    let key = keys node there in
    in_flat_map (heads_of inner) others key.other h key.among (subst (λ hs. Contains hs h) (heads_like inner node key.other key.same) head)

-- a page over a group has the key of its first node
group_over : (p : ℕ) (groups : List (List Node)) (node : Node) → Contains (nodes_over p groups) node
    → (group : List Node) × Contains groups group × (node.key ≡ (get_or group 0 no_node).key)
group_over p [] node at = absurd (no_member [] node refl at)
group_over p (group ∷ groups) node at =
    elim (member_cases _ (nodes_over (p + 1) groups) node at) [
      | inl here ↦ (group, first_member group groups, sym (ap (λ (n : Node). n.key) here))
      | inr later ↦ let (other, among, key) = group_over (p + 1) groups node later in (other, later_member group groups other among, key)
    ]

keys_over : (inner : InnerType) (level : ℕ) (old new : Built) (above : List Child) (nodes : List Node) (node : Node)
    → (laid : IsLevelLaid inner level old new above nodes) → Contains (nodes_over (length old.pages) laid.groups) node → HasKeyOf nodes node
keys_over inner level old new above nodes node laid at =
    let (group, (k, under, is), key) = group_over (length old.pages) laid.groups node at in
    let groups : List (List Node) = laid.groups in
    let some : 0 < length group =
    subst (λ (l : List Node). 0 < length l) (get_or_default groups k [] group under ∙ is) (laid.laid.pages k under).some in
    record {
      other = get_or group 0 no_node;
      among = subst (λ (l : List Node). Contains l (get_or group 0 no_node)) laid.joined_is
          (in_flat_map (λ (other : List Node). other) groups group (get_or group 0 no_node) (k, under, is) (member_at group no_node 0 some));
      same = key;
    }

-- the heads that items of a level name are those of its nodes
heads_under_are : (inner : InnerType) (group : List Node) (h : ℕ) → Contains (heads_under inner group) h
    → (node : Node) × Contains group node × Contains (heads_of inner node) h
heads_under_are inner [] h at = absurd (no_member [] h refl at)
heads_under_are inner (first ∷ group) h at =
    let (node, among, head) = of_flat_map (heads_of inner) group h at in (node, later_member first group node among, head)

pub heads_in_are : (inner : InnerType) (groups : List (List Node)) (nodes : List Node) (h : ℕ) → flat_map (λ group. group) groups ≡ nodes
    → Contains (heads_in inner groups) h → Contains (flat_map (heads_of inner) nodes) h
heads_in_are inner groups nodes h joined at =
    let (group, there, under) = of_flat_map (heads_under inner) groups h at in
    let (node, among, head) = heads_under_are inner group h under in
    in_flat_map (heads_of inner) nodes node h
    (subst (λ (l : List Node). Contains l node) joined (in_flat_map (λ (other : List Node). other) groups group node there among)) head

-- heads of keys stand among the pages
pub heads_low : (inner : InnerType) (built : Built) (children : List Child) (nodes : List Node) (h : ℕ) → AreChildren inner built children nodes
    → Contains (flat_map (heads_of inner) nodes) h → h < length built.pages
heads_low inner built children nodes h are at =
    let (node, among, head) = of_flat_map (heads_of inner) nodes h at in
    let (leaf, key) = keys_of inner built children nodes node are among in
    (heads_few inner built leaf node key h head).0

-- Numbers.

numbers_more : (levels : List (List Node)) (groups : List (List Node)) (from now new : ℕ) → from ≤ now → new ≡ now + length groups
    → pages_of levels ≡ range_with_len from (now - from)
    → pages_of (levels ++ (nodes_over now groups ∷ [])) ≡ range_with_len from (new - from)
numbers_more levels groups from now new low count numbers =
    let n : ℕ = length groups in
    let top : List Node = nodes_over now groups in
    let pages : List Node → List ℕ = map (λ (node : Node). node.page) in
    let here : from + (now - from) ≡ now = omega (arith, low) in
    let all : now - from + n ≡ new - from = omega (arith, low, count) in
    flat_map-append pages levels (top ∷ [])
    ∙ (ap (λ ps. pages_of levels ++ ps) (append-nil (pages top) ∙ numbers_over now groups)
    ∙ (ap (λ ps. ps ++ range_with_len now n) numbers
    ∙ (ap (λ q. range_with_len from (now - from) ++ range_with_len q n) (sym here)
    ∙ (sym (range_parts from (now - from) n) ∙ ap (range_with_len from) all))))

-- How many pages stand over others.

-- what the items over the pages of a level take: what the first of each page would beside others
costs_over : (inner : InnerType) (p : ℕ) (groups : List (List Node)) → ((k : ℕ) → k < length groups → 0 < length (get_or groups k []))
    → map (first_or 0) (map (map (child_cost inner)) groups) ≡ map (child_cost inner) (nodes_over p groups)
costs_over inner p [] some = refl
costs_over inner p ([] ∷ groups) some = let none = some 0 (omega arith) in absurd (omega (arith, none))
costs_over inner p ((node ∷ nodes) ∷ groups) some =
    ap (λ cs. child_cost inner node ∷ cs) (costs_over inner (p + 1) groups (λ k under. some (suc k) (omega (arith, under))))
    ∙ ap (λ c. c ∷ map (child_cost inner) (nodes_over (p + 1) groups)) (cost_like inner node (node_over p (node ∷ nodes)) refl)

-- the nodes of a level are spread over its pages
pub level_spread : (inner : InnerType) (level : ℕ) (old new : Built) (above : List Child) (nodes : List Node)
    → (laid : IsLevelLaid inner level old new above nodes) → spread_nodes inner (old.size - 26) nodes ≡ laid.groups
level_spread inner level old new above nodes laid =
    let by = laid.laid in
    let count = by.count in
    let size = by.size in
    ap (spread_nodes inner (old.size - 26)) (sym laid.joined_is)
    ∙ nodes_are_spread inner (old.size - 26) laid.groups (λ k under. (by.pages k under).some)
    (λ k under.
    let page = by.pages k under in
    let room = page.holds.room in
    let long : length (bytes_of new (length old.pages + k)) ≡ new.size = by.whole (length old.pages + k) (omega (arith, under, count)) in
    omega (arith, room, long, size))
    by.filled

-- each of these stands over its group
pub stand_over : (p : ℕ) (groups : List (List Node)) → AllZip IsNodeOver (nodes_over p groups) groups
stand_over p [] = tt
stand_over p (group ∷ groups) = (refl, stand_over (p + 1) groups)

-- over two pages or more stand those of the next level, and those over it
pages_counted : (inner : InnerType) (level most : ℕ) (old new : Built) (above : List Child) (nodes : List Node)
    → (laid : IsLevelLaid inner level old new above nodes) → 2 ≤ length nodes
    → pages_over (suc most) (old.size - 26) (first_cost inner) (map (child_cost inner) nodes)
    ≡ length laid.groups
    + pages_over most (old.size - 26) (first_cost inner) (map (child_cost inner) (nodes_over (length old.pages) laid.groups))
pages_counted inner level most old new above nodes laid many =
    let groups : List (List Node) = laid.groups in
    let room : ℕ = old.size - 26 in
    let costs : List ℕ = map (child_cost inner) nodes in
    let two : 1 < length costs = omega (arith, many, length-map nodes (child_cost inner)) in
    two_or_more most room (first_cost inner) costs two
    ∙ (ap (λ (gs : List (List ℕ)). length gs + pages_over most room (first_cost inner) (map (first_or 0) gs))
    (items_are_spread inner room nodes ∙ ap (map (map (child_cost inner))) (level_spread inner level old new above nodes laid))
    ∙ (ap (λ n. n + pages_over most room (first_cost inner) (map (first_or 0) (map (map (child_cost inner)) groups)))
    (length-map groups (map (child_cost inner)))
    ∙ ap (λ cs. length groups + pages_over most room (first_cost inner) cs)
    (costs_over inner (length old.pages) groups (λ k under. (laid.laid.pages k under).some))))
  where
    two_or_more : (most room first : ℕ) (costs : List ℕ) → 1 < length costs
        → pages_over (suc most) room first costs
        ≡ length (spread_items room first costs) + pages_over most room first (map (first_or 0) (spread_items room first costs))
    two_or_more most room first costs two = rw (lt-leb (length costs) 1 two) refl

-- over one page stands none
pub none_over : (most room first cost : ℕ) → pages_over most room first (cost ∷ []) ≡ 0
none_over zero room first cost = refl
none_over (suc most) room first cost = refl

-- Levels so far.

-- Behind the pages that stood are those of levels over these nodes, up to one of this level with nodes of these children. A tower over that one is
-- with the levels one over the nodes at the start.
pub record IsBuilding (inner : InnerType) (old now : Built) (nodes : List Node) (level : ℕ) (children : List Child) : Type 0 where
  pub levels : List (List Node)
  pub top : List Node
  pub are : AreChildren inner now children top
  pub keys : (node : Node) → Contains top node → HasKeyOf nodes node
  pub size : now.size ≡ old.size
  pub order : now.order ≡ old.order
  pub whole : AreWhole now
  pub grows : length old.pages ≤ length now.pages
  pub numbers : pages_of levels ≡ range_with_len (length old.pages) (length now.pages - length old.pages)
  pub tower : (g : File) (pages : ℕ → Bool) (above : List (List Node)) (root : Node)
      → ((p : ℕ) → length old.pages ≤ p → p < length now.pages → pages p ≡ true)
      → ((h : ℕ) → Contains (flat_map (heads_of inner) nodes) h → pages h ≡ true) → IsLater pages (file_so_far now) g
      → IsTower inner g level top above root → IsTower inner g 1 nodes (levels ++ above) root
  pub spread : (above : List (List Node)) → AreSpreadLevels inner (old.size - 26) top above
      → AreSpreadLevels inner (old.size - 26) nodes (levels ++ above)
  pub named : List ℕ
  pub named_are : (above : List (List Node)) → named_heads inner (old.size - 26) nodes (levels ++ above)
      ≡ named ++ named_heads inner (old.size - 26) top above
  pub counts : CountsAll old now named
  pub later : (pages : ℕ → Bool) → ((p : ℕ) → pages p ≡ true → p < length old.pages) → IsLater pages (file_so_far old) (file_so_far now)
  pub formed : (p : ℕ) → length old.pages ≤ p → p < length now.pages → page_code now.order p (bytes_of now p) ≡ None
  pub form_kept : (p : ℕ) → p < length old.pages → page_code now.order p (bytes_of now p) ≡ page_code old.order p (bytes_of old p)
  pub live : (p : ℕ) → length old.pages ≤ p → p < length now.pages → HasLiveKeys now.order (bytes_of now p)
  pub kept : (p : ℕ) → p < length old.pages → (Contains (flat_map (heads_of inner) nodes) p → ⊥) → bytes_of now p ≡ bytes_of old p
  -- so many levels may follow at most, and the pages that are there and those that they have are all
  pub most : ℕ
  pub enough : length top ≤ most
  pub count : length now.pages + pages_over most (old.size - 26) (first_cost inner) (map (child_cost inner) top)
      ≡ length old.pages + pages_over (length nodes) (old.size - 26) (first_cost inner) (map (child_cost inner) nodes)

pub none_built : (inner : InnerType) (old : Built) (nodes : List Node) (children : List Child) → AreWhole old → AreChildren inner old children nodes
    → IsBuilding inner old old nodes 1 children
none_built inner old nodes children whole are =
    let none : length old.pages - length old.pages ≡ 0 = omega arith in
    record {
      levels = [];
      top = nodes;
      are = are;
      keys = λ node at. record { other = node; among = at; same = refl };
      size = refl;
      order = refl;
      whole = whole;
      grows = omega arith;
      numbers = ap (range_with_len (length old.pages)) (sym none);
      tower = λ g pages above root all heads later tower. tower;
      spread = λ above spread. spread;
      named = [];
      named_are = λ above. refl;
      counts = record { two = λ p low at. absurd (no_member [] p refl at); same = λ p low other. refl };
      later = λ pages among. later_self old pages;
      formed = λ p low under. absurd (omega (arith, low, under));
      form_kept = λ p low. refl;
      live = λ p low under. absurd (omega (arith, low, under));
      kept = λ p low other. refl;
      most = length nodes;
      enough = omega arith;
      count = refl;
    }

-- the pages of a set below a number
abbrev pub pages_under : (ℕ → Bool) → ℕ → ℕ → Bool
pages_under pages n p = pages p && ltb p n

pub under_are : (pages : ℕ → Bool) (n p : ℕ) → pages_under pages n p ≡ true → (pages p ≡ true) × (p < n)
under_are pages n p at = let (there, low) = and_parts (pages p) (ltb p n) at in (there, ltb-true p n low)

pub is_under : (pages : ℕ → Bool) (n p : ℕ) → pages p ≡ true → p < n → pages_under pages n p ≡ true
is_under pages n p there low = ap (λ b. b && ltb p n) there ∙ lt-ltb p n low

-- a level more names more heads
pub counts_more : (inner : InnerType) (level : ℕ) (old now new : Built) (above : List Child) (nodes : List Node) (named : List ℕ)
    → CountsAll old now named → length old.pages ≤ length now.pages → (laid : IsLevelLaid inner level now new above nodes)
    → CountsAll old new (named ++ heads_in inner laid.groups)
counts_more inner level old now new above nodes named counts grows laid =
    let heads : List ℕ = heads_in inner laid.groups in
    let keeps = λ (p : ℕ) (low : p < length old.pages). levels_keep_pages inner level now new above nodes p laid (omega (arith, low, grows)) in
    record {
      two = λ p low at. elim (member_or_not heads p) [
        | inl here ↦ (keeps p low).two here
        | inr out ↦
            ap (λ o. entries_of o (bytes_of new p)) laid.laid.order
            ∙ (ap (entries_of now.order) ((keeps p low).same out)
            ∙ counts.two p low (elim (Contains-append_cases named heads p at) [ inl was ↦ was | inr here ↦ absurd (out here) ]))
      ];
      same = λ p low other.
          (keeps p low).same (λ at. other (Contains-append_right named heads p at))
          ∙ counts.same p low (λ at. other (Contains-append_left named heads p at));
    }

pub level_built : (inner : InnerType) (old now new : Built) (nodes : List Node) (level : ℕ) (below children above : List Child)
    → AreChildren inner old below nodes → 1 ≤ level → (built : IsBuilding inner old now nodes level children)
    → IsLevelLaid inner (level + 1) now new above built.top → 1 < length children → length above < length children
    → IsBuilding inner old new nodes (level + 1) above
level_built inner old now new nodes level below children above are high built laid many fewer_above =
    let n : ℕ = length now.pages in
    let row : List Node = nodes_over n laid.groups in
    let low_now = built.grows in
    let count = laid.laid.count in
    let groups_are : spread_nodes inner (old.size - 26) built.top ≡ laid.groups =
    subst (λ size. spread_nodes inner (size - 26) built.top ≡ laid.groups) built.size
    (level_spread inner (level + 1) now new above built.top laid) in
    let kept = λ (p : ℕ) (low : p < n). (levels_keep_pages inner (level + 1) now new above built.top p laid low).form in
    let named : (h : ℕ) → Contains (heads_in inner laid.groups) h → Contains (flat_map (heads_of inner) nodes) h =
    λ h at. heads_among inner built.top nodes h built.keys (heads_in_are inner laid.groups built.top h laid.joined_is at) in
    record {
      levels = built.levels ++ (row ∷ []);
      top = row;
      are = levels_go_on inner (level + 1) now new above built.top laid;
      keys = λ node at.
          let key = keys_over inner (level + 1) now new above built.top node laid at in
          let first = built.keys key.other key.among in
          record { other = first.other; among = first.among; same = key.same ∙ first.same };
      size = laid.laid.size ∙ built.size;
      order = laid.laid.order ∙ built.order;
      whole = laid.laid.whole;
      grows = omega (arith, low_now, count);
      numbers = numbers_more built.levels laid.groups (length old.pages) n (length new.pages) low_now count built.numbers;
      tower = λ g pages others root all heads later tower.
          let fewer : IsLater (pages_under pages n) (file_so_far new) g =
          later_before new new (pages_under pages n) pages g refl (omega arith) (λ p at. (under_are pages n p at).0)
          (λ p at. let low = (under_are pages n p at).1 in (omega (arith, low, count), refl)) later in
          let before : IsLater (pages_under pages n) (file_so_far now) g =
          later_chain (file_so_far now) (file_so_far new) g (pages_under pages n)
          (levels_are_later inner (level + 1) now new above built.top (pages_under pages n) laid (λ p at. (under_are pages n p at).1)) fewer in
          subst (λ (l : List (List Node)). IsTower inner g 1 nodes l root) (sym (append_assoc built.levels (row ∷ []) others))
          (built.tower g (pages_under pages n) (row ∷ others) root (λ p low here. is_under pages n p (all p low (omega (arith, here, count))) here)
          (λ h at. is_under pages n h (heads h at) (let low = heads_low inner old below nodes h are at in omega (arith, low, low_now))) before (
            levels_stand inner (level + 1) now new children above built.top pages g laid built.are
                (λ p low here. all p (omega (arith, low, low_now)) here) (λ h at. heads h (named h at)) later,
            tower,
          ));
      spread = λ others spread.
          subst (AreSpreadLevels inner (old.size - 26) nodes) (sym (append_assoc built.levels (row ∷ []) others))
          (built.spread (row ∷ others) (
            omega (arith, many, as_many inner now children built.top built.are),
            subst (AllZip IsNodeOver row) (sym groups_are) (stand_over n laid.groups),
            spread,
          ));
      named = built.named ++ heads_in inner laid.groups;
      named_are = λ others.
          let room : ℕ = old.size - 26 in
          ap (named_heads inner room nodes) (append_assoc built.levels (row ∷ []) others)
          ∙ (built.named_are (row ∷ others)
          ∙ (ap (λ gs. built.named ++ (heads_in inner gs ++ named_heads inner room row others)) groups_are
          ∙ sym (append_assoc built.named (heads_in inner laid.groups) (named_heads inner room row others))));
      counts = counts_more inner (level + 1) old now new above built.top built.named built.counts low_now laid;
      later = λ pages among. later_chain (file_so_far old) (file_so_far now) (file_so_far new) pages (built.later pages among)
          (levels_are_later inner (level + 1) now new above built.top pages laid (λ p at. let low = among p at in omega (arith, low, low_now)));
      formed = λ p low here. elim (cases_lt p n) [
        | inl stood ↦ kept p stood ∙ built.formed p low stood
        | inr fresh ↦ levels_are_formed inner (level + 1) now new above built.top p laid (omega (arith, high)) (omega (arith, fresh)) here
      ];
      form_kept = λ p low. kept p (omega (arith, low, low_now)) ∙ built.form_kept p low;
      live = λ p low here. elim (cases_lt p n) [
        | inl stood ↦ (levels_keep_pages inner (level + 1) now new above built.top p laid stood).live (built.live p low stood)
        | inr fresh ↦ levels_live inner (level + 1) now new above built.top p laid fresh here
      ];
      kept = λ p low other.
          (levels_keep_pages inner (level + 1) now new above built.top p laid (omega (arith, low, low_now))).same (λ at. other (named p at))
          ∙ built.kept p low other;
      most = built.most - 1;
      enough =
          let enough = built.enough in
          omega (
            arith,
            enough,
            fewer_above,
            as_many inner now children built.top built.are,
            as_many inner new above row (levels_go_on inner (level + 1) now new above built.top laid),
          );
      count =
          let enough = built.enough in
          let as_long = as_many inner now children built.top built.are in
          let most : built.most ≡ suc (built.most - 1) = omega (arith, enough, as_long, many) in
          let here = built.count in
          let next : pages_over built.most (old.size - 26) (first_cost inner) (map (child_cost inner) built.top)
          ≡ length laid.groups + pages_over (built.most - 1) (old.size - 26) (first_cost inner) (map (child_cost inner) row) =
          subst (λ size. pages_over built.most (size - 26) (first_cost inner) (map (child_cost inner) built.top)
          ≡ length laid.groups + pages_over (built.most - 1) (size - 26) (first_cost inner) (map (child_cost inner) row)) built.size
          (ap (λ m. pages_over m (now.size - 26) (first_cost inner) (map (child_cost inner) built.top)) most
          ∙ pages_counted inner (level + 1) (built.most - 1) now new above built.top laid (omega (arith, many, as_long))) in
          omega (arith, here, next, count);
    }

-- a level of more than one page has fewer than the one below
pub level_shrinks : (inner : InnerType) (old now new : Built) (nodes : List Node) (level : ℕ) (children above : List Child)
    → (built : IsBuilding inner old now nodes level children) → IsLevelLaid inner (level + 1) now new above built.top
    → ((node : Node) → Contains nodes node → child_cost inner node + 40 ≤ old.size) → 1 < length children → length above < length children
level_shrinks inner old now new nodes level children above built laid cheap many =
    let as_long = as_many inner now children built.top built.are in
    let size = built.size in
    let shrinks : length above < length built.top =
    levels_shrink inner (level + 1) now new above built.top laid
    (λ node at.
    let key = built.keys node at in
    let cost = cost_like inner node key.other key.same in let little = cheap key.other key.among in omega (arith, cost, little, size))
    (omega (arith, many, as_long)) in
    omega (arith, shrinks, as_long)

-- and has one at least
pub some_laid : (inner : InnerType) (level : ℕ) (old new : Built) (above : List Child) (nodes : List Node) → IsLevelLaid inner level old new above nodes
    → 0 < length nodes → 0 < length above
some_laid inner level old new above nodes laid some =
    let many = laid.laid.many in
    omega (arith, many, some_groups laid.groups nodes laid.joined_is some)
  where
    some_groups : (groups : List (List Node)) (nodes : List Node) → flat_map (λ group. group) groups ≡ nodes → 0 < length nodes → 0 < length groups
    some_groups [] nodes joined some = let e : 0 ≡ length nodes = ap length joined in absurd (omega (arith, e, some))
    some_groups (group ∷ groups) nodes joined some = omega arith

-- The root.

alone : (inner : InnerType) (built : Built) (children : List Child) (nodes : List Node) → AreChildren inner built children nodes → length children ≡ 1
    → (node : Node) × (nodes ≡ node ∷ []) × (node.page ≡ (get_or children 0 no_child).page)
alone inner built [] nodes are one = absurd (omega (arith, one))
alone inner built (child ∷ []) [] are one = absurd are
alone inner built (child ∷ []) (node ∷ []) are one = (node, refl, are.0.page_is)
alone inner built (child ∷ []) (node ∷ other ∷ nodes) are one = absurd are.1
alone inner built (child ∷ other ∷ children) nodes are one = absurd (omega (arith, one))

pub tower_built : (inner : InnerType) (old now : Built) (nodes : List Node) (level : ℕ) (children : List Child)
    → IsBuilding inner old now nodes level children → length children ≡ 1
    → (2 ≤ length nodes → EndsInRoot inner old now nodes (get_or children 0 no_child).page)
    → HasTower inner old now nodes (get_or children 0 no_child).page
tower_built inner old now nodes level children built one ends =
    let (root, is, page) = alone inner now children built.top built.are one in
    record {
      above = built.levels;
      top = root;
      top_is = page;
      size = built.size;
      order = built.order;
      whole = built.whole;
      grows = built.grows;
      numbers = built.numbers;
      tower = λ g pages all heads later. subst (λ (l : List (List Node)). IsTower inner g 1 nodes l root) (append-nil built.levels)
          (built.tower g pages [] root all heads later is);
      spread = subst (AreSpreadLevels inner (old.size - 26) nodes) (append-nil built.levels) (built.spread [] (ap length is));
      counts = subst (CountsAll old now)
          (sym (append-nil built.named) ∙ (sym (built.named_are []) ∙ ap (named_heads inner (old.size - 26) nodes) (append-nil built.levels)))
          built.counts;
      later = built.later;
      formed = built.formed;
      form_kept = built.form_kept;
      live = built.live;
      kept = built.kept;
      count =
          let all = built.count in
          let none : pages_over built.most (old.size - 26) (first_cost inner) (map (child_cost inner) built.top) ≡ 0 =
          ap (λ (l : List Node). pages_over built.most (old.size - 26) (first_cost inner) (map (child_cost inner) l)) is
          ∙ none_over built.most (old.size - 26) (first_cost inner) (child_cost inner root) in
          omega (arith, all, none);
      ends = ends;
    }
