-- The last level of a tree, and its root.
use Rattle.std.proofs.Common.{◌≡◌, ◌⊎◌, ℕ, ◌+◌, ◌-◌, ◌<◌, ◌≤◌, Bool, true, List, [], ◌∷◌, ◌++◌, length, get_or, arith, refl, sym, ◌∙◌, ap, subst, inl, inr, length-take}
use Rattle.bdb_mkleaves.proofs.Common.{AllZip, Contains, flat_map, range_with_len, append-nil, get_or-take, page_so_far, abstract_page, header_in, page_at, in_flat_map, IsLater, IsSamePage, InnerType}
use Rattle.bdb_mkleaves.proofs.Common.{AreOver, IsOver, Node, Built, file_so_far, without_last, HoldsChildrenOn, AreChildren, IsLevelLaid, heads_in, heads_of, heads_under, no_child, node_over}
use Rattle.bdb_mkleaves.proofs.Common.{IsNodeOver, spread_nodes, CountsAll, EndsInRoot, Child}
use Rattle.bdb_mkleaves.proofs.LaterLemmas.{later_chain, later_fewer}
use Rattle.bdb_mkleaves.proofs.LevelLawLemmas.{group_node, head_counts, levels_are_later, member_at, page_over}
use Rattle.bdb_mkleaves.proofs.LevelLemmas.{as_many}
use Rattle.bdb_mkleaves.proofs.TowerLemmas.{IsBuilding, counts_more, heads_among, heads_in_are, heads_low, is_under, level_spread, pages_under, under_are}

-- a level was laid over those so far
pub record IsTopped (inner : InnerType) (old now : Built) (nodes : List Node) (above : List Child) : Type 0 where
  pub was : Built
  pub level : ℕ
  pub below : List Child
  pub high : 1 ≤ level
  pub many : 1 < length below
  pub built : IsBuilding inner old was nodes level below
  pub laid : IsLevelLaid inner (level + 1) was now above built.top

-- over two pages or more, one page is of a level that was laid
pub is_topped : {P : Type 0} (n m : ℕ) → (n ≡ m) ⊎ P → n ≡ 1 → 2 ≤ m → P
is_topped {P} n m (inl same) one many = absurd (omega (arith, same, one, many))
is_topped {P} n m (inr top) one many = top

-- its single page is the last of all
pub record IsLast (old now : Built) (was root : ℕ) : Type 0 where
  pub is : root ≡ was
  pub last : root + 1 ≡ length now.pages
  pub low : length old.pages ≤ root

pub top_last : (inner : InnerType) (old now : Built) (nodes : List Node) (above : List Child) → (top : IsTopped inner old now nodes above)
    → length above ≡ 1 → IsLast old now (length top.was.pages) (get_or above 0 no_child).page
top_last inner old now nodes above top one =
    let by = top.laid.laid in
    let many = by.many in
    let count = by.count in
    let grows = top.built.grows in
    let under : 0 < length top.laid.groups = omega (arith, many, one) in
    let is = (by.pages 0 under).page_is in
    record { is = omega (arith, is); last = omega (arith, is, count, many, one); low = omega (arith, is, grows) }

only_group : (groups : List (List Node)) (nodes : List Node) → length groups ≡ 1 → flat_map (λ group. group) groups ≡ nodes
    → get_or groups 0 [] ≡ nodes
only_group [] nodes one joined = absurd (omega (arith, one))
only_group (group ∷ []) nodes one joined = sym (append-nil group) ∙ joined
only_group (group ∷ other ∷ groups) nodes one joined = absurd (omega (arith, one))

only_one : (groups : List (List Node)) → length groups ≡ 1 → groups ≡ get_or groups 0 [] ∷ []
only_one [] one = absurd (omega (arith, one))
only_one (group ∷ []) one = refl
only_one (group ∷ other ∷ groups) one = absurd (omega (arith, one))

-- what stood before the last level is, without its one page, as before
was_later : (inner : InnerType) (level : ℕ) (was now : Built) (above : List Child) (nodes : List Node) (pages : ℕ → Bool)
    → IsLevelLaid inner level was now above nodes → length now.pages ≡ length was.pages + 1 → ((p : ℕ) → pages p ≡ true → p < length was.pages)
    → IsLater pages (file_so_far was) (file_so_far (without_last now))
was_later inner level was now above nodes pages laid count low =
    let fewer : Built = without_last now in
    let long : length fewer.pages ≡ length was.pages = omega (arith, length-take (length now.pages - 1) now.pages, count) in
    record {
      no_queue_before = λ is. cc;
      no_queue = λ is. cc;
      grows = omega (arith, long);
      same = λ p at.
          let here = low p at in
          let under : p < length now.pages - 1 = omega (arith, here, count) in
          subst (IsSamePage (page_at (file_so_far was) p))
          (page_so_far now p (omega (arith, here, count))
          ∙ (ap (abstract_page now.order) (sym (get_or-take (length now.pages - 1) now.pages p [] under))
          ∙ sym (page_so_far fewer p (omega (arith, here, long)))))
          ((levels_are_later inner level was now above nodes pages laid low).same p at);
    }

pub ends_in_root : (inner : InnerType) (old now : Built) (nodes : List Node) (children above : List Child) → AreChildren inner old children nodes
    → IsTopped inner old now nodes above → length above ≡ 1 → EndsInRoot inner old now nodes (get_or above 0 no_child).page
ends_in_root inner old now nodes children above are top one =
    let was : Built = top.was in
    let n : ℕ = length was.pages in
    let level : ℕ = top.level in
    let built = top.built in
    let laid = top.laid in
    let by = laid.laid in
    let root : ℕ = (get_or above 0 no_child).page in
    let last = top_last inner old now nodes above top one in
    let high = top.high in
    let many = by.many in
    let grows = built.grows in
    let is : root ≡ n = last.is in
    let end : root + 1 ≡ length now.pages = last.last in
    let groups : List (List Node) = laid.groups in
    let group : List Node = get_or groups 0 [] in
    let under : 0 < length groups = omega (arith, many, one) in
    let page = by.pages 0 under in
    let at_end : n + 0 ≡ root = omega (arith, is) in
    let fewer : Built = without_last now in
    let count : length fewer.pages ≡ n = omega (arith, length-take (length now.pages - 1) now.pages, end, is) in
    let all_of : built.top ≡ group ++ [] = sym (only_group groups built.top (omega (arith, many, one)) laid.joined_is) ∙ sym (append-nil group) in
    let groups_are : spread_nodes inner (old.size - 26) built.top ≡ groups =
    subst (λ size. spread_nodes inner (size - 26) built.top ≡ groups) built.size (level_spread inner (level + 1) was now above built.top laid) in
    let named : (h : ℕ) → Contains (heads_in inner groups) h → Contains (flat_map (heads_of inner) nodes) h =
    λ h at. heads_among inner built.top nodes h built.keys (heads_in_are inner groups built.top h laid.joined_is at) in
    let low_head : (h : ℕ) → Contains (flat_map (heads_of inner) nodes) h → h < n =
    λ h at. let low = heads_low inner old children nodes h are at in omega (arith, low, grows) in
    record {
      levels = built.levels;
      below = group;
      some = page.some;
      level = level + 1;
      high = omega (arith, high);
      holds = subst (λ p. HoldsChildrenOn inner now p (level + 1) group) at_end page.holds;
      last = end;
      low = last.low;
      numbers = built.numbers ∙ ap (λ k. range_with_len (length old.pages) (k - length old.pages)) (sym is);
      tower = λ g pages on p all heads later holds low same.
          let root_node : Node = node_over p group in
          let before : IsLater (pages_under pages n) (file_so_far was) g =
          later_chain (file_so_far was) (file_so_far fewer) g (pages_under pages n)
          (was_later inner (level + 1) was now above built.top (pages_under pages n) laid (omega (arith, end, is))
          (λ q at. (under_are pages n q at).1))
          (later_fewer (file_so_far fewer) g (pages_under pages n) pages (λ q at. (under_are pages n q at).0) later) in
          let two : (h : ℕ) → Contains (heads_under inner group) h → 2 ≤ (header_in (page_at g h)).entries =
          λ h at.
          let head : Contains (heads_in inner groups) h = in_flat_map (heads_under inner) groups group h (member_at groups [] 0 under) at in
          let stood = low_head h (named h head) in
          head_counts inner (level + 1) was now fewer above groups g h by head refl (omega (arith, stood, count))
          (get_or-take (length now.pages - 1) now.pages h [] (omega (arith, stood, end, is))) (later.same h (heads h (named h head))) in
          let over : IsOver inner g (level + 1) root_node group =
          page_over inner (level + 1) was on g p top.below built.top group holds page.some low same built.are
          (λ node at. group_node groups built.top 0 node laid.joined_is under at) two in
          let level_over : AreOver inner g (level + 1) (root_node ∷ []) built.top = (group, [], all_of, over, refl) in
          built.tower g (pages_under pages n) ((root_node ∷ []) ∷ []) root_node
          (λ q high_enough here. is_under pages n q (all q high_enough (omega (arith, here, is))) here)
          (λ h at. is_under pages n h (heads h at) (low_head h at)) before (level_over, refl);
      spread = λ p.
          let several = top.many in
          built.spread ((node_over p group ∷ []) ∷ []) (
            omega (arith, several, as_many inner was top.below built.top built.are),
            subst (AllZip IsNodeOver (node_over p group ∷ [])) (sym (groups_are ∙ only_one groups (omega (arith, many, one)))) (refl, tt),
            refl,
          );
      counts = λ p.
          subst (CountsAll old now)
          (sym (built.named_are ((node_over p group ∷ []) ∷ [])
          ∙ (ap (λ gs. built.named ++ (heads_in inner gs ++ [])) groups_are ∙ ap (λ hs. built.named ++ hs) (append-nil (heads_in inner groups)))))
          (counts_more inner (level + 1) old was now above built.top built.named built.counts grows laid);
    }
