-- A level of internal pages that takes a child: on its last page, or on a new one.
use Rattle.std.proofs.Common.{◌≡◌, ℕ, zero, suc, ◌+◌, ◌-◌, ◌<◌, Bool, false, List, [], ◌∷◌, ◌++◌, length, get_or, set, Option, Some, arith, refl, sym, ◌∙◌, ap}
use Rattle.std.proofs.Common.{subst, inl, inr, length-append, length-set, append_assoc, SomeIff, Contains, flat_map, sum_by}
use Rattle.bdb_mkleaves.proofs.Common.{cases_lt, flat_map-append, append-nil, get_or_default, get_or-set_other, get_or-set_same, get_or_append_left, get_or_push, Contains-append_cases, sum_by_push}
use Rattle.bdb_mkleaves.proofs.Common.{no_member, InnerType, Node, no_node, AreWhole, Built, bytes_of, HoldsChildren, HoldsChildrenOn, child_cost, nodes_cost, AreChildren, CanBeAsked, CanPush, HasKey}
use Rattle.bdb_mkleaves.proofs.Common.{IsChild, IsLevelLaid, IsLaidBy, IsLaidPage, IsStarted, TakesNode, LacksRoom, LaidNow, TakesNow, heads_in, heads_of, heads_under, no_child, raising, Child}
use Rattle.bdb_mkleaves.proofs.LevelHeadLemmas.{raising_append, raising_count, raising_like, raising_order}
use Rattle.bdb_mkleaves.proofs.LevelTakeLemmas.{HeadsFew, Keeps, heads_few, holds_kept, key_kept, raising_keeps}

-- What holds of a level so far.

pub laid_keeps : (inner : InnerType) (level : ℕ) (old now : Built) (above : List Child) (groups : List (List Node))
    → IsLaidBy inner level old now above groups
    → Keeps old now (heads_in inner groups)
laid_keeps inner level old now above groups laid =
    record { order = laid.order; grows = let count = laid.count in omega (arith, count); same = laid.kept; few = laid.heads }

pub child_now : (inner : InnerType) (level : ℕ) (old now : Built) (above : List Child) (groups : List (List Node)) (child : Child) (node : Node)
    → IsLaidBy inner level old now above groups → IsChild inner old child node → IsChild inner now child node
child_now inner level old now above groups child node laid is = record {
  page_is = is.page_is;
  count_is = is.count_is;
  key = key_kept inner old now (heads_in inner groups) child.leaf node.key (laid_keeps inner level old now above groups laid) is.key;
}

-- its last page
record IsLast (inner : InnerType) (level : ℕ) (old now : Built) (child : Child) (group : List Node) (k : ℕ) : Type 0 where
  page_is : child.page ≡ length old.pages + k
  there : child.page < length now.pages
  some : 0 < length group
  holds : HoldsChildrenOn inner now child.page level group

last_is : (inner : InnerType) (level : ℕ) (old now : Built) (above : List Child) (groups : List (List Node))
    → IsLaidBy inner level old now above groups
    → 0 < length above
    → IsLast inner level old now (get_or above (length above - 1) no_child) (get_or groups (length groups - 1) []) (length groups - 1)
last_is inner level old now above groups laid some =
    let many = laid.many in
    let count = laid.count in
    let k : ℕ = length groups - 1 in
    let under : k < length groups = omega (arith, many, some) in
    let same : length above - 1 ≡ k = omega (arith, many) in
    let page = laid.pages k under in
    let is : (get_or above k no_child).page ≡ length old.pages + k = page.page_is in
    subst (λ j. IsLast inner level old now (get_or above j no_child) (get_or groups k []) k) (sym same)
    (record {
      page_is = is;
      there = omega (arith, is, count, under);
      some = page.some;
      holds = subst (λ p. HoldsChildrenOn inner now p level (get_or groups k [])) (sym is) page.holds;
    })

pub can_be_asked : (inner : InnerType) (level : ℕ) (now : Built) (above : List Child) (leaf : ℕ) → CanPush inner level now above leaf
    → 0 < length above
    → CanBeAsked inner now (get_or above (length above - 1) no_child).page leaf
can_be_asked inner level now above leaf can some =
    let groups : List (List Node) = can.laid.groups in
    let last = last_is inner level can.old now above groups can.laid.laid some in
    record {
      there = last.there;
      level = level;
      nodes = get_or groups (length groups - 1) [];
      holds = last.holds;
      some = last.some;
      key = can.key;
      has = key_kept inner can.old now (heads_in inner groups) leaf can.key (laid_keeps inner level can.old now above groups can.laid.laid) can.has;
    }

-- it is read from the level
pub last_child : (above : List Child) (last : Child) (n : ℕ) → last ≡ get_or above (n - 1) last → n ≡ length above → (n ≡ 0 → ⊥)
    → (last ≡ get_or above (length above - 1) no_child) × (0 < length above)
last_child above last n is long some =
    let many : 0 < length above = omega (arith, long, some) in (
      is ∙ (ap (λ k. get_or above (k - 1) last) long ∙ get_or_default above (length above - 1) last no_child (omega (arith, many))),
      many,
    )

-- what its last page says of a child, as `take_child` answers it
pub last_takes_now : (inner : InnerType) (level : ℕ) (old now new : Built) (above : List Child) (nodes : List Node) (child last : Child) (node : Node)
    (took : Bool)
    → (laid : IsLevelLaid inner level old now above nodes) → IsChild inner old child node → 0 < length above → last
    ≡ get_or above (length above - 1) no_child
    → ((height : ℕ) (group : List Node) (other : Node) → HoldsChildrenOn inner now last.page height group → 0 < length group
    → IsChild inner now child other → TakesNow took inner height now new last.page group other)
    → TakesNow took inner level now new (get_or above (length above - 1) no_child).page (get_or laid.groups (length laid.groups - 1) []) node
last_takes_now inner level old now new above nodes child last node took laid is some here takes =
    let groups : List (List Node) = laid.groups in
    let page = last_is inner level old now above groups laid.laid some in
    subst (λ (x : Child). TakesNow took inner level now new x.page (get_or groups (length groups - 1) []) node) here
    (takes level (get_or groups (length groups - 1) []) node
    (subst (λ (x : Child). HoldsChildrenOn inner now x.page level (get_or groups (length groups - 1) [])) (sym here) page.holds) page.some
    (child_now inner level old now above groups child node laid.laid is))

-- Lists with a last element.

split_last : {X : Type 0} (xs : List X) → 0 < length xs → (front : List X) × (last : X) × (xs ≡ front ++ (last ∷ []))
split_last {X} [] some = absurd (omega (arith, some))
split_last {X} (x ∷ []) some = ([], x, refl)
split_last {X} (x ∷ y ∷ ys) some = let (front, last, is) = split_last (y ∷ ys) (omega arith) in (x ∷ front, last, ap (λ (l : List X). x ∷ l) is)

front_at : {X : Type 0} (front : List X) (last d : X) (k : ℕ) → k < length front → get_or (front ++ (last ∷ [])) k d ≡ get_or front k d
front_at {X} front last d k low = get_or_append_left front (last ∷ []) d k low

last_at : {X : Type 0} (front : List X) (last d : X) → get_or (front ++ (last ∷ [])) (length front) d ≡ last
last_at {X} front last d = get_or_push front last d (length front) refl

first_stays : (last : List Node) (node : Node) → 0 < length last → get_or (last ++ (node ∷ [])) 0 no_node ≡ get_or last 0 no_node
first_stays last node some = get_or_append_left last (node ∷ []) no_node 0 some

-- One node more in the last group.

joined_more : (front : List (List Node)) (last : List Node) (node : Node)
    → flat_map (λ group. group) (front ++ ((last ++ (node ∷ [])) ∷ [])) ≡ flat_map (λ group. group) (front ++ (last ∷ [])) ++ (node ∷ [])
joined_more front last node =
    let before : List Node = flat_map (λ group. group) front in
    flat_map-append (λ (group : List Node). group) front ((last ++ (node ∷ [])) ∷ [])
    ∙ (ap (λ (l : List Node). before ++ l) (append-nil (last ++ (node ∷ [])))
    ∙ (sym (append_assoc before last (node ∷ []))
    ∙ ap (λ (l : List Node). l ++ (node ∷ []))
    (sym (flat_map-append (λ (group : List Node). group) front (last ∷ []) ∙ ap (λ (l : List Node). before ++ l) (append-nil last)))))

under_more : (inner : InnerType) (last : List Node) (node : Node) → 0 < length last
    → heads_under inner (last ++ (node ∷ [])) ≡ heads_under inner last ++ heads_of inner node
under_more inner [] node some = absurd (omega (arith, some))
under_more inner (first ∷ others) node some =
    flat_map-append (heads_of inner) others (node ∷ []) ∙ ap (λ (hs : List ℕ). flat_map (heads_of inner) others ++ hs)
    (append-nil (heads_of inner node))

heads_more : (inner : InnerType) (front : List (List Node)) (last : List Node) (node : Node) → 0 < length last
    → heads_in inner (front ++ ((last ++ (node ∷ [])) ∷ [])) ≡ heads_in inner (front ++ (last ∷ [])) ++ heads_of inner node
heads_more inner front last node some =
    let before : List ℕ = heads_in inner front in
    flat_map-append (heads_under inner) front ((last ++ (node ∷ [])) ∷ [])
    ∙ (ap (λ (hs : List ℕ). before ++ hs) (append-nil (heads_under inner (last ++ (node ∷ []))) ∙ under_more inner last node some)
    ∙ (sym (append_assoc before (heads_under inner last) (heads_of inner node))
    ∙ ap (λ (hs : List ℕ). hs ++ heads_of inner node)
    (sym (flat_map-append (heads_under inner) front (last ∷ []) ∙ ap (λ (hs : List ℕ). before ++ hs) (append-nil (heads_under inner last))))))

-- The last page takes a node.

-- another page holds what it held
other_holds : (inner : InnerType) (level : ℕ) (now new : Built) (p q : ℕ) (last group : List Node) (node : Node)
    → TakesNode inner level now new p last node
    → HeadsFew now (heads_of inner node) → q < length now.pages → (q ≡ p → ⊥) → HoldsChildrenOn inner now q level group
    → HoldsChildrenOn inner new q level group
other_holds inner level now new p q last group node took few low other holds =
    let hs : List ℕ = heads_of inner node in
    let kept : HoldsChildren inner (raising now hs).order (bytes_of (raising now hs) q) q level group =
    (holds_kept inner now (raising now hs) hs q level group (raising_keeps now hs few) low holds).1 in
    subst (λ o. HoldsChildren inner o (bytes_of new q) q level group) (raising_order now hs ∙ sym took.order)
    (subst (λ bs. HoldsChildren inner (raising now hs).order bs q level group) (sym (took.same q other)) kept)

page_moved : (inner : InnerType) (level : ℕ) (old now new : Built) (p : ℕ) (child : Child) (group : List Node)
    → IsLaidPage inner level old now p child group
    → HoldsChildrenOn inner new p level group → IsLaidPage inner level old new p child group
page_moved inner level old now new p child group page holds =
    record { page_is = page.page_is; count_is = page.count_is; some = page.some; key = page.key; holds = holds }

-- the child of a page with a greater count
abbrev pub counting : Child → ℕ → Child
counting child count = record { page = child.page; count = count; leaf = child.leaf }

taken_by : (inner : InnerType) (level : ℕ) (old now new : Built) (above : List Child) (front : List (List Node)) (last : List Node) (node : Node)
    (child : Child) (p count : ℕ)
    → IsLaidBy inner level old now above (front ++ (last ∷ [])) → IsChild inner old child node → p ≡ length old.pages + length front
    → TakesNode inner level now new p last node → count ≡ (get_or above (length front) no_child).count + child.count
    → IsLaidBy inner level old new (set above (length front) (counting (get_or above (length front) no_child) count))
    (front ++ ((last ++ (node ∷ [])) ∷ []))
taken_by inner level old now new above front last node child p count laid is at took sum =
    let n : ℕ = length front in
    let groups : List (List Node) = front ++ (last ∷ []) in
    let more : List Node = last ++ (node ∷ []) in
    let next : List (List Node) = front ++ (more ∷ []) in
    let before : Child = get_or above n no_child in
    let over : List Child = set above n (counting before count) in
    let hs : List ℕ = heads_of inner node in
    let long : length groups ≡ n + 1 = length-append front (last ∷ []) in
    let long_next : length next ≡ n + 1 = length-append front (more ∷ []) in
    let many = laid.many in
    let pages_count = laid.count in
    let low : n < length groups = omega (arith, long) in
    let here = laid.pages n low in
    let group_is : get_or groups n [] ≡ last = last_at front last [] in
    let some : 0 < length last = subst (λ (g : List Node). 0 < length g) group_is here.some in
    let few : HeadsFew now hs =
    heads_few inner now child.leaf node (child_now inner level old now above groups child node laid is).key in
    let few_old : HeadsFew old hs = heads_few inner old child.leaf node is.key in
    let heads_are : heads_in inner next ≡ heads_in inner groups ++ hs = heads_more inner front last node some in
    let base : ℕ = length old.pages in
    record {
      size = took.size ∙ laid.size;
      order = took.order ∙ laid.order;
      whole = took.whole;
      many = length-set above n (counting before count) ∙ (many ∙ (long ∙ sym long_next));
      count = took.count ∙ (pages_count ∙ ap (λ k. base + k) (long ∙ sym long_next));
      pages = λ k under.
          elim (cases_lt k n) [
            | inl below ↦
                let page = laid.pages k (omega (arith, below, long)) in
                let same_group : get_or groups k [] ≡ get_or front k [] = front_at front last [] k below in
                let q : ℕ = base + k in
                let page2 : IsLaidPage inner level old now q (get_or above k no_child) (get_or front k []) =
                subst (λ (g : List Node). IsLaidPage inner level old now q (get_or above k no_child) g) same_group page in
                let moved : IsLaidPage inner level old new q (get_or above k no_child) (get_or front k []) =
                page_moved inner level old now new q (get_or above k no_child) (get_or front k []) page2
                (other_holds inner level now new p q last (get_or front k []) node took few (omega (arith, pages_count, long, below))
                (λ e. omega (arith, e, at, below)) page2.holds) in
                subst (λ (g : List Node). IsLaidPage inner level old new q (get_or over k no_child) g) (sym (front_at front more [] k below))
                (subst (λ (c : Child). IsLaidPage inner level old new q c (get_or front k []))
                (sym (get_or-set_other above n k (counting before count) no_child (λ e. omega (arith, e, below)))) moved)
            | inr beyond ↦
                let e : k ≡ n = omega (arith, under, beyond, long_next) in
                let set_is : get_or over n no_child ≡ counting before count =
                get_or-set_same above n (counting before count) no_child (omega (arith, many, long)) in
                let old_count : before.count ≡ sum_by (λ (x : Node). x.count) last =
                here.count_is ∙ ap (sum_by (λ (x : Node). x.count)) group_is in
                let first_is : get_or more 0 no_node ≡ get_or last 0 no_node = first_stays last node some in
                let at_last : IsLaidPage inner level old new (base + n) (counting before count) more = record {
                  page_is = here.page_is;
                  count_is = let c = is.count_is in omega (arith, sum, old_count, c, sum_by_push (λ (x : Node). x.count) last node);
                  some = omega (arith, length-append last (node ∷ []));
                  key = subst (λ (x : Node). HasKey inner old before.leaf x.key) (sym first_is)
                      (subst (λ (g : List Node). HasKey inner old before.leaf (get_or g 0 no_node).key) group_is here.key);
                  holds = subst (λ q. HoldsChildrenOn inner new q level more) at took.holds;
                } in
                subst (λ j. IsLaidPage inner level old new (base + j) (get_or over j no_child) (get_or next j [])) (sym e)
                (subst (λ (g : List Node). IsLaidPage inner level old new (base + n) (get_or over n no_child) g) (sym (last_at front more []))
                (subst (λ (c : Child). IsLaidPage inner level old new (base + n) c more) (sym set_is) at_last))
          ];
      kept = λ q under.
          took.same q (λ e. omega (arith, e, at, under))
          ∙ (raising_like now (raising old (heads_in inner groups)) hs q (laid.order ∙ sym (raising_order old (heads_in inner groups)))
          (omega (arith, under, pages_count)) (omega (arith, under, raising_count old (heads_in inner groups))) (laid.kept q under)
          ∙ ap (λ (b : Built). bytes_of b q)
          (sym (raising_append old (heads_in inner groups) hs) ∙ ap (raising old) (sym heads_are)));
      heads = λ h among.
          elim (Contains-append_cases (heads_in inner groups) hs h (subst (λ (l : List ℕ). Contains l h) heads_are among))
          [ inl early ↦ laid.heads h early | inr late ↦ few_old h late ];
      filled = λ k under.
          let old_filled = laid.filled k (omega (arith, under, long, long_next)) in
          let group_k : get_or next k [] ≡ get_or groups k [] =
          front_at front more [] k (omega (arith, under, long_next)) ∙ sym (front_at front last [] k (omega (arith, under, long_next))) in
          let first_k : get_or (get_or next (k + 1) []) 0 no_node ≡ get_or (get_or groups (k + 1) []) 0 no_node =
          elim (cases_lt (k + 1) n) [
            | inl below ↦
                ap (λ (g : List Node). get_or g 0 no_node) (front_at front more [] (k + 1) below ∙ sym (front_at front last [] (k + 1) below))
            | inr beyond ↦
                let e : k + 1 ≡ n = omega (arith, under, beyond, long_next) in
                ap (λ (g : List Node). get_or g 0 no_node) (ap (λ j. get_or next j []) e ∙ last_at front more [])
                ∙ (first_stays last node some
                ∙ sym (ap (λ (g : List Node). get_or g 0 no_node) (ap (λ j. get_or groups j []) e ∙ last_at front last [])))
          ] in
          omega (arith, old_filled, ap (nodes_cost inner) group_k, ap (child_cost inner) first_k);
    }

pub laid_taken : (inner : InnerType) (level : ℕ) (old now new : Built) (above : List Child) (nodes : List Node) (node : Node) (child : Child)
    (count : ℕ)
    → (laid : IsLevelLaid inner level old now above nodes) → IsChild inner old child node → 0 < length above
    → TakesNode inner level now new (get_or above (length above - 1) no_child).page (get_or laid.groups (length laid.groups - 1) []) node
    → count ≡ (get_or above (length above - 1) no_child).count + child.count
    → IsLevelLaid inner level old new (set above (length above - 1) (counting (get_or above (length above - 1) no_child) count)) (nodes ++ (node ∷ []))
laid_taken inner level old now new above nodes node child count laid is some took sum =
    let groups : List (List Node) = laid.groups in
    let many = laid.laid.many in
    let (front, last, split) = split_last groups (omega (arith, many, some)) in
    let n : ℕ = length front in
    let long : length groups ≡ n + 1 = ap length split ∙ length-append front (last ∷ []) in
    let at_above : length above - 1 ≡ n = omega (arith, many, long) in
    let at_groups : length groups - 1 ≡ n = omega (arith, long) in
    let group_is : get_or groups (length groups - 1) [] ≡ last = ap (get_or groups (length groups - 1)) refl ∙ (ap (λ j. get_or groups j []) at_groups
    ∙ (ap (λ (gs : List (List Node)). get_or gs n []) split ∙ last_at front last [])) in
    let page_is = (last_is inner level old now above groups laid.laid some).page_is in
    let by : IsLaidBy inner level old now above (front ++ (last ∷ [])) = subst (IsLaidBy inner level old now above) split laid.laid in
    let p : ℕ = (get_or above (length above - 1) no_child).page in
    let took_last : TakesNode inner level now new p last node = subst (λ (g : List Node). TakesNode inner level now new p g node) group_is took in
    let sum_n : count ≡ (get_or above n no_child).count + child.count = sum ∙ ap (λ j. (get_or above j no_child).count + child.count) at_above in
    let done = taken_by inner level old now new above front last node child p count by is (page_is ∙ ap (λ k. length old.pages + k) at_groups)
    took_last sum_n in
    record {
      groups = front ++ ((last ++ (node ∷ [])) ∷ []);
      joined_is = joined_more front last node
          ∙ ap (λ (l : List Node). l ++ (node ∷ [])) (ap (flat_map (λ (group : List Node). group)) (sym split) ∙ laid.joined_is);
      laid = subst (λ j. IsLaidBy inner level old new (set above j (counting (get_or above j no_child) count))
          (front ++ ((last ++ (node ∷ [])) ∷ [])))
          (sym at_above) done;
    }

-- the same where the last page is read from the level, and its count is written there
pub laid_takes : (inner : InnerType) (level : ℕ) (old now new : Built) (above : List Child) (nodes : List Node) (node : Node) (child last : Child)
    (n count : ℕ)
    → (laid : IsLevelLaid inner level old now above nodes) → IsChild inner old child node → 0 < length above → n ≡ length above
    → last ≡ get_or above (length above - 1) no_child
    → TakesNode inner level now new (get_or above (length above - 1) no_child).page (get_or laid.groups (length laid.groups - 1) []) node
    → count ≡ last.count + child.count → IsLevelLaid inner level old new (set above (n - 1) (counting last count)) (nodes ++ (node ∷ []))
laid_takes inner level old now new above nodes node child last n count laid is some long here took sum =
    subst (λ (l : List Child). IsLevelLaid inner level old new l (nodes ++ (node ∷ [])))
    (ap (λ (c : Child). set above (length above - 1) (counting c count)) (sym here) ∙ ap (λ k. set above (k - 1) (counting last count)) (sym long))
    (laid_taken inner level old now new above nodes node child count laid is some took (sum ∙ ap (λ (c : Child). c.count + child.count) here))

pub sum_is : (r : Option ℕ) (P : Type 0) (v x : ℕ) → SomeIff r P v → r ≡ Some x → x ≡ v
sum_is r P v x is e = (subst (λ o. SomeIff o P v) e is).1

-- A new page.

pub laid_started : (inner : InnerType) (level : ℕ) (old now new : Built) (above : List Child) (nodes : List Node) (node : Node) (child : Child)
    (p : ℕ)
    → IsLevelLaid inner level old now above nodes → IsChild inner old child node → IsStarted inner level now new p node
    → (0 < length above → LacksRoom inner now (get_or above (length above - 1) no_child).page node)
    → IsLevelLaid inner level old new (above ++ (record { page = p; count = child.count; leaf = child.leaf } ∷ [])) (nodes ++ (node ∷ []))
laid_started inner level old now new above nodes node child p laid is start lacks =
    let groups : List (List Node) = laid.groups in
    let by = laid.laid in
    let n : ℕ = length groups in
    let one : List Node = node ∷ [] in
    let next : List (List Node) = groups ++ (one ∷ []) in
    let page : Child = record { page = p; count = child.count; leaf = child.leaf } in
    let over : List Child = above ++ (page ∷ []) in
    let long_next : length next ≡ n + 1 = length-append groups (one ∷ []) in
    let many : length above ≡ n = by.many in
    let count = by.count in
    let base : ℕ = length old.pages in
    let heads_are : heads_in inner next ≡ heads_in inner groups =
    flat_map-append (heads_under inner) groups (one ∷ []) ∙ append-nil (heads_in inner groups) in
    record {
      groups = next;
      joined_is = flat_map-append (λ (group : List Node). group) groups (one ∷ []) ∙ ap (λ (l : List Node). l ++ one) laid.joined_is;
      laid = record {
        size = start.size ∙ by.size;
        order = start.order ∙ by.order;
        whole = start.whole;
        many = length-append above (page ∷ []) ∙ (ap (λ k. k + 1) many ∙ sym long_next);
        count = omega (arith, start.count, count, long_next);
        pages = λ k under.
            elim (cases_lt k n) [
              | inl below ↦
                  let q : ℕ = base + k in
                  let was = by.pages k below in
                  let stays : bytes_of new q ≡ bytes_of now q = start.same q (omega (arith, count, below)) in
                  let moved : IsLaidPage inner level old new q (get_or above k no_child) (get_or groups k []) =
                  page_moved inner level old now new q (get_or above k no_child) (get_or groups k []) was
                  (subst (λ o. HoldsChildren inner o (bytes_of new q) q level (get_or groups k [])) (sym start.order)
                  (subst (λ bs. HoldsChildren inner now.order bs q level (get_or groups k [])) (sym stays) was.holds)) in
                  subst (λ (g : List Node). IsLaidPage inner level old new q (get_or over k no_child) g) (sym (front_at groups one [] k below))
                  (subst (λ (c : Child). IsLaidPage inner level old new q c (get_or groups k []))
                  (sym (front_at above page no_child k (omega (arith, below, many)))) moved)
              | inr beyond ↦
                  let e : k ≡ n = omega (arith, under, beyond, long_next) in
                  let number : p ≡ base + n = start.number ∙ count in
                  let fresh : IsLaidPage inner level old new (base + n) page one = record {
                    page_is = number;
                    count_is = let c = is.count_is in omega (arith, c);
                    some = omega arith;
                    key = is.key;
                    holds = subst (λ q. HoldsChildrenOn inner new q level one) number start.holds;
                  } in
                  let at_page : get_or over n no_child ≡ page = get_or_push above page no_child n many in
                  subst (λ j. IsLaidPage inner level old new (base + j) (get_or over j no_child) (get_or next j [])) (sym e)
                  (subst (λ (g : List Node). IsLaidPage inner level old new (base + n) (get_or over n no_child) g) (sym (last_at groups one []))
                  (subst (λ (c : Child). IsLaidPage inner level old new (base + n) c one) (sym at_page) fresh))
            ];
        kept = λ q under.
            start.same q (omega (arith, under, count)) ∙ (by.kept q under ∙ ap (λ hs. bytes_of (raising old hs) q) (sym heads_are));
        heads = λ h among. by.heads h (subst (λ (l : List ℕ). Contains l h) heads_are among);
        filled = λ k under.
            elim (cases_lt (k + 1) n) [
              | inl below ↦
                  let old_filled = by.filled k below in
                  omega (
                    arith,
                    old_filled,
                    ap (nodes_cost inner) (front_at groups one [] k (omega (arith, below))),
                    ap (λ (g : List Node). child_cost inner (get_or g 0 no_node)) (front_at groups one [] (k + 1) below),
                  )
              | inr beyond ↦
                  let e : k + 1 ≡ n = omega (arith, under, beyond, long_next) in
                  let some : 0 < length above = omega (arith, e, many) in
                  let last = last_is inner level old now above groups by some in
                  let k_is : n - 1 ≡ k = omega (arith, e) in
                  let q : ℕ = (get_or above (length above - 1) no_child).page in
                  let full = lacks some in
                  let there = last.there in
                  let size : length (bytes_of now q) ≡ now.size = by.whole q there in
                  let old_size : now.size ≡ old.size = by.size in
                  let room = last.holds.room in
                  let group_k : get_or next k [] ≡ get_or groups (n - 1) [] =
                  front_at groups one [] k (omega (arith, e)) ∙ ap (λ j. get_or groups j []) (sym k_is) in
                  let first_k : get_or next (k + 1) [] ≡ one = ap (λ j. get_or next j []) e ∙ last_at groups one [] in
                  omega (
                    arith,
                    full,
                    size,
                    old_size,
                    room,
                    ap (nodes_cost inner) group_k,
                    ap
                        (λ (g : List Node). child_cost inner (get_or g 0 no_node)) first_k,
                  )
            ];
      };
    }

-- a level whose last page has no room stays as it was
pub stays_as : (inner : InnerType) (level : ℕ) (now new : Built) (above over : List Child) (child : Child) (took : Bool) → took ≡ false
    → CanPush inner level now above child.leaf
    → ((old : Built) (nodes : List Node) (node : Node) → IsLevelLaid inner level old now above nodes → IsChild inner old child node
    → LaidNow took inner level old now new above over nodes node) → new ≡ now
stays_as inner level now new above over child took not_taken can says =
    let node : Node = record { page = child.page; count = child.count; leaves = []; key = can.key } in
    (subst (λ b. LaidNow b inner level can.old now new above over can.nodes node) not_taken
    (says can.old can.nodes node can.laid (record { page_is = refl; count_is = refl; key = can.has }))).0

-- A level without pages yet.

pub laid_none : (inner : InnerType) (level : ℕ) (old : Built) → AreWhole old → IsLevelLaid inner level old old [] []
laid_none inner level old whole = record {
  groups = [];
  joined_is = refl;
  laid = record {
    size = refl;
    order = refl;
    whole = whole;
    many = refl;
    count = omega arith;
    pages = λ k under. absurd (omega (arith, under));
    kept = λ q under. refl;
    heads = λ h among. absurd (no_member [] h refl among);
    filled = λ k under. absurd (omega (arith, under));
  };
}

-- Children, one by one.

pub as_many : (inner : InnerType) (built : Built) (children : List Child) (nodes : List Node) → AreChildren inner built children nodes
    → length nodes ≡ length children
as_many inner built [] [] are = refl
as_many inner built [] (node ∷ nodes) are = absurd are
as_many inner built (child ∷ children) [] are = absurd are
as_many inner built (child ∷ children) (node ∷ nodes) are = ap suc (as_many inner built children nodes are.1)

pub child_at : (inner : InnerType) (built : Built) (children : List Child) (nodes : List Node) (k : ℕ) → AreChildren inner built children nodes
    → k < length children → IsChild inner built (get_or children k no_child) (get_or nodes k no_node)
child_at inner built [] nodes k are under = absurd (omega (arith, under))
child_at inner built (child ∷ children) [] k are under = absurd are
child_at inner built (child ∷ children) (node ∷ nodes) zero are under = are.0
child_at inner built (child ∷ children) (node ∷ nodes) (suc k) are under = child_at inner built children nodes k are.1 (omega (arith, under))
