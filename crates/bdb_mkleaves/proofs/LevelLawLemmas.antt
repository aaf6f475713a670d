-- A level that is laid stands over its nodes in each later file.
use Rattle.std.proofs.Common.{◌≡◌, ℕ, zero, suc, ◌+◌, ◌-◌, ◌<◌, ◌≤◌, List, [], ◌∷◌, length, map, get_or, None, arith, refl, sym, ◌∙◌, ap, subst, inl, inr, length-append}
use Rattle.bdb_mkleaves.proofs.Common.{All, Contains, flat_map, range_with_len, cases_lt, page_so_far, Header, Chain, Content, File, Inline, Internal, Overflow, Page, RecnoInternal, Set, Tree}
use Rattle.bdb_mkleaves.proofs.Common.{Unknown, abstract_page, header_in, header_of, page_at, page_code, first_member, in_flat_map, later_member, member_cases, member_or_not, no_member, IsSamePage}
use Rattle.bdb_mkleaves.proofs.Common.{InnerType, Keyed, Numbered, AreOver, CountsTwo, IsOver, Node, no_node, key_heads, Built, bytes_of, file_so_far, byte_same, CountsFew, HasLiveKeys, HasNodes}
use Rattle.bdb_mkleaves.proofs.Common.{HoldsChildrenOn, KeysCount, child_cost, first_cost, nodes_cost, AreChildren, HasKey, IsChild, IsLevelLaid, IsLaidBy, KeyStandsOn, IsKeptPage, LevelsAreFormed}
use Rattle.bdb_mkleaves.proofs.Common.{LevelsAreLater, LevelsAreNumbered, LevelsGoOn, LevelsKeepPages, LevelsShrink, LevelsStand, heads_in, heads_of, heads_under, no_child, node_over, nodes_over, Child}
use Rattle.bdb_mkleaves.proofs.InnerLemmas.{IsRaised, chain_as, children_are_formed, children_stand, few_raised, raised_stands}
use Rattle.bdb_mkleaves.proofs.LevelHeadLemmas.{raising_head, raising_other}
use Rattle.bdb_mkleaves.proofs.LevelLemmas.{laid_keeps}
use Rattle.bdb_mkleaves.proofs.LevelTakeLemmas.{key_kept}
use Rattle.bdb_mkleaves.proofs.LiveLemmas.{no_keys}

-- Pages in a later file.

no_overflow : (inner : InnerType) (page : Page) (nodes : List Node) (header : Header) (piece : List ℕ) → HasNodes inner page nodes → page
    ≡ Overflow header piece → ⊥
no_overflow Keyed page nodes header piece (l, is, items) other = let e : Internal l ≡ Overflow header piece = sym is ∙ other in cc
no_overflow Numbered page nodes header piece (l, is, items) other = let e : RecnoInternal l ≡ Overflow header piece = sym is ∙ other in cc

-- an internal page stays
inner_same : (inner : InnerType) (old new : Page) (nodes : List Node) → HasNodes inner old nodes → IsSamePage old new → new ≡ old
inner_same inner old new nodes has (inl same) = same
inner_same inner old new nodes has (inr more) = absurd (no_overflow inner old nodes more.header more.piece has more.before)

-- the head of a chain goes on to count as many
two_in : (old new : Page) (header : Header) (piece : List ℕ) → old ≡ Overflow header piece → header.entries ≡ 2 → IsSamePage old new
    → 2 ≤ (header_in new).entries
two_in old new header piece is two (inl same) =
    let e : (header_in new).entries ≡ header.entries = ap (λ q. (header_in q).entries) (same ∙ is) in omega (arith, e, two)
two_in old new header piece is two (inr more) =
    let e : more.header.entries ≡ header.entries = ap (λ q. (header_in q).entries) (sym more.before ∙ is) in
    let after : (header_in new).entries ≡ more.count = ap (λ q. (header_in q).entries) more.after in
    let least = more.more in omega (arith, e, after, two, least)

-- what a chain's head counts in a later file, once it is named by a key
record IsNamed (old now : Built) (h : ℕ) : Type 0 where
  low : h < length old.pages
  few : CountsFew old.order (bytes_of old h)
  is : IsRaised old.order (bytes_of old h) (bytes_of now h)

named : (inner : InnerType) (level : ℕ) (old now : Built) (above : List Child) (groups : List (List Node)) (h : ℕ)
    → IsLaidBy inner level old now above groups
    → Contains (heads_in inner groups) h → IsNamed old now h
named inner level old now above groups h laid at =
    let (low, few) = laid.heads h at in
    record {
      low = low;
      few = few;
      is = subst (IsRaised old.order (bytes_of old h)) (sym (laid.kept h low)) (raising_head old (heads_in inner groups) h at low few.long);
    }

counts_two : (g : File) (old : Built) (key : Content) → KeyStandsOn old key
    → ((h : ℕ) → Contains (key_heads key) h → 2 ≤ (header_in (page_at g h)).entries)
    → CountsTwo g key
counts_two g old (Inline bytes) stands two = tt
counts_two g old (Chain head total) stands two = two head (first_member head [])
counts_two g old (Set blocks) stands two = stands
counts_two g old (Tree root) stands two = stands
counts_two g old Unknown stands two = stands

pub member_at : {X : Type 0} (xs : List X) (d : X) (k : ℕ) → k < length xs → Contains xs (get_or xs k d)
member_at {X} [] d k low = absurd (omega (arith, low))
member_at {X} (x ∷ xs) d zero low = first_member x xs
member_at {X} (x ∷ xs) d (suc k) low = later_member x xs (get_or xs k d) (member_at xs d k (omega (arith, low)))

all_count : (g : File) (old : Built) (nodes : List Node) → ((node : Node) → Contains nodes node → KeyStandsOn old node.key)
    → ((h : ℕ) → Contains (flat_map (heads_of Keyed) nodes) h → 2 ≤ (header_in (page_at g h)).entries)
    → All (λ (node : Node). CountsTwo g node.key) nodes
all_count g old nodes stands two = λ k d low.
    let node : Node = get_or nodes k d in
    let at : Contains nodes node = member_at nodes d k low in
    counts_two g old node.key (stands node at) (λ h among. two h (in_flat_map (heads_of Keyed) nodes node h at among))

keys_count : (inner : InnerType) (g : File) (old : Built) (nodes : List Node)
    → ((node : Node) → Contains nodes node → (leaf : ℕ) × HasKey inner old leaf node.key)
    → ((h : ℕ) → Contains (heads_under inner nodes) h → 2 ≤ (header_in (page_at g h)).entries) → KeysCount inner g nodes
keys_count Keyed g old [] stands two = tt
keys_count Keyed g old (node ∷ nodes) stands two = all_count g old nodes (λ other at. (stands other (later_member node nodes other at)).1.stands) two
keys_count Numbered g old nodes stands two = tt

pub keys_of : (inner : InnerType) (old : Built) (children : List Child) (nodes : List Node) (node : Node) → AreChildren inner old children nodes
    → Contains nodes node → (leaf : ℕ) × HasKey inner old leaf node.key
keys_of inner old [] [] node are at = absurd (no_member [] node refl at)
keys_of inner old [] (other ∷ nodes) node are at = absurd are
keys_of inner old (child ∷ children) [] node are at = absurd are
keys_of inner old (child ∷ children) (other ∷ nodes) node are at =
    elim (member_cases other nodes node at) [
      | inl here ↦ subst (λ (n : Node). (leaf : ℕ) × HasKey inner old leaf n.key) here (child.leaf, are.0.key)
      | inr later ↦ keys_of inner old children nodes node are.1 later
    ]

-- The level.

all_over : (inner : InnerType) (g : File) (level p : ℕ) (groups : List (List Node))
    → ((k : ℕ) → k < length groups → IsOver inner g level (node_over (p + k) (get_or groups k [])) (get_or groups k []))
    → AreOver inner g level (nodes_over p groups) (flat_map (λ group. group) groups)
all_over inner g level p [] over = refl
all_over inner g level p (group ∷ groups) over =
    let first : p + 0 ≡ p = omega arith in (
      group,
      flat_map (λ (other : List Node). other) groups,
      refl,
      subst (λ q. IsOver inner g level (node_over q group) group) first (over 0 (omega arith)),
      all_over inner g level (p + 1) groups
          (λ k under.
          let next : p + suc k ≡ p + 1 + k = omega arith in
          subst (λ q. IsOver inner g level (node_over q (get_or groups k [])) (get_or groups k [])) next (over (suc k) (omega (arith, under)))),
    )

-- the head of a chain that a key names counts two references, where pages have it as it was laid, in a file that keeps it
pub head_counts : (inner : InnerType) (level : ℕ) (old now new : Built) (above : List Child) (groups : List (List Node)) (g : File) (h : ℕ)
    → IsLaidBy inner level old now above groups → Contains (heads_in inner groups) h → new.order ≡ now.order → h < length new.pages
    → bytes_of new h ≡ bytes_of now h → IsSamePage (page_at (file_so_far new) h) (page_at g h) → 2 ≤ (header_in (page_at g h)).entries
head_counts inner level old now new above groups g h laid at order under same later =
    let is = named inner level old now above groups h laid at in
    let few : CountsFew old.order (bytes_of now h) = few_raised old.order (bytes_of old h) (bytes_of now h) is.few is.is in
    let page = page_so_far new h under
    ∙ (ap (λ o. abstract_page o (bytes_of new h)) (order ∙ laid.order)
    ∙ (ap (abstract_page old.order) same ∙ chain_as old.order (bytes_of now h) few.long few.type_is)) in
    two_in (page_at (file_so_far new) h) (page_at g h) (header_of old.order (bytes_of now h)) _ page is.is.entries later

-- the nodes of a group are among those of the level
pub group_node : (groups : List (List Node)) (nodes : List Node) (k : ℕ) (node : Node) → flat_map (λ group. group) groups ≡ nodes → k < length groups
    → Contains (get_or groups k []) node → Contains nodes node
group_node groups nodes k node joined under at =
    subst (λ (l : List Node). Contains l node) joined
    (in_flat_map (λ (other : List Node). other) groups (get_or groups k []) node (member_at groups [] k under) at)

-- a page with nodes stands over them in a file that keeps it, where the heads of their keys count two references
pub page_over : (inner : InnerType) (level : ℕ) (old new : Built) (g : File) (p : ℕ) (below : List Child) (nodes group : List Node)
    → HoldsChildrenOn inner new p level group → 0 < length group → p < length new.pages
    → IsSamePage (page_at (file_so_far new) p) (page_at g p) → AreChildren inner old below nodes
    → ((node : Node) → Contains group node → Contains nodes node)
    → ((h : ℕ) → Contains (heads_under inner group) h → 2 ≤ (header_in (page_at g h)).entries) → IsOver inner g level (node_over p group) group
page_over inner level old new g p below nodes group holds some low later are among two =
    let there = page_so_far new p low in
    let same : page_at g p ≡ abstract_page new.order (bytes_of new p) =
    inner_same inner (page_at (file_so_far new) p) (page_at g p) group (subst (λ (q : Page). HasNodes inner q group) (sym there) holds.is) later
    ∙ there in
    let keys : KeysCount inner g group = keys_count inner g old group (λ node at. keys_of inner old below nodes node are (among node at)) two in
    record {
      items = children_stand inner new p level group g holds some keys same;
      some = some;
      count = refl;
      leaves = refl;
      key = refl;
    }

pub levels_stand : LevelsStand
levels_stand inner level old new below above nodes pages g laid are all heads later =
    let groups : List (List Node) = laid.groups in
    let by = laid.laid in
    let count = by.count in
    let base : ℕ = length old.pages in
    let two : (h : ℕ) → Contains (heads_in inner groups) h → 2 ≤ (header_in (page_at g h)).entries =
    λ h at.
    let low = (by.heads h at).0 in
    head_counts inner level old new new above groups g h by at refl (omega (arith, low, count)) refl (later.same h (heads h at)) in
    subst (AreOver inner g level (nodes_over base groups)) laid.joined_is
    (all_over inner g level base groups
    (λ k under.
    let group : List Node = get_or groups k [] in
    let page = by.pages k under in
    let low : base + k < length new.pages = omega (arith, under, count) in
    page_over inner level old new g (base + k) below nodes group page.holds page.some low
    (later.same (base + k) (all (base + k) (omega arith) low)) are
    (λ node at. group_node groups nodes k node laid.joined_is under at)
    (λ h at. two h (in_flat_map (heads_under inner) groups group h (member_at groups [] k under) at))))

all_children : (inner : InnerType) (built : Built) (p : ℕ) (above : List Child) (groups : List (List Node)) → length above ≡ length groups
    → ((k : ℕ) → k < length groups → IsChild inner built (get_or above k no_child) (node_over (p + k) (get_or groups k [])))
    → AreChildren inner built above (nodes_over p groups)
all_children inner built p [] [] many is = tt
all_children inner built p [] (group ∷ groups) many is = absurd (omega (arith, many))
all_children inner built p (child ∷ above) [] many is = absurd (omega (arith, many))
all_children inner built p (child ∷ above) (group ∷ groups) many is =
    let first : p + 0 ≡ p = omega arith in (
      subst (λ q. IsChild inner built child (node_over q group)) first (is 0 (omega arith)),
      all_children inner built (p + 1) above groups (omega (arith, many))
          (λ k under.
          let next : p + suc k ≡ p + 1 + k = omega arith in
          subst (λ q. IsChild inner built (get_or above k no_child) (node_over q (get_or groups k []))) next (is (suc k) (omega (arith, under)))),
    )

pub levels_go_on : LevelsGoOn
levels_go_on inner level old new above nodes laid =
    let by = laid.laid in
    all_children inner new (length old.pages) above laid.groups by.many
    (λ k under.
    let page = by.pages k under in
    record {
      page_is = sym page.page_is;
      count_is = sym page.count_is;
      key = key_kept inner old new (heads_in inner laid.groups) (get_or above k no_child).leaf _ (laid_keeps inner level old new above laid.groups by)
          page.key;
    })

pub numbers_over : (p : ℕ) (groups : List (List Node)) → map (λ (node : Node). node.page) (nodes_over p groups) ≡ range_with_len p (length groups)
numbers_over p [] = refl
numbers_over p (group ∷ groups) = ap (λ (ps : List ℕ). p ∷ ps) (numbers_over (p + 1) groups)

pub levels_are_numbered : LevelsAreNumbered
levels_are_numbered inner level old new above nodes laid =
    let by = laid.laid in (
      numbers_over (length old.pages) laid.groups ∙ ap (range_with_len (length old.pages)) (sym by.many),
      by.count ∙ ap (λ n. length old.pages + n) (sym by.many),
    )

pub levels_are_formed : LevelsAreFormed
levels_are_formed inner level old new above nodes p laid high low under =
    let by = laid.laid in
    let count = by.count in
    let k : ℕ = p - length old.pages in
    let is : length old.pages + k ≡ p = omega (arith, low) in
    let page = by.pages k (omega (arith, is, under, count)) in
    subst (λ q. page_code new.order q (bytes_of new q) ≡ None) is
    (children_are_formed inner new.order (bytes_of new (length old.pages + k)) (length old.pages + k) level (get_or laid.groups k []) page.holds high
    page.some)

-- no key of its pages is marked deleted
pub levels_live : (inner : InnerType) (level : ℕ) (old new : Built) (above : List Child) (nodes : List Node) (p : ℕ)
    → IsLevelLaid inner level old new above nodes → length old.pages ≤ p → p < length new.pages → HasLiveKeys new.order (bytes_of new p)
levels_live inner level old new above nodes p laid low under =
    let by = laid.laid in
    let count = by.count in
    let k : ℕ = p - length old.pages in
    let is : length old.pages + k ≡ p = omega (arith, low) in
    subst (λ q. HasLiveKeys new.order (bytes_of new q)) is (by.pages k (omega (arith, is, under, count))).holds.live

pub levels_keep_pages : LevelsKeepPages
levels_keep_pages inner level old new above nodes p laid low =
    let by = laid.laid in
    let heads : List ℕ = heads_in inner laid.groups in
    subst (λ o. IsKeptPage old (record new { order = o }) heads p) (sym by.order)
    (elim (member_or_not heads p) [
      | inl at ↦
          let is = named inner level old new above laid.groups p by at in
          let stands = raised_stands old.order p (bytes_of old p) (bytes_of new p) is.few is.is in
          record {
            same = λ out. absurd (out at);
            two = λ among. is.is.entries;
            page = stands.0;
            form = stands.1;
            live = λ live. no_keys old.order (bytes_of new p) 7 (byte_same (bytes_of new p) (bytes_of old p) 22 25 is.is.body (omega arith) ∙ is.few.type_is)
                (λ e. omega (arith, e));
          }
      | inr out ↦
          let same : bytes_of new p ≡ bytes_of old p = by.kept p low ∙ raising_other old heads p out in
          record {
            same = λ other. same;
            two = λ among. absurd (out among);
            page = inl (ap (abstract_page old.order) same);
            form = ap (page_code old.order p) same;
            live = λ live. subst (HasLiveKeys old.order) (sym same) live;
          }
    ])

pub levels_are_later : LevelsAreLater
levels_are_later inner level old new above nodes pages laid among =
    let count = laid.laid.count in
    record {
      no_queue_before = λ is. cc;
      no_queue = λ is. cc;
      grows = omega (arith, count);
      same = λ p there.
          let low : p < length old.pages = among p there in
          let kept = levels_keep_pages inner level old new above nodes p laid low in
          subst (λ (q : Page). IsSamePage q (page_at (file_so_far new) p)) (sym (page_so_far old p low))
          (subst (IsSamePage (abstract_page old.order (bytes_of old p))) (sym (page_so_far new p (omega (arith, low, count)))) kept.page);
    }

-- How many pages a level has.

-- lists of two or more, but that the last may have one
crowded : (groups : List (List Node)) → ((k : ℕ) → k < length groups → 0 < length (get_or groups k []))
    → ((k : ℕ) → k + 1 < length groups → 2 ≤ length (get_or groups k [])) → 0 < length groups
    → length groups + length groups ≤ length (flat_map (λ (group : List Node). group) groups) + 1
crowded [] some two any = absurd (omega (arith, any))
crowded (group ∷ []) some two any =
    let one : 0 < length group = some 0 (omega arith) in omega (arith, one, length-append group [])
crowded (group ∷ next ∷ groups) some two any =
    let more : 2 ≤ length group = two 0 (omega arith) in
    let rest : List (List Node) = next ∷ groups in
    let others : length rest + length rest ≤ length (flat_map (λ (g : List Node). g) rest) + 1 =
    crowded (next ∷ groups) (λ k under. some (suc k) (omega (arith, under))) (λ k under. two (suc k) (omega (arith, under))) (omega arith) in
    omega (arith, more, others, length-append group (flat_map (λ (g : List Node). g) rest))

first_most : (inner : InnerType) → first_cost inner ≤ 14
first_most Keyed = omega arith
first_most Numbered = omega arith

-- a group that has no room for a node that costs so little has two
holds_two : (inner : InnerType) (size cost : ℕ) (group : List Node) → 0 < length group → cost + 40 ≤ size → size - 26 < nodes_cost inner group + cost
    → 2 ≤ length group
holds_two inner size cost [] some low full = absurd (omega (arith, some))
holds_two inner size cost (node ∷ []) some low full = absurd (omega (arith, low, full, first_most inner))
holds_two inner size cost (node ∷ other ∷ others) some low full = omega arith

pub levels_shrink : LevelsShrink
levels_shrink inner level old new above nodes laid low many =
    let groups : List (List Node) = laid.groups in
    let by = laid.laid in
    let as_many : length above ≡ length groups = by.many in
    let all : length (flat_map (λ (group : List Node). group) groups) ≡ length nodes = ap length laid.joined_is in
    elim (cases_lt 0 (length groups)) [
      | inl any ↦
          let some : (k : ℕ) → k < length groups → 0 < length (get_or groups k []) = λ k under. (by.pages k under).some in
          let two : (k : ℕ) → k + 1 < length groups → 2 ≤ length (get_or groups k []) =
          λ k under.
          let next : List Node = get_or groups (k + 1) [] in
          let first : Node = get_or next 0 no_node in
          let among : Contains nodes first =
          subst (λ (l : List Node). Contains l first) laid.joined_is
          (in_flat_map (λ (group : List Node). group) groups next first (member_at groups [] (k + 1) under)
          (member_at next no_node 0 (some (k + 1) under))) in
          holds_two inner old.size (child_cost inner first) (get_or groups k []) (some k (omega (arith, under))) (low first among) (by.filled k under)
          in
          let twice = crowded groups some two any in
          omega (arith, twice, all, as_many, many)
      | inr none ↦ omega (arith, none, as_many, many)
    ]
