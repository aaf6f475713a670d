-- A tree that is laid is a branch: its leaves stand over what they name, and the levels over them.
use Rattle.std.proofs.Common.{◌≡◌, ◌⊎◌, ℕ, ◌+◌, ◌≤◌, Bool, true, false, List, [], ◌∷◌, ◌++◌, get_or, map, length, Some, append-nil, arith, refl, sym, ◌∙◌, ap, subst, inl, inr, true≢false, ◌==◌, ◌||◌}
use Rattle.bdb_mkleaves.proofs.Common.{All, AllZip, Contains, filter, flat_map, list_any, range_with_len, eqb-false, false_from_ne_true, or_from, or_left, or_cases, map-map, All-head, All-map}
use Rattle.bdb_mkleaves.proofs.Common.{Contains-append_left, Contains-append_right, Contains-get_or, Chain, Content, File, Inline, Item, Listed, Set, Tree, Unknown, content_chains, content_targets}
use Rattle.bdb_mkleaves.proofs.Common.{contents_in, has_type, held_by, is_head_reference, is_wrong_length, page_at, refs, targets_in, type_in, first_member, in_flat_map, in_map, member_cases}
use Rattle.bdb_mkleaves.proofs.Common.{no_member, none_pass, of_filter, of_map, IsBranch, are_heads_alone, owners_among, ChainFits, ContentFits, FilledLeaf, IsFilled, content_pages, pages_held}
use Rattle.bdb_mkleaves.proofs.Common.{of_list, all_names, ascend_once, chain_fits, leaf_names, leaves_stand_over, names_fit, count, count-append, named_count, named_not, named_reference, once_apart}
use Rattle.bdb_mkleaves.proofs.Common.{some_count, Node, IsHeadOnce, IsOfLevel, KeyStands, KeysStand, is_of, key_heads, types_below, InnerType, Keyed, Numbered, all_heads, Entry, contents_of, leaf_of}
use Rattle.bdb_mkleaves.proofs.Common.{own_entry, type_number, IsKeyOf, IsTreeLaid, IsNodeOf, LaidTreesAreBranches, entries_on, filled_leaf, held_by_leaves, inner_of, tree_pages, HoldsUnits}
use Rattle.bdb_mkleaves.proofs.Common.{IsOneValue, LeafUnits, Placed, PlacedEntry, PlacedPairs, PlacedTree, entries_of, further_entries, pages_of, tree_item, LeafType, Pairs, Records, SortedData}
use Rattle.bdb_places.specs.of_format.declared.references.Reference.{Reference}
use Rattle.bdb_pack.specs.of_law_grove.Standing.{named_by, names}
use Rattle.bdb_pack.proofs.of_law_grove.OwnerLemmas.{filter_first, names_page, one_of_range}
use Rattle.bdb_pack.proofs.of_law_grove.TakeLemmas.{filter_inner}
use Rattle.bdb_law_levels.specs.Branches.{KeyHasLength}
use Rattle.bdb_law_levels.specs.Roots.{pages_of as level_pages}
use Rattle.bdb_law_levels.proofs.BranchLemmas.{towers_are_branches}
use Rattle.bdb_mkleaves.proofs.LaidLemmas.{at_bottom, hold_units, node_pages, of_leaves}

-- Leaves over the rest.

targets_are : (type : LeafType) (p : ℕ) (page : Listed Item)
    → targets_in p (leaf_of type page) ≡ flat_map content_targets (contents_in (leaf_of type page))
targets_are Pairs p page = refl
targets_are Records p page = refl
targets_are SortedData p page = refl

is_filled : (type : LeafType) (g : File) (rest : ℕ → Bool) (leaf : LeafUnits) → HoldsUnits type g leaf
    → (1 ≤ leaf.page) × (leaf.page ≤ g.last) × (rest leaf.page ≡ false) → All (ContentFits g) (contents_of type (entries_on leaf))
    → IsFilled g rest (filled_leaf type leaf)
is_filled type g rest leaf holds inside fit = grind (arith, targets_are)

numbers_of : (type : LeafType) (placed : List LeafUnits) → map (λ (leaf : FilledLeaf). leaf.page) (map (filled_leaf type) placed) ≡ pages_of placed
numbers_of type placed = map-map (λ (leaf : FilledLeaf). leaf.page) (filled_leaf type) placed

-- the leaves with what they name
abbrev with_leaves : (ℕ → Bool) → List LeafUnits → ℕ → Bool
with_leaves rest placed q = rest q || is_of (pages_of placed) q

-- A leaf of such, and what is known of all.
record IsIn (type : LeafType) (g : File) (rest : ℕ → Bool) (placed : List LeafUnits) (leaf : LeafUnits) : Type 0 where
  there : Contains placed leaf
  holds : HoldsUnits type g leaf
  fit : All (ContentFits g) (contents_of type (entries_on leaf))
  filled_is : IsFilled g rest (filled_leaf type leaf)

all_in : (type : LeafType) (g : File) (rest : ℕ → Bool) (placed : List LeafUnits) (nodes : List Node) (above : List (List Node)) (root : Node)
    → IsTreeLaid type g rest placed nodes above root → All (IsIn type g rest placed) placed
all_in type g rest placed nodes above root laid k d low =
    let leaf : LeafUnits = get_or placed k d in
    let at : Contains placed leaf = Contains-get_or placed k d low in
    let holds : HoldsUnits type g leaf = hold_units type g 0 placed laid.leaves k d low in
    let fit = laid.fit k d low in
    let number : Contains (tree_pages placed above) leaf.page =
    Contains-append_left (pages_of placed) (level_pages above) leaf.page (in_map (λ (one : LeafUnits). one.page) placed leaf at) in
    record { there = at; holds = holds; fit = fit; filled_is = is_filled type g rest leaf holds (laid.inside leaf.page number) fit }

leaves_apart : (type : LeafType) (g : File) (rest : ℕ → Bool) (placed : List LeafUnits) (nodes : List Node) (above : List (List Node)) (root : Node)
    → IsTreeLaid type g rest placed nodes above root → (p : ℕ) → count p (pages_of placed) ≤ 1
leaves_apart type g rest placed nodes above root laid p = omega (arith, laid.apart p, count-append p (pages_of placed) (level_pages above))

leaves_branch : (type : LeafType) (g : File) (rest : ℕ → Bool) (placed : List LeafUnits) (nodes : List Node) (above : List (List Node)) (root : Node)
    → IsTreeLaid type g rest placed nodes above root → IsBranch g (with_leaves rest placed) (pages_of placed)
leaves_branch type g rest placed nodes above root laid =
    let all = all_in type g rest placed nodes above root laid in
    subst (λ ps. IsBranch g (λ q. rest q || is_of ps q) ps) (numbers_of type placed)
    (leaves_stand_over g rest (map (filled_leaf type) placed)
    (record {
      no_queue = laid.no_queue;
      filled = All-map (IsFilled g rest) (filled_leaf type) placed (λ k d low. (all k d low).filled_is);
      apart = λ p. subst (λ ps. count p ps ≤ 1) (sym (numbers_of type placed)) (leaves_apart type g rest placed nodes above root laid p);
      held = laid.held;
    })
    laid.branch)

-- Keys.

begins : (type : LeafType) (item : Item) (entries : List Entry)
    → contents_of type (own_entry item ∷ entries) ≡ item.content ∷ contents_of type entries
begins Pairs item entries = refl
begins Records item entries = refl
begins SortedData item entries = refl

-- the key of a leaf's node is bytes, or the first that the leaf holds, one value
abbrev IsFirst : LeafType → List Entry → Content → Type 0
IsFirst type entries key = (more : List Content) × (contents_of type entries ≡ key ∷ more) × IsOneValue key

first_is : (type : LeafType) (item : Item) (entries : List Entry) (key : Content) → (key ≡ item.content) × IsOneValue key
    → IsFirst type (own_entry item ∷ entries) key
first_is type item entries key is = (contents_of type entries, begins type item entries ∙ ap (λ content. content ∷ contents_of type entries) (sym is.0), is.1)

pub key_first : (type : LeafType) (units : List Placed) (key : Content) → IsKeyOf Keyed (flat_map entries_of units) key
    → ((bytes : List ℕ) × (key ≡ Inline bytes)) ⊎ IsFirst type (flat_map entries_of units) key
key_first type [] key is = inl is
key_first type (PlacedEntry entry ∷ units) key is = inr (first_is type entry.item (flat_map entries_of units) key is)
key_first type (PlacedPairs own first more ∷ units) key is =
    inr (first_is type own.item (own_entry first.item ∷ (flat_map (further_entries own) more ++ flat_map entries_of units)) key is)
key_first type (PlacedTree own root values ∷ units) key is = inr (first_is type own.item (own_entry (tree_item root) ∷ flat_map entries_of units) key is)

heads_named : (key : Content) → IsOneValue key → key_heads key ≡ content_pages key
heads_named (Inline bytes) one = refl
heads_named (Chain head total) one = refl
heads_named (Set blocks) one = absurd one
heads_named (Tree root) one = absurd one
heads_named Unknown one = absurd one

-- a leaf names the head of its key's chain as often as the key
heads_held : (type : LeafType) (leaf : LeafUnits) (key : Content) (e : ℕ) → IsKeyOf Keyed (entries_on leaf) key
    → count e (key_heads key) ≤ count e (pages_held (filled_leaf type leaf))
heads_held type leaf key e is =
    elim (key_first type leaf.units key is) [
      | inl inline ↦ subst (λ k. count e (key_heads k) ≤ count e (pages_held (filled_leaf type leaf))) (sym inline.1) (omega arith)
      | inr first ↦ omega (
        arith,
        ap (count e) (heads_named key first.2),
        ap (λ contents. count e (flat_map content_pages contents)) first.1,
        count-append e (content_pages key) (flat_map content_pages first.0),
      )
    ]

pub heads_of_nodes : (type : LeafType) (placed : List LeafUnits) (nodes : List Node) (e : ℕ) → inner_of type ≡ Keyed
    → AllZip (IsNodeOf type) placed nodes
    → count e (flat_map (λ (node : Node). key_heads node.key) nodes) ≤ count e (held_by_leaves type placed)
heads_of_nodes type [] [] e keyed zip = omega arith
heads_of_nodes type [] (node ∷ nodes) e keyed zip = absurd zip
heads_of_nodes type (leaf ∷ placed) [] e keyed zip = absurd zip
heads_of_nodes type (leaf ∷ placed) (node ∷ nodes) e keyed zip = grind (arith, heads_held, count-append, heads_of_nodes type placed nodes e keyed zip.1)

-- A page that one page alone names.

owned_alone : (g : File) (pages : ℕ → Bool) (p h : ℕ) → pages p ≡ true → p ≤ g.last
    → ((q : ℕ) → pages q ≡ true → (q ≡ p → ⊥) → named_by g q h ≡ []) → owners_among pages g h ≡ named_by g p h
owned_alone g pages p h is high other =
    filter_first (λ q. q == p) (names_page h) (held_by g) (filter pages (range_with_len 0 (g.last + 1)))
    (λ q at differs. other q (of_filter pages (range_with_len 0 (g.last + 1)) q at).1 (eqb-false q p differs))
    ∙ (ap (λ ps. filter (names_page h) (flat_map (held_by g) ps))
    (filter_inner pages p (range_with_len 0 (g.last + 1)) is ∙ one_of_range p 0 (g.last + 1) (omega arith) (omega arith))
    ∙ ap (filter (names_page h)) (append-nil (held_by g p)))

named_twice : (f : ℕ → List ℕ) (ps : List ℕ) (p q h : ℕ) → Contains ps p → Contains ps q → (q ≡ p → ⊥) → Contains (f p) h → Contains (f q) h
    → 2 ≤ count h (flat_map f ps)
named_twice f [] p q h one two apart at_p at_q = absurd (no_member [] p refl one)
named_twice f (x ∷ xs) p q h one two apart at_p at_q =
    elim (member_cases x xs p one) [
      | inl here ↦ elim (member_cases x xs q two) [
        | inl same ↦ absurd (apart (sym same ∙ here))
        | inr later ↦
            let first : 1 ≤ count h (f x) = some_count h (f x) (subst (λ y. Contains (f y) h) (sym here) at_p) in
            omega (arith, first, count-append h (f x) (flat_map f xs), some_count h (flat_map f xs) (in_flat_map f xs q h later at_q))
      ]
      | inr later ↦ elim (member_cases x xs q two) [
        | inl here ↦
            let first : 1 ≤ count h (f x) = some_count h (f x) (subst (λ y. Contains (f y) h) (sym here) at_q) in
            omega (arith, first, count-append h (f x) (flat_map f xs), some_count h (flat_map f xs) (in_flat_map f xs p h later at_p))
        | inr both ↦ omega (arith, named_twice f xs p q h later both apart at_p at_q, count-append h (f x) (flat_map f xs))
      ]
    ]

count_within : (f : ℕ → List ℕ) (ps : List ℕ) (p h : ℕ) → Contains ps p → count h (f p) ≤ count h (flat_map f ps)
count_within f [] p h at = absurd (no_member [] p refl at)
count_within f (x ∷ xs) p h at =
    elim (member_cases x xs p at) [
      | inl here ↦ omega (arith, ap (λ y. count h (f y)) here, count-append h (f x) (flat_map f xs))
      | inr later ↦ omega (arith, count_within f xs p h later, count-append h (f x) (flat_map f xs))
    ]

-- The key of a leaf stands: its chain has its head among the rest, and the leaf names it, alone and once.

head_once : (type : LeafType) (g : File) (rest : ℕ → Bool) (placed : List LeafUnits) (nodes : List Node) (above : List (List Node)) (root : Node)
    → IsTreeLaid type g rest placed nodes above root → (leaf : LeafUnits) → IsIn type g rest placed leaf
    → (h total : ℕ) → IsFirst type (entries_on leaf) (Chain h total) → IsHeadOnce g (with_leaves rest placed) h
head_once type g rest placed nodes above root laid leaf is h total first =
    record {
      there = or_left (rest h) (is_of (pages_of placed) h) (laid.branch.grove.entered h entrance);
      heads = ap are_heads_alone owned ∙ all_heads (named_by g leaf.page h) (λ owner at.
          let found = named_reference g leaf.page h owner at in
          ap (λ (r : Reference). is_head_reference r.sort) found.2
          ∙ elim (names_fit g rest (filled_leaf type leaf) found.0 laid.no_queue is.filled_is found.1) [
            | inl head ↦ ap is_head_reference head.0
            | inr set ↦ absurd (true≢false (sym set.1.type
                ∙ ap (has_type (3 ∷ 4 ∷ 6 ∷ 12 ∷ [])) (ap (λ p. type_in (page_at g p)) found.3 ∙ fits.type)))
          ]);
      once = ap length owned ∙ (named_count leaf.page h (refs g leaf.page) ∙ one);
    }
  where
    pages : ℕ → Bool
    pages = with_leaves rest placed

    all : All (IsIn type g rest placed) placed
    all = all_in type g rest placed nodes above root laid

    fits : ChainFits g h total
    fits = All-head (ContentFits g) (Chain h total) first.0 (subst (All (ContentFits g)) first.1 is.fit)

    held : Contains (pages_held (filled_leaf type leaf)) h
    held = subst (λ contents. Contains (flat_map content_pages contents) h) (sym first.1) (first_member h (flat_map content_pages first.0))

    number : Contains (pages_of placed) leaf.page
    number = in_map (λ (other : LeafUnits). other.page) placed leaf is.there

    named : Contains (names g leaf.page) h
    named = subst (λ ps. Contains ps h) (sym (leaf_names g rest (filled_leaf type leaf) laid.no_queue is.filled_is)) held

    -- all names of all leaves
    same : flat_map (names g) (pages_of placed) ≡ held_by_leaves type placed
    same = ap (flat_map (names g)) (sym (numbers_of type placed))
        ∙ all_names g rest (map (filled_leaf type) placed) laid.no_queue
        (All-map (IsFilled g rest) (filled_leaf type) placed (λ k d low. (all k d low).filled_is))

    entrance : Contains (held_by_leaves type placed) h
    entrance = subst (λ ps. Contains ps h) same (in_flat_map (names g) (pages_of placed) leaf.page h number named)

    at_most : count h (flat_map (names g) (pages_of placed)) ≤ 1
    at_most = subst (λ ps. count h ps ≤ 1) (sym same) (ascend_once 0 h (held_by_leaves type placed) laid.held)

    one : count h (names g leaf.page) ≡ 1
    one = omega (arith, at_most, some_count h (names g leaf.page) named, count_within (names g) (pages_of placed) leaf.page h number)

    owned : owners_among pages g h ≡ named_by g leaf.page h
    owned = owned_alone g pages leaf.page h
        ((leaves_branch type g rest placed nodes above root laid).grove.entered leaf.page number) is.filled_is.high
        (λ q of differs. named_not g q h (λ at. elim (or_cases (rest q) (is_of (pages_of placed) q) of) [
          | inl old ↦ by_rest q old at
          | inr new ↦ omega (
            arith,
            at_most,
            named_twice (names g) (pages_of placed) leaf.page q h number
                (of_list (pages_of placed) q new) differs named at,
          )
        ]))
      where
        by_rest : (q : ℕ) → rest q ≡ true → Contains (names g q) h → ⊥
        by_rest q old at =
            let found = of_map (λ (r : Reference). r.target) (refs g q) h at in
            laid.branch.grove.apart q found.0 old found.1 (subst (Contains (held_by_leaves type placed)) (sym found.2) entrance)

key_stands : (type : LeafType) (g : File) (rest : ℕ → Bool) (placed : List LeafUnits) (nodes : List Node) (above : List (List Node)) (root : Node)
    → IsTreeLaid type g rest placed nodes above root → (leaf : LeafUnits) → IsIn type g rest placed leaf → (key : Content)
    → ((bytes : List ℕ) × (key ≡ Inline bytes)) ⊎ IsFirst type (entries_on leaf) key → KeyStands g (with_leaves rest placed) key
key_stands type g rest placed nodes above root laid leaf is key (inl inline) = subst (KeyStands g (with_leaves rest placed)) (sym inline.1) tt
key_stands type g rest placed nodes above root laid leaf is (Inline bytes) (inr first) = tt
key_stands type g rest placed nodes above root laid leaf is (Chain h total) (inr first) =
    head_once type g rest placed nodes above root laid leaf is h total first
key_stands type g rest placed nodes above root laid leaf is (Set blocks) (inr first) = absurd first.2
key_stands type g rest placed nodes above root laid leaf is (Tree number) (inr first) = absurd first.2
key_stands type g rest placed nodes above root laid leaf is Unknown (inr first) = absurd first.2

key_long : (type : LeafType) (g : File) (leaf : LeafUnits) (key : Content) → All (ContentFits g) (contents_of type (entries_on leaf))
    → ((bytes : List ℕ) × (key ≡ Inline bytes)) ⊎ IsFirst type (entries_on leaf) key
    → list_any (is_wrong_length g) (content_chains key) ≡ false
key_long type g leaf key fit (inl inline) = ap (λ k. list_any (is_wrong_length g) (content_chains k)) inline.1
key_long type g leaf key fit (inr first) =
    none_pass (is_wrong_length g) (content_chains key) (λ chain.
    chain_fits g key chain (All-head (ContentFits g) key first.0 (subst (All (ContentFits g)) first.1 fit)))

keys_stand : (type : LeafType) (g : File) (rest : ℕ → Bool) (placed : List LeafUnits) (nodes : List Node) (above : List (List Node)) (root : Node)
    → IsTreeLaid type g rest placed nodes above root → (inner : InnerType) → inner_of type ≡ inner
    → KeysStand inner g (with_leaves rest placed) nodes × All (KeyHasLength inner g) nodes
keys_stand type g rest placed nodes above root laid Keyed keyed =
    let all : All (IsIn type g rest placed) placed = all_in type g rest placed nodes above root laid in
    let first : (leaf : LeafUnits) (node : Node) → IsNodeOf type leaf node
    → ((bytes : List ℕ) × (node.key ≡ Inline bytes)) ⊎ IsFirst type (entries_on leaf) node.key = λ leaf node is.
    key_first type leaf.units node.key (subst (λ inner. IsKeyOf inner (entries_on leaf) node.key) keyed is.key) in (
      (
        of_leaves (IsNodeOf type) (IsIn type g rest placed) (λ node. KeyStands g (with_leaves rest placed) node.key)
            (λ leaf node is at. key_stands type g rest placed nodes above root laid leaf at node.key (first leaf node is))
            placed nodes laid.nodes_are all,
        λ h. omega (arith, heads_of_nodes type placed nodes h keyed laid.nodes_are, ascend_once 0 h (held_by_leaves type placed) laid.held),
      ),
      of_leaves (IsNodeOf type) (IsIn type g rest placed) (KeyHasLength Keyed g)
          (λ leaf node is at. key_long type g leaf node.key at.fit (first leaf node is))
          placed nodes laid.nodes_are all,
    )
keys_stand type g rest placed nodes above root laid Numbered numbered = (tt, λ k d low. tt)

-- The levels over the leaves.

right_type : (type : LeafType) → has_type (types_below (inner_of type) 2) (Some (type_number type)) ≡ true
right_type Pairs = refl
right_type Records = refl
right_type SortedData = refl

of_level : (type : LeafType) (g : File) (leaf : LeafUnits) (node : Node) → IsNodeOf type leaf node → HoldsUnits type g leaf
    → IsOfLevel (inner_of type) g 1 node
of_level type g leaf node is holds = grind (arith, at_bottom, right_type)

pub laid_trees_are_branches : LaidTreesAreBranches
laid_trees_are_branches type g rest placed nodes above root laid =
    let same : map (λ (node : Node). node.page) nodes ≡ pages_of placed = node_pages type placed nodes laid.nodes_are in
    let branch : IsBranch g (with_leaves rest placed) (map (λ (node : Node). node.page) nodes) =
    subst (IsBranch g (with_leaves rest placed)) (sym same) (leaves_branch type g rest placed nodes above root laid) in
    let keys : KeysStand (inner_of type) g (with_leaves rest placed) nodes × All (KeyHasLength (inner_of type) g) nodes =
    keys_stand type g rest placed nodes above root laid (inner_of type) refl in
    towers_are_branches (inner_of type) g (with_leaves rest placed) 1 nodes above root
    (record {
      tower = laid.tower;
      no_queue = laid.no_queue;
      low = omega arith;
      grove = branch.grove;
      once = λ p. subst (λ ps. count p ps ≤ 1) (sym same) (leaves_apart type g rest placed nodes above root laid p);
      kinds = of_leaves (IsNodeOf type) (HoldsUnits type g) (IsOfLevel (inner_of type) g 1) (of_level type g) placed nodes laid.nodes_are
          (hold_units type g 0 placed laid.leaves);
      keys = keys.0;
      inside = λ p at.
          let within = laid.inside p (Contains-append_right (pages_of placed) (level_pages above) p at) in (
            within.0,
            within.1,
            or_from (rest p) (is_of (pages_of placed) p) within.2 (false_from_ne_true (is_of (pages_of placed) p)
                (λ is. once_apart p (pages_of placed) (level_pages above) (laid.apart p) (of_list (pages_of placed) p is) at)),
          );
      apart = λ p. omega (arith, laid.apart p, count-append p (pages_of placed) (level_pages above));
    })
    keys.1 branch
