-- A descent splits the leaves of a tree.
use Rattle.std.proofs.Common.{◌≡◌, ◌∙◌, inl, inr, ℕ, zero, suc, ◌+◌, ◌-◌, ◌<◌, ◌≤◌, Bool, true, false, List, [], ◌∷◌, ◌++◌, length, map, get_or, take, drop}
use Rattle.std.proofs.Common.{refl, sym, ap, subst, arith, append_assoc, Some, None, Contains, flat_map}
use Rattle.std.proofs.lemmas.List.{drop_more, get_or-drop, get_or-take, length-drop, length-take, take-append-drop}
use Rattle.std.proofs.lemmas.List.Elements.{Contains-append_cases}
use Rattle.std.proofs.lemmas.List.Folds.{flat_map-map}
use Rattle.std.proofs.lemmas.List.Concat.{flat_map-append}
use Rattle.bdb_btree.specs.of_format.Terms.{File, Internal, InternalItem, Listed, StoredPair, children_in, file_of, leaves, less, page_at, pairs_of}
use Rattle.bdb_btree.specs.of_format.Terms.{tree_pairs, type_in, value_of}
use Rattle.bdb_btree.proofs.of_format.LessLemmas.{less_above, less_trans}
use Rattle.bdb_btree.proofs.of_format.MemberLemmas.{in_flat_map, in_map, no_member, of_flat_map}
use Rattle.bdb_btree.proofs.of_format.TypeLemmas.{tree_keyed}
use Rattle.bdb_btree.specs.of_image.Linked.{IsForest}
use Rattle.bdb_btree.specs.of_slots.Slots.{no_internal_item}
use Rattle.bdb_tree.specs.Descent.{IsLastFalse, chosen, descent, next_below}
use Rattle.bdb_tree.proofs.DescentLemmas.{chosen_is, internal_inside, internal_is, is_inner, is_inner_below}
use Rattle.bdb_tree.proofs.TreeLemmas.{HasTypeAt, IsChild, child_is, leaves_of_inner, leaves_of_leaf, level, tree_cases, tree_level}
use Rattle.bdb_tree.proofs.WayLemmas.{chosen_among}
use Rattle.bdb_btree.specs.Search.{is_below}
use Rattle.bdb_btree.proofs.FindLemmas.{AllSeparated, AreSeparated, all_separated, keyed_inner, last_from, no_inner, step_down}
use Rattle.bdb_btree.proofs.InnerLemmas.{child_keyed}
use Rattle.bdb_btree.proofs.RootLemmas.{root_keyed}
use Rattle.bdb_range.specs.Spans.{DescentsSplit, Splits}

abbrev item_of : List InternalItem → ℕ → InternalItem
item_of items i = get_or items i no_internal_item

abbrev key_of : File → List InternalItem → ℕ → List ℕ
key_of file items i = value_of file (item_of items i).key

-- A page's leaves around the child that is chosen.

-- the item at a place inside is the same whatever stands past the end
get_or_any : {X : Type 0} (xs : List X) (k : ℕ) (x d : X) → k < length xs → get_or xs k x ≡ x → get_or xs k d ≡ x
get_or_any [] k x d lt is = absurd (omega arith)
get_or_any (y ∷ ys) zero x d lt is = is
get_or_any (y ∷ ys) (suc k) x d lt is = get_or_any ys k x d (omega arith) is

-- one of the first so many, or of those from a place on
at_front : {X : Type 0} (xs : List X) (i : ℕ) (x d : X) → Contains (take i xs) x → (j : ℕ) × (j < i) × (j < length xs) × (get_or xs j d ≡ x)
at_front xs i x d (k, lt, is) =
    let low : k < length (take i xs) = lt in
    let size : length (take i xs) ≤ i = omega (arith, length-take i xs) in
    let inside : length (take i xs) ≤ length xs = omega (arith, length-take i xs) in
    (k, omega arith, omega arith, sym (get_or-take i xs k d (omega arith)) ∙ get_or_any (take i xs) k x d lt is)

at_back : {X : Type 0} (xs : List X) (i : ℕ) (x d : X) → Contains (drop i xs) x → (j : ℕ) × (i ≤ j) × (j < length xs) × (get_or xs j d ≡ x)
at_back xs i x d (k, lt, is) =
    let low : k < length (drop i xs) = lt in
    let size : length (drop i xs) ≡ length xs - i = length-drop i xs in
    (i + k, omega arith, omega arith, sym (get_or-drop i xs k d) ∙ get_or_any (drop i xs) k x d lt is)

abbrev leaves_below : File → List InternalItem → List ℕ
leaves_below file items = flat_map (λ (item : InternalItem). leaves file item.child) items

split_items : (file : File) (items : List InternalItem) (i : ℕ) → i < length items
    → leaves_below file items ≡ leaves_below file (take i items) ++ (leaves file (item_of items i).child ++ leaves_below file (drop (i + 1) items))
split_items file items i low =
    ap (leaves_below file) (sym (take-append-drop i items) ∙ ap (λ rest. take i items ++ rest) (drop_more items i no_internal_item low))
    ∙ flat_map-append (λ (item : InternalItem). leaves file item.child) (take i items) (item_of items i ∷ drop (i + 1) items)

-- a pair on a leaf below a child is one of those below it
pair_below : (file : File) (c q : ℕ) (pair : StoredPair) → Contains (leaves file c) q → Contains (pairs_of file q) pair → Contains (tree_pairs file c) pair
unfolding tree_pairs
pair_below file c q pair at its = in_flat_map (pairs_of file) (leaves file c) q pair at its

joined_split : (first last before after : List ℕ) (leaf : ℕ) → first ++ ((before ++ (leaf ∷ after)) ++ last) ≡ (first ++ before) ++ (leaf ∷ (after ++ last))
joined_split first last before after leaf =
    ap (λ xs. first ++ xs) (append_assoc before (leaf ∷ after) last) ∙ sym (append_assoc first before (leaf ∷ (after ++ last)))

-- what is split below the chosen child is split below the page
widened : (file : File) (p : ℕ) (key : List ℕ) (items : List InternalItem) (i leaf : ℕ) → AreSeparated file items → IsLastFalse (is_below file key) items i
    → leaves file p ≡ leaves_below file items → Splits file (item_of items i).child key leaf → Splits file p key leaf
widened file p key items i leaf apart last are below = record {
  before = leaves_below file (take i items) ++ below.before;
  after = below.after ++ leaves_below file (drop (i + 1) items);
  are = are ∙ (split_items file items i last.inside
      ∙ (ap (λ xs. leaves_below file (take i items) ++ (xs ++ leaves_below file (drop (i + 1) items))) below.are
      ∙ joined_split (leaves_below file (take i items)) (leaves_below file (drop (i + 1) items)) below.before below.after leaf));
  lower = λ q pair at its.
      elim (Contains-append_cases (leaves_below file (take i items)) below.before q at) [
        | inl front ↦
            let found = of_flat_map (λ (item : InternalItem). leaves file item.child) (take i items) q front in
            let place : (j : ℕ) × (j < i) × (j < length items) × (get_or items j no_internal_item ≡ found.0) =
            at_front items i found.0 no_internal_item found.1 in
            let j : ℕ = place.0 in
            let before : j < i = place.1 in
            let there : Contains (leaves file (item_of items j).child) q =
            subst (λ (item : InternalItem). Contains (leaves file item.child) q) (sym place.3) found.2 in
            less_above pair.key (key_of file items i) key (apart.earlier i j pair last.inside before
            (pair_below file (item_of items j).child q pair there its)) (last.is_false (omega arith))
        | inr here ↦ below.lower q pair here its
      ];
  upper = λ q pair at its.
      elim (Contains-append_cases below.after (leaves_below file (drop (i + 1) items)) q at) [
        | inl here ↦ below.upper q pair here its
        | inr back ↦
            let found = of_flat_map (λ (item : InternalItem). leaves file item.child) (drop (i + 1) items) q back in
            let place : (j : ℕ) × (i + 1 ≤ j) × (j < length items) × (get_or items j no_internal_item ≡ found.0) =
            at_back items (i + 1) found.0 no_internal_item found.1 in
            let j : ℕ = place.0 in
            let past : i + 1 ≤ j = place.1 in
            let inside : j < length items = place.2 in
            let there : Contains (leaves file (item_of items j).child) q =
            subst (λ (item : InternalItem). Contains (leaves file item.child) q) (sym place.3) found.2 in
            not_less pair.key (key_of file items (i + 1)) key
            (apart.later (i + 1) j pair (omega arith) past inside (pair_below file (item_of items j).child q pair there its))
            (last.later (i + 1) (omega arith) (omega arith))
      ];
}
  where
    not_less : (a bound key : List ℕ) → less a bound ≡ false → less key bound ≡ true → less a key ≡ false
    not_less a bound key above below =
        elim (less a key) as (λ b. less a key ≡ b → less a key ≡ false) [
          | true ↦ λ is. absurd (let both : less a bound ≡ true = less_trans a key bound is below in cc)
          | false ↦ λ is. is
        ] refl

splits_below : (levels : ℕ) (image key : List ℕ) (p : ℕ) → IsForest image → level (file_of image) p ≡ levels
    → HasTypeAt (file_of image) (3 ∷ 5 ∷ 12 ∷ []) p → AllSeparated (file_of image) p
    → Splits (file_of image) p key (descent levels (file_of image) (is_below (file_of image) key) p)
splits_below zero image key p forest is keyed apart =
    let high : 1 ≤ level (file_of image) p = tree_level image p forest (tree_keyed (type_in (page_at (file_of image) p)) keyed) in absurd (omega arith)
splits_below (suc n) image key p forest is keyed apart =
    let file : File = file_of image in
    let test : InternalItem → Bool = is_below file key in
    elim (tree_cases image p forest (tree_keyed (type_in (page_at file p)) keyed)) [
      | inr leaf ↦
          let here : descent (suc n) file test p ≡ p = step_down n file test p None (no_inner test (page_at file p) leaf.none) in
          record {
            before = [];
            after = [];
            are = leaves_of_leaf file p leaf ∙ ap (λ q. q ∷ []) (sym here);
            lower = λ q pair at its. absurd (no_member [] q refl at);
            upper = λ q pair at its. absurd (no_member [] q refl at);
          }
      | inl inner ↦
          let view : (view : Listed InternalItem) × (page_at file p ≡ Internal view) = keyed_inner (page_at file p) inner.children inner.are keyed in
          let page : Listed InternalItem = view.0 in
          let here : page_at file p ≡ Internal page = view.1 in
          let formed = internal_is image p page forest (internal_inside image p page here) here in
          let some : 0 < length page.items = formed.1 in
          let last : (i : ℕ) × IsLastFalse test page.items i =
          last_from test page.items (length page.items - 1) (omega arith) (λ j above inside. absurd (omega arith)) in
          let i : ℕ = last.0 in
          let c : ℕ = chosen test page.items in
          let c_is : c ≡ (item_of page.items i).child = chosen_is test page.items i last.1 in
          let found : (item : InternalItem) × Contains page.items item × (item.child ≡ c) = chosen_among test page.items formed.1 in
          let member : Contains (map (λ (item : InternalItem). item.child) page.items) c =
          subst (Contains (map (λ (item : InternalItem). item.child) page.items)) found.2
          (in_map (λ (item : InternalItem). item.child) page.items found.0 found.1) in
          let child : IsChild file p c = child_is image p c (map (λ (item : InternalItem). item.child) page.items) forest (ap children_in here) member in
          let apart_here : AreSeparated file page.items = apart p page (is_inner file p page (omega (arith, formed.0)) here) here in
          let below : Splits file c key (descent n file test c) =
          splits_below n image key c forest (omega (arith, child.level))
          (child_keyed image p c (map (λ (item : InternalItem). item.child) page.items) forest keyed (ap children_in here) member)
          (λ q other at its. apart q other (is_inner_below file p page c q here member child at) its) in
          let all : leaves file p ≡ leaves_below file page.items =
          leaves_of_inner image p (map (λ (item : InternalItem). item.child) page.items) forest (ap children_in here)
          ∙ flat_map-map (leaves file) (λ (item : InternalItem). item.child) page.items in
          let down : descent (suc n) file test p ≡ descent n file test c = step_down n file test p (Some c) (ap (next_below test) here) in
          subst (Splits file p key) (sym down)
          (widened file p key page.items i (descent n file test c) apart_here last.1 all (subst (λ q. Splits file q key (descent n file test c)) c_is below))
    ]

pub descents_split : DescentsSplit
descents_split image meta key forest has keys none =
    splits_below (level (file_of image) meta.root) image key meta.root forest refl (root_keyed image meta forest has keys) (all_separated image meta keys none)
