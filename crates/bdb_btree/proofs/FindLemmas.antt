-- What a key has in a btree: pairs with the sought key stand below the child that a descent chooses, and so on one leaf.
use Rattle.std.proofs.Common.{◌≡◌, ℕ, zero, suc, ◌+◌, ◌-◌, ◌<◌, ◌≤◌, Bool, true, false, not, cond, List, [], ◌∷◌, ◌++◌, length, map, get_or, take, drop, Option}
use Rattle.std.proofs.Common.{Some, None, arith, refl, sym, ◌∙◌, ap, subst, inl, inr, append-nil, ◌&&◌, ◌==◌, nat_le}
use Rattle.std.specs.List.{Contains, flat_map, list_any, range_with_len}
use Rattle.std.specs.Str.{bytes_eq}
use Rattle.std.proofs.lemmas.Bool.{cases_Bool, cases_lt, eq-eqb, le-leb, not-false, or_parts}
use Rattle.std.proofs.lemmas.Bool.Decides.{nat_tests}
use Rattle.std.proofs.lemmas.List.Folds.{flat_map-map}
use Rattle.std.proofs.lemmas.List.{get_or-drop, get_or-map, get_or-take, length-drop, length-map, length-take}
use Rattle.std.proofs.lemmas.List.Elements.{Contains-get_or}
use Rattle.std.proofs.lemmas.Option.{slice_get-get_or}
use Rattle.std.proofs.lemmas.Slice.Eq.{bytes_eq-Decides}
use Rattle.bdb_ranks.specs.of_format.declared.metadata.BtreeMeta.{BtreeMeta}
use Rattle.bdb_ranks.specs.of_format.Terms.{BtreeFields, BytesKey, File, Internal, InternalItem, Listed, Page, RecnoInternal, Separated, StoredPair, breaks}
use Rattle.bdb_ranks.specs.of_format.Terms.{btree_contents, btree_list, children_in, data_of, database_faults, database_rows, file_of, get, has_type}
use Rattle.bdb_ranks.specs.of_format.Terms.{has_wrong_separator, head_of, header_in, inner_pages, is_recno, leaves, less, listed_pair, no_separator, page_at}
use Rattle.bdb_ranks.specs.of_format.Terms.{pairs_of, separated, structure_faults, tree_pairs, type_in, value_of}
use Rattle.bdb_ranks.specs.of_format.Verdict.{holding}
use Rattle.bdb_ranks.proofs.of_format.MemberLemmas.{first_member, in_flat_map, in_map, in_range, later_member, none_passes}
use Rattle.bdb_ranks.proofs.of_format.VerdictLemmas.{AllFail, all_fail, no_codes_at}
use Rattle.bdb_ranks.specs.of_image.Linked.{FitsLeafPage, HasMetadata, IsForest}
use Rattle.bdb_ranks.specs.of_slots.Slots.{no_internal_item}
use Rattle.bdb_ranks.proofs.of_graph.LinkedLemmas.{root_fits}
use Rattle.bdb_ranks.specs.of_overflow.Datum.{FitsContent}
use Rattle.bdb_ranks.proofs.of_overflow.ContentLemmas.{key_fits}
use Rattle.bdb_ranks.specs.of_tree.Descent.{AllMonotone, AllReadable, IsLastFalse, chosen, descent, go_on, next_below}
use Rattle.bdb_ranks.proofs.of_tree.DescentLemmas.{chosen_is, internal_inside, internal_is, is_inner, is_inner_below, monotone_by_neighbours}
use Rattle.bdb_ranks.proofs.of_tree.WayLemmas.{chosen_among}
use Rattle.bdb_btree.specs.Pairs.{AreFit, FitsPair, left_of}
use Rattle.bdb_btree.specs.Search.{AreOpen, data_under, found_left, from_key, is_below, under}
use Rattle.bdb_btree.proofs.InnerLemmas.{child_keyed}
use Rattle.bdb_btree.proofs.PairLemmas.{pair_of_page}
use Rattle.bdb_btree.proofs.WalkLemmas.{each_of}
use Rattle.bdb_btree.proofs.RootLemmas.{root_keyed}
use Rattle.bdb_ranks.proofs.of_tree.ShapeLemmas.{IsLeafPage}
use Rattle.bdb_ranks.proofs.of_tree.TreeLemmas.{HasTypeAt, IsChild, child_is, leaves_of_inner, leaves_of_leaf, level, root_cases, tree_cases, tree_level}
use Rattle.bdb_ranks.proofs.of_format.ListLemmas.{flat_map_twice}
use Rattle.bdb_ranks.proofs.of_format.BoolLemmas.{second_false}
use Rattle.bdb_ranks.proofs.of_format.TypeLemmas.{of_type, tree_keyed}
use Rattle.bdb_ranks.proofs.of_format.PairLemmas.{get_append, keyed_rows}
use Rattle.bdb_ranks.proofs.of_format.LessLemmas.{eq_same, less_trans}

-- What a list has under a key.

under_get : (k key : List ℕ) (values : List (List ℕ)) (b : Bool) → bytes_eq k key ≡ b → get (under k values) (BytesKey key) ≡ cond b values []
under_get k key [] true is = refl
under_get k key [] false is = refl
under_get k key (value ∷ values) true is = rw is (ap (λ rest. value ∷ rest) (under_get k key values true is))
under_get k key (value ∷ values) false is = rw is (under_get k key values false is)

get_pair : (file : File) (key : List ℕ) (pair : StoredPair) → get (listed_pair file pair) (BytesKey key) ≡ data_under file key pair
get_pair file key pair =
    let values : List (List ℕ) = data_of file pair.data_item in
    elim pair.live as (λ b. get (cond b (under pair.key values) []) (BytesKey key) ≡ cond (bytes_eq pair.key key) (cond b values []) []) [
      | true ↦ under_get pair.key key values (bytes_eq pair.key key) refl
      | false ↦ grind (arith, nat_tests)
    ]

get_pairs : (file : File) (key : List ℕ) (pairs : List StoredPair)
    → get (flat_map (listed_pair file) pairs) (BytesKey key) ≡ flat_map (data_under file key) pairs
get_pairs file key [] = refl
get_pairs file key (pair ∷ pairs) = grind (arith, get_append, get_pair, get_pairs file key pairs)

-- the data below a page that a key has
abbrev pub data_below : File → List ℕ → ℕ → List (List ℕ)
data_below file key p = flat_map (data_under file key) (tree_pairs file p)

-- pairs of other keys give nothing

nothing_under : (file : File) (key : List ℕ) (pairs : List StoredPair) → ((pair : StoredPair) → Contains pairs pair → bytes_eq pair.key key ≡ false)
    → flat_map (data_under file key) pairs ≡ []
nothing_under file key [] other = refl
nothing_under file key (pair ∷ pairs) other =
    rw (other pair (first_member pair pairs)) (nothing_under file key pairs (λ next at. other next (later_member pair pairs next at)))

pub from_key_same : (file : File) (key : List ℕ) (pairs : List StoredPair)
    → flat_map (data_under file key) (from_key key pairs) ≡ flat_map (data_under file key) pairs
from_key_same file key [] = refl
from_key_same file key (pair ∷ pairs) =
    elim (cases_Bool (bytes_eq pair.key key)) [ inl is ↦ rw is (rw is refl) | inr is ↦ rw is (from_key_same file key pairs) ]

-- Keys.

-- a key that is less than a bound isn't one that isn't
other_key : (a key bound : List ℕ) (b : Bool) → less a bound ≡ b → less key bound ≡ not b → bytes_eq a key ≡ false
other_key a key bound b one other = grind (arith, nat_tests, eq_same a key)

-- Lists of pages.

all_empty : {X Y : Type 0} (f : X → List Y) (d : X) (xs : List X) → ((j : ℕ) → j < length xs → f (get_or xs j d) ≡ []) → flat_map f xs ≡ []
all_empty f d [] none = refl
all_empty f d (x ∷ xs) none = ap (λ first. first ++ flat_map f xs) (none 0 (omega arith)) ∙ all_empty f d xs (λ j low. none (suc j) (omega arith))

-- where each place but one gives nothing
only_one : {X Y : Type 0} (f : X → List Y) (d : X) (xs : List X) (i : ℕ) → i < length xs
    → ((j : ℕ) → j < length xs → (j ≡ i → ⊥) → f (get_or xs j d) ≡ []) → flat_map f xs ≡ f (get_or xs i d)
only_one f d [] i low none = absurd (omega arith)
only_one f d (x ∷ xs) zero low none =
    ap (λ rest. f x ++ rest) (all_empty f d xs (λ j inside. none (suc j) (omega arith) (λ same. omega arith))) ∙ append-nil (f x)
only_one f d (x ∷ xs) (suc i) low none =
    ap (λ first. first ++ flat_map f xs) (none 0 (omega arith) (λ same. omega arith))
    ∙ only_one f d xs i (omega arith) (λ j inside other. none (suc j) (omega arith) (λ same. other (omega arith)))

-- The pairs below a page.

pairs_of_leaf : (file : File) (p : ℕ) → IsLeafPage (page_at file p) → tree_pairs file p ≡ pairs_of file p
unfolding tree_pairs
pairs_of_leaf file p leaf = ap (flat_map (pairs_of file)) (leaves_of_leaf file p leaf) ∙ append-nil (pairs_of file p)

pairs_of_inner : (image : List ℕ) (p : ℕ) (children : List ℕ) → IsForest image → children_in (page_at (file_of image) p) ≡ Some children
    → tree_pairs (file_of image) p ≡ flat_map (tree_pairs (file_of image)) children
unfolding tree_pairs
pairs_of_inner image p children forest are =
    ap (flat_map (pairs_of (file_of image))) (leaves_of_inner image p children forest are)
    ∙ flat_map_twice (pairs_of (file_of image)) (leaves (file_of image)) children

data_of_inner : (image : List ℕ) (key : List ℕ) (p : ℕ) (page : Listed InternalItem) → IsForest image → page_at (file_of image) p ≡ Internal page
    → data_below (file_of image) key p ≡ flat_map (λ (item : InternalItem). data_below (file_of image) key item.child) page.items
data_of_inner image key p page forest is =
    let file : File = file_of image in
    ap (flat_map (data_under file key)) (pairs_of_inner image p (map (λ (item : InternalItem). item.child) page.items) forest (ap children_in is))
    ∙ (flat_map_twice (data_under file key) (tree_pairs file) (map (λ (item : InternalItem). item.child) page.items)
    ∙ flat_map-map (data_below file key) (λ (item : InternalItem). item.child) page.items)

-- Separators.

in_drop : {X : Type 0} (xs : List X) (m j : ℕ) (d : X) → m ≤ j → j < length xs → Contains (drop m xs) (get_or xs j d)
in_drop xs m j d above low =
    subst (Contains (drop m xs)) (get_or-drop m xs (j - m) d ∙ ap (λ n. get_or xs n d) (let same : m + (j - m) ≡ j = omega arith in same))
    (Contains-get_or (drop m xs) (j - m) d (simp length-drop (omega arith)))

in_take : {X : Type 0} (xs : List X) (m j : ℕ) (d : X) → j < m → j < length xs → Contains (take m xs) (get_or xs j d)
in_take xs m j d below low =
    subst (Contains (take m xs)) (get_or-take m xs j d below) (Contains-get_or (take m xs) j d (simp length-take (omega arith)))

abbrev item_of : List InternalItem → ℕ → InternalItem
item_of items i = get_or items i no_internal_item

abbrev key_of : File → List InternalItem → ℕ → List ℕ
key_of file items i = value_of file (item_of items i).key

-- the separators of an internal page ascend, and keep the keys below its children apart
pub record AreSeparated (file : File) (items : List InternalItem) : Type 0 where
  pub ascend : (m : ℕ) → 2 ≤ m → m < length items
      → less (value_of file (get_or items (m - 1) no_internal_item).key) (value_of file (get_or items m no_internal_item).key) ≡ true
  pub later : (m j : ℕ) (pair : StoredPair) → 1 ≤ m → m ≤ j → j < length items
      → Contains (tree_pairs file (get_or items j no_internal_item).child) pair
      → less pair.key (value_of file (get_or items m no_internal_item).key) ≡ false
  pub earlier : (m j : ℕ) (pair : StoredPair) → m < length items → j < m → Contains (tree_pairs file (get_or items j no_internal_item).child) pair
      → less pair.key (value_of file (get_or items m no_internal_item).key) ≡ true

-- what a separator at which the row doesn't hold says
record IsApart (parts : List Separated) (m : ℕ) : Type 0 where
  ascends : (nat_le 2 m && not (less (get_or parts (m - 1) no_separator).key (get_or parts m no_separator).key)) ≡ false
  later : list_any (λ other. less other (get_or parts m no_separator).key) (flat_map (λ (part : Separated). part.below) (drop m parts)) ≡ false
  earlier : list_any (λ other. not (less other (get_or parts m no_separator).key))
      (flat_map (λ (part : Separated). part.below) (take m parts)) ≡ false

apart : (file : File) (page : Listed InternalItem) (m : ℕ) → has_wrong_separator file (Internal page) ≡ false → 1 ≤ m → m < length page.items
    → IsApart (map (separated file) page.items) m
apart file page m right some low =
    let parts : List Separated = map (separated file) page.items in
    let inside : m < 1 + (length parts - 1) = omega (arith, length-map page.items (separated file)) in
    let none : breaks parts m ≡ false =
    none_passes (breaks parts) (range_with_len 1 (length parts - 1)) m right (in_range 1 (length parts - 1) m some inside) in
    let two = or_parts _ _ none in
    let one = or_parts _ _ two.0 in
    record { ascends = one.0; later = one.1; earlier = two.1 }

-- a key below a child is one of those of its part
key_below : (file : File) (items : List InternalItem) (j : ℕ) (pair : StoredPair) → j < length items
    → Contains (tree_pairs file (item_of items j).child) pair
    → Contains (get_or (map (separated file) items) j no_separator).below pair.key
key_below file items j pair low at =
    subst (λ (part : Separated). Contains part.below pair.key) (sym (get_or-map (separated file) items j no_internal_item no_separator low))
    (in_map (λ (other : StoredPair). other.key) (tree_pairs file (item_of items j).child) pair at)

pub are_separated : (file : File) (page : Listed InternalItem) → has_wrong_separator file (Internal page) ≡ false → AreSeparated file page.items
are_separated file page right =
    let items : List InternalItem = page.items in
    let parts : List Separated = map (separated file) items in
    let count : length parts ≡ length items = length-map items (separated file) in
    let part : (m : ℕ) → m < length items → separated file (item_of items m) ≡ get_or parts m no_separator =
    λ m low. sym (get_or-map (separated file) items m no_internal_item no_separator low) in
    record {
      ascend =
          λ m two low.
          let here : IsApart parts m = apart file page m right (omega arith) low in
          ap (λ (part : Separated). less part.key (key_of file items m)) (part (m - 1) (omega arith))
          ∙ (ap (λ (part : Separated). less (get_or parts (m - 1) no_separator).key part.key) (part m low)
          ∙ not-false _ (second_false (nat_le 2 m) _ (le-leb 2 m two) here.ascends));
      later =
          λ m j pair some above low at.
          let here : IsApart parts m = apart file page m right some (omega arith) in
          let inside : j < length parts = omega arith in
          ap (λ (part : Separated). less pair.key part.key) (part m (omega arith))
          ∙ none_passes (λ other. less other (get_or parts m no_separator).key)
          (flat_map (λ (part : Separated). part.below) (drop m parts)) pair.key here.later
          (in_flat_map (λ (part : Separated). part.below) (drop m parts) (get_or parts j no_separator) pair.key
          (in_drop parts m j no_separator above inside) (key_below file items j pair low at));
      earlier =
          λ m j pair low below at.
          let here : IsApart parts m = apart file page m right (omega arith) low in
          let inside : j < length parts = omega arith in
          ap (λ (part : Separated). less pair.key part.key) (part m low)
          ∙ not-false (less pair.key (get_or parts m no_separator).key)
          (none_passes (λ other. not (less other (get_or parts m no_separator).key)) (flat_map (λ (part : Separated). part.below) (take m parts))
          pair.key here.earlier
          (in_flat_map (λ (part : Separated). part.below) (take m parts) (get_or parts j no_separator) pair.key
          (in_take parts m j no_separator below inside) (key_below file items j pair (omega arith) at)));
    }

-- The child that is chosen.

pub last_from : (test : InternalItem → Bool) (items : List InternalItem) (n : ℕ) → n < length items
    → ((j : ℕ) → n < j → j < length items → test (item_of items j) ≡ true)
    → (i : ℕ) × IsLastFalse test items i
last_from test items zero low later = (0, record { inside = low; is_false = λ some. absurd (omega arith); later = later })
last_from test items (suc n) low later =
    elim (cases_Bool (test (item_of items (suc n)))) [
      | inl is ↦
          last_from test items n (omega arith) (λ j above inside.
          elim (cases_lt (suc n) j) [
            | inl past ↦ later j past inside
            | inr here ↦
                ap (λ m. test (item_of items m)) (let same : j ≡ suc n = omega arith in same) ∙ is
          ])
      | inr is ↦ (suc n, record { inside = low; is_false = λ some. is; later = later })
    ]

-- all that a key has below a page it has below the child that is chosen for it
chosen_data : (file : File) (key : List ℕ) (items : List InternalItem) → 0 < length items → AreSeparated file items
    → flat_map (λ (item : InternalItem). data_below file key item.child) items ≡ data_below file key (chosen (is_below file key) items)
chosen_data file key items some apart =
    let test : InternalItem → Bool = is_below file key in
    let last : (i : ℕ) × IsLastFalse test items i = last_from test items (length items - 1) (omega arith) (λ j above inside. absurd (omega arith)) in
    let i : ℕ = last.0 in
    only_one (λ (item : InternalItem). data_below file key item.child) no_internal_item items i last.1.inside
    (λ j low other.
    elim (cases_lt j i) [
      | inl before ↦
          nothing_under file key (tree_pairs file (item_of items j).child) (λ pair at.
          other_key pair.key key (key_of file items i) true (apart.earlier i j pair last.1.inside before at) (last.1.is_false (omega arith)))
      | inr after ↦
          let past : i < j = omega (arith, other) in
          nothing_under file key (tree_pairs file (item_of items j).child) (λ pair at.
          other_key pair.key key (key_of file items (i + 1)) false (apart.later (i + 1) j pair (omega arith) (omega arith) low at)
          (last.1.later (i + 1) (omega arith) (omega arith)))
    ])
    ∙ ap (data_below file key) (sym (chosen_is test items i last.1))

-- The way down.

pub no_inner : (test : InternalItem → Bool) (page : Page) → children_in page ≡ None → next_below test page ≡ None
no_inner test (Internal page) none = absurd cc
no_inner test page none = refl

pub keyed_inner : (page : Page) (children : List ℕ) → children_in page ≡ Some children → has_type (3 ∷ 5 ∷ 12 ∷ []) (type_in page) ≡ true
    → (view : Listed InternalItem) × (page ≡ Internal view)
keyed_inner (Internal page) children are keyed = (page, refl)
keyed_inner (RecnoInternal page) children are keyed = absurd cc
keyed_inner page children are keyed = absurd cc

pub step_down : (levels : ℕ) (file : File) (test : InternalItem → Bool) (p : ℕ) (next : Option ℕ) → next_below test (page_at file p) ≡ next
    → descent (suc levels) file test p ≡ go_on (descent levels file test) p next
unfolding descent
step_down levels file test p next is = ap (go_on (descent levels file test) p) is

-- each internal page of a tree keeps its keys apart
abbrev pub AllSeparated : File → ℕ → Type 0
AllSeparated file root =
    (q : ℕ) (page : Listed InternalItem) → Contains (inner_pages file root) q → page_at file q ≡ Internal page → AreSeparated file page.items

-- all that a key has below a page it has on the leaf to which a descent leads
data_of_descent : (levels : ℕ) (image key : List ℕ) (p : ℕ) → IsForest image → level (file_of image) p ≡ levels
    → HasTypeAt (file_of image) (3 ∷ 5 ∷ 12 ∷ []) p → AllSeparated (file_of image) p
    → data_below (file_of image) key p ≡ flat_map (data_under (file_of image) key)
    (pairs_of (file_of image) (descent levels (file_of image) (is_below (file_of image) key) p))
data_of_descent zero image key p forest is keyed apart = grind (arith, level, tree_level, tree_keyed)
data_of_descent (suc n) image key p forest is keyed apart =
    let file : File = file_of image in
    let test : InternalItem → Bool = is_below file key in
    elim (tree_cases image p forest (tree_keyed (type_in (page_at (file_of image) p)) keyed)) [
      | inr leaf ↦
          ap (flat_map (data_under file key)) (pairs_of_leaf file p leaf
          ∙ ap (pairs_of file) (sym (step_down n file test p None (no_inner test (page_at file p) leaf.none))))
      | inl inner ↦
          let view : (view : Listed InternalItem) × (page_at file p ≡ Internal view) = keyed_inner (page_at file p) inner.children inner.are keyed in
          let page : Listed InternalItem = view.0 in
          let here : page_at file p ≡ Internal page = view.1 in
          let formed = internal_is image p page forest (internal_inside image p page here) here in
          let c : ℕ = chosen test page.items in
          let found : (item : InternalItem) × Contains page.items item × (item.child ≡ c) = chosen_among test page.items formed.1 in
          let member : Contains (map (λ (item : InternalItem). item.child) page.items) c =
          subst (Contains (map (λ (item : InternalItem). item.child) page.items)) found.2
          (in_map (λ (item : InternalItem). item.child) page.items found.0 found.1) in
          let child : IsChild file p c =
          child_is image p c (map (λ (item : InternalItem). item.child) page.items) forest (ap children_in here) member in
          data_of_inner image key p page forest here
          ∙ (chosen_data file key page.items formed.1 (apart p page (is_inner file p page (omega (arith, formed.0)) here) here)
          ∙ (data_of_descent n image key c forest (omega (arith, child.level))
          (child_keyed image p c (map (λ (item : InternalItem). item.child) page.items) forest keyed (ap children_in here) member)
          (λ q other at its. apart q other (is_inner_below file p page c q here member child at) its)
          ∙ ap (λ q. flat_map (data_under file key) (pairs_of file q)) (sym (step_down n file test p (Some c) (ap (next_below test) here)))))
    ]

-- What sound contents give.

pub all_separated : (image : List ℕ) (meta : BtreeMeta) → is_recno meta ≡ false → database_faults (file_of image) (BtreeFields meta) ≡ []
    → AllSeparated (file_of image) meta.root
unfolding database_faults
all_separated image meta keys none q page at is =
    let file : File = file_of image in
    let low : q ≤ file.last = internal_inside image q page is in
    let codes : holding (database_rows file (BtreeFields meta) q) ≡ [] =
    no_codes_at 8 0 (file.last + 1) q (λ p. holding (database_rows file (BtreeFields meta) p)) none (omega arith) (omega arith) in
    let fail : AllFail (btree_contents file meta q) = all_fail (btree_contents file meta q) (keyed_rows file meta q (is_recno meta) keys codes) in
    let passed : ((q == q) && has_wrong_separator file (page_at file q)) ≡ false =
    none_passes (λ r. (r == q) && has_wrong_separator file (page_at file r)) (inner_pages file meta.root) q fail.1.1.1.0 at in
    are_separated file page (ap (has_wrong_separator file) (sym is)
    ∙ second_false (q == q) (has_wrong_separator file (page_at file q)) (eq-eqb q q refl) passed)

-- What a descent with the sought key asks.

-- the root of a btree is an internal page with keys or a leaf of pairs
pub root_typed : (image : List ℕ) (meta : BtreeMeta) → IsForest image → HasMetadata (file_of image) (BtreeFields meta) → is_recno meta ≡ false
    → HasTypeAt (file_of image) (3 ∷ 5 ∷ []) meta.root
root_typed image meta forest has keys =
    elim (root_cases image meta.root forest (root_fits image (head_of image) meta forest.formed has)) [
      | inl keyed ↦ keyed
      | inr recno ↦
          of_type (λ type. has_type (4 ∷ 6 ∷ []) type ≡ true → has_type (3 ∷ 5 ∷ []) type ≡ true) (3 ∷ 5 ∷ 12 ∷ [])
          (type_in (page_at (file_of image) meta.root)) (λ _. refl, (λ _. refl, (λ other. absurd cc, tt)))
          (root_keyed image meta forest has keys) recno
    ]

pub keys_readable : (image : List ℕ) (root : ℕ) → IsForest image
    → AllReadable (file_of image) (λ (item : InternalItem). FitsContent (file_of image) item.key) root
keys_readable image root forest p page inner is i above low = grind (arith, key_fits, internal_inside, slice_get-get_or)

pub keys_monotone : (file : File) (key : List ℕ) (root : ℕ) → AllSeparated file root → AllMonotone file (is_below file key) root
keys_monotone file key root apart p page inner is =
    monotone_by_neighbours (is_below file key) page.items (λ i some low holds.
    less_trans key (key_of file page.items i) (key_of file page.items (i + 1)) holds
    (ap (λ m. less (key_of file page.items m) (key_of file page.items (i + 1))) (let same : i ≡ i + 1 - 1 = omega arith in same)
    ∙ (apart p page inner is).ascend (i + 1) (omega arith) low))

-- what is found on that leaf of a handle to the same image is what the key has
pub found_by : (linked image key : List ℕ) (meta : BtreeMeta) (root leaf : ℕ) (found : List (List ℕ)) → IsForest linked
    → HasMetadata (file_of linked) (BtreeFields meta) → is_recno meta ≡ false
    → database_faults (file_of linked) (BtreeFields meta) ≡ [] → image ≡ linked → root ≡ meta.root
    → leaf ≡ descent (header_in (page_at (file_of image) root)).level (file_of image) (is_below (file_of image) key) root
    → found ≡ flat_map (data_under (file_of image) key) (pairs_of (file_of image) leaf)
    → found ≡ get (btree_list (file_of linked) meta.root) (BytesKey key)
unfolding btree_list
found_by linked image key meta root leaf found forest has keys none same named leads is =
    grind (arith, get_pairs, data_of_descent, level, root_keyed, all_separated)

-- On the leaf.

from_key_fit : (file : File) (key : List ℕ) (pairs : List StoredPair) → AreFit file pairs → AreFit file (from_key key pairs)
from_key_fit file key [] fit = tt
from_key_fit file key (first ∷ pairs) fit = grind (arith, from_key_fit file key pairs fit.1)

-- the first of the pairs from one with a key on has the key
pub from_key_first : (key : List ℕ) (pairs : List StoredPair) (pair : StoredPair) (rest : List StoredPair)
    → from_key key pairs ≡ pair ∷ rest → pair.key ≡ key
from_key_first key [] pair rest is = absurd cc
from_key_first key (first ∷ pairs) pair rest is =
    elim (bytes_eq first.key key) as (λ b. bytes_eq first.key key ≡ b → cond b (first ∷ pairs) (from_key key pairs) ≡ pair ∷ rest → pair.key ≡ key) [
      | true ↦ λ same here. let one : first ≡ pair = cc in ap (λ (x : StoredPair). x.key) (sym one) ∙ (bytes_eq-Decides first.key key).0 same
      | false ↦ λ other later. from_key_first key pairs pair rest later
    ] refl is

-- the pairs of a leaf are open
pub page_open : (image : List ℕ) (p : ℕ) (pairs : List StoredPair) → IsForest image → FitsLeafPage (file_of image) p
    → structure_faults (file_of image) ≡ [] → pairs ≡ pairs_of (file_of image) p → AreOpen (file_of image) pairs
page_open image p pairs forest fits stage are =
    record {
      stage = stage;
      fit = each_of (FitsPair (file_of image)) pairs
          (λ pair at. (pair_of_page image p pair forest fits (subst (λ ps. Contains ps pair) are at)).fits);
    }

pub key_open : (file : File) (key : List ℕ) (pairs : List StoredPair) → AreOpen file pairs → AreOpen file (from_key key pairs)
key_open file key pairs opened = record { stage = opened.stage; fit = from_key_fit file key pairs opened.fit }

pub found_some : (file : File) (key : List ℕ) (pairs : List StoredPair) (pair : StoredPair) (rest : List StoredPair)
    → from_key key pairs ≡ pair ∷ rest
    → flat_map (data_under file pair.key) (pair ∷ rest) ≡ flat_map (data_under file key) pairs
found_some file key pairs pair rest is = grind (arith, from_key_first, from_key_same)

pub found_none : (file : File) (key : List ℕ) (pairs : List StoredPair) → from_key key pairs ≡ [] → [] ≡ flat_map (data_under file key) pairs
found_none file key pairs none = ap (flat_map (data_under file key)) (sym none) ∙ from_key_same file key pairs

-- the data that are left where a search goes on to the next pair
pub next_found : (file : File) (key : List ℕ) (here after : Option (List (List ℕ))) (old new : List StoredPair) (pair : StoredPair)
    → left_of here ≡ [] → old ≡ pair ∷ new → left_of after ≡ data_under file key pair
    → found_left file key after new ≡ found_left file key here old
next_found file key here after old new pair none more are = grind arith
