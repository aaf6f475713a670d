-- The pairs of a leaf, and those of a tree, one after another.
use Rattle.std.proofs.Common.{rules, ◌≡◌, ◌⊎◌, ℕ, zero, suc, ◌+◌, ◌*◌, ◌-◌, ◌/◌, ◌<◌, true, List, [], ◌∷◌, length, map, Option, arith, refl, sym, ◌∙◌, ap}
use Rattle.std.specs.List.{Contains, flat_map, range_with_len}
use Rattle.std.proofs.lemmas.Option.{slice_get-get_or}
use Rattle.std.proofs.lemmas.Simd.{map-map}
use Rattle.bdb_ranks.specs.of_format.Terms.{File, Item, Leaf, Listed, StoredPair, file_of, is_shared_key, item_at, leaves, no_item, page_at, pair_at, pairs_in}
use Rattle.bdb_ranks.specs.of_format.Terms.{pairs_of, tree_pairs}
use Rattle.bdb_ranks.proofs.of_format.MemberLemmas.{first_member, later_member}
use Rattle.bdb_ranks.specs.of_form.Pairs.{pair_of, pairs_from}
use Rattle.bdb_ranks.specs.of_form.Seen.{page_seen}
use Rattle.bdb_ranks.specs.of_form.declared.view.PageView.{PageView}
use Rattle.bdb_ranks.specs.of_form.declared.view.PageView.TheVariants.{Leaf as LeafSeen}
use Rattle.bdb_ranks.specs.of_image.Linked.{FitsLeafPage, IsForest}
use Rattle.bdb_ranks.specs.of_overflow.Datum.{FitsContent}
use Rattle.bdb_ranks.proofs.of_overflow.ContentLemmas.{leaf_item_fits}
use Rattle.bdb_btree.specs.Pairs.{AreLeaves, Each, KeysFit, left_of, pairs_left, stored_pair}
use Rattle.bdb_ranks.specs.of_tree.Trees.{IsRoot}
use Rattle.bdb_ranks.proofs.of_tree.TreeLemmas.{dup_leaf_page, leaf_fits, leaf_inside, leaf_page, recno_leaf_page, root_is_tree}
use Rattle.bdb_ranks.proofs.of_format.TypeLemmas.{of_type}

-- What is so of each member is so of each.

pub each_of : {X : Type 0} (P : X → Type 0) (xs : List X) → ((x : X) → Contains xs x → P x) → Each P xs
each_of P [] holds = tt
each_of P (x ∷ xs) holds = (holds x (first_member x xs), each_of P xs (λ y at. holds y (later_member x xs y at)))

-- The pairs of a leaf.

pub all_pairs : (file : File) (p : ℕ) (leaf : Listed Item) → Leaf leaf ≡ page_at file p → pairs_in file p (Leaf leaf) ≡ pairs_of file p
unfolding pairs_of
all_pairs file p leaf is = ap (pairs_in file p) is

-- as its view gives them
pub view_pairs : (file : File) (p : ℕ) (leaf : Listed Item) → Leaf leaf ≡ page_at file p
    → map (stored_pair file p) (pairs_from no_item true leaf 0) ≡ pairs_of file p
view_pairs file p leaf is =
    let whole : length leaf.items / 2 - 0 ≡ length leaf.items / 2 = omega arith in
    map-map (stored_pair file p) (pair_of no_item true leaf) (range_with_len 0 (length leaf.items / 2 - 0))
    ∙ ap (λ n. map (pair_at file p leaf (λ j. is_shared_key leaf.offsets (2 * j))) (range_with_len 0 n)) whole ∙ all_pairs file p leaf is

keys_from : (file : File) (leaf : Listed Item) (n i : ℕ) → ((j : ℕ) → j < i + n → FitsContent file (item_at leaf (2 * j)).content)
    → KeysFit file (map (pair_of no_item true leaf) (range_with_len i n))
keys_from file leaf zero i fits = tt
keys_from file leaf (suc n) i fits = (fits i (omega arith), keys_from file leaf n (i + 1) (λ j low. fits j (omega arith)))

pub keys_fit : (image : List ℕ) (p : ℕ) (leaf : Listed Item) → IsForest image → FitsLeafPage (file_of image) p → Leaf leaf ≡ page_at (file_of image) p
    → KeysFit (file_of image) (pairs_from no_item true leaf 0)
keys_fit image p leaf forest fits is =
    keys_from (file_of image) leaf (length leaf.items / 2 - 0) 0 (λ j low.
    leaf_item_fits image p leaf (2 * j) (item_at leaf (2 * j)) forest (leaf_inside image p fits) (sym is)
    (slice_get-get_or leaf.items (2 * j) no_item (omega arith)))

-- a leaf has pairs, or none
pub leaf_pairs : (image : List ℕ) (p : ℕ) → IsForest image → FitsLeafPage (file_of image) p
    → ((leaf : Listed Item) × (page_at (file_of image) p ≡ Leaf leaf)) ⊎ (pairs_in (file_of image) p (page_at (file_of image) p) ≡ [])
leaf_pairs image p forest fits = grind (arith, of_type, leaf_page, recno_leaf_page, dup_leaf_page)

seen_leaf : (view : PageView) (leaf : Listed Item) → page_seen view ≡ Leaf leaf → (seen : Listed Item) × (view ≡ LeafSeen seen)
seen_leaf (LeafSeen seen) leaf is = (seen, refl)
seen_leaf view leaf is = absurd cc

pub no_pairs : (image : List ℕ) (p : ℕ) (view : PageView) → IsForest image → FitsLeafPage (file_of image) p
    → page_seen view ≡ page_at (file_of image) p → ((leaf : Listed Item) → view ≡ LeafSeen leaf → ⊥) → [] ≡ pairs_of (file_of image) p
unfolding pairs_of
no_pairs image p view forest fits is other = grind (arith, leaf_pairs, seen_leaf)

-- The pairs of a tree.

pub are_leaves : (image : List ℕ) (root : ℕ) → IsForest image → IsRoot (file_of image) root → AreLeaves (file_of image) (leaves (file_of image) root)
are_leaves image root forest is = search (rules, each_of, leaf_fits, root_is_tree)

pub pairs_of_tree : (file : File) (root : ℕ) → flat_map (pairs_of file) (leaves file root) ≡ tree_pairs file root
unfolding tree_pairs
pairs_of_tree file root = refl

-- the pairs that are left where a walk goes on to the next leaf
pub next_leaf : (file : File) (here after : Option (List StoredPair)) (old new : List ℕ) (leaf p : ℕ) → left_of here ≡ [] → old ≡ leaf ∷ new
    → p ≡ leaf → left_of after ≡ pairs_of file p
    → pairs_left file after new ≡ pairs_left file here old
next_leaf file here after old new leaf p none more same are = grind arith
