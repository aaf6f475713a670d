-- Pairs of leaves as their items hold them.
use Rattle.std.proofs.Common.{◌≡◌, ℕ, ◌*◌, ◌-◌, ◌/◌, true, false, List, [], ◌∷◌, ◌++◌, length, map, Option, arith, refl, sym, ◌∙◌, ap, subst, inl, inr}
use Rattle.std.specs.List.{flat_map, fold, range_with_len}
use Rattle.std.proofs.lemmas.List.{map-append}
use Rattle.std.proofs.lemmas.List.Elements.{All-head}
use Rattle.std.proofs.lemmas.Simd.{map-map}
use Rattle.bdb_faults.specs.Notes.{Notes}
use Rattle.bdb_ranks.specs.of_format.declared.kinds.Fault.{Fault}
use Rattle.bdb_ranks.specs.of_format.Terms.{File, Item, Leaf, Listed, Page, StoredPair, file_of, is_shared_key, leaves, no_item, page_at, pair_at, pairs_in}
use Rattle.bdb_ranks.specs.of_format.Terms.{pairs_of, tree_pairs, value_of}
use Rattle.bdb_ranks.specs.of_form.Pairs.{pair_of, pairs_from}
use Rattle.bdb_ranks.specs.of_form.Seen.{page_seen}
use Rattle.bdb_ranks.specs.of_form.declared.view.PageView.{PageView}
use Rattle.bdb_ranks.specs.of_form.declared.view.PageView.TheVariants.{Leaf as LeafSeen}
use Rattle.bdb_ranks.specs.of_image.Linked.{FitsLeafPage, FitsTreeRoot, IsForest}
use Rattle.bdb_ranks.specs.of_overflow.Datum.{FitsContent}
use Rattle.bdb_btree.specs.Held.{AreKeyed, FitsPassed, ItemPair, at_page, items_in, items_left, items_of, passed_seen, stored_as, tree_items}
use Rattle.bdb_btree.specs.Pairs.{AreFit, AreLeaves, Each, FitsPair, left_of, stored_pair}
use Rattle.bdb_btree.specs.Rows.{next_pair, no_pairs_passed, pair_faults}
use Rattle.bdb_btree.specs.Runs.{Ascent, follow}
use Rattle.bdb_btree.specs.declared.pair_rows.Passed.{Passed as CodePassed}
use Rattle.bdb_btree.specs.declared.pair_rows.Rules.{Rules}
use Rattle.bdb_btree.proofs.RowLemmas.{PassedTo, pass_more, pass_none, tree_pairs_fit}
use Rattle.bdb_btree.proofs.WalkLemmas.{are_leaves, keys_fit, leaf_pairs, pairs_of_tree}
use Rattle.bdb_ranks.specs.of_tree.Entries.{AreFit as EntriesFit, values_of}
use Rattle.bdb_ranks.specs.of_tree.Trees.{IsRoot}
use Rattle.bdb_ranks.proofs.of_tree.EntryLemmas.{deleted_value}

-- The pairs of a leaf.

pub no_items : (image : List ℕ) (p : ℕ) (view : PageView) → page_seen view ≡ page_at (file_of image) p
    → ((leaf : Listed Item) → view ≡ LeafSeen leaf → ⊥) → [] ≡ items_of (file_of image) p
no_items image p (LeafSeen leaf) is other = absurd (other leaf refl)
no_items image p view is other = ap (items_in p) is

leaf_stored : (file : File) (p : ℕ) (leaf : Listed Item) → map (stored_as file) (items_in p (Leaf leaf)) ≡ pairs_in file p (Leaf leaf)
leaf_stored file p leaf =
    let whole : length leaf.items / 2 - 0 ≡ length leaf.items / 2 = omega arith in
    map-map (stored_as file) (at_page p) (pairs_from no_item true leaf 0)
    ∙ (map-map (stored_pair file p) (pair_of no_item true leaf) (range_with_len 0 (length leaf.items / 2 - 0))
    ∙ ap (λ n. map (pair_at file p leaf (λ j. is_shared_key leaf.offsets (2 * j))) (range_with_len 0 n)) whole)

none_stored : (file : File) (p : ℕ) (page : Page) → pairs_in file p page ≡ [] → map (stored_as file) (items_in p page) ≡ []
none_stored file p (Leaf leaf) none = leaf_stored file p leaf ∙ none
none_stored file p page none = refl

-- with the values of their keys they are the pairs
pub page_stored : (image : List ℕ) (p : ℕ) → IsForest image → FitsLeafPage (file_of image) p
    → map (stored_as (file_of image)) (items_of (file_of image) p) ≡ pairs_of (file_of image) p
unfolding pairs_of
page_stored image p forest fits =
    let file : File = file_of image in
    elim (leaf_pairs image p forest fits) [
      | inl (leaf, is) ↦
          ap (λ page. map (stored_as file) (items_in p page)) is ∙ (leaf_stored file p leaf ∙ sym (ap (pairs_in file p) is))
      | inr none ↦ none_stored file p (page_at file p) none ∙ sym none
    ]

each_mapped : {X Y : Type 0} (P : Y → Type 0) (f : X → Y) (xs : List X) → Each (λ x. P (f x)) xs → Each P (map f xs)
each_mapped P f [] each = tt
each_mapped P f (x ∷ xs) each = (each.0, each_mapped P f xs each.1)

each_appended : {X : Type 0} (P : X → Type 0) (xs ys : List X) → Each P xs → Each P ys → Each P (xs ++ ys)
each_appended P [] ys first second = second
each_appended P (x ∷ xs) ys first second = (first.0, each_appended P xs ys first.1 second)

none_keyed : (file : File) (pairs : List ItemPair) → map (stored_as file) pairs ≡ [] → AreKeyed file pairs
none_keyed file [] none = tt
none_keyed file (pair ∷ pairs) none = absurd cc

pub page_keyed : (image : List ℕ) (p : ℕ) → IsForest image → FitsLeafPage (file_of image) p → AreKeyed (file_of image) (items_of (file_of image) p)
page_keyed image p forest fits =
    let file : File = file_of image in
    elim (leaf_pairs image p forest fits) [
      | inl (leaf, is) ↦
          subst (λ page. AreKeyed file (items_in p page)) (sym is)
          (each_mapped (λ (pair : ItemPair). FitsContent file pair.key.content) (at_page p) (pairs_from no_item true leaf 0)
          (keys_fit image p leaf forest fits (sym is)))
      | inr none ↦ none_keyed file (items_of file p) (none_stored file p (page_at file p) none)
    ]

-- The pairs of a tree.

pub next_items : (file : File) (here after : Option (List ItemPair)) (old new : List ℕ) (leaf p : ℕ) → left_of here ≡ [] → old ≡ leaf ∷ new
    → p ≡ leaf → left_of after ≡ items_of file p
    → items_left file after new ≡ items_left file here old
next_items file here after old new leaf p none more same are =
    ap (λ pairs. pairs ++ flat_map (items_of file) new) (are ∙ ap (items_of file) same)
    ∙ sym (ap (λ pairs. pairs ++ flat_map (items_of file) old) none ∙ ap (flat_map (items_of file)) more)

leaves_stored : (image : List ℕ) (ps : List ℕ) → IsForest image → AreLeaves (file_of image) ps
    → map (stored_as (file_of image)) (flat_map (items_of (file_of image)) ps) ≡ flat_map (pairs_of (file_of image)) ps
leaves_stored image [] forest are = refl
leaves_stored image (p ∷ ps) forest are =
    let file : File = file_of image in
    map-append (stored_as file) (items_of file p) (flat_map (items_of file) ps)
    ∙ (ap (λ pairs. pairs ++ map (stored_as file) (flat_map (items_of file) ps)) (page_stored image p forest are.0)
    ∙ ap (λ pairs. pairs_of file p ++ pairs) (leaves_stored image ps forest are.1))

pub tree_stored : (image : List ℕ) (root : ℕ) → IsForest image → IsRoot (file_of image) root
    → map (stored_as (file_of image)) (tree_items (file_of image) root) ≡ tree_pairs (file_of image) root
tree_stored image root forest is =
    leaves_stored image (leaves (file_of image) root) forest (are_leaves image root forest is) ∙ pairs_of_tree (file_of image) root

leaves_keyed : (image : List ℕ) (ps : List ℕ) → IsForest image → AreLeaves (file_of image) ps
    → AreKeyed (file_of image) (flat_map (items_of (file_of image)) ps)
leaves_keyed image [] forest are = tt
leaves_keyed image (p ∷ ps) forest are =
    each_appended (λ (pair : ItemPair). FitsContent (file_of image) pair.key.content) (items_of (file_of image) p)
    (flat_map (items_of (file_of image)) ps) (page_keyed image p forest are.0) (leaves_keyed image ps forest are.1)

pub tree_keyed : (image : List ℕ) (root : ℕ) → IsForest image → IsRoot (file_of image) root
    → AreKeyed (file_of image) (tree_items (file_of image) root)
tree_keyed image root forest is = leaves_keyed image (leaves (file_of image) root) forest (are_leaves image root forest is)

pub stored_fit : (image : List ℕ) (root : ℕ) → IsForest image → FitsTreeRoot (file_of image) root
    → AreFit (file_of image) (map (stored_as (file_of image)) (tree_items (file_of image) root))
stored_fit image root forest is =
    subst (AreFit (file_of image)) (sym (tree_stored image root forest (inl is))) (tree_pairs_fit image root forest is)

-- Going through them.

-- some pairs are passed, and these are left
pub record HeldTo (file : File) (rules : Rules) (all : List StoredPair) (left : List ItemPair) (passed : CodePassed) (before now : List Fault → Type 0)
    : Type 0 where
  pub to : PassedTo file rules all (map (stored_as file) left) (passed_seen file passed) before now
  pub keyed : AreKeyed file left
  pub fits : FitsPassed file passed

pub hold_none : (image : List ℕ) (rules : Rules) (root : ℕ) (left : List ItemPair) (passed : CodePassed) (before : List Fault → Type 0) → IsForest image
    → FitsTreeRoot (file_of image) root → left ≡ tree_items (file_of image) root → passed_seen (file_of image) passed ≡ no_pairs_passed
    → FitsPassed (file_of image) passed → HeldTo (file_of image) rules (tree_pairs (file_of image) root) left passed before before
hold_none image rules root left passed before forest fits are none held =
    let file : File = file_of image in
    record {
      to = pass_none file rules (tree_pairs file root) (map (stored_as file) left) (passed_seen file passed) before
          (ap (map (stored_as file)) are ∙ tree_stored image root forest (inl fits)) none (tree_pairs_fit image root forest fits);
      keyed = subst (AreKeyed file) (sym are) (tree_keyed image root forest (inl fits));
      fits = held;
    }

pub hold_more : (file : File) (rules : Rules) (all : List StoredPair) (old left : List ItemPair) (pair : ItemPair) (passed next : CodePassed)
    (before mid after : List Fault → Type 0)
    → HeldTo file rules all old passed before mid → old ≡ pair ∷ left
    → passed_seen file next ≡ next_pair file rules.sorted (passed_seen file passed) (stored_as file pair) → FitsPassed file next
    → Notes mid after (pair_faults file rules (passed_seen file next) (stored_as file pair)) → HeldTo file rules all left next before after
hold_more file rules all old left pair passed next before mid after held steps is fits more = record {
  to = pass_more file rules all (map (stored_as file) old) (map (stored_as file) left) (stored_as file pair) (passed_seen file passed)
      (passed_seen file next) before mid after held.to (ap (map (stored_as file)) steps) is more;
  keyed = (subst (AreKeyed file) steps held.keyed).1;
  fits = fits;
}

pub first_keyed : (file : File) (old left : List ItemPair) (pair : ItemPair) → AreKeyed file old → old ≡ pair ∷ left → FitsContent file pair.key.content
first_keyed file old left pair keyed steps = (subst (AreKeyed file) steps keyed).0

pub rest_keyed : (file : File) (old left : List ItemPair) (pair : ItemPair) → AreKeyed file old → old ≡ pair ∷ left → AreKeyed file left
rest_keyed file old left pair keyed steps = (subst (AreKeyed file) steps keyed).1

pub first_fits : (file : File) (rules : Rules) (all : List StoredPair) (old left : List ItemPair) (pair : ItemPair) (passed : CodePassed)
    (before now : List Fault → Type 0) → HeldTo file rules all old passed before now → old ≡ pair ∷ left → FitsPair file (stored_as file pair)
first_fits file rules all old left pair passed before now held steps = (subst (AreFit file) (ap (map (stored_as file)) steps) held.to.fit).0

-- The data of a set.

pub first_entry_fits : (file : File) (entry : Item) (rest entries : List Item) → entries ≡ entry ∷ rest → EntriesFit file entries
    → FitsContent file entry.content
first_entry_fits file entry rest entries steps fit =
    All-head (λ (e : Item). FitsContent file e.content) entry rest (subst (EntriesFit file) steps fit)

live_value : (file : File) (entry : Item) (rest : List Item) → entry.deleted ≡ false
    → values_of file (entry ∷ rest) ≡ value_of file entry.content ∷ values_of file rest
live_value file entry rest live = rw live refl

-- one more entry, which is live
pub set_more : (file : File) (run next whole : Ascent) (entry : Item) (rest entries : List Item) (value : List ℕ) → entries ≡ entry ∷ rest
    → entry.deleted ≡ false → value ≡ value_of file entry.content → next ≡ follow run value → fold follow run (values_of file entries) ≡ whole
    → fold follow next (values_of file rest) ≡ whole
set_more file run next whole entry rest entries value steps live value_is is so_far =
    ap (λ r. fold follow r (values_of file rest)) (is ∙ ap (follow run) value_is)
    ∙ (sym (ap (fold follow run) (ap (values_of file) steps ∙ live_value file entry rest live)) ∙ so_far)

-- or deleted
pub set_passed : (file : File) (run whole : Ascent) (entry : Item) (rest entries : List Item) → entries ≡ entry ∷ rest → entry.deleted ≡ true
    → fold follow run (values_of file entries) ≡ whole → fold follow run (values_of file rest) ≡ whole
set_passed file run whole entry rest entries steps deleted so_far =
    sym (ap (fold follow run) (ap (values_of file) steps ∙ deleted_value file entry rest deleted)) ∙ so_far
