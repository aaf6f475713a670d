-- What the pairs of a tree keep: what they name is there, and a pair shares its key on its page alone.
use Rattle.std.proofs.Common.{◌≡◌, ℕ, zero, suc, ◌+◌, ◌*◌, ◌/◌, ◌<◌, ◌≤◌, false, List, [], ◌∷◌, ◌++◌, length, map, arith, refl, sym}
use Rattle.std.proofs.Common.{subst, inl, inr, add-one, true, true≢false}
use Rattle.std.specs.List.{Contains, flat_map, range_with_len}
use Rattle.std.proofs.lemmas.Option.{slice_get-get_or}
use Rattle.bdb_ranks.specs.of_format.Terms.{Chain, Content, File, Hash, Inline, Item, Leaf, Listed, Page, Set, StoredPair, Tree, Unknown, file_of}
use Rattle.bdb_ranks.specs.of_format.Terms.{is_shared_key, item_at, leaves, no_item, page_at, pair_at, pairs_in, pairs_of, tree_pairs}
use Rattle.bdb_ranks.proofs.of_format.MemberLemmas.{no_member, of_flat_map, of_map, of_range}
use Rattle.bdb_ranks.specs.of_image.Linked.{FitsLeafPage, IsForest}
use Rattle.bdb_btree.specs.Pairs.{FitsPair, FitsSet}
use Rattle.bdb_ranks.specs.of_tree.Trees.{IsRoot}
use Rattle.bdb_btree.proofs.OrderLemmas.{ShareOnPage, Shares, SharesOnPage}
use Rattle.bdb_ranks.proofs.of_overflow.ContentLemmas.{leaf_item_fits}
use Rattle.bdb_ranks.proofs.of_tree.TreeLemmas.{leaf_dup_root, leaf_fits, leaf_inside, root_is_tree}
use Rattle.bdb_btree.proofs.WalkLemmas.{leaf_pairs}

-- What a pair names.

set_fits : (file : File) (content : Content) → ((root : ℕ) → content ≡ Tree root → FitsSet file (Tree root)) → FitsSet file content
set_fits file (Inline bytes) fits = tt
set_fits file (Set blocks) fits = tt
set_fits file (Chain head total) fits = tt
set_fits file (Tree root) fits = fits root refl
set_fits file Unknown fits = tt

-- a pair of a leaf stands there, and what it names is there
pub record IsPairOf (file : File) (p : ℕ) (pair : StoredPair) : Type 0 where
  pub page : pair.page ≡ p
  pub fits : FitsPair file pair

pair_of_leaf : (image : List ℕ) (p : ℕ) (leaf : Listed Item) (pair : StoredPair) → IsForest image → p ≤ (file_of image).last
    → page_at (file_of image) p ≡ Leaf leaf → Contains (pairs_in (file_of image) p (Leaf leaf)) pair
    → IsPairOf (file_of image) p pair
pair_of_leaf image p leaf pair forest low is at =
    let file : File = file_of image in
    let from : ℕ → StoredPair = pair_at file p leaf (λ i. is_shared_key leaf.offsets (2 * i)) in
    let found : (i : ℕ) × Contains (range_with_len 0 (length leaf.items / 2)) i × (from i ≡ pair) =
    of_map from (range_with_len 0 (length leaf.items / 2)) pair at in
    let within : (0 ≤ found.0) × (found.0 < 0 + length leaf.items / 2) = of_range 0 (length leaf.items / 2) found.0 found.1 in
    let below : 2 * found.0 + 1 < length leaf.items = omega arith in
    subst (IsPairOf file p) found.2 (record {
      page = refl;
      fits = record {
        content = leaf_item_fits image p leaf (2 * found.0 + 1) (item_at leaf (2 * found.0 + 1)) forest low is
            (slice_get-get_or leaf.items (2 * found.0 + 1) no_item below);
        set = set_fits file (item_at leaf (2 * found.0 + 1)).content
            (λ root is_set. leaf_dup_root image p (2 * found.0 + 1) root leaf forest low is below is_set);
      };
    })

pub pair_of_page : (image : List ℕ) (p : ℕ) (pair : StoredPair) → IsForest image → FitsLeafPage (file_of image) p
    → Contains (pairs_of (file_of image) p) pair → IsPairOf (file_of image) p pair
unfolding pairs_of
pair_of_page image p pair forest fits at =
    elim (leaf_pairs image p forest fits) [
      | inl (leaf, is) ↦ pair_of_leaf image p leaf pair forest (leaf_inside image p fits) is
          (subst (λ page. Contains (pairs_in (file_of image) p page) pair) is at)
      | inr none ↦ absurd (no_member (pairs_in (file_of image) p (page_at (file_of image) p)) pair none at)
    ]

-- a pair of a tree stands on a page that is there, and so does what it names
pub record IsTreePair (file : File) (pair : StoredPair) : Type 0 where
  pub inside : pair.page ≤ file.last
  pub fits : FitsPair file pair

pub tree_pair : (image : List ℕ) (root : ℕ) (pair : StoredPair) → IsForest image → IsRoot (file_of image) root
    → Contains (tree_pairs (file_of image) root) pair → IsTreePair (file_of image) pair
unfolding tree_pairs
tree_pair image root pair forest is at =
    let file : File = file_of image in
    let found : (p : ℕ) × Contains (leaves file root) p × Contains (pairs_of file p) pair = of_flat_map (pairs_of file) (leaves file root) pair at in
    let leaf : FitsLeafPage file found.0 = leaf_fits image root found.0 forest (root_is_tree image root forest is) found.1 in
    let pair_is : IsPairOf file found.0 pair = pair_of_page image found.0 pair forest leaf found.2 in
    record { inside = subst (λ n. n ≤ file.last) (sym pair_is.page) (leaf_inside image found.0 leaf); fits = pair_is.fits }

-- Pairs that share their key.

abbrev pub leaf_pair : File → ℕ → Listed Item → ℕ → StoredPair
leaf_pair file p leaf i = pair_at file p leaf (λ j. is_shared_key leaf.offsets (2 * j)) i

module _ {K : Type 0} (of : StoredPair → K) (file : File) where
  -- a pair of a page that shares its key has this of the pair before it
  abbrev pub PageShares : ℕ → Page → Type 0
  PageShares p (Leaf leaf) =
      (i j : ℕ) → i < length leaf.items / 2 → i ≡ suc j → is_shared_key leaf.offsets (2 * i) ≡ true
      → of (leaf_pair file p leaf j) ≡ of (leaf_pair file p leaf i)
  PageShares p page = Unit {0}

  leaf_shares : (p : ℕ) (leaf : Listed Item) (n i : ℕ) (k : K) (rest : List StoredPair) → i + n ≤ length leaf.items / 2 → PageShares p (Leaf leaf)
      → (i < length leaf.items / 2 → is_shared_key leaf.offsets (2 * i) ≡ true → k ≡ of (leaf_pair file p leaf i))
      → ((other : K) → Shares of other rest) → Shares of k (map (leaf_pair file p leaf) (range_with_len i n) ++ rest)
  leaf_shares p leaf zero i k rest low tell begins after = after k
  leaf_shares p leaf (suc n) i k rest low tell begins after = (
    begins (omega arith),
    leaf_shares p leaf n (i + 1) (of (leaf_pair file p leaf i)) rest (omega arith) tell (λ below. tell (i + 1) i below (add-one i)) after,
  )

  page_shares : (p : ℕ) (page : Page) (k : K) (rest : List StoredPair) → PageShares p page → ((other : K) → Shares of other rest)
      → Shares of k (pairs_in file p page ++ rest)
  page_shares p (Leaf leaf) k rest tell after =
      leaf_shares p leaf (length leaf.items / 2) 0 k rest (omega arith) tell (λ some shares. absurd (true≢false (sym shares))) after
  page_shares p (Hash page) k rest tell after = hash (range_with_len 0 (length page.items / 2)) k
    where
      hash : (is : List ℕ) (k : K) → Shares of k (map (pair_at file p page (λ i. false)) is ++ rest)
      hash [] k = after k
      hash (i ∷ is) k = (λ shares. absurd (true≢false (sym shares)), hash is (of (pair_at file p page (λ j. false) i)))
  page_shares p page k rest tell after = after k

  pub pages_share : (tell : (p : ℕ) → PageShares p (page_at file p)) (ps : List ℕ) (k : K) → Shares of k (flat_map (pairs_of file) ps)
  unfolding pairs_of
  pages_share tell [] k = tt
  pages_share tell (p ∷ ps) k = page_shares p (page_at file p) k (flat_map (pairs_of file) ps) (tell p) (pages_share tell ps)

on_page : (file : File) (p : ℕ) (page : Page) → PageShares (λ (pair : StoredPair). pair.page) file p page
on_page file p (Leaf leaf) = λ i j low next shares. refl
on_page file p page = tt

first_free : (q : ℕ) (pairs : List StoredPair) → SharesOnPage q pairs → ShareOnPage pairs
first_free q [] share = tt
first_free q (pair ∷ pairs) share = share.1

pub tree_shares : (file : File) (root : ℕ) → ShareOnPage (tree_pairs file root)
unfolding tree_pairs
tree_shares file root = first_free 0 (flat_map (pairs_of file) (leaves file root))
    (pages_share (λ (pair : StoredPair). pair.page) file (λ p. on_page file p (page_at file p)) (leaves file root) 0)
