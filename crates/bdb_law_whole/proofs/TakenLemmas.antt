-- The leaves that salvage takes as those of sets are the leaves of the sets of a sound file.
use Rattle.std.proofs.Common.{◌≡◌, ℕ, ◌+◌, ◌*◌, ◌/◌, ◌<◌, ◌≤◌, true, List, [], ◌∷◌, append-nil, length, get_or, arith, refl, sym, ◌∙◌, ap, subst, inl, inr}
use Rattle.std.specs.Prelude.{◌==◌}
use Rattle.std.specs.List.{Contains, flat_map, range_with_len}
use Rattle.std.proofs.lemmas.Bool.{cases_lt, eq-eqb, eqb-true}
use Rattle.bdb_survey.specs.of_format.Terms.{Content, Hash, Item, Leaf, Page, Tree, chain, file_of, head_of, leaves, no_item, page_at}
use Rattle.bdb_survey.proofs.of_format.ListLemmas.{any_member, only_member, passes_here}
use Rattle.bdb_survey.proofs.of_format.MemberLemmas.{first_member, in_flat_map, in_map, in_range, no_member, of_flat_map, of_map, of_range}
use Rattle.bdb_survey.proofs.of_format.FileLemmas.{past_last}
use Rattle.bdb_survey.specs.of_image.Linked.{FitsDupRoot}
use Rattle.bdb_survey.specs.Salvage.{ItemPair, is_taken, item_pairs, pair_in, pair_start, paired_items, set_start, set_starts, start_in, whole_values}
use Rattle.bdb_survey.proofs.StoredPageLemmas.{count_is}
use Rattle.bdb_survey.specs.of_tree.Noted.{paired}
use Rattle.bdb_survey.specs.of_law_sums.Databases.{IsOfSet, IsOfSets, IsSetOfPair}
use Rattle.bdb_survey.proofs.of_law_sums.SetLemmas.{sets_are_of_pairs}
use Rattle.bdb_law_whole.specs.Guessed.{guessed}
use Rattle.bdb_law_whole.specs.Whole.{AreBytes, IsStructured}
use Rattle.bdb_law_whole.proofs.PageLemmas.{last_there, same_page, seen_alike}
use Rattle.bdb_law_whole.proofs.PairLemmas.{HasPairs, has_pairs, key_whole}
use Rattle.bdb_law_whole.proofs.SetLemmas.{IsWholeSet, set_whole}

same_items : (page : Page) → paired page ≡ paired_items page
same_items (Leaf page) = refl
same_items (Hash page) = refl
same_items page = refl

-- a whole set of a pair begins at its first leaf
start_is : (image : List ℕ) (items : List Item) (i root : ℕ) (set : IsWholeSet image root) → IsStructured image → HasPairs image items
    → 2 * i + 1 < length items
    → (get_or items (2 * i + 1) no_item).content ≡ Tree root → pair_start (guessed image) (pair_in items i) ≡ set.first ∷ []
start_is image items i root set sound has below names =
    ap (flat_map (λ (bytes : List ℕ). start_in (guessed image) (get_or items (2 * i + 1) no_item).content))
    (key_whole image items i sound has (omega (arith, below)))
    ∙ (append-nil (start_in (guessed image) (get_or items (2 * i + 1) no_item).content)
    ∙ (ap (start_in (guessed image)) names ∙ set.start))

-- a leaf of a set is taken
pub taken_all : (image : List ℕ) (q : ℕ) → IsStructured image → AreBytes image → IsOfSet (file_of image) q → is_taken (guessed image) q ≡ true
unfolding is_taken set_starts
taken_all image q sound are of =
    let set : IsWholeSet image of.root = set_whole image of.root sound are of.set in
    let pair : IsSetOfPair (file_of image) of.root = sets_are_of_pairs image of.root sound.forest of.set in
    let p : ℕ = pair.page in
    let page : Page = page_at (file_of image) p in
    let items : List Item = paired_items page in
    let below : 2 * pair.index + 1 < length items = subst (λ xs. 2 * pair.index + 1 < length xs) (same_items page) pair.below in
    let names : (get_or items (2 * pair.index + 1) no_item).content ≡ Tree of.root =
    ap (λ xs. (get_or xs (2 * pair.index + 1) no_item).content) (sym (same_items page)) ∙ pair.names in
    let start : pair_start (guessed image) (pair_in items pair.index) ≡ set.first ∷ [] =
    start_is image items pair.index of.root set sound (has_pairs image p sound pair.inside) below names in
    let there : p < (guessed image).count =
    omega (
      arith,
      pair.inside,
      last_there image sound.forest,
      count_is (head_of image).order (head_of image).page_size image,
    ) in
    let held : Contains (item_pairs (page_at (guessed image) p)) (pair_in items pair.index) =
    subst (λ pg. Contains (item_pairs pg) (pair_in items pair.index)) (sym (same_page image p sound.forest sound.kind pair.inside))
    (in_map (pair_in items) (range_with_len 0 (length items / 2)) pair.index
    (in_range 0 (length items / 2) pair.index (omega arith) (omega (arith, below)))) in
    let begins : Contains (set_starts (guessed image)) set.first =
    in_flat_map (λ r. flat_map (pair_start (guessed image)) (item_pairs (page_at (guessed image) r)))
    (range_with_len 0 (guessed image).count) p set.first
    (in_range 0 (guessed image).count p (omega arith) (omega (arith, there)))
    (in_flat_map (pair_start (guessed image)) (item_pairs (page_at (guessed image) p)) (pair_in items pair.index) set.first held
    (subst (λ xs. Contains xs set.first) (sym start) (first_member set.first []))) in
    passes_here (λ leaf. leaf == q) (flat_map (chain (guessed image)) (set_starts (guessed image))) q
    (in_flat_map (chain (guessed image)) (set_starts (guessed image)) set.first q begins (subst (λ xs. Contains xs q) (sym set.row) of.leaf))
    (eq-eqb q q refl)

-- what begins a set of a pair is the first leaf of a set that it names
record IsStart (image : List ℕ) (content : Content) (s : ℕ) : Type 0 where
  root : ℕ
  names : content ≡ Tree root
  at : Contains (set_start (guessed image) root) s

named_start : (image : List ℕ) (content : Content) (s : ℕ) → Contains (start_in (guessed image) content) s → IsStart image content s
named_start image (Tree root) s at = record { root = root; names = refl; at = at }
named_start image content s at = absurd (no_member [] s refl at)

start_of_pair : (image : List ℕ) (p i s : ℕ) → IsStructured image → AreBytes image → p ≤ (file_of image).last
    → i < length (paired_items (page_at (file_of image) p)) / 2
    → Contains (pair_start (guessed image) (pair_in (paired_items (page_at (file_of image) p)) i)) s
    → (root : ℕ) × FitsDupRoot (file_of image) root × (chain (guessed image) s ≡ leaves (file_of image) root)
start_of_pair image p i s sound are low below at =
    let items : List Item = paired_items (page_at (file_of image) p) in
    let content : Content = (get_or items (2 * i + 1) no_item).content in
    let found = of_flat_map (λ (bytes : List ℕ). start_in (guessed image) content)
    (whole_values (guessed image) (get_or items (2 * i) no_item).content) s at in
    let start : IsStart image content s = named_start image content s found.2 in
    let has : HasPairs image items = has_pairs image p sound low in
    let fits : FitsDupRoot (file_of image) start.root = has.fit (2 * i + 1) start.root (omega (arith, below)) start.names in
    let set : IsWholeSet image start.root = set_whole image start.root sound are fits in
    let same : set.first ≡ s = only_member set.first s (subst (λ xs. Contains xs s) set.start start.at) in
    (start.root, fits, ap (chain (guessed image)) (sym same) ∙ set.row)

-- a page that is taken is a leaf of a set
pub taken_only : (image : List ℕ) (q : ℕ) → IsStructured image → AreBytes image → is_taken (guessed image) q ≡ true → IsOfSet (file_of image) q
unfolding is_taken set_starts
taken_only image q sound are is =
    let leaf = any_member (λ leaf. leaf == q) (flat_map (chain (guessed image)) (set_starts (guessed image))) is in
    let row = of_flat_map (chain (guessed image)) (set_starts (guessed image)) leaf.0 leaf.1 in
    let s : ℕ = row.0 in
    let page = of_flat_map (λ r. flat_map (pair_start (guessed image)) (item_pairs (page_at (guessed image) r)))
    (range_with_len 0 (guessed image).count) s row.1 in
    let p : ℕ = page.0 in
    let pair = of_flat_map (pair_start (guessed image)) (item_pairs (page_at (guessed image) p)) s page.2 in
    let here : Contains (item_pairs (page_at (file_of image) p)) pair.0 =
    subst (λ xs. Contains xs pair.0) (seen_alike item_pairs image p sound.forest sound.kind refl) pair.1 in
    let items : List Item = paired_items (page_at (file_of image) p) in
    let place = of_map (pair_in items) (range_with_len 0 (length items / 2)) pair.0 here in
    let below : place.0 < length items / 2 = omega (arith, (of_range 0 (length items / 2) place.0 place.1).1) in
    let set =
    start_of_pair image p place.0 s sound are (inside p below) below
    (subst (λ (pr : ItemPair). Contains (pair_start (guessed image) pr) s) (sym place.2) pair.2) in
    record {
      root = set.0;
      set = set.1;
      leaf = subst (Contains (leaves (file_of image) set.0)) (eqb-true leaf.0 q leaf.2) (subst (λ xs. Contains xs leaf.0) set.2 row.2);
    }
  where
    inside : (p : ℕ) {i : ℕ} → i < length (paired_items (page_at (file_of image) p)) / 2 → p ≤ (file_of image).last
    inside p {i} below =
        elim (cases_lt (file_of image).last p) [
          | inr low ↦ low
          | inl past ↦ absurd (let none : i < 0 = subst (λ pg. i < length (paired_items pg) / 2) (past_last image p past) below in omega arith)
        ]

pub taken_is : (image : List ℕ) → IsStructured image → AreBytes image → IsOfSets (file_of image) (is_taken (guessed image))
taken_is image sound are = record { all = λ q of. taken_all image q sound are of; only = λ q is. taken_only image q sound are is }
