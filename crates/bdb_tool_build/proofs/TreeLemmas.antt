-- The pairs of a tree, leaf by leaf.
use Rattle.std.proofs.Common.{◌≡◌, ℕ, ◌+◌, List, [], ◌∷◌, ◌++◌, map, sym, ◌∙◌, ap, subst, flat_map}
use Rattle.std.specs.List.{enumerate_from}
use Rattle.std.proofs.lemmas.Grind.{flat_map-append}
use Rattle.bdb_model.specs.of_format.Terms.{File, Item, ListKey, StoredPair, btree_list, file_of, leaves, listed_entry, listed_pair, pairs_of, recno_list}
use Rattle.bdb_model.specs.of_format.Terms.{tree_entries}
use Rattle.bdb_file.specs.of_image.Linked.{FitsLeafPage, IsForest}
use Rattle.bdb_file.specs.of_btree.Pairs.{AreFit, FitsPair, stored_pair}
use Rattle.bdb_file.proofs.of_btree.FallLemmas.{ShareKeys as HaveKeys, tree_keys}
use Rattle.bdb_file.proofs.of_btree.PairLemmas.{pair_of_page}
use Rattle.bdb_file.proofs.of_btree.WalkLemmas.{each_of, pairs_of_tree}
use Rattle.bdb_model.specs.of_text_format.declared.pairs.TextPair.{TextPair}
use Rattle.bdb_onto.specs.Bases.{text_pair}
use Rattle.bdb_ranks.specs.of_form.Pairs.{PairOf}
use Rattle.bdb_onto.specs.declared.beside.Beside.{Beside}
use Rattle.bdb_tool_build.specs.Copied.{Follow, ShareKeys}
use Rattle.bdb_tool_build.specs.Gathered.{AddsEnough, AreListing}
use Rattle.bdb_tool_build.proofs.EnoughLemmas.{listed_on, listing_begins}

-- what the pairs of a leaf name is there
pub leaf_fit : (image : List ℕ) (p : ℕ) → IsForest image → FitsLeafPage (file_of image) p → AreFit (file_of image) (pairs_of (file_of image) p)
leaf_fit image p forest fits = each_of (FitsPair (file_of image)) (pairs_of (file_of image) p) (λ pair at. (pair_of_page image p pair forest fits at).fits)

-- Lists, one more at a time.

-- one more pair of a leaf, of an image that is known by another name
pub pair_more : (beside : Beside) (image same : List ℕ) (begin all now new : List TextPair) (p : ℕ) (left rest : List (PairOf Item)) (pair : PairOf Item)
    → same ≡ image → left ≡ pair ∷ rest
    → AreListing beside begin now all (map text_pair (flat_map (listed_pair (file_of image)) (map (stored_pair (file_of image) p) left)))
    → AddsEnough beside now new (map text_pair (listed_pair (file_of same) (stored_pair (file_of same) 0 pair)))
    → AreListing beside begin new all (map text_pair (flat_map (listed_pair (file_of image)) (map (stored_pair (file_of image) p) rest)))
pair_more beside image same begin all now new p left rest pair is are so_far pushed =
    let file : File = file_of image in
    let listed : List (PairOf Item) → List (ListKey × List ℕ) = λ ps. flat_map (listed_pair file) (map (stored_pair file p) ps) in
    listed_on beside begin now new all (listed_pair file (stored_pair file p pair)) (listed rest) (listed left) (ap listed are) so_far
    (subst (λ (i : List ℕ). AddsEnough beside now new (map text_pair (listed_pair (file_of i) (stored_pair (file_of i) 0 pair)))) is pushed)

-- one more record
pub record_more : (beside : Beside) (image same : List ℕ) (begin all now new : List TextPair) (number : ℕ) (left rest : List Item) (entry : Item)
    → same ≡ image → left ≡ entry ∷ rest
    → AreListing beside begin now all (map text_pair (flat_map (listed_entry (file_of image)) (enumerate_from number left)))
    → AddsEnough beside now new (map text_pair (listed_entry (file_of same) (number, entry)))
    → AreListing beside begin new all (map text_pair (flat_map (listed_entry (file_of image)) (enumerate_from (number + 1) rest)))
record_more beside image same begin all now new number left rest entry is are so_far pushed =
    let file : File = file_of image in
    let listed : List Item → List (ListKey × List ℕ) = λ entries. flat_map (listed_entry file) (enumerate_from number entries) in
    listed_on beside begin now new all (listed_entry file (number, entry)) (flat_map (listed_entry file) (enumerate_from (number + 1) rest)) (listed left)
    (ap listed are) so_far (subst (λ (i : List ℕ). AddsEnough beside now new (map text_pair (listed_entry (file_of i) (number, entry)))) is pushed)

-- of records none of which has been passed
pub records_begin : (beside : Beside) (file : File) (root : ℕ) (pairs : List TextPair) (found : List Item) → found ≡ tree_entries file root → pairs ≡ []
    → AreListing beside [] pairs (map text_pair (recno_list file root)) (map text_pair (flat_map (listed_entry file) (enumerate_from 1 found)))
unfolding recno_list
records_begin beside file root pairs found are none =
    let list : List Item → List TextPair = λ entries. map text_pair (flat_map (listed_entry file) (enumerate_from 1 entries)) in
    subst (λ now. AreListing beside [] now (map text_pair (recno_list file root)) (list found)) (sym none)
    (subst (AreListing beside [] [] (map text_pair (recno_list file root))) (ap list (sym are))
    (listing_begins beside [] (map text_pair (recno_list file root))))

-- Pairs that share their key.

shares_on : (key : List ℕ) (pairs : List StoredPair) → HaveKeys key pairs → ShareKeys key pairs
shares_on key [] have = tt
shares_on key (pair ∷ pairs) have = (have.0, shares_on pair.key pairs have.1)

pub first_follow : (before after : List StoredPair) → Follow (before ++ after) → Follow before
first_follow before after follow = record { key = follow.key; shares = first follow.key before follow.shares }
  where
    first : (key : List ℕ) (pairs : List StoredPair) → ShareKeys key (pairs ++ after) → ShareKeys key pairs
    first key [] shares = tt
    first key (pair ∷ pairs) shares = (shares.0, first pair.key pairs shares.1)

pub last_follow : (before after : List StoredPair) → Follow (before ++ after) → Follow after
last_follow before after follow = last follow.key before follow.shares
  where
    last : (key : List ℕ) (pairs : List StoredPair) → ShareKeys key (pairs ++ after) → Follow after
    last key [] shares = record { key = key; shares = shares }
    last key (pair ∷ pairs) shares = last pair.key pairs shares.1

pub tree_follows : (image : List ℕ) (root : ℕ) → Follow (flat_map (pairs_of (file_of image)) (leaves (file_of image) root))
tree_follows image root = record {
  key = [];
  shares = shares_on [] (flat_map (pairs_of (file_of image)) (leaves (file_of image) root))
      (subst (HaveKeys []) (sym (pairs_of_tree (file_of image) root)) (tree_keys image root []));
}

-- The list of a tree.

pub list_of_leaves : (file : File) (root : ℕ) → btree_list file root ≡ flat_map (listed_pair file) (flat_map (pairs_of file) (leaves file root))
unfolding btree_list
list_of_leaves file root = ap (flat_map (listed_pair file)) (sym (pairs_of_tree file root))

-- one more leaf
pub leaf_more : (beside : Beside) (file : File) (begin old now new : List TextPair) (p : ℕ) (left rest : List ℕ) → left ≡ p ∷ rest
    → AreListing beside begin now old (map text_pair (flat_map (listed_pair file) (flat_map (pairs_of file) left)))
    → AddsEnough beside now new (map text_pair (flat_map (listed_pair file) (pairs_of file p)))
    → AreListing beside begin new old (map text_pair (flat_map (listed_pair file) (flat_map (pairs_of file) rest)))
leaf_more beside file begin old now new p left rest are so_far pushed =
    let listed : List ℕ → List (ListKey × List ℕ) = λ ps. flat_map (listed_pair file) (flat_map (pairs_of file) ps) in
    listed_on beside begin now new old (flat_map (listed_pair file) (pairs_of file p)) (listed rest) (listed left)
    (ap listed are ∙ flat_map-append (listed_pair file) (pairs_of file p) (flat_map (pairs_of file) rest)) so_far pushed

-- of a walk that hasn't begun
pub list_begins : (beside : Beside) (file : File) (root : ℕ) (pairs : List TextPair) (found : List ℕ) → found ≡ leaves file root → pairs ≡ []
    → AreListing beside [] pairs (map text_pair (btree_list file root)) (map text_pair (flat_map (listed_pair file) (flat_map (pairs_of file) found)))
list_begins beside file root pairs found are none =
    let list : List ℕ → List TextPair = λ ps. map text_pair (flat_map (listed_pair file) (flat_map (pairs_of file) ps)) in
    subst (λ now. AreListing beside [] now (map text_pair (btree_list file root)) (list found)) (sym none)
    (subst (AreListing beside [] [] (map text_pair (btree_list file root)))
    (ap (λ entries. map text_pair entries) (list_of_leaves file root) ∙ ap list (sym are)) (listing_begins beside [] (map text_pair (btree_list file root))))

-- the same, where the file and the leaf are known by other names
pub leaf_on : (beside : Beside) (image same : List ℕ) (begin old now new : List TextPair) (left rest : List ℕ) (leaf p : ℕ) → same ≡ image
    → left ≡ leaf ∷ rest → p ≡ leaf
    → AreListing beside begin now old (map text_pair (flat_map (listed_pair (file_of image)) (flat_map (pairs_of (file_of image)) left)))
    → AddsEnough beside now new (map text_pair (flat_map (listed_pair (file_of same)) (pairs_of (file_of same) p)))
    → AreListing beside begin new old (map text_pair (flat_map (listed_pair (file_of image)) (flat_map (pairs_of (file_of image)) rest)))
leaf_on beside image same begin old now new left rest leaf p is are number so_far pushed =
    leaf_more beside (file_of image) begin old now new leaf left rest are so_far
    (subst (λ (n : ℕ). AddsEnough beside now new (map text_pair (flat_map (listed_pair (file_of image)) (pairs_of (file_of image) n)))) number
    (subst (λ (f : List ℕ). AddsEnough beside now new (map text_pair (flat_map (listed_pair (file_of f)) (pairs_of (file_of f) p)))) is pushed))

pub next_follow : (image same : List ℕ) (left rest : List ℕ) (leaf p : ℕ) → same ≡ image → left ≡ leaf ∷ rest → p ≡ leaf
    → Follow (flat_map (pairs_of (file_of image)) left) → Follow (pairs_of (file_of same) p)
next_follow image same left rest leaf p is are number follow =
    let first : Follow (pairs_of (file_of image) leaf) =
    first_follow (pairs_of (file_of image) leaf) (flat_map (pairs_of (file_of image)) rest)
    (subst (λ ps. Follow (flat_map (pairs_of (file_of image)) ps)) are follow) in
    subst (λ (f : List ℕ). Follow (pairs_of (file_of f) p)) (sym is) (subst (λ (n : ℕ). Follow (pairs_of (file_of image) n)) (sym number) first)
