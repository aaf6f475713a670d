-- The pairs of a list, one after another.
use Rattle.std.proofs.Common.{arith, ◌≡◌, ℕ, List, [], ◌∷◌, Option, sym, ap, subst, flat_map}
use Rattle.bdb_ranks.specs.of_format.Terms.{File, ListKey, StoredPair, btree_list, file_of, listed_pair, structure_faults, tree_pairs}
use Rattle.bdb_ranks.specs.of_image.Linked.{FitsTreeRoot, IsForest}
use Rattle.bdb_btree.specs.Pairs.{AreFit, left_of}
use Rattle.bdb_btree.specs.Search.{AreOpen, entries_left}
use Rattle.bdb_btree.proofs.RowLemmas.{tree_pairs_fit}

-- the entries that are left where a scan goes on to the next pair
pub next_entries : (file : File) (here after : Option (List (ListKey × List ℕ))) (old new : List StoredPair) (pair : StoredPair) → left_of here ≡ []
    → old ≡ pair ∷ new → left_of after ≡ listed_pair file pair
    → entries_left file after new ≡ entries_left file here old
next_entries file here after old new pair none more are = grind arith

-- the pairs of a tree are open
pub tree_open : (image : List ℕ) (root : ℕ) (pairs : List StoredPair) → IsForest image → FitsTreeRoot (file_of image) root
    → structure_faults (file_of image) ≡ [] → pairs ≡ tree_pairs (file_of image) root
    → AreOpen (file_of image) pairs
tree_open image root pairs forest is stage are =
    record { stage = stage; fit = subst (AreFit (file_of image)) (sym are) (tree_pairs_fit image root forest is) }

pub list_of_pairs : (file : File) (root : ℕ) (pairs : List StoredPair) → pairs ≡ tree_pairs file root
    → flat_map (listed_pair file) pairs ≡ btree_list file root
unfolding btree_list
list_of_pairs file root pairs are = ap (flat_map (listed_pair file)) are
