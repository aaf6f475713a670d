-- The rows on the pairs of a tree, once all pairs have been passed.
use Rattle.std.proofs.Common.{◌≡◌, ℕ, Bool, true, false, not, List, [], ◌∷◌, ◌++◌, ◌&&◌, refl, sym, ◌∙◌, ap, subst, inl, append_assoc, ◌==◌, ◌||◌}
use Rattle.std.specs.List.{flat_map, fold, list_any}
use Rattle.bdb_ranks.specs.of_format.Terms.{File, StoredPair, fault_if, file_of, has_duplicate, has_unsorted, has_wrong_set, is_duplicate, is_wrong_set}
use Rattle.bdb_ranks.specs.of_format.Terms.{tree_pairs}
use Rattle.bdb_ranks.specs.of_format.declared.rows.Row.TheVariants.{Contents}
use Rattle.bdb_ranks.specs.of_format.declared.kinds.Fault.{Fault}
use Rattle.bdb_faults.specs.Notes.{Notes}
use Rattle.bdb_ranks.specs.of_image.Linked.{FitsTreeRoot, IsForest}
use Rattle.bdb_btree.specs.Pairs.{AreFit, FitsPair}
use Rattle.bdb_btree.specs.Rows.{Passed, has_wrong_order, next_pair, no_pairs_passed, pair_faults, pairs_faults, passes}
use Rattle.bdb_ranks.specs.of_format.declared.rows.ContentsRow.TheVariants.{Duplicates, DuplicateKind, KeyOrder, DuplicateOrder}
use Rattle.bdb_btree.specs.declared.pair_rows.Rules.{Rules}
use Rattle.bdb_btree.proofs.NotedLemmas.{both_have, has, is_of, row_has}
use Rattle.bdb_btree.proofs.OrderLemmas.{data_in_order, keys_in_order}
use Rattle.bdb_btree.proofs.PairLemmas.{tree_pair, tree_shares}
use Rattle.bdb_btree.proofs.WalkLemmas.{each_of}
use Rattle.bdb_faults.proofs.SinkLemmas.{notes_nothing, notes_then}

-- Going through the pairs.

-- some pairs are passed, and these are left
pub record PassedTo (file : File) (rules : Rules) (all left : List StoredPair) (passed : Passed) (before now : List Fault → Type 0) : Type 0 where
  pub noted : List Fault
  pub notes : Notes before now noted
  pub rest : noted ++ pairs_faults file rules passed left ≡ pairs_faults file rules no_pairs_passed all
  pub state : fold (next_pair file rules.sorted) passed left ≡ fold (next_pair file rules.sorted) no_pairs_passed all
  pub fit : AreFit file left

-- none is passed yet
pub pass_none : (file : File) (rules : Rules) (all left : List StoredPair) (passed : Passed) (before : List Fault → Type 0) → left ≡ all
    → passed ≡ no_pairs_passed → AreFit file all → PassedTo file rules all left passed before before
pass_none file rules all left passed before starts none fit = record {
  noted = [];
  notes = notes_nothing before;
  rest = ap (λ one. pairs_faults file rules one left) none ∙ ap (pairs_faults file rules no_pairs_passed) starts;
  state = ap (λ one. fold (next_pair file rules.sorted) one left) none ∙ ap (fold (next_pair file rules.sorted) no_pairs_passed) starts;
  fit = subst (AreFit file) (sym starts) fit;
}

-- one more
pub pass_more : (file : File) (rules : Rules) (all old left : List StoredPair) (pair : StoredPair) (passed next : Passed)
    (before mid after : List Fault → Type 0)
    → PassedTo file rules all old passed before mid → old ≡ pair ∷ left → next ≡ next_pair file rules.sorted passed pair
    → Notes mid after (pair_faults file rules next pair) → PassedTo file rules all left next before after
pass_more file rules all old left pair passed next before mid after to steps is more =
    let faults : List Fault = pair_faults file rules next pair in
    record {
      noted = to.noted ++ faults;
      notes = notes_then before mid after to.noted faults to.notes more;
      rest =
          append_assoc to.noted faults (pairs_faults file rules next left)
          ∙ (ap (λ one. to.noted ++ (pair_faults file rules one pair ++ pairs_faults file rules one left)) is
          ∙ (ap (λ pairs. to.noted ++ pairs_faults file rules passed pairs) (sym steps) ∙ to.rest));
      state =
          ap (λ one. fold (next_pair file rules.sorted) one left) is ∙ (ap (fold (next_pair file rules.sorted) passed) (sym steps) ∙ to.state);
      fit = (subst (AreFit file) steps to.fit).1;
    }

-- no pair is left
pub pass_all : (file : File) (rules : Rules) (all left : List StoredPair) (passed : Passed) (before now : List Fault → Type 0)
    → PassedTo file rules all left passed before now → left ≡ [] → passed ≡ fold (next_pair file rules.sorted) no_pairs_passed all
pass_all file rules all left passed before now to none = sym (ap (fold (next_pair file rules.sorted) passed) none) ∙ to.state

-- What was noted.

at_pairs : (file : File) (sorted : Bool) (test : StoredPair → Bool) (pairs : List StoredPair) (passed : Passed)
    → list_any (λ (at : StoredPair × Passed). test at.0) (passes file sorted passed pairs) ≡ list_any test pairs
at_pairs file sorted test [] passed = refl
at_pairs file sorted test (pair ∷ pairs) passed = ap (λ b. test pair || b) (at_pairs file sorted test pairs (next_pair file sorted passed pair))

none_pass : {X : Type 0} (page : X → Bool) (xs : List X) → list_any (λ x. page x && false) xs ≡ false
none_pass page [] = refl
none_pass page (x ∷ xs) = nothing (page x) (list_any (λ y. page y && false) xs) ∙ none_pass page xs
  where
    nothing : (a b : Bool) → ((a && false) || b) ≡ b
    nothing true b = refl
    nothing false b = refl

-- a test that is looked at under a condition alone
guard_out : {X : Type 0} (guard : Bool) (page test : X → Bool) (xs : List X)
    → list_any (λ x. page x && (guard && test x)) xs ≡ (guard && list_any (λ x. page x && test x) xs)
guard_out true page test xs = refl
guard_out false page test xs = none_pass page xs

data_row : (file : File) (sorted : Bool) (root p : ℕ)
    → (sorted && list_any (λ (at : StoredPair × Passed). (at.0.page == p) && at.1.values.broken)
    (passes file sorted no_pairs_passed (tree_pairs file root)))
    ≡ (sorted && has_unsorted file (tree_pairs file root) p)
data_row file true root p = data_in_order file (tree_pairs file root) p (tree_shares file root)
data_row file false root p = refl

-- the rows on pairs are noted
pub pairs_have : (file : File) (rules : Rules) (root : ℕ) (fault : Fault)
    → has (pairs_faults file rules no_pairs_passed (tree_pairs file root)) fault
    ≡ ((((is_of Duplicates fault && (not rules.duplicates && has_duplicate (tree_pairs file root) fault.page))
    || (is_of DuplicateKind fault && has_wrong_set file rules.sorted (tree_pairs file root) fault.page))
    || (is_of KeyOrder fault && has_wrong_order (tree_pairs file root) fault.page))
    || (is_of DuplicateOrder fault && (rules.sorted && has_unsorted file (tree_pairs file root) fault.page)))
pairs_have file rules root fault =
    let pairs : List StoredPair = tree_pairs file root in
    let all : List (StoredPair × Passed) = passes file rules.sorted no_pairs_passed pairs in
    let p : ℕ = fault.page in
    let first : (StoredPair × Passed) → Bool = λ at. not rules.duplicates && is_duplicate at.0 in
    let second : (StoredPair × Passed) → Bool = λ at. is_wrong_set file rules.sorted at.0.data_item in
    let third : (StoredPair × Passed) → Bool = λ at. at.1.keys.wrong in
    let fourth : (StoredPair × Passed) → Bool = λ at. rules.sorted && at.1.values.broken in
    let a : (StoredPair × Passed) → List Fault = λ at. fault_if (Contents Duplicates) at.0.page (first at) in
    let b : (StoredPair × Passed) → List Fault = λ at. fault_if (Contents DuplicateKind) at.0.page (second at) in
    let c : (StoredPair × Passed) → List Fault = λ at. fault_if (Contents KeyOrder) at.0.page (third at) in
    let d : (StoredPair × Passed) → List Fault = λ at. fault_if (Contents DuplicateOrder) at.0.page (fourth at) in
    let page : (StoredPair × Passed) → ℕ = λ at. at.0.page in
    let one = row_has page Duplicates first all fault
    ∙ ap (λ x. is_of Duplicates fault && x) (guard_out (not rules.duplicates) (λ at. page at == p) (λ at. is_duplicate at.0) all
    ∙ ap (λ x. not rules.duplicates && x) (at_pairs file rules.sorted (λ pair. (pair.page == p) && is_duplicate pair) pairs no_pairs_passed)) in
    let two = row_has page DuplicateKind second all fault
    ∙ ap (λ x. is_of DuplicateKind fault && x)
    (at_pairs file rules.sorted (λ pair. (pair.page == p) && is_wrong_set file rules.sorted pair.data_item) pairs no_pairs_passed) in
    let three = row_has page KeyOrder third all fault ∙ ap (λ x. is_of KeyOrder fault && x) (keys_in_order file rules.sorted pairs p) in
    let four = row_has page DuplicateOrder fourth all fault
    ∙ ap (λ x. is_of DuplicateOrder fault && x)
    (guard_out rules.sorted (λ at. page at == p) (λ at. at.1.values.broken) all ∙ data_row file rules.sorted root p) in
    both_have (λ at. (a at ++ b at) ++ c at) d all fault
    ∙ (ap (λ x. x || has (flat_map d all) fault) (both_have (λ at. a at ++ b at) c all fault
    ∙ ap (λ x. x || has (flat_map c all) fault) (both_have a b all fault)) ∙ same_four _ _ _ _ _ _ _ _ one two three four)
  where
    same_four : (a b c d e f g h : Bool) → a ≡ e → b ≡ f → c ≡ g → d ≡ h → (((a || b) || c) || d) ≡ (((e || f) || g) || h)
    same_four a b c d e f g h p q r s = cc

-- What pairs name.

pub tree_pairs_fit : (image : List ℕ) (root : ℕ) → IsForest image → FitsTreeRoot (file_of image) root
    → AreFit (file_of image) (tree_pairs (file_of image) root)
tree_pairs_fit image root forest fits =
    each_of (FitsPair (file_of image)) (tree_pairs (file_of image) root) (λ pair at. (tree_pair image root pair forest (inl fits) at).fits)
