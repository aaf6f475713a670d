-- What is left of the pairs of a span.
use Rattle.std.proofs.Common.{◌≡◌, ◌∙◌, ℕ, zero, suc, ◌-◌, ◌<◌, true, false, cond, List, [], ◌∷◌, ◌++◌, take, sym, ap, arith, Option, flat_map}
use Rattle.bdb_btree.specs.of_format.Terms.{File, ListKey, StoredPair, listed_pair, pairs_of}
use Rattle.bdb_btree.specs.Pairs.{left_of, pairs_left}
use Rattle.bdb_btree.specs.Search.{entries_left}
use Rattle.bdb_range.specs.Ranges.{lies_between}
use Rattle.bdb_range.specs.InRange.{pairs_between}

-- the pairs that are left where a walk goes on to the next leaf
pub next_leaf : (file : File) (here after : Option (List StoredPair)) (old new : List ℕ) (left p : ℕ) → left_of here ≡ [] → old ≡ p ∷ new → 0 < left
    → left_of after ≡ pairs_of file p → pairs_left file after (take (left - 1) new) ≡ pairs_left file here (take left old)
next_leaf file here after old new zero p none is some are = absurd (omega arith)
next_leaf file here after old new (suc n) p none is some are = grind arith

pub no_leaves : (file : File) (here : Option (List StoredPair)) (old : List ℕ) (left : ℕ) → left_of here ≡ [] → old ≡ []
    → pairs_left file here (take left old) ≡ []
no_leaves file here old zero none is = ap (λ pairs. pairs ++ []) none
no_leaves file here old (suc n) none is = ap (λ pairs. pairs ++ flat_map (pairs_of file) (take (suc n) old)) none ∙ ap
    (λ xs. flat_map (pairs_of file) (take (suc n) xs)) is

pub none_left : (file : File) (here : Option (List StoredPair)) (old : List ℕ) (left : ℕ) → left_of here ≡ [] → left ≡ 0
    → pairs_left file here (take left old) ≡ []
none_left file here old left none is =
    ap (λ pairs. pairs ++ flat_map (pairs_of file) (take left old)) none ∙ ap (λ (k : ℕ). flat_map (pairs_of file) (take k old)) is

-- the entries that are left where a pair of the range is taken, and where another is passed by
pub next_between : (file : File) (from to : List ℕ) (here after : Option (List (ListKey × List ℕ))) (old new : List StoredPair) (pair : StoredPair)
    → left_of here ≡ []
    → old ≡ pair ∷ new → lies_between from to pair.key ≡ true → left_of after ≡ listed_pair file pair
    → entries_left file after (pairs_between from to new) ≡ entries_left file here (pairs_between from to old)
next_between file from to here after old new pair none more lies are = grind arith

pub passed_by : (from to : List ℕ) (old new : List StoredPair) (pair : StoredPair) → old ≡ pair ∷ new → lies_between from to pair.key ≡ false
    → pairs_between from to new ≡ pairs_between from to old
passed_by from to old new pair more lies =
    sym (ap (pairs_between from to) more ∙ ap (λ b. cond b (pair ∷ pairs_between from to new) (pairs_between from to new)) lies)
