-- Pairs that are whole units: runs, each of a pair with its own key and of pairs that share it.
use Rattle.std.proofs.Common.{arith, ◌≡◌, ℕ, ◌+◌, Bool, true, false, not, cond, List, [], ◌∷◌, ◌++◌, map, get_or, refl, sym, ◌∙◌, ap, inl, inr, ◌==◌, ◌&&◌}
use Rattle.bdb_mkleaves.proofs.Common.{All, enumerate_from, filter, flat_map, list_any, take_while, and_parts, and_right, or_from, map-append, flat_map-append, All-append, All-head, All-nil, All-tail}
use Rattle.bdb_mkleaves.proofs.Common.{list_any_none, take_while-cons, BytesKey, File, Item, StoredPair, ascends, ascends_from, data_of, groups, has_unsorted, is_out_of_order, is_unsorted, less}
use Rattle.bdb_mkleaves.proofs.Common.{listed_entry, listed_pair, live_data, neighbours, neighbours_from, Follow, FollowFrom, Follows, entry_unit, group_unit, keyed_units, listed_keyed, listed_record}

abbrev pub Group : Type 0
Group = StoredPair × List StoredPair

abbrev pub all_of_group : Group → List StoredPair
all_of_group group = group.0 ∷ group.1

abbrev pub data_in : File → List StoredPair → List (List ℕ)
data_in g pairs = flat_map (λ (pair : StoredPair). data_of g pair.data_item) pairs

-- a live pair of a key
pub record HasKey (key : List ℕ) (pair : StoredPair) : Type 0 where
  pub live : pair.live ≡ true
  pub key_is : pair.key ≡ key

abbrev pub Shares : StoredPair → Type 0
Shares pair = pair.shares ≡ true

-- live pairs of one key, of which the first has it itself
pub record IsRun (group : Group) : Type 0 where
  pub own : group.0.shares ≡ false
  pub share : All Shares group.1
  pub each : All (HasKey group.0.key) (all_of_group group)

-- The units of runs.

abbrev BeginsOwn : List StoredPair → Type 0
BeginsOwn [] = Unit {0}
BeginsOwn (pair ∷ pairs) = pair.shares ≡ false

begins_own : (runs : List Group) → All IsRun runs → BeginsOwn (flat_map all_of_group runs)
begins_own [] all = tt
begins_own (run ∷ runs) all = (All-head IsRun run runs all).own

-- the pairs from the front on that share a key
abbrev sharing : List StoredPair → List StoredPair
sharing pairs = take_while (λ (other : StoredPair). other.shares) pairs

sharing_more : (pair : StoredPair) (pairs : List StoredPair) → sharing (pair ∷ pairs) ≡ cond pair.shares (pair ∷ sharing pairs) []
sharing_more pair pairs = take_while-cons (λ (other : StoredPair). other.shares) pair pairs

taken : (more rest : List StoredPair) → All Shares more → BeginsOwn rest → sharing (more ++ rest) ≡ more
taken [] [] all own = refl
taken [] (pair ∷ rest) all own = sharing_more pair rest ∙ ap (λ b. cond b (pair ∷ sharing rest) []) own
taken (pair ∷ more) rest all own = grind (arith, sharing_more, All-head, All-tail, taken more rest (All-tail Shares pair more all) own)

abbrev own_groups : List StoredPair → List Group
own_groups pairs = filter (λ (group : Group). not group.0.shares) (groups pairs)

passed : (more rest : List StoredPair) → All Shares more → own_groups (more ++ rest) ≡ own_groups rest
passed [] rest all = refl
passed (pair ∷ more) rest all = rw (All-head Shares pair more all) (passed more rest (All-tail Shares pair more all))

-- the groups that begin with a key of their own are the runs
own_groups_are : (runs : List Group) → All IsRun runs → own_groups (flat_map all_of_group runs) ≡ runs
own_groups_are [] all = refl
own_groups_are (run ∷ runs) all =
    let this : IsRun run = All-head IsRun run runs all in
    let others : All IsRun runs = All-tail IsRun run runs all in
    let rest : List StoredPair = flat_map all_of_group runs in
    rw (this.own, taken run.1 rest this.share (begins_own runs others), passed run.1 rest this.share, own_groups_are runs others) refl

pub units_of_runs : (g : File) (runs : List Group) → All IsRun runs → keyed_units g (flat_map all_of_group runs) ≡ map (group_unit g) runs
units_of_runs g runs all = ap (map (group_unit g)) (own_groups_are runs all)

-- Their list.

listed_pairs : (g : File) (key : List ℕ) (pairs : List StoredPair) → All (HasKey key) pairs
    → flat_map (listed_pair g) pairs ≡ map (λ value. (BytesKey key, value)) (data_in g pairs)
listed_pairs g key [] all = refl
listed_pairs g key (pair ∷ pairs) all =
    let this : HasKey key pair = All-head (HasKey key) pair pairs all in
    rw (this.live, this.key_is, listed_pairs g key pairs (All-tail (HasKey key) pair pairs all))
    (sym (map-append (λ value. (BytesKey key, value)) (data_of g pair.data_item) (data_in g pairs)))

pub list_of_runs : (g : File) (runs : List Group) → All IsRun runs
    → flat_map (listed_pair g) (flat_map all_of_group runs) ≡ flat_map listed_keyed (map (group_unit g) runs)
list_of_runs g [] all = refl
list_of_runs g (run ∷ runs) all =
    flat_map-append (listed_pair g) (all_of_group run) (flat_map all_of_group runs)
    ∙ rw (listed_pairs g run.0.key (all_of_group run) (All-head IsRun run runs all).each, list_of_runs g runs (All-tail IsRun run runs all)) refl

-- records are listed by their units
pub list_of_records : (g : File) (n : ℕ) (items : List Item)
    → flat_map (listed_entry g) (enumerate_from n items) ≡ flat_map listed_record (enumerate_from n (map (entry_unit g) items))
list_of_records g n [] = refl
list_of_records g n (item ∷ items) = ap (λ list. listed_entry g (n, item) ++ list) (list_of_records g (n + 1) items)

-- Their order.

abbrev pub keys_of : List Group → List (List ℕ)
keys_of runs = map (λ (run : Group). run.0.key) runs

follow_more : (key : List ℕ) (last : StoredPair) (more rest : List StoredPair) → last.key ≡ key → All Shares more
    → All (HasKey key) more → ((pair : StoredPair) → pair.key ≡ key → FollowFrom pair rest) → FollowFrom last (more ++ rest)
follow_more key last [] rest is share each after = after last is
follow_more key last (pair ∷ more) rest is share each after =
    let this : pair.key ≡ key = (All-head (HasKey key) pair more each).key_is in (
      inl (All-head Shares pair more share, this ∙ sym is),
      follow_more key pair more rest this (All-tail Shares pair more share) (All-tail (HasKey key) pair more each) after,
    )

follow_run : (run : Group) (rest : List StoredPair) → IsRun run → ((pair : StoredPair) → pair.key ≡ run.0.key → FollowFrom pair rest)
    → FollowFrom run.0 (run.1 ++ rest)
follow_run run rest this after = follow_more run.0.key run.0 run.1 rest refl this.share (All-tail (HasKey run.0.key) run.0 run.1 this.each) after

follow_after : (runs : List Group) (key : List ℕ) → All IsRun runs → ascends_from key (keys_of runs) ≡ true
    → (pair : StoredPair) → pair.key ≡ key → FollowFrom pair (flat_map all_of_group runs)
follow_after [] key all ascend pair is = tt
follow_after (run ∷ runs) key all ascend pair is =
    let parts = and_parts (less key run.0.key) (ascends_from run.0.key (keys_of runs)) ascend in (
      inr (ap (λ k. less k run.0.key) is ∙ parts.0),
      follow_run run (flat_map all_of_group runs) (All-head IsRun run runs all) (follow_after runs run.0.key (All-tail IsRun run runs all) parts.1),
    )

pub runs_follow : (runs : List Group) → All IsRun runs → ascends (keys_of runs) ≡ true → Follow (flat_map all_of_group runs)
runs_follow [] all ascend = tt
runs_follow (run ∷ runs) all ascend =
    follow_run run (flat_map all_of_group runs) (All-head IsRun run runs all) (follow_after runs run.0.key (All-tail IsRun run runs all) ascend)

-- The rows of pairs.

-- what holds of the pairs of each run holds of all
all_pairs : (P : StoredPair → Type 0) (runs : List Group) → All (λ run. All P (all_of_group run)) runs → All P (flat_map all_of_group runs)
all_pairs P [] all = All-nil P
all_pairs P (run ∷ runs) all =
    All-append P (all_of_group run) (flat_map all_of_group runs) (All-head (λ one. All P (all_of_group one)) run runs all)
    (all_pairs P runs (All-tail (λ one. All P (all_of_group one)) run runs all))

-- a test that each pair of the runs fails
pub none_at : (test : StoredPair → Bool) (runs : List Group) (p : ℕ) → All (λ run. All (λ pair. test pair ≡ false) (all_of_group run)) runs
    → list_any (λ (pair : StoredPair). pair.page == p && test pair) (flat_map all_of_group runs) ≡ false
none_at test runs p all =
    let pairs : List StoredPair = flat_map all_of_group runs in
    list_any_none (λ (pair : StoredPair). pair.page == p && test pair) pairs
    (λ k d low. and_right ((get_or pairs k d).page == p) (test (get_or pairs k d)) (all_pairs (λ pair. test pair ≡ false) runs all k d low))

in_order : (pair next : StoredPair) → Follows pair next → is_out_of_order (pair, next) ≡ false
in_order pair next (inl same) = ap (λ b. not b && not (less pair.key next.key)) same.0
in_order pair next (inr rises) = and_right (not next.shares) (not (less pair.key next.key)) (ap not rises)

in_order_from : (pair : StoredPair) (pairs : List StoredPair) (p : ℕ) → FollowFrom pair pairs
    → list_any (λ (two : StoredPair × StoredPair). two.1.page == p && is_out_of_order two) (neighbours_from pair pairs) ≡ false
in_order_from pair [] p follow = refl
in_order_from pair (next ∷ pairs) p follow = grind (arith, and_right, in_order, or_from, in_order_from next pairs p follow.1)

-- pairs that follow each other are in the order of their keys
pub all_in_order : (pairs : List StoredPair) (p : ℕ) → Follow pairs
    → list_any (λ (two : StoredPair × StoredPair). two.1.page == p && is_out_of_order two) (neighbours pairs) ≡ false
all_in_order [] p follow = refl
all_in_order (pair ∷ pairs) p follow = in_order_from pair pairs p follow

pub ascends_later : (value : List ℕ) (values : List (List ℕ)) → ascends_from value values ≡ true → ascends values ≡ true
ascends_later value [] ascend = refl
ascends_later value (next ∷ values) ascend = (and_parts (less value next) (ascends_from next values) ascend).1

-- the last of ascending values ascend
ascends_end : (xs ys : List (List ℕ)) → ascends (xs ++ ys) ≡ true → ascends ys ≡ true
ascends_end [] ys ascend = ascend
ascends_end (x ∷ xs) ys ascend = ascends_end xs ys (ascends_later x (xs ++ ys) ascend)

live_data_are : (g : File) (key : List ℕ) (pairs : List StoredPair) → All (HasKey key) pairs → flat_map (live_data g) pairs ≡ data_in g pairs
live_data_are g key [] all = refl
live_data_are g key (pair ∷ pairs) all = rw ((All-head (HasKey key) pair pairs all).live, live_data_are g key pairs (All-tail (HasKey key) pair pairs all)) refl

sorted_here : (g : File) (key : List ℕ) (pair : StoredPair) (more rest : List StoredPair) (p : ℕ) → All Shares more → All (HasKey key) (pair ∷ more)
    → BeginsOwn rest → ascends (data_in g (pair ∷ more)) ≡ true
    → (pair.page == p && is_unsorted g (pair, sharing (more ++ rest))) ≡ false
sorted_here g key pair more rest p share each own ascend =
    ap (λ others. pair.page == p && is_unsorted g (pair, others)) (taken more rest share own)
    ∙ and_right (pair.page == p) (is_unsorted g (pair, more))
    (ap (λ values. not (ascends values)) (live_data_are g key (pair ∷ more) each) ∙ ap not ascend)

-- where the data of a run ascend, those from each of its pairs on do
sorted_run : (g : File) (key : List ℕ) (pair : StoredPair) (more rest : List StoredPair) (p : ℕ) → All Shares more → All (HasKey key) (pair ∷ more)
    → BeginsOwn rest → ascends (data_in g (pair ∷ more)) ≡ true → has_unsorted g rest p ≡ false → has_unsorted g (pair ∷ (more ++ rest)) p ≡ false
sorted_run g key pair [] rest p share each own ascend none = or_from _ _ (sorted_here g key pair [] rest p share each own ascend) none
sorted_run g key pair (next ∷ more) rest p share each own ascend none =
    or_from _ _ (sorted_here g key pair (next ∷ more) rest p share each own ascend)
    (sorted_run g key next more rest p (All-tail Shares next more share) (All-tail (HasKey key) pair (next ∷ more) each) own
    (ascends_end (data_of g pair.data_item) (data_in g (next ∷ more)) ascend) none)

abbrev pub IsSorted : File → Group → Type 0
IsSorted g run = ascends (data_in g (all_of_group run)) ≡ true

pub none_unsorted : (g : File) (runs : List Group) (p : ℕ) → All IsRun runs → All (IsSorted g) runs
    → has_unsorted g (flat_map all_of_group runs) p ≡ false
none_unsorted g [] p all sorted = refl
none_unsorted g (run ∷ runs) p all sorted =
    let this : IsRun run = All-head IsRun run runs all in
    let others : All IsRun runs = All-tail IsRun run runs all in
    sorted_run g run.0.key run.0 run.1 (flat_map all_of_group runs) p this.share this.each (begins_own runs others)
    (All-head (IsSorted g) run runs sorted) (none_unsorted g runs p others (All-tail (IsSorted g) run runs sorted))
