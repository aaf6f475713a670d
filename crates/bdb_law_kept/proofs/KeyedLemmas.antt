-- The lists of pairs with keys: their keys ascend, and their data stand as the settings say.
use Rattle.std.proofs.Common.{◌≡◌, ◌⊎◌, ℕ, ◌≤◌, Bool, true, false, not, cond, List, [], ◌∷◌, ◌++◌, length, map, arith, refl, sym, ◌∙◌, ap, subst, inl, inr}
use Rattle.std.proofs.Common.{true≢false, ◌&&◌, ◌==◌, Contains, flat_map, take_while}
use Rattle.std.specs.Str.{bytes_eq}
use Rattle.std.proofs.lemmas.Bool.{and_parts, eq-eqb, not-false, or_parts, true_from_ne_false}
use Rattle.std.proofs.lemmas.List.Elements.{Contains-append_left, Contains-append_right}
use Rattle.std.proofs.lemmas.List.Sums.{take_while-cons}
use Rattle.bdb_databases.proofs.of_btree.CheckLemmas.{group_in}
use Rattle.bdb_databases.specs.of_format.declared.settings.Settings.{Settings}
use Rattle.bdb_databases.specs.of_format.Terms.{BytesKey, Chain, Content, File, Inline, ListKey, Set, StoredPair, Tree, Unknown, ascends, ascends_from, by_key}
use Rattle.bdb_databases.specs.of_format.Terms.{data_of, groups, has_duplicate, has_unsorted, insert_pair, is_duplicate, is_out_of_order, is_set, is_unsorted}
use Rattle.bdb_databases.specs.of_format.Terms.{less, listed_pair, live_data, neighbours, neighbours_from}
use Rattle.bdb_databases.proofs.of_format.BoolLemmas.{second_false}
use Rattle.bdb_databases.proofs.of_format.ListLemmas.{only_member}
use Rattle.bdb_databases.proofs.of_format.MemberLemmas.{first_member, in_flat_map, later_member, member_cases, no_member, none_passes, of_map}
use Rattle.bdb_databases.proofs.of_format.RepeatLemmas.{has_key, repeated_after}
use Rattle.bdb_databases.proofs.of_format.LessLemmas.{eq_self, less_trans, same_unless_less}
use Rattle.bdb_databases.proofs.of_btree.FallLemmas.{ShareKeys}
use Rattle.bdb_settle.specs.of_text_format.Terms.{holds_records}
use Rattle.bdb_settle.specs.Loaded.{keeps_data, sorts_data}
use Rattle.bdb_law_kept.specs.Later.{AllLater}
use Rattle.bdb_law_kept.proofs.LaterLemmas.{later_flat, later_map, later_one, later_other}
use Rattle.bdb_law_kept.proofs.SettledLemmas.{ComesBefore, InOrder}
use Rattle.bdb_databases.proofs.NameOrderLemmas.{not_repeated}

-- Data that ascend.

ascends_above : (value : List ℕ) (values : List (List ℕ)) (other : List ℕ) → ascends_from value values ≡ true → Contains values other
    → less value other ≡ true
ascends_above value [] other ascend at = absurd (no_member [] other refl at)
ascends_above value (next ∷ values) other ascend at =
    let parts = and_parts (less value next) (ascends_from next values) ascend in
    elim (member_cases next values other at) [
      | inl same ↦ subst (λ (v : List ℕ). less value v ≡ true) same parts.0
      | inr later ↦ less_trans value next other parts.0 (ascends_above next values other parts.1 later)
    ]

-- each is less than all later ones
abbrev pub Rise : List (List ℕ) → Type 0
Rise values = AllLater (λ a b. less a b ≡ true) values

rise_from : (value : List ℕ) (values : List (List ℕ)) → ascends_from value values ≡ true → Rise values
rise_from value [] ascend = tt
rise_from value (next ∷ values) ascend =
    let parts = and_parts (less value next) (ascends_from next values) ascend in
    ((λ other at. ascends_above next values other parts.1 at), rise_from next values parts.1)

pub ascends_rise : (values : List (List ℕ)) → ascends values ≡ true → Rise values
ascends_rise [] ascend = tt
ascends_rise (value ∷ values) ascend = ((λ other at. ascends_above value values other ascend at), rise_from value values ascend)

pub later_first : {X : Type 0} (R : X → X → Type 0) (xs ys : List X) → AllLater R (xs ++ ys) → AllLater R xs
later_first R [] ys all = tt
later_first R (x ∷ xs) ys all = ((λ y at. all.0 y (Contains-append_left xs ys y at)), later_first R xs ys all.1)

pub later_across : {X : Type 0} (R : X → X → Type 0) (xs ys : List X) (x y : X) → AllLater R (xs ++ ys) → Contains xs x → Contains ys y → R x y
later_across R [] ys x y all at_x at_y = absurd (no_member [] x refl at_x)
later_across R (z ∷ xs) ys x y all at_x at_y =
    elim (member_cases z xs x at_x) [
      | inl same ↦ subst (λ w. R w y) same (all.0 y (Contains-append_right xs ys y at_y))
      | inr later ↦ later_across R xs ys x y all.1 later at_y
    ]

-- Pairs and what the list has of them.

-- a datum with its key
abbrev pub with_key : List ℕ → List ℕ → (ListKey × List ℕ)
with_key key value = (BytesKey key, value)

listed_live : (file : File) (pair : StoredPair) → listed_pair file pair ≡ map (with_key pair.key) (live_data file pair)
listed_live file pair = step pair.live
  where
    step : (b : Bool) → cond b (map (with_key pair.key) (data_of file pair.data_item)) []
        ≡ map (with_key pair.key) (cond b (data_of file pair.data_item) [])
    step true = refl
    step false = refl

pub of_listed : (file : File) (pair : StoredPair) (entry : ListKey × List ℕ) → Contains (listed_pair file pair) entry
    → (value : List ℕ) × Contains (live_data file pair) value × ((BytesKey pair.key, value) ≡ entry)
of_listed file pair entry at =
    of_map (with_key pair.key) (live_data file pair) entry
    (subst (λ l. Contains l entry) (listed_live file pair) at)

-- the data of a pair stand as the settings say: one alone, or ascending, or as they come
pub record HasFitData (settings : Settings) (file : File) (pair : StoredPair) : Type 0 where
  pub alone : settings.duplicates ≡ false → length (live_data file pair) ≤ 1
  pub sorted : settings.sorted ≡ true → Rise (live_data file pair)

-- a pair goes before another: its key is less, or the same where there are duplicates, and its data are less where they are sorted
abbrev pub GoesBefore : Settings → File → StoredPair → StoredPair → Type 0
GoesBefore settings file a b =
    (less a.key b.key ≡ true)
    ⊎ ((a.key ≡ b.key) × (settings.duplicates ≡ true)
    × (settings.sorted ≡ true → (x y : List ℕ) → Contains (live_data file a) x → Contains (live_data file b) y → less x y ≡ true))

few_later : {X : Type 0} (R : X → X → Type 0) (xs : List X) → length xs ≤ 1 → AllLater R xs
few_later R [] few = tt
few_later R (x ∷ []) few = later_one R x
few_later R (x ∷ y ∷ xs) few = absurd (omega (arith, few))

kept_so : (settings : Settings) → holds_records settings.kind ≡ false → settings.duplicates ≡ true → settings.sorted ≡ false
    → keeps_data settings ≡ true
kept_so settings keyed dup sorted = rw (keyed, dup, sorted) refl

sorts_so : (settings : Settings) → holds_records settings.kind ≡ false → settings.sorted ≡ true → sorts_data settings ≡ true
sorts_so settings keyed sorted = rw (keyed, sorted) refl

data_ordered : (settings : Settings) (file : File) (pair : StoredPair) → holds_records settings.kind ≡ false → HasFitData settings file pair
    → InOrder settings (listed_pair file pair)
data_ordered settings file pair keyed fit =
    subst (InOrder settings) (sym (listed_live file pair))
    (later_map (ComesBefore settings) (with_key pair.key) (live_data file pair)
    (by_flags settings.sorted settings.duplicates refl refl))
  where
    by_flags : (sorted dup : Bool) → settings.sorted ≡ sorted → settings.duplicates ≡ dup
        → AllLater (λ (v w : List ℕ). ComesBefore settings (BytesKey pair.key, v) (BytesKey pair.key, w)) (live_data file pair)
    by_flags true dup is_sorted is_dup =
        later_other (λ a b. less a b ≡ true) _ (live_data file pair)
        (λ v w at_v at_w below. inr (refl, inr (sorts_so settings keyed is_sorted, below)))
        (fit.sorted is_sorted)
    by_flags false true is_sorted is_dup =
        all_so (live_data file pair)
      where
        all_so : (values : List (List ℕ)) → AllLater (λ (v w : List ℕ). ComesBefore settings (BytesKey pair.key, v) (BytesKey pair.key, w)) values
        all_so [] = tt
        all_so (value ∷ values) = ((λ w at. inr (refl, inl (kept_so settings keyed is_dup is_sorted))), all_so values)
    by_flags false false is_sorted is_dup = few_later _ (live_data file pair) (fit.alone is_dup)

across_pairs : (settings : Settings) (file : File) (a b : StoredPair) → holds_records settings.kind ≡ false → GoesBefore settings file a b
    → (x y : ListKey × List ℕ) → Contains (listed_pair file a) x → Contains (listed_pair file b) y → ComesBefore settings x y
across_pairs settings file a b keyed before x y at_x at_y =
    let one = of_listed file a x at_x in
    let two = of_listed file b y at_y in
    subst (λ p. ComesBefore settings p y) one.2
    (subst (λ q. ComesBefore settings (BytesKey a.key, one.0) q) two.2
    (values one.0 two.0 one.1 two.1 before))
  where
    values : (v w : List ℕ) → Contains (live_data file a) v → Contains (live_data file b) w → GoesBefore settings file a b
        → ComesBefore settings (BytesKey a.key, v) (BytesKey b.key, w)
    values v w at_v at_w (inl below) = inl below
    values v w at_v at_w (inr (same, dup, sorted)) =
        inr (ap (λ (k : List ℕ). BytesKey k) same, by_sorted settings.sorted refl)
      where
        by_sorted : (s : Bool) → settings.sorted ≡ s → (keeps_data settings ≡ true) ⊎ ((sorts_data settings ≡ true) × (less v w ≡ true))
        by_sorted true is = inr (sorts_so settings keyed is, sorted is v w at_v at_w)
        by_sorted false is = inl (kept_so settings keyed dup is)

-- the list of pairs that go in order, each with fit data
pub pairs_ordered : (settings : Settings) (file : File) (pairs : List StoredPair) → holds_records settings.kind ≡ false
    → ((pair : StoredPair) → Contains pairs pair → HasFitData settings file pair) → AllLater (GoesBefore settings file) pairs
    → InOrder settings (flat_map (listed_pair file) pairs)
pairs_ordered settings file pairs keyed each later =
    later_flat (ComesBefore settings) (listed_pair file) pairs (λ pair at. data_ordered settings file pair keyed (each pair at))
    (later_other (GoesBefore settings file) _ pairs (λ a b at_a at_b before. across_pairs settings file a b keyed before) later)

-- what isn't a set is one datum at most
pub one_datum : (file : File) (content : Content) → is_set content ≡ false → length (data_of file content) ≤ 1
unfolding data_of
one_datum file (Inline bytes) alone = omega arith
one_datum file (Set blocks) alone = absurd cc
one_datum file (Chain head total) alone = omega arith
one_datum file (Tree root) alone = absurd cc
one_datum file Unknown alone = omega arith

pub one_live : (file : File) (pair : StoredPair) → is_set pair.data_item ≡ false → length (live_data file pair) ≤ 1
one_live file pair alone = step pair.live
  where
    step : (b : Bool) → length (cond b (data_of file pair.data_item) []) ≤ 1
    step true = one_datum file pair.data_item alone
    step false = omega arith

-- Pairs of a tree.

-- behind a key, each has the key before it where it shares that, and else a greater one
abbrev pub Climb : List ℕ → List StoredPair → Type 0
Climb key [] = Unit {0}
Climb key (pair ∷ pairs) = ((pair.shares ≡ true → key ≡ pair.key) × (pair.shares ≡ false → less key pair.key ≡ true)) × Climb pair.key pairs

rises_here : (shares below : Bool) → (not shares && not below) ≡ false → shares ≡ false → below ≡ true
rises_here true below kept is = absurd cc
rises_here false true kept is = refl
rises_here false false kept is = absurd cc

pub climb_from : (pair : StoredPair) (pairs : List StoredPair) → ShareKeys pair.key pairs
    → ((two : StoredPair × StoredPair) → Contains (neighbours_from pair pairs) two → is_out_of_order two ≡ false) → Climb pair.key pairs
climb_from pair [] shares kept = tt
climb_from pair (next ∷ pairs) shares kept = (
  (shares.0, rises_here next.shares (less pair.key next.key) (kept (pair, next) (first_member (pair, next) (neighbours_from next pairs)))),
  climb_from next pairs shares.1 (λ two at. kept two (later_member (pair, next) (neighbours_from next pairs) two at)),
)

climb_step : (key : List ℕ) (pair : StoredPair) (below : List ℕ) (b : Bool) → pair.shares ≡ b
    → (pair.shares ≡ true → key ≡ pair.key) × (pair.shares ≡ false → less key pair.key ≡ true) → less below key ≡ true → less below pair.key ≡ true
climb_step key pair below true is parts lower = subst (λ k. less below k ≡ true) (parts.0 is) lower
climb_step key pair below false is parts lower = less_trans below key pair.key lower (parts.1 is)

pub climb_above : (below key : List ℕ) (pairs : List StoredPair) (pair : StoredPair) → less below key ≡ true → Climb key pairs → Contains pairs pair
    → less below pair.key ≡ true
climb_above below key [] pair lower climb at = absurd (no_member [] pair refl at)
climb_above below key (next ∷ pairs) pair lower climb at =
    let here : less below next.key ≡ true = climb_step key next below next.shares refl climb.0 lower in
    elim (member_cases next pairs pair at) [
      | inl same ↦ subst (λ (p : StoredPair). less below p.key ≡ true) same here
      | inr later ↦ climb_above below next.key pairs pair here climb.1 later
    ]

abbrev sharing : List StoredPair → List StoredPair
sharing pairs = take_while (λ (other : StoredPair). other.shares) pairs

-- a later pair has a greater key, or is one of those that share the key
record Shared (key : List ℕ) (pairs : List StoredPair) (pair : StoredPair) : Type 0 where
  same : key ≡ pair.key
  shares : pair.shares ≡ true
  among : Contains (sharing pairs) pair

above_or_shared : (key : List ℕ) (pairs : List StoredPair) (pair : StoredPair) → Climb key pairs → Contains pairs pair
    → (less key pair.key ≡ true) ⊎ Shared key pairs pair
above_or_shared key [] pair climb at = absurd (no_member [] pair refl at)
above_or_shared key (next ∷ pairs) pair climb at =
    step next.shares refl (member_cases next pairs pair at) (λ later. above_or_shared next.key pairs pair climb.1 later)
  where
    more : next.shares ≡ true → sharing (next ∷ pairs) ≡ next ∷ sharing pairs
    more is = take_while-cons (λ (other : StoredPair). other.shares) next pairs ∙ ap (λ b. cond b (next ∷ sharing pairs) []) is

    later_shared : next.shares ≡ true → (less next.key pair.key ≡ true) ⊎ Shared next.key pairs pair
        → (less key pair.key ≡ true) ⊎ Shared key (next ∷ pairs) pair
    later_shared is (inl above) = inl (subst (λ k. less k pair.key ≡ true) (sym (climb.0.0 is)) above)
    later_shared is (inr shared) =
        inr (record {
          same = climb.0.0 is ∙ shared.same;
          shares = shared.shares;
          among = subst (λ l. Contains l pair) (sym (more is)) (later_member next (sharing pairs) pair shared.among);
        })

    step : (b : Bool) → next.shares ≡ b → (next ≡ pair) ⊎ Contains pairs pair
        → (Contains pairs pair → (less next.key pair.key ≡ true) ⊎ Shared next.key pairs pair)
        → (less key pair.key ≡ true) ⊎ Shared key (next ∷ pairs) pair
    step true is (inl same) rest =
        inr (record {
          same = climb.0.0 is ∙ ap (λ (p : StoredPair). p.key) same;
          shares = ap (λ (p : StoredPair). p.shares) (sym same) ∙ is;
          among = subst (λ l. Contains l pair) (sym (more is)) (subst (Contains (next ∷ sharing pairs)) same (first_member next (sharing pairs)));
        })
    step true is (inr later) rest = later_shared is (rest later)
    step false is (inl same) rest = inl (subst (λ (p : StoredPair). less key p.key ≡ true) same (climb.0.1 is))
    step false is (inr later) rest = inl (climb_above key next.key pairs pair (climb.0.1 is) climb.1 later)

-- those that share the key are of the pairs
of_sharing : (pairs : List StoredPair) (one : StoredPair) → Contains (sharing pairs) one → Contains pairs one
of_sharing [] one at = absurd (no_member [] one refl at)
of_sharing (first ∷ pairs) one at =
    step first.shares (subst (λ l. Contains l one) (take_while-cons (λ (other : StoredPair). other.shares) first pairs) at)
    (λ later. of_sharing pairs one later)
  where
    step : (b : Bool) → Contains (cond b (first ∷ sharing pairs) []) one → (Contains (sharing pairs) one → Contains pairs one)
        → Contains (first ∷ pairs) one
    step true at rest =
        elim (member_cases first (sharing pairs) one at) [
          | inl same ↦ subst (Contains (first ∷ pairs)) same (first_member first pairs)
          | inr later ↦ later_member first pairs one (rest later)
        ]
    step false at rest = absurd (no_member [] one refl at)

-- what no row of the contents leaves of pairs: where there are no duplicates none shares its key, and where they are sorted they ascend
pub record AreInOrder (settings : Settings) (file : File) (pairs : List StoredPair) : Type 0 where
  pub apart : (pair : StoredPair) → Contains pairs pair → settings.duplicates ≡ false → pair.shares ≡ false
  pub sorted : (group : StoredPair × List StoredPair) → Contains (groups pairs) group → settings.sorted ≡ true → is_unsorted file group ≡ false

group_rises : (file : File) (pair : StoredPair) (group : List StoredPair) → is_unsorted file (pair, group) ≡ false
    → Rise (live_data file pair ++ flat_map (live_data file) group)
group_rises file pair group none =
    ascends_rise (flat_map (live_data file) (pair ∷ group)) (not-false (ascends (flat_map (live_data file) (pair ∷ group))) none)

shared_goes : (settings : Settings) (file : File) (pair : StoredPair) (pairs : List StoredPair) → AreInOrder settings file (pair ∷ pairs)
    → (other : StoredPair) → (less pair.key other.key ≡ true) ⊎ Shared pair.key pairs other → GoesBefore settings file pair other
shared_goes settings file pair pairs order other (inl above) = inl above
shared_goes settings file pair pairs order other (inr shared) =
    inr (
      shared.same,
      true_from_ne_false settings.duplicates (λ alone.
          true≢false (sym shared.shares ∙ order.apart other (later_member pair pairs other (of_sharing pairs other shared.among)) alone)),
      (λ is x y at_x at_y.
          later_across (λ a b. less a b ≡ true) (live_data file pair) (flat_map (live_data file) (sharing pairs)) x y
          (group_rises file pair (sharing pairs) (order.sorted (pair, sharing pairs) (first_member (pair, sharing pairs) (groups pairs)) is))
          at_x (in_flat_map (live_data file) (sharing pairs) other y shared.among at_y)),
    )

climb_goes : (settings : Settings) (file : File) (pair : StoredPair) (pairs : List StoredPair) → Climb pair.key pairs
    → AreInOrder settings file (pair ∷ pairs) → AllLater (GoesBefore settings file) (pair ∷ pairs)
climb_goes settings file pair [] climb order = later_one (GoesBefore settings file) pair
climb_goes settings file pair (next ∷ pairs) climb order = (
  (λ other at. shared_goes settings file pair (next ∷ pairs) order other (above_or_shared pair.key (next ∷ pairs) other climb at)),
  climb_goes settings file next pairs climb.1 (record {
    apart = λ other at. order.apart other (later_member pair (next ∷ pairs) other at);
    sorted = λ group at. order.sorted group (later_member (pair, sharing (next ∷ pairs)) (groups (next ∷ pairs)) group at);
  }),
)

-- pairs of a tree of which none is out of order go in order
pub pairs_go : (settings : Settings) (file : File) (pairs : List StoredPair) → ShareKeys [] pairs
    → ((two : StoredPair × StoredPair) → Contains (neighbours pairs) two → is_out_of_order two ≡ false)
    → AreInOrder settings file pairs → AllLater (GoesBefore settings file) pairs
pairs_go settings file [] shares kept order = tt
pairs_go settings file (pair ∷ pairs) shares kept order =
    climb_goes settings file pair pairs (climb_from pair pairs shares.1 kept) order

-- Each pair has its group.

group_of : (pairs : List StoredPair) (pair : StoredPair) → Contains pairs pair
    → (group : List StoredPair) × Contains (groups pairs) (pair, group)
group_of [] pair at = absurd (no_member [] pair refl at)
group_of (first ∷ pairs) pair at =
    elim (member_cases first pairs pair at) [
      | inl same ↦ (
        sharing pairs,
        subst (λ (p : StoredPair). Contains ((first, sharing pairs) ∷ groups pairs) (p, sharing pairs)) same
            (first_member (first, sharing pairs) (groups pairs)),
      )
      | inr later ↦
          let found = group_of pairs pair later in
          (found.0, later_member (first, sharing pairs) (groups pairs) (pair, found.0) found.1)
    ]

-- no row of duplicates or of their order holds at the pages of these pairs
pub record NoRowHolds (duplicates sorted : Bool) (file : File) (pairs : List StoredPair) : Type 0 where
  pub duplicate : (pair : StoredPair) → Contains pairs pair → (not duplicates && has_duplicate pairs pair.page) ≡ false
  pub unsorted : (pair : StoredPair) → Contains pairs pair → (sorted && has_unsorted file pairs pair.page) ≡ false

no_duplicate : (duplicates sorted : Bool) (file : File) (pairs : List StoredPair) (pair : StoredPair) → NoRowHolds duplicates sorted file pairs
    → Contains pairs pair → duplicates ≡ false → is_duplicate pair ≡ false
no_duplicate duplicates sorted file pairs pair none at alone =
    second_false (pair.page == pair.page) (is_duplicate pair) (eq-eqb pair.page pair.page refl)
    (none_passes (λ (other : StoredPair). other.page == pair.page && is_duplicate other) pairs pair
    (second_false (not duplicates) (has_duplicate pairs pair.page) (ap not alone) (none.duplicate pair at)) at)

no_unsorted : (duplicates sorted : Bool) (file : File) (pairs : List StoredPair) (group : StoredPair × List StoredPair)
    → NoRowHolds duplicates sorted file pairs → Contains (groups pairs) group → sorted ≡ true → is_unsorted file group ≡ false
no_unsorted duplicates sorted file pairs group none at is =
    let p : ℕ = group.0.page in
    second_false (p == p) (is_unsorted file group) (eq-eqb p p refl)
    (none_passes (λ (other : StoredPair × List StoredPair). other.0.page == p && is_unsorted file other) (groups pairs) group
    (second_false sorted (has_unsorted file pairs p) is (none.unsorted group.0 (group_in pairs group at))) at)

pub fit_data : (settings : Settings) (file : File) (pairs : List StoredPair) (pair : StoredPair)
    → NoRowHolds settings.duplicates settings.sorted file pairs → Contains pairs pair → HasFitData settings file pair
fit_data settings file pairs pair none at =
    let group = group_of pairs pair at in
    record {
      alone = λ is.
          one_live file pair (or_parts pair.shares (is_set pair.data_item)
          (no_duplicate settings.duplicates settings.sorted file pairs pair none at is)).1;
      sorted = λ is.
          later_first (λ a b. less a b ≡ true) (live_data file pair) (flat_map (live_data file) group.0)
          (group_rises file pair group.0 (no_unsorted settings.duplicates settings.sorted file pairs (pair, group.0) none group.1 is));
    }

pub in_order : (settings : Settings) (file : File) (pairs : List StoredPair) → NoRowHolds settings.duplicates settings.sorted file pairs
    → AreInOrder settings file pairs
in_order settings file pairs none = record {
  apart = λ pair at is.
      (or_parts pair.shares (is_set pair.data_item) (no_duplicate settings.duplicates settings.sorted file pairs pair none at is)).0;
  sorted = λ group at is. no_unsorted settings.duplicates settings.sorted file pairs group none at is;
}

-- Pairs of a table.

-- no key of these is a key of those
apart_after : (earlier pairs : List StoredPair) → repeated_after earlier pairs ≡ [] → (one other : StoredPair) → Contains earlier one
    → Contains pairs other → bytes_eq one.key other.key ≡ false
apart_after earlier [] none one other at_one at = absurd (no_member [] other refl at)
apart_after earlier (pair ∷ pairs) none one other at_one at =
    let parts = not_repeated (has_key pair.key earlier) pair (repeated_after (pair ∷ earlier) pairs) none in
    elim (member_cases pair pairs other at) [
      | inl same ↦
          subst (λ (p : StoredPair). bytes_eq one.key p.key ≡ false) same
          (none_passes (λ (o : StoredPair). bytes_eq o.key pair.key) earlier one parts.0 at_one)
      | inr later ↦ apart_after (pair ∷ earlier) pairs parts.1 one other (later_member pair earlier one at_one) later
    ]

pub later_apart : (earlier pairs : List StoredPair) → repeated_after earlier pairs ≡ []
    → AllLater (λ (a b : StoredPair). bytes_eq a.key b.key ≡ false) pairs
later_apart earlier [] none = tt
later_apart earlier (pair ∷ pairs) none =
    let parts = not_repeated (has_key pair.key earlier) pair (repeated_after (pair ∷ earlier) pairs) none in (
      (λ other at. apart_after (pair ∷ earlier) pairs parts.1 pair other (first_member pair earlier) at),
      later_apart (pair ∷ earlier) pairs parts.1,
    )

of_insert : (pair : StoredPair) (pairs : List StoredPair) (one : StoredPair) → Contains (insert_pair pair pairs) one
    → (pair ≡ one) ⊎ Contains pairs one
of_insert pair [] one at = inl (only_member pair one at)
of_insert pair (other ∷ others) one at = step (less other.key pair.key) at (λ later. of_insert pair others one later)
  where
    step : (b : Bool) → Contains (cond b (other ∷ insert_pair pair others) (pair ∷ other ∷ others)) one
        → (Contains (insert_pair pair others) one → (pair ≡ one) ⊎ Contains others one) → (pair ≡ one) ⊎ Contains (other ∷ others) one
    step true at rest =
        elim (member_cases other (insert_pair pair others) one at) [
          | inl same ↦ inr (subst (Contains (other ∷ others)) same (first_member other others))
          | inr later ↦ elim (rest later) [ inl same ↦ inl same | inr there ↦ inr (later_member other others one there) ]
        ]
    step false at rest =
        elim (member_cases pair (other ∷ others) one at) [ inl same ↦ inl same | inr later ↦ inr later ]

pub of_by_key : (pairs : List StoredPair) (one : StoredPair) → Contains (by_key pairs) one → Contains pairs one
of_by_key [] one at = absurd (no_member [] one refl at)
of_by_key (pair ∷ pairs) one at =
    elim (of_insert pair (by_key pairs) one at) [
      | inl same ↦ subst (Contains (pair ∷ pairs)) same (first_member pair pairs)
      | inr later ↦ later_member pair pairs one (of_by_key pairs one later)
    ]

-- the keys ascend
abbrev pub KeysRise : List StoredPair → Type 0
KeysRise pairs = AllLater (λ (a b : StoredPair). less a.key b.key ≡ true) pairs

above_unless_same : (a b : List ℕ) → less b a ≡ false → bytes_eq a b ≡ false → less a b ≡ true
above_unless_same a b above apart = grind (arith, same_unless_less a b, above, eq_self a, apart)

insert_rises : (pair : StoredPair) (pairs : List StoredPair) → ((other : StoredPair) → Contains pairs other → bytes_eq pair.key other.key ≡ false)
    → KeysRise pairs → KeysRise (insert_pair pair pairs)
insert_rises pair [] apart rise = later_one (λ (a b : StoredPair). less a.key b.key ≡ true) pair
insert_rises pair (other ∷ others) apart rise =
    step (less other.key pair.key) refl (insert_rises pair others (λ one at. apart one (later_member other others one at)) rise.1)
  where
    step : (b : Bool) → less other.key pair.key ≡ b → KeysRise (insert_pair pair others)
        → KeysRise (cond b (other ∷ insert_pair pair others) (pair ∷ other ∷ others))
    step true is rest = (
      (λ one at. elim (of_insert pair others one at) [
        | inl same ↦ subst (λ (p : StoredPair). less other.key p.key ≡ true) same is
        | inr later ↦ rise.0 one later
      ]),
      rest,
    )
    step false is rest =
        let here : less pair.key other.key ≡ true = above_unless_same pair.key other.key is (apart other (first_member other others)) in (
          (λ one at. elim (member_cases other others one at) [
            | inl same ↦ subst (λ (p : StoredPair). less pair.key p.key ≡ true) same here
            | inr later ↦ less_trans pair.key other.key one.key here (rise.0 one later)
          ]),
          rise,
        )

pub by_key_rises : (pairs : List StoredPair) → AllLater (λ (a b : StoredPair). bytes_eq a.key b.key ≡ false) pairs → KeysRise (by_key pairs)
by_key_rises [] apart = tt
by_key_rises (pair ∷ pairs) apart =
    insert_rises pair (by_key pairs) (λ other at. apart.0 other (of_by_key pairs other at)) (by_key_rises pairs apart.1)

-- pairs of which none repeats a key go in order, once they are put in the order of their keys
pub table_goes : (settings : Settings) (file : File) (pairs : List StoredPair) → repeated_after [] pairs ≡ []
    → AllLater (GoesBefore settings file) (by_key pairs)
table_goes settings file pairs none =
    later_other (λ (a b : StoredPair). less a.key b.key ≡ true) (GoesBefore settings file) (by_key pairs) (λ a b at_a at_b below. inl below)
    (by_key_rises pairs (later_apart [] pairs none))
