-- The ranks of chains by their values.
use Rattle.std.proofs.Common.{◌≡◌, ◌⊎◌, ℕ, zero, suc, ◌+◌, ◌<◌, ◌≤◌, Bool, false, cond, List, length, get_or, Some, arith, refl, sym, ◌∙◌, subst, Bor, le-ltb}
use Rattle.std.proofs.Common.{lt-ltb, nat_lt, is_lt, nat_cmp}
use Rattle.std.specs.BTreeMap.{BTreeMap, Updates, get}
use Rattle.std.specs.Cmp.{IsStrictWeakOrder}
use Rattle.std.specs.Fn.{Called, ComparesAs, Mut}
use Rattle.std.specs.List.Sorted.{IsPermutation, IsSortedBy}
use Rattle.std.specs.declared.cmp.Ordering.{Ordering}
use Rattle.std.proofs.lemmas.Bool.{cases_eq, false_from_ne_true, ltb-false}
use Rattle.std.proofs.lemmas.Fn.{always_returns_same}
use Rattle.std.proofs.lemmas.List.Elements.{Contains-get_or}
use Rattle.std.proofs.lemmas.List.Sorted.{Contains-permutation, IsPermutation-sym}
use Rattle.bdb_tree.specs.of_format.Terms.{Less, file_of, less}
use Rattle.bdb_tree.proofs.of_format.LessLemmas.{below_less, less_above, less_not_back, less_self, other_number, same_unless_less}
use Rattle.bdb_tree.specs.of_overflow.Held.{chain_value}
use Rattle.bdb_ranks.specs.Ranks.{AreBelow, AreRanked, AreRanks, is_above, no_chain, value_at, value_less}
use Rattle.bdb_ranks.specs.Shared.{AreShared, ChainValue, IsShared}
use Rattle.bdb_tree.proofs.of_format.ListLemmas.{one_answer}

-- The sort.

values_rank : IsStrictWeakOrder value_less
values_rank = grind (arith, less_not_back, false_from_ne_true, less_above)

-- a sort by a closure that answers by the order of values
pub sorted_by : {F : Type 0} {g : Mut F (Bor ChainValue × (Bor ChainValue × Unit {0})) Ordering} {f : F} (chains : List ChainValue)
    → ((lt : ChainValue → ChainValue → Bool) → IsStrictWeakOrder lt → ComparesAs g lt f → IsSortedBy lt chains)
    → ((a : Bor ChainValue × (Bor ChainValue × Unit {0})) (r : Ordering) (f' : F) → Called g f a r f'
    → (is_lt r ≡ less a.0.now.value a.1.0.now.value) × (f' ≡ f))
    → IsSortedBy value_less chains
sorted_by {g = g} {f = f} chains up answers =
    up value_less values_rank (always_returns_same g (λ a r. is_lt r ≡ value_less a.0.now a.1.0.now) f (λ a r f' called. answers a r f' called))

pub shared_moved : (image : List ℕ) (old new : List ChainValue) → AreShared image old → IsPermutation old new → AreShared image new
shared_moved image old new are moved = record {
  each = λ chain at. are.each chain (Contains-permutation new old chain (IsPermutation-sym old new moved) at);
}

-- One more rank.

after_insert : (old new : BTreeMap ℕ ℕ) (h rank a m : ℕ) → Updates nat_cmp old new h (Some rank) → get nat_cmp new a ≡ Some m
    → ((h ≡ a) × (m ≡ rank)) ⊎ (get nat_cmp old a ≡ Some m)
after_insert old new h rank a m updates at = grind (arith, cases_eq, one_answer, other_number)

-- below what isn't below itself
same_rank : (m n rank : ℕ) → m ≡ rank → n ≡ rank → nat_lt m n ≡ false
same_rank m n rank first second = le-ltb m n (omega (arith, first, second))

insert_ranks : (image : List ℕ) (old new : BTreeMap ℕ ℕ) (h rank : ℕ) (value : List ℕ) → AreRanks image old → AreBelow image old value rank
    → value ≡ chain_value (file_of image) h → Updates nat_cmp old new h (Some rank) → AreRanks image new
insert_ranks image old new h rank value are below is updates = grind (arith, after_insert, same_rank, less_self)

insert_below : (image : List ℕ) (old new : BTreeMap ℕ ℕ) (h rank : ℕ) (value : List ℕ) → AreBelow image old value rank
    → value ≡ chain_value (file_of image) h → Updates nat_cmp old new h (Some rank) → AreBelow image new value rank
insert_below image old new h rank value below is updates = grind (arith, after_insert, same_rank, less_self)

-- a greater value has a greater rank than all
rise : (image : List ℕ) (ranks : BTreeMap ℕ ℕ) (last value : List ℕ) (rank i : ℕ) → AreBelow image ranks last rank → rank < i → Less last value
    → AreBelow image ranks value i
rise image ranks last value rank i below high above =
    let low : (a m : ℕ) → get nat_cmp ranks a ≡ Some m → m ≤ rank = λ a m at. not_over m (below.not_above a m at) in
    let is : (a m : ℕ) → get nat_cmp ranks a ≡ Some m → Less (chain_value (file_of image) a) value =
    λ a m at. below_less (chain_value (file_of image) a) last value (below.not_less a m at) above in
    record {
      less_is = λ a m at. lt-ltb m i (let l : m ≤ rank = low a m at in omega (arith, l, high)) ∙ sym (is a m at);
      not_above = λ a m at. le-ltb i m (let l : m ≤ rank = low a m at in omega (arith, l, high));
      not_less = λ a m at. less_not_back (chain_value (file_of image) a) value (is a m at);
    }
  where
    not_over : (m : ℕ) → nat_lt rank m ≡ false → m ≤ rank
    not_over m is = ltb-false rank m is

none_below : (image : List ℕ) (ranks : BTreeMap ℕ ℕ) (value : List ℕ) (rank : ℕ) → ((a m : ℕ) → get nat_cmp ranks a ≡ Some m → ⊥)
    → AreBelow image ranks value rank
none_below image ranks value rank none = grind arith

-- No rank, one more, and all.

above_is : (chains : List ChainValue) (k : ℕ) → is_above chains (suc k) ≡ less (value_at chains k) (value_at chains (suc k))
above_is chains k = grind (arith, lt-ltb)

-- what the ranks so far are below, at the next chain
next_below : (image : List ℕ) (ranks : BTreeMap ℕ ℕ) (chains : List ChainValue) (rank i : ℕ) → IsSortedBy value_less chains
    → AreRanked image ranks chains rank i → i < length chains
    → (cond (is_above chains i) i rank ≤ i) × AreBelow image ranks (value_at chains i) (cond (is_above chains i) i rank)
next_below image ranks chains rank zero sorted ranked high =
    let start = ranked.none refl in (omega (arith, start.0), none_below image ranks (value_at chains 0) rank start.1)
next_below image ranks chains rank (suc k) sorted ranked high = grind (arith, above_is, rise, same_unless_less)

pub ranked_on : (image : List ℕ) (chains : List ChainValue) (old new : BTreeMap ℕ ℕ) (rank next i : ℕ) (chain : ChainValue) → AreShared image chains
    → IsSortedBy value_less chains → AreRanked image old chains rank i → i < length chains → chain ≡ get_or chains i no_chain
    → next ≡ cond (is_above chains i) i rank → Updates nat_cmp old new chain.head (Some next) → AreRanked image new chains next (i + 1)
ranked_on image chains old new rank next i chain are sorted ranked high is next_is updates =
    let found = next_below image old chains rank i sorted ranked high in
    let low : next ≤ i = omega (arith, next_is, found.0) in
    let below : AreBelow image old chain.value next =
    subst (λ (c : ChainValue). AreBelow image old c.value next) (sym is) (subst (AreBelow image old (value_at chains i)) (sym next_is) found.1) in
    let value : chain.value ≡ chain_value (file_of image) chain.head =
    subst (IsShared image) (sym is) (are.each (get_or chains i no_chain) (Contains-get_or chains i no_chain high)) in
    record {
      ranks_are = insert_ranks image old new chain.head next chain.value ranked.ranks_are below value updates;
      none = λ first. absurd (let no' : i + 1 ≡ 0 = first in omega (arith, no'));
      below = λ k at.
          let same : i ≡ k = omega (arith, at) in (
            omega (arith, low, same),
            subst (λ n. AreBelow image new (value_at chains n) next) same
                (subst (λ (c : ChainValue). AreBelow image new c.value next) is (insert_below image old new chain.head next chain.value below value updates)),
          );
    }
