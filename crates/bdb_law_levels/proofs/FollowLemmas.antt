-- Pairs whose keys never fall, and rise where a pair has its own.
use Rattle.std.proofs.Common.{arith, ◌≡◌, ℕ, true, false, List, [], ◌∷◌, ◌++◌, refl, sym, ◌∙◌, ap, subst, inl, inr, true≢false, Contains, flat_map}
use Rattle.std.proofs.lemmas.Bool.{cases_Bool}
use Rattle.bdb_law_grove.specs.of_format.Terms.{StoredPair, less}
use Rattle.bdb_law_grove.proofs.of_format.LessLemmas.{less_self, less_trans}
use Rattle.bdb_law_grove.proofs.of_format.ListLemmas.{only_member}
use Rattle.bdb_law_grove.proofs.of_format.MemberLemmas.{first_member, member_cases, no_member}
use Rattle.bdb_law_levels.specs.Contents.{Follow, Follows}

follow_tail : (pair : StoredPair) (pairs : List StoredPair) → Follow (pair ∷ pairs) → Follow pairs
follow_tail pair [] follow = tt
follow_tail pair (next ∷ pairs) follow = follow.1

pub follow_right : (xs ys : List StoredPair) → Follow (xs ++ ys) → Follow ys
follow_right [] ys follow = follow
follow_right (x ∷ xs) ys follow = follow_right xs ys (follow_tail x (xs ++ ys) follow)

pub follow_left : (xs ys : List StoredPair) → Follow (xs ++ ys) → Follow xs
follow_left [] ys follow = tt
follow_left (x ∷ []) ys follow = tt
follow_left (x ∷ next ∷ xs) ys follow = (follow.0, follow_left (next ∷ xs) ys follow.1)

-- what is not less than a later key is not less than one before it
not_below : (k : List ℕ) (pair next : StoredPair) → Follows pair next → less k next.key ≡ false → less k pair.key ≡ false
not_below k pair next (inl same) not = ap (less k) (sym same.1) ∙ not
not_below k pair next (inr rises) not = grind (arith, cases_Bool, less_trans)

-- no key is less than the first
pub first_least : (first : StoredPair) (pairs : List StoredPair) → Follow (first ∷ pairs) → (pair : StoredPair) → Contains (first ∷ pairs) pair
    → less pair.key first.key ≡ false
first_least first [] follow pair at =
    subst (λ (other : StoredPair). less other.key first.key ≡ false) (only_member first pair at) (less_self first.key)
first_least first (next ∷ pairs) follow pair at =
    elim (member_cases first (next ∷ pairs) pair at) [
      | inl here ↦ subst (λ (other : StoredPair). less other.key first.key ≡ false) here (less_self first.key)
      | inr later ↦ not_below pair.key first next follow.0 (first_least next pairs follow.1 pair later)
    ]

-- a pair with a key of its own has one above that of the pair before it
own_above : (pair next : StoredPair) → next.shares ≡ false → Follows pair next → less pair.key next.key ≡ true
own_above pair next own (inl same) = absurd (true≢false (sym same.0 ∙ own))
own_above pair next own (inr rises) = rises

-- what a later key is less than, one before it is less than
below : (k : List ℕ) (pair next : StoredPair) → Follows pair next → less next.key k ≡ true → less pair.key k ≡ true
below k pair next (inl same) lt = ap (λ key. less key k) (sym same.1) ∙ lt
below k pair next (inr rises) lt = less_trans pair.key next.key k rises lt

-- and so above all before it
pub all_less : (xs : List StoredPair) (own : StoredPair) (ys : List StoredPair) → own.shares ≡ false → Follow (xs ++ own ∷ ys)
    → (pair : StoredPair) → Contains xs pair → less pair.key own.key ≡ true
all_less [] own ys alone follow pair at = absurd (no_member [] pair refl at)
all_less (x ∷ []) own ys alone follow pair at =
    subst (λ (other : StoredPair). less other.key own.key ≡ true) (only_member x pair at) (own_above x own alone follow.0)
all_less (x ∷ next ∷ xs) own ys alone follow pair at =
    elim (member_cases x (next ∷ xs) pair at) [
      | inl here ↦
          subst (λ (other : StoredPair). less other.key own.key ≡ true) here
          (below own.key x next follow.0 (all_less (next ∷ xs) own ys alone follow.1 next (first_member next xs)))
      | inr later ↦ all_less (next ∷ xs) own ys alone follow.1 pair later
    ]

-- the pairs of one of some lists that follow each other follow each other
pub follow_in : {X : Type 0} (f : X → List StoredPair) (xs : List X) (x : X) → Follow (flat_map f xs) → Contains xs x → Follow (f x)
follow_in f [] x follow at = absurd (no_member [] x refl at)
follow_in f (y ∷ xs) x follow at =
    elim (member_cases y xs x at) [
      | inl here ↦ subst (λ z. Follow (f z)) here (follow_left (f y) (flat_map f xs) follow)
      | inr later ↦ follow_in f xs x (follow_right (f y) (flat_map f xs) follow) later
    ]
