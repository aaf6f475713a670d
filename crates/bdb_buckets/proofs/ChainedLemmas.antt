-- Pairs of one file, and the heads of chains whose keys were seen, as more keys are.
use Rattle.std.proofs.Common.{arith, ◌≡◌, ℕ, Bool, true, false, cond, List, [], ◌∷◌, map, refl, ◌∙◌, subst, Result, Ok, Err, OnOk, OnErr, nat_cmp}
use Rattle.std.specs.BTreeSet.{BTreeSet, IsUnchanged, Updates}
use Rattle.std.specs.Cmp.Lexicographic.{slice_cmp}
use Rattle.std.proofs.lemmas.Bool.{cases_eq}
use Rattle.bdb_tree.specs.of_overflow.Keys.{has_key}
use Rattle.bdb_tree.proofs.of_format.LessLemmas.{other_number}
use Rattle.bdb_tree.specs.of_format.Terms.{StoredPair}
use Rattle.bdb_buckets.specs.Chained.{AreAmong, AreOf, Seen, chain_value}
use Rattle.bdb_buckets.specs.Told.{Told, told}

-- Pairs of one file.

pub first_of : (image : List ℕ) (left rest : List Told) (t : Told) → AreOf image left → left ≡ t ∷ rest → t.image ≡ image
first_of image left rest t are is = (subst (AreOf image) is are).0

pub rest_of : (image : List ℕ) (left rest : List Told) (t : Told) → AreOf image left → left ≡ t ∷ rest → AreOf image rest
rest_of image left rest t are is = (subst (AreOf image) is are).1

pub pairs_told : (image : List ℕ) (pairs : List StoredPair) → AreOf image (map (told image) pairs)
pairs_told image [] = tt
pairs_told image (pair ∷ pairs) = (refl, pairs_told image pairs)

-- Keys that were seen.

either : (a b : Bool) → b ≡ true → cond a true b ≡ true
either true b is = refl
either false b is = is

-- the keys before stay
pub has_before : (old new : BTreeSet (List ℕ)) (key other : List ℕ) → Updates (slice_cmp nat_cmp) old new key true → has_key old other ≡ true
    → has_key new other ≡ true
has_before old new key other updates has = updates.0 other ∙ either _ (has_key old other) has

-- the heads are still among the keys, once more of these were added
pub among_after : (image : List ℕ) (old new : BTreeSet (List ℕ)) (heads : BTreeSet ℕ) (key : List ℕ) → AreAmong (record { image = image; keys = old }) heads
    → Updates (slice_cmp nat_cmp) old new key true → AreAmong (record { image = image; keys = new }) heads
among_after image old new heads key among updates = record {
  each = λ head is. has_before old new key (chain_value image head) updates (among.each head is);
}

pub among_unchanged : (image : List ℕ) (old new : BTreeSet (List ℕ)) (heads : BTreeSet ℕ) → AreAmong (record { image = image; keys = old }) heads
    → IsUnchanged old new → AreAmong (record { image = image; keys = new }) heads
among_unchanged image old new heads among same = grind arith

-- and one head more, of a key that is
pub among_more : (seen : Seen) (old new : BTreeSet ℕ) (head : ℕ) → AreAmong seen old → has_key seen.keys (chain_value seen.image head) ≡ true
    → Updates nat_cmp old new head true → AreAmong seen new
among_more seen old new head among has updates = grind (arith, cases_eq, other_number)

-- the same where the insertion may have failed
pub among_inserted : {X E : Type 0} (result : Result X E) (seen : Seen) (old new : BTreeSet ℕ) (head : ℕ) → AreAmong seen old
    → has_key seen.keys (chain_value seen.image head) ≡ true → OnOk result (Updates nat_cmp old new head true) → OnErr result (IsUnchanged old new)
    → AreAmong seen new
among_inserted (Ok x) seen old new head among has updates failed = among_more seen old new head among has updates
among_inserted (Err e) seen old new head among has updates failed = record { each = λ other is. among.each other (rw (← failed) is) }
