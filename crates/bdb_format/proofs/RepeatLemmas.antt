-- The pairs that repeat a key, found by going through the pairs with those seen so far.
use Rattle.std.proofs.Common.{◌≡◌, ℕ, ◌+◌, true, false, Bool, cond, List, [], ◌∷◌, ◌++◌, map, length, arith, refl, sym, ◌∙◌, ap, subst, append_assoc}
use Rattle.std.proofs.Common.{length-append, inl, inr, ◌||◌}
use Rattle.std.specs.List.{Contains, enumerate_from, filter, list_any}
use Rattle.std.specs.Str.{bytes_eq}
use Rattle.std.proofs.Math.Seq.{take-append_seam}
use Rattle.std.proofs.lemmas.List.Folds.{list_any-append}
use Rattle.bdb_format.specs.Terms.{StoredPair, repeated, repeats}
use Rattle.bdb_format.proofs.MemberLemmas.{first_member, later_member, no_member, filter_step}

-- one of these has this key
abbrev pub has_key : List ℕ → List StoredPair → Bool
has_key key pairs = list_any (λ (other : StoredPair). bytes_eq other.key key) pairs

-- the pairs that have the key of one of these or of an earlier one
abbrev pub repeated_after : List StoredPair → List StoredPair → List StoredPair
repeated_after earlier [] = []
repeated_after earlier (pair ∷ pairs) =
    cond (has_key pair.key earlier) (pair ∷ repeated_after (pair ∷ earlier) pairs) (repeated_after (pair ∷ earlier) pairs)

kept : (a b : Bool) (n : ℕ) (pair : StoredPair) (placed : List (ℕ × StoredPair)) (pairs : List StoredPair) → a ≡ b
    → map (λ (one : ℕ × StoredPair). one.1) placed ≡ pairs
    → map (λ (one : ℕ × StoredPair). one.1) (cond a ((n, pair) ∷ placed) placed) ≡ cond b (pair ∷ pairs) pairs
kept true b n pair placed pairs same rest = rw (← same) (ap (λ ps. pair ∷ ps) rest)
kept false b n pair placed pairs same rest = rw (← same) rest

either : (a b : Bool) → (a || b) ≡ (b || (a || false))
either a b = grind arith

-- from a place on, behind pairs that are done
repeated_from : (all done pairs earlier : List StoredPair) (n : ℕ) → all ≡ done ++ pairs → n ≡ length done
    → ((key : List ℕ) → has_key key done ≡ has_key key earlier)
    → map (λ (one : ℕ × StoredPair). one.1) (filter (repeats all) (enumerate_from n pairs)) ≡ repeated_after earlier pairs
repeated_from all done [] earlier n are place same = refl
repeated_from all done (pair ∷ pairs) earlier n are place same =
    let here : repeats all (n, pair) ≡ has_key pair.key earlier = rw (are, place, take-append_seam done (pair ∷ pairs)) (same pair.key) in
    kept (repeats all (n, pair)) (has_key pair.key earlier) n pair (filter (repeats all) (enumerate_from (n + 1) pairs))
    (repeated_after (pair ∷ earlier) pairs) here
    (repeated_from all (done ++ pair ∷ []) pairs (pair ∷ earlier) (n + 1) (are ∙ sym (append_assoc done (pair ∷ []) pairs))
    (omega (arith, place, length-append done (pair ∷ [])))
    (λ key. list_any-append (λ (other : StoredPair). bytes_eq other.key key) done (pair ∷ [])
    ∙ (ap (λ b. b || (bytes_eq pair.key key || false)) (same key) ∙ sym (either (bytes_eq pair.key key) (has_key key earlier)))))

-- the pairs that repeat are those that have the key of an earlier one
pub repeated_is : (pairs : List StoredPair) → repeated pairs ≡ repeated_after [] pairs
repeated_is pairs = repeated_from pairs [] pairs [] 0 refl refl (λ key. refl)

of_after : (earlier pairs : List StoredPair) (pair : StoredPair) → Contains (repeated_after earlier pairs) pair → Contains pairs pair
of_after earlier [] pair at = absurd (no_member [] pair refl at)
of_after earlier (one ∷ pairs) pair at =
    elim (filter_step one pair (repeated_after (one ∷ earlier) pairs) (has_key one.key earlier) at) [
      | inl (has, same) ↦ subst (Contains (one ∷ pairs)) same (first_member one pairs)
      | inr later ↦ later_member one pairs pair (of_after (one ∷ earlier) pairs pair later)
    ]

-- a pair that repeats a key is one of the pairs
pub of_repeated : (pairs : List StoredPair) (pair : StoredPair) → Contains (repeated pairs) pair → Contains pairs pair
of_repeated pairs pair at = of_after [] pairs pair (subst (λ ps. Contains ps pair) (repeated_is pairs) at)
