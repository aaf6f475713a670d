-- Laws that several crates use.
use Rattle.std.proofs.Common.{arith, List, [], ◌∷◌, refl, subst, inl, inr, ◌≡◌, ℕ, ◌++◌, Bool, true, false, cond, Contains}
use Rattle.bdb_format.specs.Terms.{File, ListKey, StoredPair, btree_contents, get, neighbours, neighbours_from, recno_contents}
use Rattle.bdb_format.proofs.MemberLemmas.{first_member, later_member, member_cases, no_member}
use Rattle.std.proofs.lemmas.List.{map-append}
use Rattle.std.proofs.lemmas.List.Elements.{filter-append}
use Rattle.bdb_format.specs.declared.metadata.BtreeMeta.{BtreeMeta}
use Rattle.bdb_format.specs.Verdict.{holding}

-- the second of two neighbours is one of the pairs
pub neighbour_from : (pair : StoredPair) (pairs : List StoredPair) (two : StoredPair × StoredPair) → Contains (neighbours_from pair pairs) two
    → Contains pairs two.1
neighbour_from pair [] two at = absurd (no_member [] two refl at)
neighbour_from pair (next ∷ pairs) two at =
    elim (member_cases (pair, next) (neighbours_from next pairs) two at) [
      | inl same ↦ subst (λ (t : StoredPair × StoredPair). Contains (next ∷ pairs) t.1) same (first_member next pairs)
      | inr later ↦ later_member next pairs two.1 (neighbour_from next pairs two later)
    ]

-- the second of two neighbours is one of the pairs
pub neighbour_in : (pairs : List StoredPair) (two : StoredPair × StoredPair) → Contains (neighbours pairs) two → Contains pairs two.1
neighbour_in [] two at = absurd (no_member [] two refl at)
neighbour_in (pair ∷ pairs) two at = later_member pair pairs two.1 (neighbour_from pair pairs two at)

-- what two lists have under a key
pub get_append : (xs ys : List (ListKey × List ℕ)) (key : ListKey) → get (xs ++ ys) key ≡ get xs key ++ get ys key
get_append xs ys key = grind (arith, filter-append, map-append)

-- the rows of a btree that is no recno
pub keyed_rows : (file : File) (meta : BtreeMeta) (p : ℕ) (b : Bool) → b ≡ false → holding (cond b (recno_contents file meta p) (btree_contents file meta p))
    ≡ [] → holding (btree_contents file meta p) ≡ []
keyed_rows file meta p true is none = absurd cc
keyed_rows file meta p false is none = none
