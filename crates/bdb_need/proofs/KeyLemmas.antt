-- The units of a btree: the run of a key, and what is counted of those that were passed.
use Rattle.std.proofs.Common.{◌≡◌, ℕ, ◌+◌, ◌*◌, ◌<◌, ◌≤◌, ◌^◌, Bool, List, [], ◌∷◌, length, drop, arith, refl, ◌∙◌, ap, subst, ◌⊎◌, ◌/◌, All, sum_by}
use Rattle.bdb_need.proofs.Common.{drop_of_length-le, length-map, All-head, All-tail, sum_by-cons, Pair, TextPair, own_pages, pages_over, tree_size, TreeUnit, page_room, Pairs, IsRunAt, keyed_units}
use Rattle.bdb_need.proofs.Common.{IsShortUnit, unlined_pairs, unlined}
use Rattle.bdb_mkhash.specs.of_mkleaves.Placed.{values_in}
use Rattle.bdb_need.proofs.TreeLemmas.{KeyedTo, keyed_begun, keyed_end}

pub length-pairs : (pairs : List TextPair) → length (unlined_pairs pairs) ≡ length pairs
length-pairs pairs = length-map pairs unlined

-- a run has a datum
pub run_some : (pairs : List Pair) (start end : ℕ) (unit : TreeUnit) → IsRunAt pairs start unit end → 0 < length (values_in unit)
run_some pairs start end unit run = let ahead = run.ahead in let many = run.many in omega (arith, ahead, many)

-- What the units before a place have of their own: chains, and trees of data.

pub record OwnPassed (own_of : TreeUnit → ℕ) (pairs : List TextPair) (start own : ℕ) : Type 0 where
  pub low : start ≤ length pairs
  pub short : All IsShortUnit (keyed_units (drop start (unlined_pairs pairs)))
  pub sum : own + sum_by own_of (keyed_units (drop start (unlined_pairs pairs))) ≡ sum_by own_of (keyed_units (unlined_pairs pairs))
  pub few : own ≤ start * 2 ^ 34

module _ (own_of : TreeUnit → ℕ) (pairs : List TextPair) where
  pub own_begun : All IsShortUnit (keyed_units (unlined_pairs pairs)) → OwnPassed own_of pairs 0 0
  own_begun short = grind arith

  pub unit_short : (start end own : ℕ) (unit : TreeUnit) → OwnPassed own_of pairs start own → IsRunAt (unlined_pairs pairs) start unit end
      → IsShortUnit unit
  unit_short start end own unit passed run =
      All-head IsShortUnit unit (keyed_units (drop end (unlined_pairs pairs))) (subst (All IsShortUnit) run.units passed.short)

  pub own_next : (start end own more : ℕ) (unit : TreeUnit) → OwnPassed own_of pairs start own → IsRunAt (unlined_pairs pairs) start unit end
      → more ≡ own_of unit → more ≤ (length (values_in unit) + 1) * 2 ^ 33 → OwnPassed own_of pairs end (own + more)
  own_next start end own more unit passed run more_is few =
      let rest : List TreeUnit = keyed_units (drop end (unlined_pairs pairs)) in
      let split = ap (sum_by own_of) run.units ∙ sum_by-cons own_of unit rest in
      let sum = passed.sum in
      let before = passed.few in
      let many = run.many in
      let within = run.within in
      let some = run_some (unlined_pairs pairs) start end unit run in
      record {
        low = omega (arith, within, length-pairs pairs);
        short = All-tail IsShortUnit unit rest (subst (All IsShortUnit) run.units passed.short);
        sum = omega (arith, split, sum, more_is);
        few = omega (arith, before, few, many, some);
      }

  pub own_end : (start own : ℕ) → length pairs ≤ start → OwnPassed own_of pairs start own → own ≡ sum_by own_of (keyed_units (unlined_pairs pairs))
  own_end start own past passed = grind (arith, length-pairs, drop_of_length-le)

-- The leaves with the units before a place.

pub record KeysPassed (size : ℕ) (sorted : Bool) (pairs : List TextPair) (start own left room : ℕ) (items : List ℕ) : Type 0 where
  pub passed : OwnPassed (own_pages size sorted) pairs start own
  pub leaves : KeyedTo size (keyed_units (unlined_pairs pairs)) (keyed_units (drop start (unlined_pairs pairs))) left items
  pub room_is : room ≡ page_room size
  pub count : length items ≤ start

module _ (size : ℕ) (sorted : Bool) (pairs : List TextPair) where
  pub keys_begun : All IsShortUnit (keyed_units (unlined_pairs pairs)) → KeysPassed size sorted pairs 0 0 (page_room size) (page_room size) []
  keys_begun short = record {
    passed = own_begun (own_pages size sorted) pairs short;
    leaves = keyed_begun size (keyed_units (unlined_pairs pairs));
    room_is = refl;
    count = omega arith;
  }

  pub leaves_here : (start end own left room : ℕ) (items : List ℕ) (unit : TreeUnit) → KeysPassed size sorted pairs start own left room items
      → IsRunAt (unlined_pairs pairs) start unit end
      → KeyedTo size (keyed_units (unlined_pairs pairs)) (unit ∷ keyed_units (drop end (unlined_pairs pairs))) left items
  leaves_here start end own left room items unit passed run =
      subst (λ us. KeyedTo size (keyed_units (unlined_pairs pairs)) us left items) run.units passed.leaves

  pub keys_end : (start own left room tree : ℕ) (items : List ℕ) → length pairs ≤ start → KeysPassed size sorted pairs start own left room items
      → ((first : ℕ) → tree ≡ (length items + 1) + pages_over (length items + 1) room 14 (first ∷ items))
      → own + tree ≡ tree_size Pairs size sorted (keyed_units (unlined_pairs pairs))
  keys_end start own left room tree items past passed is =
      let none : drop start (unlined_pairs pairs) ≡ [] = drop_of_length-le (unlined_pairs pairs) (omega (arith, past, length-pairs pairs)) in
      let all = keyed_end Pairs size tree left room (keyed_units (unlined_pairs pairs)) items refl
      (subst (λ (ps : List Pair). KeyedTo size (keyed_units (unlined_pairs pairs)) (keyed_units ps) left items) none passed.leaves) passed.room_is is in
      omega (arith, all, own_end (own_pages size sorted) pairs start own past passed.passed)
