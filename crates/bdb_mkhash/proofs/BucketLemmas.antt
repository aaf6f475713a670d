-- The number of buckets, and keys that are dealt into them.
use Rattle.std.proofs.Common.{◌≡◌, ℕ, zero, suc, ◌+◌, ◌-◌, ◌*◌, ◌<◌, ◌≤◌, Bool, true, false, cond, List, [], ◌∷◌, ◌++◌, get_or, set, drop, map, length}
use Rattle.std.proofs.Common.{replicate, append_assoc, pow-suc, arith, refl, sym, ◌∙◌, ap, inl, inr, ◌^◌, ◌/◌, ◌==◌, nat_le, unwrap_or}
use Rattle.bdb_mkhash.proofs.Common.{find, range_with_len, cases_eq, eq-eqb, le-leb, lt-leb, ne_eqb, append-nil, get_or-map, get_or-set_other, get_or-set_same, length-set, map-set, same_lists}
use Rattle.bdb_mkhash.proofs.Common.{filter-append, get_or-map-range_with_len, length-map-range_with_len, Pair, KeyedUnit, page_room, IsRunAt, Keyed, bucket_among, dealt, bits_for, buckets_of}
use Rattle.bdb_mkhash.proofs.Common.{keyed_of, table_units}
use Rattle.std.proofs.lemmas.Nat.{pow_pos}

-- How many buckets.

-- the first number that passes
found_at : (test : ℕ → Bool) (a n d k : ℕ) → a ≤ k → k < a + n → test k ≡ true → ((j : ℕ) → a ≤ j → j < k → test j ≡ false)
    → unwrap_or (find test (range_with_len a n)) d ≡ k
found_at test a zero d k low high passes none = absurd (omega (arith, low, high))
found_at test a (suc n) d k low high passes none =
    elim (cases_eq a k) [
      | inl same ↦
          let here : test a ≡ true = ap test same ∙ passes in grind (arith, here, same)
      | inr other ↦
          let here : test a ≡ false = none a (omega arith) (omega (arith, low, other)) in
          let rest = found_at test (a + 1) n d k (omega (arith, low, other)) (omega (arith, high)) passes
          (λ j from under. none j (omega (arith, from)) under) in
          grind (arith, here, rest)
    ]

pub bits_found : (size cost bits : ℕ) → 1 ≤ bits → bits ≤ 31 → cost ≤ 2 ^ bits * (page_room size / 2)
    → ((k : ℕ) → 1 ≤ k → k < bits → 2 ^ k * (page_room size / 2) < cost) → bits ≡ bits_for size cost
bits_found size cost bits some few enough more =
    sym (found_at (λ k. nat_le cost (2 ^ k * (page_room size / 2))) 1 31 32 bits some (omega (arith, few))
    (le-leb cost (2 ^ bits * (page_room size / 2)) enough)
    (λ j from under. lt-leb cost (2 ^ j * (page_room size / 2)) (more j from under)))

-- a power of two from two on
pub two_at_least : (bits : ℕ) → 1 ≤ bits → 2 ≤ 2 ^ bits
two_at_least zero some = absurd (omega (arith, some))
two_at_least (suc bits) some = let p = pow_pos bits in rw pow-suc (omega (arith, p))

-- Runs.

pub run_unit : (pairs : List Pair) (start end : ℕ) (key : List ℕ) (values : List (List ℕ)) → IsRunAt pairs start (KeyedUnit key values) end
    → table_units (drop start pairs) ≡ record { key = key; values = values } ∷ table_units (drop end pairs)
run_unit pairs start end key values run = ap (map keyed_of) run.units

-- Dealing.

-- of some keys the first were dealt
pub record AreDealt (bits : ℕ) (all left : List Keyed) (buckets : List (List Keyed)) : Type 0 where
  pub done : List Keyed
  pub whole : done ++ left ≡ all
  pub are : buckets ≡ buckets_of bits done

dealt_nothing : (bits a n : ℕ) → map (dealt bits []) (range_with_len a n) ≡ replicate n []
dealt_nothing bits a zero = refl
dealt_nothing bits a (suc n) = ap (λ us. [] ∷ us) (dealt_nothing bits (a + 1) n)

pub none_dealt : (bits : ℕ) (all : List Keyed) (buckets : List (List Keyed)) → buckets ≡ replicate (2 ^ bits) [] → AreDealt bits all all buckets
none_dealt bits all buckets are = record { done = []; whole = refl; are = are ∙ sym (dealt_nothing bits 0 (2 ^ bits)) }

-- one key more
dealt_more : (bits : ℕ) (done : List Keyed) (unit : Keyed) → bucket_among bits unit.key < 2 ^ bits
    → set (buckets_of bits done) (bucket_among bits unit.key) (dealt bits done (bucket_among bits unit.key) ++ (unit ∷ []))
    ≡ buckets_of bits (done ++ (unit ∷ []))
dealt_more bits done unit low =
    let n : ℕ = 2 ^ bits in
    let b : ℕ = bucket_among bits unit.key in
    same_lists _ _
    (length-set (buckets_of bits done) b (dealt bits done b ++ (unit ∷ []))
    ∙ (length-map-range_with_len (dealt bits done) 0 n ∙ sym (length-map-range_with_len (dealt bits (done ++ (unit ∷ []))) 0 n)))
    (λ k d under.
    let many = length-set (buckets_of bits done) b (dealt bits done b ++ (unit ∷ [])) ∙ length-map-range_with_len (dealt bits done) 0 n in
    let inside : k < n = omega (arith, under, many) in
    let e : 0 + k ≡ k = omega arith in
    let after : get_or (buckets_of bits (done ++ (unit ∷ []))) k d ≡ dealt bits (done ++ (unit ∷ [])) k =
    get_or-map-range_with_len (dealt bits (done ++ (unit ∷ []))) 0 n k k d inside e in
    let before : get_or (buckets_of bits done) k d ≡ dealt bits done k = get_or-map-range_with_len (dealt bits done) 0 n k k d inside e in
    let grown : dealt bits (done ++ (unit ∷ [])) k ≡ dealt bits done k ++ cond (b == k) (unit ∷ []) [] =
    filter-append (λ (u : Keyed). bucket_among bits u.key == k) done (unit ∷ []) in
    elim (cases_eq b k) [
      | inl same ↦
          ap (λ j. get_or (set (buckets_of bits done) j (dealt bits done j ++ (unit ∷ []))) k d) same
          ∙ (get_or-set_same (buckets_of bits done) k (dealt bits done k ++ (unit ∷ [])) d
          (omega (arith, inside, length-map-range_with_len (dealt bits done) 0 n))
          ∙ sym (after ∙ (grown ∙ ap (λ t. dealt bits done k ++ cond t (unit ∷ []) []) (eq-eqb b k same))))
      | inr other ↦
          get_or-set_other (buckets_of bits done) b k (dealt bits done b ++ (unit ∷ [])) d (λ same. other (sym same))
          ∙ (before ∙ sym (after ∙ (grown ∙ (ap (λ t. dealt bits done k ++ cond t (unit ∷ []) []) (ne_eqb b k other) ∙ append-nil
          (dealt bits done k)))))
    ])

pub one_dealt : (bits : ℕ) (all left : List Keyed) (unit : Keyed) (old new : List (List Keyed)) → AreDealt bits all (unit ∷ left) old
    → bucket_among bits unit.key < 2 ^ bits
    → new ≡ set old (bucket_among bits unit.key) (get_or old (bucket_among bits unit.key) [] ++ (unit ∷ [])) → AreDealt bits all left new
one_dealt bits all left unit old new before low is =
    let b : ℕ = bucket_among bits unit.key in
    let e : 0 + b ≡ b = omega arith in
    record {
      done = before.done ++ (unit ∷ []);
      whole = append_assoc before.done (unit ∷ []) left ∙ before.whole;
      are = is
          ∙ (ap (λ bs. set bs b (get_or bs b [] ++ (unit ∷ []))) before.are
          ∙ (ap (λ us. set (buckets_of bits before.done) b (us ++ (unit ∷ [])))
          (get_or-map-range_with_len (dealt bits before.done) 0 (2 ^ bits) b b [] low e)
          ∙ dealt_more bits before.done unit low));
    }

pub dealt_length : (bits : ℕ) (all left : List Keyed) (buckets : List (List Keyed)) → AreDealt bits all left buckets → length buckets ≡ 2 ^ bits
dealt_length bits all left buckets before = ap length before.are ∙ length-map-range_with_len (dealt bits before.done) 0 (2 ^ bits)

-- a key is pushed into its bucket
pub pushed_seen : {V : Type 0} (f : V → List Keyed) (items : List V) (b : ℕ) (old new : V) (unit : Keyed) → b < length items
    → old ≡ get_or items b old
    → f new ≡ f old ++ (unit ∷ []) → map f (set items b new) ≡ set (map f items) b (get_or (map f items) b [] ++ (unit ∷ []))
pushed_seen f items b old new unit low there grown = grind (arith, map-set, set, get_or-map)

-- Spares.

fill_one : (g m a : ℕ) → set (replicate g a ++ replicate (suc m) 0) g a ≡ replicate (g + 1) a ++ replicate m 0
fill_one zero m a = refl
fill_one (suc g) m a = ap (λ xs. a ∷ xs) (fill_one g m a) ∙ ap (λ k. replicate k a ++ replicate m 0) (let e : suc (g + 1) ≡ suc g + 1 = omega arith in e)

-- one spare more
pub spare_filled : (spares : List ℕ) (g a : ℕ) → spares ≡ replicate g a ++ replicate (32 - g) 0 → g < 32
    → set spares g a ≡ replicate (g + 1) a ++ replicate (32 - (g + 1)) 0
spare_filled spares g a is low =
    ap (λ xs. set xs g a) is
    ∙ (ap (λ k. set (replicate g a ++ replicate k 0) g a) (let e : 32 - g ≡ suc (32 - (g + 1)) = omega (arith, low) in e)
    ∙ fill_one g (32 - (g + 1)) a)
