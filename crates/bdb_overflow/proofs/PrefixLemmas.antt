-- Where the first bytes of two lists differ as numbers, they have the order of the lists.
use Rattle.std.proofs.Common.{◌≡◌, ℕ, zero, suc, ◌+◌, ◌-◌, ◌*◌, ◌^◌, ◌≤◌, ◌<◌, Bool, true, ◌||◌, List, [], ◌∷◌, ◌++◌, length, get_or, arith, refl, sym, ◌∙◌, ap}
use Rattle.std.proofs.Common.{inl, inr, ◌==◌, ◌&&◌, nat_lt}
use Rattle.std.specs.Cmp.Lexicographic.{slice_cmp}
use Rattle.std.specs.Int.{from_be_bytes, w64}
use Rattle.std.specs.Ordering.{nat_cmp, ordering_then}
use Rattle.std.specs.declared.cmp.Ordering.TheVariants.{Less as Below, Equal, Greater}
use Rattle.std.proofs.lemmas.Bool.{cases_order, lt-ltb}
use Rattle.std.proofs.lemmas.List.{get_or_append_left, get_or-append_right}
use Rattle.std.proofs.lemmas.Nat.{mul-le}
use Rattle.std.specs.Cmp.{nat_cmp_is}
use Rattle.bdb_graph.specs.of_format.Terms.{Less, less}
use Rattle.bdb_overflow.specs.Prefix.{AreBytes, prefix_of}
use Rattle.bdb_overflow.proofs.KeyLemmas.{is_order}

-- A byte among pieces.

pub byte_here : (piece rest : List ℕ) (i : ℕ) → i < length piece → get_or (piece ++ rest) i 0 ≡ get_or piece i 0
byte_here piece rest i below = get_or_append_left piece rest 0 i below

pub byte_later : (piece rest : List ℕ) (i : ℕ) → length piece ≤ i → get_or (piece ++ rest) i 0 ≡ get_or rest (i - length piece) 0
byte_later piece rest i above = get_or-append_right piece rest (length piece) i 0 refl above

-- The number of eight bytes.

pub prefix_is : (bytes : List ℕ)
    → from_be_bytes w64 (get_or bytes 0 0 ∷ get_or bytes 1 0 ∷ get_or bytes 2 0 ∷ get_or bytes 3 0 ∷ get_or bytes 4 0 ∷ get_or bytes 5 0 ∷ get_or bytes 6 0
    ∷ get_or bytes 7 0 ∷ []) ≡ prefix_of 8 bytes
prefix_is [] = refl
prefix_is (a ∷ []) = omega arith
prefix_is (a ∷ b ∷ []) = omega arith
prefix_is (a ∷ b ∷ c ∷ []) = omega arith
prefix_is (a ∷ b ∷ c ∷ d ∷ []) = omega arith
prefix_is (a ∷ b ∷ c ∷ d ∷ e ∷ []) = omega arith
prefix_is (a ∷ b ∷ c ∷ d ∷ e ∷ f ∷ []) = omega arith
prefix_is (a ∷ b ∷ c ∷ d ∷ e ∷ f ∷ g ∷ []) = omega arith
prefix_is (a ∷ b ∷ c ∷ d ∷ e ∷ f ∷ g ∷ h ∷ bytes) = omega arith

-- numbers that are bytes where they are read
pub bytes_are : (n : ℕ) (bytes : List ℕ) → ((i : ℕ) → i < n → get_or bytes i 0 < 256) → AreBytes n bytes
bytes_are zero bytes small = tt
bytes_are (suc n) [] small = tt
bytes_are (suc n) (b ∷ bs) small = (small 0 (omega arith), bytes_are n bs (λ i below. small (suc i) (omega arith)))

-- Their order.

prefix_low : (n : ℕ) (bytes : List ℕ) → AreBytes n bytes → prefix_of n bytes < 256 ^ n
prefix_low zero bytes small = omega arith
prefix_low (suc n) [] small = let rest : prefix_of n [] < 256 ^ n = prefix_low n [] (none n) in omega arith
  where
    none : (n : ℕ) → AreBytes n []
    none zero = tt
    none (suc n) = tt
prefix_low (suc n) (b ∷ bs) small =
    let rest : prefix_of n bs < 256 ^ n = prefix_low n bs small.1 in
    let most : (b + 1) * 256 ^ n ≤ 256 * 256 ^ n = mul-le (b + 1) (256 ^ n) 256 (256 ^ n) (omega arith) (omega arith) in
    omega arith

less_here : (x y : ℕ) (rest : Bool) → x < y → (nat_lt x y || (x == y && rest)) ≡ true
less_here x y rest below = ap (λ b. b || (x == y && rest)) (lt-ltb x y below)

less_there : (x y : ℕ) (rest : Bool) → x ≡ y → rest ≡ true → (nat_lt x y || (x == y && rest)) ≡ true
less_there x y rest same below = grind (arith, same, below)

prefix_decides : (n : ℕ) (a b : List ℕ) → AreBytes n a → AreBytes n b → prefix_of n a < prefix_of n b → Less a b
prefix_decides zero a b small_a small_b below = absurd (omega arith)
prefix_decides (suc n) a [] small_a small_b below = absurd (omega arith)
prefix_decides (suc n) [] (y ∷ b) small_a small_b below = refl
prefix_decides (suc n) (x ∷ a) (y ∷ b) small_a small_b below =
    elim (cases_order x y) [
      | inl same ↦
          let heads : x * 256 ^ n ≡ y * 256 ^ n = ap (λ z. z * 256 ^ n) same in
          less_there x y (less a b) same (prefix_decides n a b small_a.1 small_b.1 (omega arith))
      | inr (inl low) ↦ less_here x y (less a b) low
      | inr (inr high) ↦
          let rest : prefix_of n b < 256 ^ n = prefix_low n b small_b.1 in
          let more : (y + 1) * 256 ^ n ≤ x * 256 ^ n = mul-le (y + 1) (256 ^ n) x (256 ^ n) (omega arith) (omega arith) in
          absurd (omega arith)
    ]

-- lists compare by their first bytes as numbers, and by themselves where these are the same
pub prefix_order : (n : ℕ) (a b : List ℕ) → AreBytes n a → AreBytes n b
    → ordering_then (nat_cmp (prefix_of n a) (prefix_of n b)) (slice_cmp nat_cmp a b) ≡ slice_cmp nat_cmp a b
prefix_order n a b small_a small_b =
    elim (cases_order (prefix_of n a) (prefix_of n b)) [
      | inl same ↦ ap (λ o. ordering_then o (slice_cmp nat_cmp a b)) (sym (nat_cmp_is (prefix_of n a) (prefix_of n b) Equal same))
      | inr (inl low) ↦
          ap (λ o. ordering_then o (slice_cmp nat_cmp a b)) (sym (nat_cmp_is (prefix_of n a) (prefix_of n b) Below low))
          ∙ is_order Below a b (prefix_decides n a b small_a small_b low)
      | inr (inr high) ↦
          ap (λ o. ordering_then o (slice_cmp nat_cmp a b)) (sym (nat_cmp_is (prefix_of n a) (prefix_of n b) Greater high))
          ∙ is_order Greater a b (prefix_decides n b a small_b small_a high)
    ]
