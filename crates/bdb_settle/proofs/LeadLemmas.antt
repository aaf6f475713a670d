-- A lesser lead is that of a lesser key.
use Rattle.std.proofs.Common.{◌≡◌, ℕ, zero, suc, ◌+◌, ◌-◌, ◌*◌, ◌^◌, ◌<◌, true, List, [], ◌∷◌, drop, get_or, length, take, refl, sym, ap, subst, inl}
use Rattle.std.proofs.Common.{inr, arith}
use Rattle.std.proofs.lemmas.Bool.{cases_lt}
use Rattle.std.proofs.lemmas.Bool.Decides.{nat_tests}
use Rattle.std.proofs.lemmas.List.{get_or-drop, length-take, take-take}
use Rattle.bdb_mktree.specs.of_format.Terms.{less}
use Rattle.bdb_mktree.specs.of_places.declared.place.PlacedKey.{PlacedKey}
use Rattle.bdb_mktree.specs.of_places.declared.place.PlacedKey.TheVariants.{Bytes as BytesAt, Number as NumberAt}
use Rattle.bdb_mktree.specs.of_text_format.Terms.{placed_key}
use Rattle.bdb_mktree.specs.of_text_format.declared.pairs.Key.{Key}
use Rattle.bdb_mktree.specs.of_text_format.declared.pairs.Key.TheVariants.{Bytes, Number}
use Rattle.bdb_settle.specs.Loaded.{key_less}
use Rattle.bdb_settle.specs.Leads.{Begins, lead_of, leading_number}

-- Numbers of bytes.

abbrev pub AreBytes : List ℕ → Type 0
AreBytes bytes = (i : ℕ) → get_or bytes i 0 < 256

-- eight bytes fit
pub number_fits : (n : ℕ) (bytes : List ℕ) → AreBytes bytes → n < 8 → leading_number n bytes * 256 + 255 < 2 ^ 64
number_fits zero bytes are low = omega (arith)
number_fits (suc zero) bytes are low = omega (arith, are 0)
number_fits (suc (suc zero)) bytes are low = omega (arith, are 0, are 1)
number_fits (suc (suc (suc zero))) bytes are low = omega (arith, are 0, are 1, are 2)
number_fits (suc (suc (suc (suc zero)))) bytes are low = omega (arith, are 0, are 1, are 2, are 3)
number_fits (suc (suc (suc (suc (suc zero))))) bytes are low = omega (arith, are 0, are 1, are 2, are 3, are 4)
number_fits (suc (suc (suc (suc (suc (suc zero)))))) bytes are low = omega (arith, are 0, are 1, are 2, are 3, are 4, are 5)
number_fits (suc (suc (suc (suc (suc (suc (suc zero))))))) bytes are low = omega (arith, are 0, are 1, are 2, are 3, are 4, are 5, are 6)
number_fits (suc (suc (suc (suc (suc (suc (suc (suc n)))))))) bytes are low = absurd (omega (arith, low))

-- the same number is that of the same first bytes
same_first : (n : ℕ) (a b : List ℕ) → AreBytes a → AreBytes b → leading_number n a ≡ leading_number n b → (i : ℕ) → i < n → get_or a i 0 ≡ get_or b i 0
same_first zero a b a_bytes b_bytes same i low = absurd (omega (arith, low))
same_first (suc n) a b a_bytes b_bytes same i low =
    elim (cases_lt i n) [
      | inl before ↦ same_first n a b a_bytes b_bytes (omega (arith, same, a_bytes n, b_bytes n)) i before
      | inr not_before ↦
          let at : i ≡ n = omega (arith, low, not_before) in
          let last : get_or a n 0 ≡ get_or b n 0 = omega (arith, same, a_bytes n, b_bytes n) in
          subst (λ k. get_or a k 0 ≡ get_or b k 0) (sym at) last
    ]

-- the first byte in which two lists differ, zeros behind the end, decides
less_at : (n : ℕ) (a b : List ℕ) → ((i : ℕ) → i < n → get_or a i 0 ≡ get_or b i 0) → get_or a n 0 < get_or b n 0 → less a b ≡ true
less_at n [] [] same below = absurd (omega (arith, below))
less_at n [] (y ∷ b) same below = refl
less_at n (x ∷ a) [] same below = absurd (omega (arith, below))
less_at zero (x ∷ a) (y ∷ b) same below = grind (arith, nat_tests)
less_at (suc n) (x ∷ a) (y ∷ b) same below =
    let head : x ≡ y = same 0 (omega arith) in
    let rest : less a b ≡ true = less_at n a b (λ i low. same (suc i) (omega (arith, low))) below in
    grind (arith, nat_tests)

pub number_less : (n : ℕ) (a b : List ℕ) → AreBytes a → AreBytes b → leading_number n a < leading_number n b → less a b ≡ true
number_less zero a b a_bytes b_bytes below = absurd (omega (arith, below))
number_less (suc n) a b a_bytes b_bytes below =
    elim (cases_lt (leading_number n a) (leading_number n b)) [
      | inl sooner ↦ number_less n a b a_bytes b_bytes sooner
      | inr not_sooner ↦
          let same : leading_number n a ≡ leading_number n b = omega (arith, below, not_sooner, a_bytes n, b_bytes n) in
          less_at n a b (same_first n a b a_bytes b_bytes same) (omega (arith, below, same))
    ]

-- Behind a beginning that both share.

less_behind : (start a b : List ℕ) → take (length start) a ≡ start → take (length start) b ≡ start
    → less (drop (length start) a) (drop (length start) b) ≡ true → less a b ≡ true
less_behind [] a b first second is = is
less_behind (z ∷ start) [] b first second is = absurd cc
less_behind (z ∷ start) (x ∷ a) [] first second is = absurd cc
less_behind (z ∷ start) (x ∷ a) (y ∷ b) first second is = grind (arith, nat_tests, less_behind start a b (ap (drop 1) first) (ap (drop 1) second) is)

dropped : (n : ℕ) (bytes : List ℕ) → AreBytes bytes → AreBytes (drop n bytes)
dropped n bytes are i = subst (λ b. b < 256) (sym (get_or-drop n bytes i 0)) (are (n + i))

-- fewer bytes with which a key begins
pub begins_less : (start first : List ℕ) (key : Key) → first ≡ take (length first) start → Begins start key → Begins first key
begins_less start first (Number n) is begins = tt
begins_less start first (Bytes key) is begins = grind (arith, length-take, take-take)

-- keys of bytes
abbrev pub IsOfBytes : Key → Type 0
IsOfBytes (Bytes key) = AreBytes key
IsOfBytes (Number n) = Unit {0}

taken : (n : ℕ) (bytes : List ℕ) → AreBytes bytes → AreBytes (take n bytes)
taken zero bytes are i = omega arith
taken (suc n) [] are i = omega arith
taken (suc n) (b ∷ bytes) are zero = are 0
taken (suc n) (b ∷ bytes) are (suc i) = taken n bytes (λ j. are (suc j)) i

pub of_run : (bytes : List ℕ) (key : PlacedKey) → AreBytes bytes → IsOfBytes (placed_key bytes key)
of_run bytes (BytesAt span) are = taken (span.end - span.start) (drop span.start bytes) (dropped span.start bytes are)
of_run bytes (NumberAt number) are = tt

pub lead_less : (start : List ℕ) (a b : Key) → Begins start a → Begins start b → IsOfBytes a → IsOfBytes b
    → lead_of (length start) a < lead_of (length start) b → key_less a b ≡ true
lead_less start (Bytes a) (Bytes b) first second a_bytes b_bytes below =
    less_behind start a b first second
    (number_less 8 (drop (length start) a) (drop (length start) b) (dropped (length start) a a_bytes) (dropped (length start) b b_bytes) below)
lead_less start (Bytes a) (Number n) first second a_bytes b_bytes below = absurd (omega (arith, below))
lead_less start (Number m) (Bytes b) first second a_bytes b_bytes below = refl
lead_less start (Number m) (Number n) first second a_bytes b_bytes below = absurd (omega (arith, below))
