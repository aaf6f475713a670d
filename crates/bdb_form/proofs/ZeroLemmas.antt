-- Bytes that are all 0: the first is, and each other is the one before it.
use Rattle.std.proofs.Common.{◌≡◌, ℕ, ◌-◌, true, false, true≢false, List, [], ◌∷◌, length, take, drop, get_or, arith, refl, sym, ◌∙◌, ap, inl, inr, ◌==◌, ◌&&◌}
use Rattle.std.specs.Str.{bytes_eq}
use Rattle.std.proofs.Math.Seq.{take-length}
use Rattle.std.proofs.lemmas.Bool.{cases_Bool, cases_eq, eq-eqb, ne_eqb}
use Rattle.bdb_layout.specs.of_format.Terms.{is_zero}
use Rattle.bdb_layout.proofs.of_format.LessLemmas.{eq_self, eq_same}

pub no_bytes : (bytes : List ℕ) → length bytes ≡ 0 → true ≡ is_zero bytes
no_bytes [] none = refl
no_bytes (b ∷ bs) none = absurd (omega arith)

pub first_not : (bytes : List ℕ) → (get_or bytes 0 0 ≡ 0 → ⊥) → false ≡ is_zero bytes
first_not [] some = absurd (some refl)
first_not (b ∷ bs) some = sym (ap (λ t. t && is_zero bs) (ne_eqb b 0 some))

-- where each byte is the one before it, all are as the first
all_as : (b : ℕ) (bs : List ℕ) → b ≡ 0 → bs ≡ take (length bs) (b ∷ bs) → is_zero bs ≡ true
all_as b [] first same = refl
all_as b (c ∷ cs) first same =
    let head : c ≡ b = cc in
    let tail : cs ≡ take (length cs) (c ∷ cs) = cc in
    rw (eq-eqb c 0 (head ∙ first)) (all_as c cs (head ∙ first) tail)

-- zeros are the same one byte further
as_zeros : (b : ℕ) (bs : List ℕ) → b ≡ 0 → is_zero bs ≡ true → bs ≡ take (length bs) (b ∷ bs)
as_zeros b [] first zeros = refl
as_zeros b (c ∷ cs) first zeros =
    elim (cases_eq c 0) [
      | inl is ↦
          let rest : is_zero cs ≡ true = sym (ap (λ t. t && is_zero cs) (eq-eqb c 0 is)) ∙ zeros in
          let tail : cs ≡ take (length cs) (c ∷ cs) = as_zeros c cs is rest in
          ap (λ x. x ∷ cs) (is ∙ sym first) ∙ ap (λ xs. b ∷ xs) tail
      | inr other ↦ absurd (true≢false (sym zeros ∙ ap (λ t. t && is_zero cs) (ne_eqb c 0 other)))
    ]

same_answer : (b : ℕ) (bs : List ℕ) → b ≡ 0 → bytes_eq bs (take (length bs) (b ∷ bs)) ≡ is_zero bs
same_answer b bs first = grind (arith, cases_Bool, as_zeros, eq_self, all_as, eq_same)

pub shifted : (bytes : List ℕ) → get_or bytes 0 0 ≡ 0 → ((length bytes == 0) ≡ false)
    → bytes_eq (take (length bytes - 1) (drop 1 bytes)) (take (length bytes - 1) bytes) ≡ is_zero bytes
shifted [] first some = absurd (true≢false some)
shifted (b ∷ bs) first some =
    let all_but_last : length (b ∷ bs) - 1 ≡ length bs = omega arith in
    let one_further : bytes_eq (take (length (b ∷ bs) - 1) bs) (take (length (b ∷ bs) - 1) (b ∷ bs)) ≡ bytes_eq bs (take (length bs) (b ∷ bs)) =
    ap (λ n. bytes_eq (take n bs) (take n (b ∷ bs))) all_but_last ∙ ap (λ xs. bytes_eq xs (take (length bs) (b ∷ bs))) (take-length bs) in
    one_further ∙ (same_answer b bs first ∙ sym (ap (λ t. t && is_zero bs) (eq-eqb b 0 first)))
