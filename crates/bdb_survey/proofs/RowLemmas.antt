-- The pages of a row that are left, one turn on.
use Rattle.std.proofs.Common.{◌≡◌, ℕ, zero, suc, ◌-◌, Bool, true, false, cond, [], ◌∷◌, arith, refl, sym, ◌∙◌, ap, ◌==◌, Option, Some, None}
use Rattle.bdb_law_sums.specs.of_format.Terms.{File, chain_in, next_of}
use Rattle.bdb_survey.specs.Rows.{leaves_from, unless_zero}
use Rattle.bdb_law_sums.proofs.HashLemmas.{no_turn, turn_is}

pub no_turn_left : (file : File) (turns : ℕ) (p : ℕ) → turns ≡ 0 → leaves_from turns file (Some p) ≡ []
no_turn_left file turns p none = ap (λ t. leaves_from t file (Some p)) none ∙ no_turn file p

pub turn_left : (file : File) (turns : ℕ) (p : ℕ) (next : Option ℕ) → (turns ≡ 0 → ⊥) → next ≡ unless_zero (next_of file p) → leaves_from turns file (Some p)
    ≡ p ∷ leaves_from (turns - 1) file next
turn_left file zero p next some is = absurd (some refl)
turn_left file (suc t) p next some is =
    let less : suc t - 1 ≡ t = omega arith in
    turn_is t file p
    ∙ (ap (λ ps. p ∷ ps) (by_zero (next_of file p == 0))
    ∙ (ap (λ n. p ∷ leaves_from t file n) (sym is) ∙ ap (λ n. p ∷ leaves_from n file next) (sym less)))
  where
    by_zero : (b : Bool) → cond b [] (chain_in t file (next_of file p)) ≡ leaves_from t file (cond b None (Some (next_of file p)))
    by_zero true = refl
    by_zero false = refl
