-- Laws that several crates use.
use Rattle.std.proofs.Common.{◌≡◌, ℕ, arith, inl, inr, ◌∙◌, refl, ◌+◌, List, [], ap}
use Rattle.bdb_format.specs.Terms.{ComesFirst, or_else}
use Rattle.bdb_format.specs.declared.kinds.Fault.{Fault}

-- faults of one stage, page and code are one
pub same_parts : (s t p q c d : ℕ) → s ≡ t → p ≡ q → c ≡ d
    → ◌≡◌ {A = Fault} (record { stage = s; page = p; code = c }) (record { stage = t; page = q; code = d })
same_parts s t p q c d stages pages codes = cc

-- two faults of a stage that come before each other are one
pub same_fault : (a b : Fault) → a.stage ≡ b.stage → ComesFirst a b → ComesFirst b a → a ≡ b
same_fault a b stage ab ba = same_parts a.stage b.stage a.page b.page a.code b.code stage (grind arith) (grind arith)

-- a fault comes before what comes after one that it comes before
pub comes_through : (a b c : Fault) → ComesFirst a b → ComesFirst b c → ComesFirst a c
comes_through a b c (inl p) (inl q) = inl (omega arith)
comes_through a b c (inl p) (inr q) = inl (omega (arith, q.0))
comes_through a b c (inr p) (inl q) = inl (omega (arith, p.0))
comes_through a b c (inr p) (inr q) = inr (p.0 ∙ q.0, omega (arith, p.1, q.1))

-- a fault comes before itself
pub comes_itself : (a : Fault) → ComesFirst a a
comes_itself a = inr (refl, omega arith)

-- two lists that are empty, joined
pub or_none : (faults others : List Fault) → faults ≡ [] → others ≡ [] → or_else faults (λ _. others) ≡ []
or_none faults others first second = ap (λ fs. or_else fs (λ _. others)) first ∙ second
