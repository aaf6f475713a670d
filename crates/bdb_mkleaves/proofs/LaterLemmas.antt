-- A later file of a later file.
use Rattle.std.proofs.Common.{◌≡◌, ℕ, Bool, true, arith, sym, subst, inl, inr}
use Rattle.bdb_mkleaves.proofs.Common.{File, Page, IsLater, IsSamePage}

-- what a page keeps twice, it keeps
same_chain : (old middle new : Page) → IsSamePage old middle → IsSamePage middle new → IsSamePage old new
same_chain old middle new (inl one) two = subst (λ page. IsSamePage page new) one two
same_chain old middle new (inr one) (inl two) = subst (IsSamePage old) (sym two) (inr one)
same_chain old middle new (inr one) (inr two) = grind arith

pub later_chain : (f g h : File) (pages : ℕ → Bool) → IsLater pages f g → IsLater pages g h → IsLater pages f h
later_chain f g h pages one two = grind (arith, same_chain)

-- a later file is one of fewer pages
pub later_fewer : (f g : File) (few pages : ℕ → Bool) → ((p : ℕ) → few p ≡ true → pages p ≡ true) → IsLater pages f g → IsLater few f g
later_fewer f g few pages within later = grind arith
