-- Branches: groves with right chains and right sets.
use Rattle.std.proofs.Common.{◌≡◌, ◌⊎◌, ℕ, ◌+◌, ◌<◌, ◌≤◌, Bool, true, List, [], ◌∷◌, length, arith, sym, ◌∙◌, ap, subst, inl, inr, true≢false, ◌==◌}
use Rattle.std.specs.List.{Contains, list_any}
use Rattle.std.proofs.lemmas.Bool.{cases_eq, eqb-true, or_cases}
use Rattle.bdb_format.specs.declared.pages.Header.{Header}
use Rattle.bdb_format.specs.declared.references.Sort.{Sort}
use Rattle.bdb_format.specs.declared.references.Sort.TheVariants.{OverflowNext}
use Rattle.bdb_format.specs.Terms.{File, Overflow, chains_in, is_root_reference, is_wrong_length, page_at, unless_zero}
use Rattle.bdb_format.proofs.ListLemmas.{any_member, only_member}
use Rattle.bdb_format.proofs.MemberLemmas.{no_member}
use Rattle.bdb_law_grove.specs.Part.{HaveLengths, HaveSets, IsBranch, IsGrove, between}
use Rattle.bdb_law_grove.specs.Growing.{IsRun, chain_header}
use Rattle.bdb_law_grove.specs.Branch.{BranchIsKnown, BranchesFollow, BranchesStandTogether, ChainIsBranch, NoBranch, PagesStandOverBranch}
use Rattle.bdb_law_grove.proofs.BesideLemmas.{grove_is_known, stand_together}
use Rattle.bdb_law_grove.proofs.ChainLemmas.{between_is, chains_stand}
use Rattle.bdb_law_grove.proofs.GroveLemmas.{of_references, refs_of}
use Rattle.bdb_law_grove.proofs.SeveralLemmas.{pages_stand_over}
use Rattle.bdb_law_grove.proofs.SpanLemmas.{between_parts, groves_follow, no_pages_stand, none_between}

-- A branch and other pages that are right are one, where they are a grove.
pub branch_with : (g : File) (one both : ℕ → Bool) (es fs : List ℕ) (These : ℕ → Type 0) → IsBranch g one es → HaveLengths g These → HaveSets g These
    → ((p : ℕ) → both p ≡ true → (one p ≡ true) ⊎ These p) → IsGrove g both fs → IsBranch g both fs
branch_with g one both es fs These branch chains sets sides grove = grind arith

pub branches_stand_together : BranchesStandTogether
branches_stand_together g one two both es fs union apart first second = grind (arith, branch_with, or_cases, stand_together)

pub branches_follow : BranchesFollow
branches_follow g a b c es fs low high first second =
    branch_with g (between a b) (between a c) es _ (λ p. between b c p ≡ true) first second.chains second.sets
    (λ p is. or_cases (between a b p) (between b c p) (sym (between_parts a b c p low high) ∙ is))
    (groves_follow g a b c es fs low high first.grove second.grove)

pub no_branch : NoBranch
no_branch g a = grind (arith, no_pages_stand, none_between)

pub branch_is_known : BranchIsKnown
branch_is_known g pages same es fs set to from branch = grind (arith, grove_is_known)

-- Pages over a branch.

-- a page that is marked by a list is one of it
pub of_list : (ps : List ℕ) (q : ℕ) → list_any (λ p. q == p) ps ≡ true → Contains ps q
of_list ps q is = let found = any_member (λ p. q == p) ps is in subst (Contains ps) (sym (eqb-true q found.0 found.2)) found.1

pub pages_stand_over_branch : PagesStandOverBranch
pages_stand_over_branch g pages ps over chains sets branch =
    branch_with g pages _ _ ps (Contains ps) branch chains sets
    (λ q is. elim (or_cases (pages q) (list_any (λ p. q == p) ps) is) [ inl old ↦ inl old | inr new ↦ inr (of_list ps q new) ])
    (pages_stand_over g pages ps over branch.grove)

-- Chains.

-- each page of a chain is an overflow page
run_page : (g : File) (previous p q : ℕ) (pieces : List (List ℕ)) → IsRun g previous p pieces → p ≤ q → q < p + length pieces
    → (header : Header) × (piece : List ℕ) × (page_at g q ≡ Overflow header piece)
run_page g previous p q [] run low high = absurd run
run_page g previous p q (piece ∷ []) run low high =
    let same : q ≡ p = omega arith in (chain_header p previous 0 (length piece) run.0, piece, ap (page_at g) same ∙ run.2)
run_page g previous p q (piece ∷ next ∷ pieces) run low high =
    elim (cases_eq q p) [
      | inl same ↦ (chain_header p previous (p + 1) (length piece) run.0.0, piece, ap (page_at g) same ∙ run.0.2)
      | inr other ↦ run_page g p (p + 1) q (next ∷ pieces) run.1 (omega (arith, low, other)) (omega arith)
    ]

-- and names the next one alone
next_sort : (next : ℕ) (target : Sort × ℕ) → Contains (unless_zero OverflowNext next) target → target.0 ≡ OverflowNext
next_sort next target = grind (arith, no_member, only_member)

pub chain_is_branch : ChainIsBranch
chain_is_branch g previous p pieces counted low high run =
    record {
      grove = (chains_stand g previous p pieces counted low high run).grove;
      chains = λ q is. ap (λ page. list_any (is_wrong_length g) (chains_in page)) (page q is).2;
      sets = λ q r is at root.
          let named = of_references 0 _ r (subst (λ rs. Contains rs r) (refs_of g q _ counted.no_queue (page q is).2) at) in
          absurd (true≢false (sym root ∙ ap is_root_reference (next_sort _ (r.sort, r.target) named)));
    }
  where
    page : (q : ℕ) → between p (p + length pieces) q ≡ true → (header : Header) × (piece : List ℕ) × (page_at g q ≡ Overflow header piece)
    page q is = let within = between_is p (p + length pieces) q is in run_page g previous p q pieces run within.0 within.1
