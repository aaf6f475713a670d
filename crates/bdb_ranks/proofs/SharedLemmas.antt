-- Chains that several items may name.
use Rattle.std.proofs.Common.{◌≡◌, ℕ, List, [], ◌∷◌, ◌++◌, subst, inl, inr, Contains}
use Rattle.std.proofs.lemmas.List.Elements.{Contains-append_cases}
use Rattle.bdb_tree.proofs.of_format.ListLemmas.{only_member}
use Rattle.bdb_tree.proofs.of_format.MemberLemmas.{no_member}
use Rattle.bdb_ranks.specs.Shared.{AreShared, ChainValue, IsShared}

pub none_shared : (image : List ℕ) (chains : List ChainValue) → chains ≡ [] → AreShared image chains
none_shared image chains none = record { each = λ chain at. absurd (no_member chains chain none at) }

pub shared_more : (image : List ℕ) (old new : List ChainValue) (chain : ChainValue) → AreShared image old → IsShared image chain
    → new ≡ old ++ chain ∷ [] → AreShared image new
shared_more image old new chain are is more = record {
  each = λ other at.
      elim (Contains-append_cases old (chain ∷ []) other (subst (λ cs. Contains cs other) more at)) [
        | inl before ↦ are.each other before
        | inr last ↦ subst (IsShared image) (only_member chain other last) is
      ];
}
