-- Where there is no first error, none holds.
use Rattle.std.proofs.Common.{arith, ◌≡◌, ◌∙◌, ◌+◌, ℕ, Option, ap, slice_get, sym, take, Bool, true, false, List, [], ◌∷◌, ◌++◌, refl, Some, None, All}
use Rattle.std.proofs.Common.{flat_map, fold}
use Rattle.std.proofs.lemmas.List.{append-nil}
use Rattle.std.proofs.lemmas.List.Elements.{All-cons, All-nil, All-weaker}
use Rattle.std.proofs.lemmas.Grind.{flat_map-append}
use Rattle.std.proofs.lemmas.List.Sums.{fold-append}
use Rattle.bdb_mktree.specs.of_format.declared.settings.Settings.{Settings}
use Rattle.bdb_mktree.specs.of_text_format.declared.pairs.TextPair.{TextPair}
use Rattle.bdb_mktree.specs.of_text_format.declared.sections.Section.{Section}
use Rattle.bdb_mktree.proofs.of_text_format.PlacedLemmas.{taken_more}
use Rattle.bdb_settle.specs.declared.load_error.LoadError.{LoadError}
use Rattle.bdb_settle.specs.LoadErrors.{is_too_long, is_zero, load_error, pair_errors, sooner, where_so}

-- the first error, with those of a pair more
pub errors_more : (settings : Settings) (start now then_ : Option LoadError) (pairs : List TextPair) (i : ℕ) (pair : TextPair)
    → now ≡ fold sooner start (flat_map (pair_errors settings) (take i pairs)) → slice_get pairs i ≡ Some pair
    → then_ ≡ fold sooner now (pair_errors settings pair)
    → then_ ≡ fold sooner start (flat_map (pair_errors settings) (take (i + 1) pairs))
errors_more settings start now then_ pairs i pair so at is =
    is
    ∙ ap (λ first. fold sooner first (pair_errors settings pair)) so
    ∙ sym (fold-append sooner start (flat_map (pair_errors settings) (take i pairs)) (pair_errors settings pair))
    ∙ ap (fold sooner start) (sym (ap (flat_map (pair_errors settings)) (taken_more pairs i pair at)
    ∙ flat_map-append (pair_errors settings) (take i pairs) (pair ∷ [])
    ∙ ap (λ errors. flat_map (pair_errors settings) (take i pairs) ++ errors) (append-nil (pair_errors settings pair))))

still_some : (first : LoadError) (errors : List LoadError) → fold sooner (Some first) errors ≡ None → ⊥
still_some first [] none = absurd cc
still_some first (error ∷ errors) none = grind (arith, Some, None, still_some error errors, still_some first errors)

pub no_errors : (errors : List LoadError) → fold sooner None errors ≡ None → errors ≡ []
no_errors [] none = refl
no_errors (error ∷ errors) none = absurd (still_some error errors none)

pub both_empty : {X : Type 0} (xs ys : List X) → xs ++ ys ≡ [] → (xs ≡ []) × (ys ≡ [])
both_empty [] ys none = (refl, none)
both_empty (x ∷ xs) ys none = absurd cc

pub each_empty : {X Y : Type 0} (f : X → List Y) (xs : List X) → flat_map f xs ≡ [] → All (λ x. f x ≡ []) xs
each_empty f [] none = All-nil (λ x. f x ≡ [])
each_empty f (x ∷ xs) none =
    let parts = both_empty (f x) (flat_map f xs) none in All-cons (λ x. f x ≡ []) x xs parts.0 (each_empty f xs parts.1)

pub not_so : (b : Bool) (error : LoadError) → where_so b error ≡ [] → b ≡ false
not_so true error none = absurd cc
not_so false error none = refl

-- a pair of a section without errors
pub record IsSound (settings : Settings) (pair : TextPair) : Type 0 where
  pub short : is_too_long settings pair ≡ false
  pub number : is_zero pair.key ≡ false

sound_pair : (settings : Settings) (pair : TextPair) → pair_errors settings pair ≡ [] → IsSound settings pair
sound_pair settings pair none = grind (arith, both_empty, not_so)

-- where no section has an error, no pair of one has
pub sound_pairs : (sections : List Section) → load_error sections ≡ None → All (λ section. All (IsSound section.settings) section.pairs) sections
sound_pairs sections none = grind (arith, All-weaker, sound_pair, each_empty, both_empty, no_errors)
