-- The section of generated pairs can be loaded, and has no load error.
use Rattle.std.proofs.Common.{◌≡◌, ◌⊎◌, ℕ, ◌+◌, ◌%◌, ◌==◌, ◌≤◌, ne_eqb, Bool, true, false, List, [], ◌∷◌, ◌++◌, length, length-append, arith, inl, inr, refl}
use Rattle.std.proofs.Common.{subst, sym, ◌∙◌, Some, None, if◌then◌else◌, map, nat_lt, replicate, All, flat_map}
use Rattle.std.proofs.lemmas.List.{length-replicate}
use Rattle.std.proofs.lemmas.List.Elements.{All-cons, All-head, All-map, All-nil, All-tail}
use Rattle.bdb_model.specs.of_format.declared.kinds.Kind.{Kind}
use Rattle.bdb_model.specs.of_format.declared.kinds.Kind.TheVariants.{Btree, Recno, Hash, Queue}
use Rattle.bdb_model.specs.of_format.declared.kinds.Order.TheVariants.{Big}
use Rattle.bdb_model.specs.of_format.Terms.{spelled}
use Rattle.bdb_model.proofs.of_format.SpellingLemmas.{length-spelled}
use Rattle.bdb_model.specs.of_text_format.declared.pairs.TextPair.{TextPair}
use Rattle.bdb_model.specs.of_text_format.declared.sections.Section.{Section}
use Rattle.bdb_model.specs.of_text_format.Terms.{holds_records}
use Rattle.bdb_onto.specs.of_law_sections.Fit.{AreFitSettings, IsFitPair, IsFitSection}
use Rattle.bdb_onto.specs.of_settle.declared.load_error.LoadError.{LoadError}
use Rattle.bdb_onto.specs.of_settle.declared.load_error.LoadError.TheVariants.{Memory, TooLarge}
use Rattle.bdb_onto.specs.of_settle.Loaded.{unnumbered}
use Rattle.bdb_onto.specs.of_settle.LoadErrors.{load_error, pair_errors}
use Rattle.bdb_gen.specs.Generated.{generated, number_from, pair_of}
use Rattle.bdb_onto.specs.of_mkfile.Builds.{image_size}
use Rattle.bdb_onto.specs.of_mkfile.Loading.{AreLoadable, IsLoadRefusal, loading_error, size_error}
use Rattle.bdb_onto.proofs.of_mkfile.BuildLemmas.{refusal_found}
use Rattle.bdb_model.specs.Answers.{Answer, told}
use Rattle.bdb_tool_build.specs.declared.refusal.Refusal.{Refusal}
use Rattle.bdb_tool_build.specs.Lines.{image_too_large_line}
use Rattle.bdb_tool_build.specs.Loads.{IsErrorAnswer}
use Rattle.bdb_tool_build.specs.Refusals.{IsRefusedAnswer}
use Rattle.bdb_tool_build.proofs.RefusalLemmas.{still_refused}
use Rattle.bdb_tool_build.specs.Trials.{IsTrialAnswer, IsTrialBy, trial_section, trial_sections, trial_settings}

-- Generated pairs.

-- a pair that can be loaded, without an error
pub record IsGoodPair (kind : Kind) (pair : TextPair) : Type 0 where
  pub fit : IsFitPair (holds_records kind) 64 pair
  pub no_error : pair_errors (trial_settings kind) pair ≡ []

key_short : (x i : ℕ) → length (spelled 4 Big x ++ spelled 4 Big i) ≤ 64
key_short x i = omega (arith, length-append (spelled 4 Big x) (spelled 4 Big i), length-spelled 4 Big x, length-spelled 4 Big i)

value_short : (n byte : ℕ) → n ≤ 64 → length (replicate n byte) ≤ 64
value_short n byte short = omega (arith, short, length-replicate n byte)

some_number : (i : ℕ) → ((i + 1) == 0) ≡ false
some_number i = ne_eqb (i + 1) 0 (λ none. omega arith)

good_pair : (kind : Kind) (x i : ℕ) → IsGoodPair kind (unnumbered (pair_of kind x i))
good_pair Btree x i = record { fit = record { key = refl; key_length = key_short x i; length = value_short (x % 64) (i % 256) (omega arith) }; no_error = refl }
good_pair Hash x i = record { fit = record { key = refl; key_length = key_short x i; length = value_short (x % 64) (i % 256) (omega arith) }; no_error = refl }
good_pair Recno x i = record {
  fit = record { key = refl; key_length = omega arith; length = value_short (x % 64) (i % 256) (omega arith) };
  no_error = rw (some_number i) refl;
}
good_pair Queue x i = record {
  fit = record { key = refl; key_length = omega arith; length = value_short 16 (i % 256) (omega arith) };
  no_error = rw (some_number i) refl;
}

all_good : {A : Type 0} (kind : Kind) (pair : A → TextPair) (xs : List A) → ((x : A) → IsGoodPair kind (pair x)) → All (λ x. IsGoodPair kind (pair x)) xs
all_good kind pair [] good = All-nil (λ x. IsGoodPair kind (pair x))
all_good kind pair (x ∷ xs) good = All-cons (λ x. IsGoodPair kind (pair x)) x xs (good x) (all_good kind pair xs good)

good_pairs : (kind : Kind) (seed count : ℕ) → All (IsGoodPair kind) (map unnumbered (generated kind seed count))
unfolding generated
good_pairs kind seed count =
    All-map (IsGoodPair kind) unnumbered (generated kind seed count)
    (All-map (λ pair. IsGoodPair kind (unnumbered pair)) (λ i. pair_of kind (number_from seed i) i) _
    (all_good kind (λ i. unnumbered (pair_of kind (number_from seed i) i)) _ (λ i. good_pair kind (number_from seed i) i)))

all_fit : (kind : Kind) (pairs : List TextPair) → All (IsGoodPair kind) pairs → All (IsFitPair (holds_records kind) 64) pairs
all_fit kind [] good = All-nil (IsFitPair (holds_records kind) 64)
all_fit kind (pair ∷ pairs) good =
    All-cons (IsFitPair (holds_records kind) 64) pair pairs (All-head (IsGoodPair kind) pair pairs good).fit
    (all_fit kind pairs (All-tail (IsGoodPair kind) pair pairs good))

no_errors : (kind : Kind) (pairs : List TextPair) → All (IsGoodPair kind) pairs → flat_map (pair_errors (trial_settings kind)) pairs ≡ []
no_errors kind [] good = refl
no_errors kind (pair ∷ pairs) good =
    rw ((All-head (IsGoodPair kind) pair pairs good).no_error, no_errors kind pairs (All-tail (IsGoodPair kind) pair pairs good)) refl

-- The section.

fit_settings : (kind : Kind) → AreFitSettings (trial_settings kind)
fit_settings Btree = record {
  page_size = refl;
  sorted = λ is. absurd cc;
  counted = λ is. refl;
  records = λ is. refl;
  re_len = omega arith;
  fixed = λ is. absurd
      cc;
}
fit_settings Recno = record {
  page_size = refl;
  sorted = λ is. absurd cc;
  counted = λ is. refl;
  records = λ is. refl;
  re_len = omega arith;
  fixed = λ is. absurd
      cc;
}
fit_settings Hash = record {
  page_size = refl;
  sorted = λ is. absurd cc;
  counted = λ is. refl;
  records = λ is. refl;
  re_len = omega arith;
  fixed = λ is. absurd
      cc;
}
fit_settings Queue = record { page_size = refl; sorted = λ is. absurd cc; counted = λ is. refl; records = λ is. refl; re_len = omega arith; fixed = λ is. refl }

pub trial_loadable : (kind : Kind) (seed count : ℕ) → AreLoadable (trial_sections kind seed count)
trial_loadable kind seed count = record {
  most = 64;
  fit = record {
    some = refl;
    each = All-cons (IsFitSection 64) (trial_section kind seed count) []
        (record { settings = fit_settings kind; pairs = all_fit kind _ (good_pairs kind seed count) }) (All-nil (IsFitSection 64));
    names = (refl, refl, tt);
  };
}

no_load_error : (kind : Kind) (seed count : ℕ) → flat_map (pair_errors (trial_settings kind)) (map unnumbered (generated kind seed count)) ≡ []
    → load_error (trial_sections kind seed count) ≡ None
no_load_error Btree seed count none = rw none refl
no_load_error Recno seed count none = rw none refl
no_load_error Hash seed count none = rw none refl
no_load_error Queue seed count none = rw none refl

-- a trial has no load error but that its image may be too large
pub trial_error : (limit : ℕ) (kind : Kind) (seed count : ℕ) → loading_error limit (trial_sections kind seed count)
    ≡ size_error limit (trial_sections kind seed count)
trial_error limit kind seed count =
    rw (no_load_error kind seed count (no_errors kind _ (good_pairs kind seed count))) refl

large_or_none : (beyond : Bool) (error : LoadError) → (if beyond then Some TooLarge else None) ≡ Some error → (error ≡ TooLarge) × (beyond ≡ true)
large_or_none true error is = let same : TooLarge ≡ error = cc in (sym same, refl)
large_or_none false error is = absurd cc

-- a refusal of a trial is that its image would be too large, or lack of memory
trial_refusal : (limit most : ℕ) (kind : Kind) (seed count : ℕ) (sections : List Section) (error : LoadError) → sections ≡ trial_sections kind seed count
    → most ≡ limit → IsLoadRefusal most sections error
    → (error ≡ Memory) ⊎ ((error ≡ TooLarge) × (nat_lt limit (image_size (trial_sections kind seed count)) ≡ true))
trial_refusal limit most kind seed count sections error sections_are most_is found = elim (refusal_found most sections error found) [
  | inl memory ↦ inl memory
  | inr is ↦ inr (large_or_none (nat_lt limit (image_size (trial_sections kind seed count))) error
      (sym (trial_error limit kind seed count) ∙ (rw (sections_are, most_is) at is)))
]

large_answers : (limit : ℕ) (kind : Kind) (seed count : ℕ) (answer : Answer) → nat_lt limit (image_size (trial_sections kind seed count)) ≡ true
    → answer ≡ told 6 (image_too_large_line limit) → IsTrialAnswer limit kind seed count answer
large_answers limit kind seed count answer beyond is = subst (λ b. IsTrialBy b limit kind seed count answer) (sym beyond) is

-- so what is told of it is an answer
pub trial_refused : (limit most : ℕ) (kind : Kind) (seed count : ℕ) (sections : List Section) (error : LoadError) (refusal : Refusal)
    → sections ≡ trial_sections kind seed count → most ≡ limit
    → IsLoadRefusal most sections error → IsRefusedAnswer (IsErrorAnswer limit error) refusal → IsRefusedAnswer (IsTrialAnswer limit kind seed count) refusal
trial_refused limit most kind seed count sections error refusal sections_are most_is found refused =
    still_refused (IsErrorAnswer limit error) (IsTrialAnswer limit kind seed count) refusal
    (λ answer is. elim (trial_refusal limit most kind seed count sections error sections_are most_is found) [
      | inl memory ↦ absurd (subst (λ e. IsErrorAnswer limit e answer) memory is)
      | inr large ↦ large_answers limit kind seed count answer large.1 (subst (λ e. IsErrorAnswer limit e answer) large.0 is)
    ]) refused
