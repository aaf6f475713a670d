-- From the sections of a text to the answer on a base.
use Rattle.std.proofs.Common.{◌≡◌, ◌⊎◌, ◌∷◌, ◌++◌, ◌∙◌, [], arith, length, map, refl, reverse, ℕ, List, inl, inr, subst, sym, ap, Option, Some, None, Result}
use Rattle.std.proofs.Common.{Ok, Err, MatchResult}
use Rattle.bdb_model.specs.of_text_format.declared.sections.Section.{Section}
use Rattle.bdb_model.specs.of_text_format.Terms.{Reads}
use Rattle.bdb_model.specs.Answers.{Answer, done}
use Rattle.bdb_onto.specs.of_settle.declared.load_error.LoadError.{LoadError}
use Rattle.bdb_onto.specs.of_settle.declared.load_error.LoadError.TheVariants.{Memory}
use Rattle.std.specs.Result.{IfErr, IsErrAnd}
use Rattle.std.proofs.lemmas.List.{reverse-append}
use Rattle.bdb_onto.specs.of_mkfile.Loading.{AreLoadable, IsLoadRefusalBy, or_else}
use Rattle.bdb_onto.specs.of_settle.LoadErrors.{IsSettleRefusal}
use Rattle.bdb_onto.specs.Bare.{bare_of, with_partner}
use Rattle.bdb_onto.specs.Bases.{IsBase}
use Rattle.bdb_onto.specs.Laws.{AreLoadableOnto}
use Rattle.bdb_onto.specs.Lists.{AreListsOnto}
use Rattle.bdb_onto.specs.of_settle.Loaded.{ordered_section}
use Rattle.bdb_onto.specs.Search.{HasNames}
use Rattle.bdb_onto.proofs.BareLemmas.{bare_error, bare_joined, bare_names}
use Rattle.bdb_onto.proofs.OntoLemmas.{loadable_onto}
use Rattle.bdb_onto.proofs.SearchLemmas.{has_names}
use Rattle.bdb_onto.specs.declared.base.Base.{Base}
use Rattle.bdb_onto.specs.Onto.{IsOntoRefusal, joined, loading_error_onto, onto_error, size_error_onto}
use Rattle.bdb_tool_build.specs.declared.refusal.Refusal.{Refusal}
use Rattle.bdb_tool_build.specs.Loads.{IsErrorAnswer}
use Rattle.bdb_tool_build.specs.Ontos.{IsLoadOnto, IsTextOnto, IsTextOntoBy}
use Rattle.bdb_tool_build.specs.Refusals.{IsRefusedAnswer}
use Rattle.bdb_tool_build.proofs.LoadLemmas.{read_without_fault}
use Rattle.bdb_tool_build.proofs.RefusalLemmas.{still_refused}

-- a refusal means that memory ran out, or the first error
error_found : (first large : Option LoadError) (error : LoadError) → IsLoadRefusalBy first large error → (error ≡ Memory) ⊎ (or_else first large ≡ Some error)
error_found (Some first) large error is = inr (ap (λ e. Some e) (sym is))
error_found None large error (inl memory) = inl memory
error_found None large error (inr is) = inr is

-- as loading sections onto a base refuses them
pub found_onto : (max : ℕ) (base : Base) (sections : List Section) (error : LoadError) → IsOntoRefusal max base sections error
    → (error ≡ Memory) ⊎ (loading_error_onto max base sections ≡ Some error)
found_onto max base sections error is = error_found (onto_error base sections) (size_error_onto max base sections) error is

-- sections that aren't loaded
pub onto_refused : (limit most : ℕ) (base : Base) (sections : List Section) (error : LoadError) (refusal : Refusal) → most ≡ limit
    → (error ≡ Memory) ⊎ (loading_error_onto most base sections ≡ Some error)
    → IsRefusedAnswer (IsErrorAnswer limit error) refusal → IsRefusedAnswer (IsLoadOnto limit (loading_error_onto limit base sections) base sections) refusal
onto_refused limit most base sections error refusal same found refused =
    still_refused (IsErrorAnswer limit error) (IsLoadOnto limit (loading_error_onto limit base sections) base sections) refusal
    (λ answer is. elim found [
      | inl memory ↦ absurd (subst (λ e. IsErrorAnswer limit e answer) memory is)
      | inr first ↦
          subst (λ f. IsLoadOnto limit f base sections answer) (sym (subst (λ m. loading_error_onto m base sections ≡ Some error) same first)) is
    ]) refused

-- an error that is handed on
pub refused_as : {T : Type 0} (result : Result T LoadError) (P : LoadError → Type 0) (error : LoadError) → IsErrAnd result (λ up. up ≡ error) → P error
    → IfErr result P
refused_as (Ok done) P error is holds = absurd is
refused_as (Err up) P error is holds = subst P (sym is) holds

-- A base without its pairs.

same_error : (base bare : Base) (sections : List Section) → bare ≡ bare_of base → onto_error bare sections ≡ onto_error base sections
same_error base bare sections is = ap (λ b. onto_error b sections) is ∙ bare_error base sections

pub bare_loadable : (base bare : Base) (sections : List Section) → IsBase base → AreLoadable sections → bare ≡ bare_of base
    → onto_error bare sections ≡ None → AreLoadableOnto base sections
bare_loadable base bare sections is_base fit is none = loadable_onto base sections is_base fit (sym (same_error base bare sections is) ∙ none)

pub none_on_base : (base bare : Base) (sections : List Section) → bare ≡ bare_of base → onto_error bare sections ≡ None → onto_error base sections ≡ None
none_on_base base bare sections is none = sym (same_error base bare sections is) ∙ none

pub names_of_bare : (base bare : Base) → IsBase base → bare ≡ bare_of base → HasNames bare
names_of_bare base bare is_base is = subst HasNames (sym is) (bare_names base (has_names base is_base))

pub all_joined : (base bare : Base) (sections all : List Section) → IsBase base → bare ≡ bare_of base → all ≡ joined bare sections
    → map (with_partner base) all ≡ joined base sections
all_joined base bare sections all is_base is are =
    ap (map (with_partner base)) (are ∙ ap (λ b. joined b sections) is) ∙ bare_joined base sections (has_names base is_base)

pub are_lists_onto : (base bare : Base) (sections all lists : List Section) → IsBase base → AreLoadable sections → bare ≡ bare_of base
    → all ≡ joined bare sections → onto_error bare sections ≡ None → lists ≡ map ordered_section (map (with_partner base) all)
    → AreListsOnto base sections lists
are_lists_onto base bare sections all lists is_base fit is are none listed = record {
  loadable = bare_loadable base bare sections is_base fit is none;
  are = listed ∙ ap (map ordered_section) (all_joined base bare sections all is_base is are);
}

pub join_refused : (max : ℕ) (base bare : Base) (sections : List Section) (error : LoadError) → bare ≡ bare_of base
    → IsSettleRefusal (onto_error bare sections) error → (error ≡ Memory) ⊎ (loading_error_onto max base sections ≡ Some error)
join_refused max base bare sections error is refused =
    by_first (onto_error base sections) refl (subst (λ first. IsSettleRefusal first error) (same_error base bare sections is) refused)
  where
    by_first : (first : Option LoadError) → onto_error base sections ≡ first → IsSettleRefusal first error
        → (error ≡ Memory) ⊎ (loading_error_onto max base sections ≡ Some error)
    by_first None none refused = inl refused
    by_first (Some first) some refused =
        inr (ap (λ f. or_else f (size_error_onto max base sections)) some ∙ ap (λ e. Some e) (sym refused))

-- Sections that are taken from the end.

pub popped : (f : Section → Section) (old new : List Section) (section : Section) → old ≡ new ++ (section ∷ [])
    → map f (reverse old) ≡ f section ∷ map f (reverse new)
popped f old new section is = ap (λ xs. map f (reverse xs)) is ∙ ap (map f) (reverse-append new (section ∷ []))

pub none_popped : (f : Section → Section) (left : List Section) → length left ≡ 0 → map f (reverse left) ≡ []
none_popped f [] none = refl
none_popped f (section ∷ left) none = absurd (omega (arith, none))

sections_onto : (limit : ℕ) (base : Base) (text : List ℕ) (sections : List Section) (answer : Answer) → Reads text sections
    → IsLoadOnto limit (loading_error_onto limit base sections) base sections answer → IsTextOnto limit base text answer
sections_onto limit base text sections answer read answered =
    subst (λ found. IsTextOntoBy limit base found text answer) (sym (read_without_fault text sections read))
    (record { sections = sections; read = read; answered = answered })

-- what loading the sections of a text onto a base gives is what loading the text gives
pub text_loaded_onto : (limit : ℕ) (base : Base) (text : List ℕ) (sections : List Section) (loaded : Result (List ℕ) Refusal) → Reads text sections
    → MatchResult loaded (λ image. IsLoadOnto limit (loading_error_onto limit base sections) base sections (done image))
    (IsRefusedAnswer (IsLoadOnto limit (loading_error_onto limit base sections) base sections))
    → MatchResult loaded (λ image. IsTextOnto limit base text (done image)) (IsRefusedAnswer (IsTextOnto limit base text))
text_loaded_onto limit base text sections (Ok image) read answered = sections_onto limit base text sections (done image) read answered
text_loaded_onto limit base text sections (Err refusal) read refused =
    still_refused (IsLoadOnto limit (loading_error_onto limit base sections) base sections) (IsTextOnto limit base text) refusal
    (λ answer. sections_onto limit base text sections answer read) refused
