-- What loading the joined sections answers is what loading onto a base does.
use Rattle.std.proofs.Common.{◌≡◌, ℕ, Bool, true, false, List, [], ◌∷◌, map, Some, None, refl, sym, ◌∙◌, ap, subst, if◌then◌else◌, is_some, nat_lt, fold}
use Rattle.std.proofs.lemmas.List.Elements.{All-nil}
use Rattle.bdb_mkfile.specs.of_text_format.declared.sections.Section.{Section}
use Rattle.bdb_mkfile.specs.of_settle.Loaded.{loaded_section}
use Rattle.bdb_mkfile.specs.of_settle.LoadErrors.{IsSettleRefusal, load_error}
use Rattle.bdb_mkfile.specs.of_settle.declared.load_error.LoadError.{LoadError}
use Rattle.bdb_mkfile.specs.of_settle.declared.load_error.LoadError.TheVariants.{TooLarge}
use Rattle.bdb_mkfile.specs.Builds.{in_name_order}
use Rattle.bdb_mkfile.specs.Loading.{AreLoadable, IsLoadRefusal, IsLoadRefusalBy, loading_error, or_else, size_error}
use Rattle.bdb_mkfile.specs.Order.{AreApart, IsApart, with_named}
use Rattle.bdb_mkfile.proofs.ApartLemmas.{all_named, alone_unnamed, fold_is_order, named_apart}
use Rattle.bdb_mkfile.proofs.ShortLemmas.{settled_apart}
use Rattle.bdb_onto.specs.declared.base.Base.{Base}
use Rattle.bdb_onto.specs.Bases.{IsBase}
use Rattle.bdb_onto.specs.Laws.{AreLoadableOnto}
use Rattle.bdb_onto.specs.Onto.{IsOntoRefusal, joined, loading_error_onto, onto_error, result_of, size_error_onto}
use Rattle.bdb_onto.proofs.BuildLemmas.{joined_build_onto}
use Rattle.bdb_onto.proofs.ErrorLemmas.{joined_load_without_errors}
use Rattle.bdb_onto.proofs.FitLemmas.{joined_are_loadable}
use Rattle.bdb_onto.proofs.JoinLemmas.{joined_result}
use Rattle.bdb_onto.proofs.NothingLemmas.{no_first_error_is_none}

pub loadable_onto : (base : Base) (sections : List Section) → IsBase base → AreLoadable sections → onto_error base sections ≡ None
    → AreLoadableOnto base sections
loadable_onto base sections is fit none = record { base_is = is; fit = fit; none = no_first_error_is_none base sections none }

-- Lists.

-- sections that can be loaded have names that are apart
loadable_apart : (sections : List Section) → AreLoadable sections → AreApart sections
loadable_apart [] loadable = tt
loadable_apart (first ∷ rest) loadable = by_name (is_some first.name) refl
  where
    by_name : (b : Bool) → is_some first.name ≡ b → AreApart (first ∷ rest)
    by_name true has = named_apart [] (first ∷ rest) (all_named first rest has loadable.fit.names) loadable.fit.names
    by_name false none =
        subst (λ (ss : List Section). AreApart (first ∷ ss)) (sym (alone_unnamed first rest none loadable.fit.names)) (All-nil (IsApart first), tt)

pub settled_onto : (base : Base) (sections settled : List Section) → AreLoadableOnto base sections
    → settled ≡ map loaded_section (joined base sections) → fold with_named [] settled ≡ in_name_order (result_of base sections)
settled_onto base sections settled loadable are =
    ap (fold with_named []) are
    ∙ fold_is_order (map loaded_section (joined base sections))
    (settled_apart (joined base sections) (loadable_apart (joined base sections) (joined_are_loadable base sections loadable)))
    ∙ ap in_name_order (joined_result base sections loadable.base_is)

-- Refusals.

pub settle_refusal : (base : Base) (sections : List Section) (error : LoadError) → AreLoadableOnto base sections → onto_error base sections ≡ None
    → IsSettleRefusal (load_error (joined base sections)) error → IsSettleRefusal (onto_error base sections) error
settle_refusal base sections error loadable none is =
    subst (λ first. IsSettleRefusal first error) (joined_load_without_errors base sections loadable ∙ sym none) is

size_same : (max : ℕ) (base : Base) (sections : List Section) → AreLoadableOnto base sections
    → size_error max (joined base sections) ≡ size_error_onto max base sections
size_same max base sections loadable =
    ap (λ n. if nat_lt max n then Some TooLarge else None) (joined_build_onto base sections loadable).size

pub load_refusal : (max : ℕ) (base : Base) (sections : List Section) (error : LoadError) → AreLoadableOnto base sections
    → onto_error base sections ≡ None → IsLoadRefusal max (joined base sections) error → IsOntoRefusal max base sections error
load_refusal max base sections error loadable none is =
    subst (λ first. IsLoadRefusalBy first (size_error_onto max base sections) error) (joined_load_without_errors base sections loadable ∙ sym none)
    (subst (λ large. IsLoadRefusalBy (load_error (joined base sections)) large error) (size_same max base sections loadable) is)

pub none_onto : (max : ℕ) (base : Base) (sections : List Section) → AreLoadableOnto base sections → onto_error base sections ≡ None
    → loading_error max (joined base sections) ≡ None → loading_error_onto max base sections ≡ None
none_onto max base sections loadable none is =
    ap (λ first. or_else first (size_error_onto max base sections)) (none ∙ sym (joined_load_without_errors base sections loadable))
    ∙ ap (or_else (load_error (joined base sections))) (sym (size_same max base sections loadable))
    ∙ is
