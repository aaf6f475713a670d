-- What is built of the sections of a sound file is the file again.
use Rattle.std.proofs.Common.{◌≡◌, ℕ, Bool, List, [], ◌∷◌, map, Option, Some, None, Ok, Err, refl, sym, ◌∙◌, ap, subst}
use Rattle.std.specs.Prelude.{unwrap_or}
use Rattle.std.specs.List.{AllZip}
use Rattle.std.proofs.lemmas.Option.{same_Some}
use Rattle.bdb_repair.specs.of_format.Terms.{Database, ascends, databases, file_of}
use Rattle.bdb_repair.specs.of_text_format.declared.sections.Section.{Section}
use Rattle.bdb_repair.specs.of_text_format.Terms.{Reads, header_lines}
use Rattle.bdb_repair.specs.of_apart.Found.{Found, found, name_of}
use Rattle.bdb_repair.specs.of_apart.Read.{read}
use Rattle.bdb_repair.specs.of_apart.Text.{apart_text}
use Rattle.bdb_repair.specs.of_rescue.Guesses.{chosen}
use Rattle.bdb_repair.specs.of_mkfile.Builds.{AreLoadedAs, Builds}
use Rattle.bdb_repair.specs.Apart.{AreBuilt, IsRepairedApart, apart_sections, sections_in}
use Rattle.bdb_load.specs.of_law_kept.Dumps.{AreKeptAs, IsKeptAs, IsLoadedOf, bytes_of_section}
use Rattle.bdb_load.specs.of_law_kept.Kept.{settings_in}
use Rattle.bdb_load.proofs.AgainLemmas.{all_loaded}
use Rattle.bdb_load.proofs.of_law_kept.DumpLemmas.{loaded_dumps_are_the_same}
use Rattle.bdb_law_apart.specs.of_law_whole.Kept.{IsSoundFile}
use Rattle.bdb_law_apart.specs.Sections.{IsGivenOf}
use Rattle.bdb_law_apart.proofs.SectionLemmas.{given_sections_are_kept}
use Rattle.bdb_law_apart.proofs.of_apart.OrderLemmas.{names_ascend}
use Rattle.bdb_salvage.proofs.ToldLemmas.{salvage_keeps_all}
use Rattle.bdb_law_again.specs.Again.{ApartLoadsAgain, BuiltIsTheFile, IsAgain, IsSameAs, RepairedIsTheFile}
use Rattle.bdb_law_again.proofs.GivenLemmas.{sections_are_given}
use Rattle.bdb_law_again.proofs.ReadLemmas.{IsTextOf, text_of_found}

-- a database is kept as a section, of which another is loaded
same_as : (print : Bool) (image other : List ℕ) (section : Section) (database again : Database) → IsKeptAs print image database section
    → IsLoadedOf print other section again → IsSameAs print image other database again
same_as print image other section database again kept loads = record {
  name_is = loads.name_is ∙ kept.name_is;
  lines_are =
      subst (λ name. header_lines print name (settings_in other again.fields) ≡ header_lines print name section.settings) kept.name_is loads.lines_are
      ∙ kept.lines_are;
  list_is = loads.list_is ∙ kept.list_is;
}

all_same : (print : Bool) (image other : List ℕ) (sections : List Section) (all others : List Database) → AreKeptAs print image all sections
    → AllZip (IsLoadedOf print other) sections others → AllZip (IsSameAs print image other) all others
all_same print image other [] [] [] kept loads = tt
all_same print image other [] [] (again ∷ others) kept loads = absurd loads
all_same print image other [] (database ∷ all) others kept loads = absurd kept
all_same print image other (section ∷ sections) [] others kept loads = absurd kept
all_same print image other (section ∷ sections) (database ∷ all) [] kept loads = absurd loads
all_same print image other (section ∷ sections) (database ∷ all) (again ∷ others) kept loads =
    (same_as print image other section database again kept.0 loads.0, all_same print image other sections all others kept.1 loads.1)

-- sections of what is given that are kept as the databases of an image, of which another is built
pub record IsBuiltOf (print : Bool) (image other : List ℕ) (sections : List Section) : Type 0 where
  pub given : AllZip (IsGivenOf print image) (found (read image)) sections
  pub kept : AreKeptAs print image (databases (file_of image)) sections
  pub loads : AreLoadedAs other sections

-- they have the names of what is found
named_as : (print : Bool) (image : List ℕ) (dbs : List Found) (sections : List Section) → AllZip (IsGivenOf print image) dbs sections
    → map bytes_of_section sections ≡ map name_of dbs
named_as print image [] [] given = refl
named_as print image [] (section ∷ sections) given = absurd given
named_as print image (db ∷ dbs) [] given = absurd given
named_as print image (db ∷ dbs) (section ∷ sections) (one, given) =
    ap (λ (name : Option (List ℕ)). unwrap_or name [] ∷ map bytes_of_section sections) one.name_is
    ∙ ap (λ names. name_of db ∷ names) (named_as print image dbs sections given)

loaded_of_them : (print : Bool) (image other : List ℕ) (sections : List Section) → IsBuiltOf print image other sections
    → AllZip (IsLoadedOf print other) sections (databases (file_of other))
loaded_of_them print image other [] of = subst (λ all. AllZip (IsLoadedOf print other) [] all) (sym of.loads) tt
loaded_of_them print image other (section ∷ sections) of =
    all_loaded print image other (section ∷ sections) (databases (file_of image))
    (λ none. subst (λ all. AreKeptAs print image all (section ∷ sections)) none of.kept) of.kept
    (ap ascends (named_as print image (found (read image)) (section ∷ sections) of.given) ∙ names_ascend (read image)) of.loads

pub built_again : (print : Bool) (image other : List ℕ) (sections : List Section) → IsBuiltOf print image other sections → IsAgain print image other
built_again print image other sections of =
    let loads : AllZip (IsLoadedOf print other) sections (databases (file_of other)) = loaded_of_them print image other sections of in
    record {
      databases_are = all_same print image other sections (databases (file_of image)) (databases (file_of other)) of.kept loads;
      dump = loaded_dumps_are_the_same print image other (databases (file_of image)) (databases (file_of other)) sections of.kept loads;
    }

-- of a sound btree or hash file
given_again : (print : Bool) (image other : List ℕ) (sections : List Section) → IsSoundFile image
    → AllZip (IsGivenOf print image) (found (read image)) sections → AreLoadedAs other sections → IsAgain print image other
given_again print image other sections sound given loads =
    built_again print image other sections
    (record { given = given; kept = given_sections_are_kept print image sections sound given; loads = loads })

pub built_is_the_file : BuiltIsTheFile
built_is_the_file print image built sound builds =
    given_again print image built (sections_in (read image)) sound (sections_are_given print image) builds.databases

pub of_built : (max : ℕ) (sections : List Section) (built : List ℕ) → AreBuilt max sections (Ok built) → Builds sections built
of_built max [] built is = absurd is
of_built max (section ∷ sections) built is = is.0

-- without a guess the image is read as page 0 tells
told : (image : List ℕ) → IsSoundFile image → chosen None image ≡ Some (read image).guess
told image sound = (salvage_keeps_all image sound).guess

pub repaired_is_the_file : RepairedIsTheFile
unfolding apart_sections
repaired_is_the_file print max image (Ok built) sound is =
    built_is_the_file print image built sound
    (of_built max (sections_in (read image)) built (subst (λ guess. IsRepairedApart max guess image (Ok built)) (told image sound) is))
repaired_is_the_file print max image (Err error) sound is = tt

pub apart_loads_again : ApartLoadsAgain
apart_loads_again print guess image sound some chosen_is =
    let same : (read image).guess ≡ guess = same_Some (read image).guess guess (sym (told image sound) ∙ chosen_is) in
    let text = text_of_found print image sound some in
    let is : IsTextOf print image text.0 = text.1 in
    record {
      sections = text.0;
      reads = subst (λ g. Reads (apart_text print g image) text.0) same is.reads;
      no_error = is.no_error;
      again = λ built builds. given_again print image built text.0 sound is.given builds.databases;
    }
