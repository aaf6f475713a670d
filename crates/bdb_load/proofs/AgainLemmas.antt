-- A dump of a sound file, loaded and dumped, is the same text.
use Rattle.std.proofs.Common.{◌≡◌, ℕ, Bool, true, List, [], ◌∷◌, map, refl, sym, ◌∙◌, ap, subst}
use Rattle.std.specs.List.{AllZip}
use Rattle.std.proofs.lemmas.Bool.{and_parts}
use Rattle.bdb_onto.specs.of_mkfile.of_format.declared.kinds.Order.{Order}
use Rattle.bdb_onto.specs.of_mkfile.of_format.declared.settings.Settings.{Settings}
use Rattle.bdb_onto.specs.of_mkfile.of_format.Terms.{Database, ascends, ascends_from, databases, file_of, head_of, less}
use Rattle.bdb_onto.specs.of_mkfile.of_text_format.declared.sections.Section.{Section}
use Rattle.bdb_onto.specs.of_mkfile.of_text_format.Terms.{header_lines}
use Rattle.bdb_onto.proofs.of_mkfile.of_mkleaves.UnitLemmas.{ascends_later}
use Rattle.bdb_onto.specs.of_law_kept.Dumps.{AreKept, AreKeptAs, IsLoadedOf, bytes_of_section}
use Rattle.bdb_onto.proofs.of_law_kept.DumpLemmas.{dumps_are_kept, loaded_dumps_are_the_same}
use Rattle.bdb_load.specs.Again.{DumpsLoadToThemselves, whole_dump}
use Rattle.bdb_onto.specs.of_mkfile.Builds.{AreLoadedAs, IsLoadedAs, in_file_of, in_name_order, name_of, put_named}

-- sections that stand in the order of their names

put_first : (section : Section) (sections : List Section) → ascends_from (bytes_of_section section) (map bytes_of_section sections) ≡ true
    → put_named section sections ≡ section ∷ sections
put_first section [] rise = refl
put_first section (other ∷ others) rise =
    rw ((and_parts (less (name_of section) (name_of other)) (ascends_from (name_of other) (map bytes_of_section others)) rise).0) refl

stay_in_order : (sections : List Section) → ascends (map bytes_of_section sections) ≡ true → in_name_order sections ≡ sections
stay_in_order [] rise = refl
stay_in_order (section ∷ sections) rise =
    ap (put_named section) (stay_in_order sections (ascends_later (bytes_of_section section) (map bytes_of_section sections) rise))
    ∙ put_first section sections rise

-- settings that have the page size and the order of the file are those in it
in_it_already : (first settings : Settings) → settings.page_size ≡ first.page_size → settings.order ≡ first.order → in_file_of first settings ≡ settings
in_it_already first settings size order =
    ap (λ n. record settings { page_size = n; order = first.order }) (sym size)
    ∙ ap (λ (o : Order). record settings { page_size = settings.page_size; order = o }) (sym order)

-- databases that are loaded as sections of the page size and the order of the first
loaded_of : (print : Bool) (image built : List ℕ) (first : Settings) (sections : List Section) (all others : List Database)
    → first.page_size ≡ (head_of image).page_size → first.order ≡ (head_of image).order → AreKeptAs print image all sections
    → AllZip (IsLoadedAs built first) sections others → AllZip (IsLoadedOf print built) sections others
loaded_of print image built first [] all [] size order kept loads = tt
loaded_of print image built first [] all (other ∷ others) size order kept loads = absurd loads
loaded_of print image built first (section ∷ sections) [] others size order kept loads = absurd kept
loaded_of print image built first (section ∷ sections) (database ∷ all) [] size order kept loads = absurd loads
loaded_of print image built first (section ∷ sections) (database ∷ all) (other ∷ others) size order (one, kept) (loaded, loads) =
    let same = in_it_already first section.settings (one.page_size ∙ sym size) (one.order ∙ sym order) in (
      record {
        name_is = loaded.name;
        lines_are = loaded.settings print section.name ∙ ap (header_lines print section.name) same;
        list_is = loaded.list;
      },
      loaded_of print image built first sections all others size order kept loads,
    )

-- all databases that are loaded of sections, in a file of the page size and the order of the first
pub all_loaded : (print : Bool) (image built : List ℕ) (sections : List Section) (all : List Database) → (all ≡ [] → ⊥)
    → AreKeptAs print image all sections → ascends (map bytes_of_section sections) ≡ true → AreLoadedAs built sections
    → AllZip (IsLoadedOf print built) sections (databases (file_of built))
all_loaded print image built [] [] some kept rise loads = absurd (some refl)
all_loaded print image built [] (database ∷ all) some kept rise loads = absurd kept
all_loaded print image built (section ∷ sections) [] some kept rise loads = absurd kept
all_loaded print image built (section ∷ sections) (database ∷ all) some kept rise loads =
    loaded_of print image built section.settings (section ∷ sections) (database ∷ all) (databases (file_of built)) kept.0.page_size kept.0.order kept
    (subst (λ ss. AllZip (IsLoadedAs built section.settings) ss (databases (file_of built))) (stay_in_order (section ∷ sections) rise) loads)

pub dumps_load_to_themselves : DumpsLoadToThemselves
dumps_load_to_themselves print image sound bytes some no_empty =
    let found = dumps_are_kept print image sound bytes some no_empty in
    let kept : AreKept print image (whole_dump print image) found.0 = found.1 in
    record {
      sections = found.0;
      reads = kept.reads;
      no_error = kept.no_error;
      again = λ built builds.
          loaded_dumps_are_the_same print image built (databases (file_of image)) (databases (file_of built)) found.0 kept.kept
          (all_loaded print image built found.0 (databases (file_of image)) some kept.kept kept.in_order builds.databases);
    }
