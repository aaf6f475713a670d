-- Sections of what is given of a sound file are kept as its databases.
use Rattle.std.proofs.Common.{ℕ, Bool, List, [], ◌∷◌, map, subst}
use Rattle.std.specs.List.{AllZip, Contains}
use Rattle.bdb_apart.specs.Found.{Found, found}
use Rattle.bdb_apart.specs.Read.{read}
use Rattle.bdb_law_homes.proofs.of_format.MemberLemmas.{first_member, later_member}
use Rattle.bdb_law_homes.specs.of_law_whole.Kept.{IsSoundFile}
use Rattle.bdb_law_kept.specs.of_text_format.declared.sections.Section.{Section}
use Rattle.bdb_law_kept.specs.Dumps.{AreKeptAs, IsKeptAs}
use Rattle.bdb_law_apart.specs.Named.{database_of}
use Rattle.bdb_law_apart.specs.Sections.{GivenSectionsAreKept, IsGivenOf}
use Rattle.bdb_law_apart.proofs.DatabaseLemmas.{databases_are_found}
use Rattle.bdb_law_apart.proofs.ListLemmas.{given_lists_load}

one_kept : (print : Bool) (image : List ℕ) (db : Found) (section : Section) → IsSoundFile image → Contains (found (read image)) db
    → IsGivenOf print image db section → IsKeptAs print image (database_of db) section
one_kept print image db section sound at of = record {
  name_is = of.name_is;
  lines_are = of.lines_are;
  alike = of.alike;
  page_size = of.page_size;
  order = of.order;
  list_is = given_lists_load image db section.settings section.pairs sound at of.pairs_are of.alike;
}

all_kept : (print : Bool) (image : List ℕ) (dbs : List Found) (sections : List Section) → IsSoundFile image
    → ((db : Found) → Contains dbs db → Contains (found (read image)) db) → AllZip (IsGivenOf print image) dbs sections
    → AreKeptAs print image (map database_of dbs) sections
all_kept print image [] [] sound found given = tt
all_kept print image [] (section ∷ sections) sound found given = absurd given
all_kept print image (db ∷ dbs) [] sound found given = absurd given
all_kept print image (db ∷ dbs) (section ∷ sections) sound found (one, given) = (
  one_kept print image db section sound (found db (first_member db dbs)) one,
  all_kept print image dbs sections sound (λ other at. found other (later_member db dbs other at)) given,
)

pub given_sections_are_kept : GivenSectionsAreKept
given_sections_are_kept print image sections sound given =
    subst (λ all. AreKeptAs print image all sections) (databases_are_found image sound)
    (all_kept print image (found (read image)) sections sound (λ db at. at) given)
