-- What is repaired of a sound queue is the queue again.
use Rattle.std.proofs.Common.{◌≡◌, ℕ, Bool, true, List, [], ◌∷◌, ◌++◌, map, Some, None, Ok, Err, append-nil, refl, sym, ◌∙◌, ap, subst}
use Rattle.std.specs.List.{All, AllZip, Contains, flat_map, fold}
use Rattle.std.proofs.lemmas.List.Elements.{All-head}
use Rattle.std.proofs.lemmas.Option.{same_Some}
use Rattle.bdb_repair.specs.of_format.Terms.{QueueFields, databases, file_of, head_of, list_of}
use Rattle.bdb_repair.proofs.of_format.FileLemmas.{kind_is}
use Rattle.bdb_repair.proofs.of_format.MemberLemmas.{first_member}
use Rattle.bdb_repair.specs.of_text_format.declared.sections.Section.{Section}
use Rattle.bdb_repair.specs.of_text_format.Terms.{Reads}
use Rattle.bdb_repair.specs.of_settle.LoadErrors.{load_error, section_errors, sooner}
use Rattle.bdb_repair.specs.of_apart.Found.{found}
use Rattle.bdb_repair.specs.of_apart.Given.{FoundIn, in_image, records_given}
use Rattle.bdb_repair.specs.of_apart.Read.{read}
use Rattle.bdb_repair.specs.of_apart.Text.{apart_text, db_section, list_given, settings_in}
use Rattle.bdb_repair.specs.of_rescue.Guesses.{chosen}
use Rattle.bdb_repair.specs.of_mkfile.Builds.{AreLoadedAs}
use Rattle.bdb_repair.specs.Apart.{IsRepairedApart, apart_sections, section_in, sections_in}
use Rattle.bdb_repair.proofs.GivenFitLemmas.{IsGoodSection, queue_good}
use Rattle.bdb_repair.proofs.MetaFitLemmas.{queue_fits}
use Rattle.bdb_load.specs.of_law_kept.Dumps.{AreKeptAs, IsKeptAs}
use Rattle.bdb_load.specs.of_law_kept.of_text.WrittenLaw.{CanBeWritten}
use Rattle.bdb_load.proofs.of_law_kept.AlikeLemmas.{keeps_lists}
use Rattle.bdb_load.proofs.of_law_kept.SectionLemmas.{TellsItsLength, sections_tell}
use Rattle.bdb_load.proofs.of_law_kept.SoundLemmas.{forest_of}
use Rattle.bdb_load.proofs.of_law_kept.WrittenLemmas.{all_can_be_written}
use Rattle.bdb_load.proofs.of_law_kept.of_text.WrittenLemmas.{written_is_read}
use Rattle.bdb_law_apart.specs.Named.{database_of}
use Rattle.bdb_law_apart.specs.Sections.{IsGivenOf}
use Rattle.bdb_law_apart.proofs.of_apart.of_rescue.of_overflow.LinkedLemmas.{legal_size}
use Rattle.bdb_law_apart.proofs.of_apart.of_rescue.of_image.FirstLemmas.{formed_accepted}
use Rattle.bdb_salvage.proofs.ToldLemmas.{guess_is_told}
use Rattle.bdb_law_again.specs.Again.{BuiltQueueIsTheFile, IsAgain, IsFullQueue, LoadsAgain, QueueLoadsAgain, RepairedQueueIsTheFile}
use Rattle.bdb_law_again.proofs.AgainLemmas.{built_again, of_built}
use Rattle.bdb_law_again.proofs.ErrorLemmas.{section_without}
use Rattle.bdb_law_again.proofs.GivenLemmas.{sections_are_given}
use Rattle.bdb_law_again.proofs.QueueLemmas.{HasLength, IsQueueRead, found_queue, queue_database, queue_db, queue_found, queue_given, queue_of}
use Rattle.bdb_law_again.proofs.ReadLemmas.{IsFit, IsReadOf, given_of, like_built}

is_read : (image : List ℕ) → IsFullQueue image → IsQueueRead image
is_read image of = record { forest = forest_of image of.queue.sound; kind = sym (kind_is image) ∙ of.queue.kind }

among : (image : List ℕ) → IsFullQueue image → Contains (databases (file_of image)) (database_of (queue_db image))
among image of =
    subst (λ all. Contains all (database_of (queue_db image))) (sym (queue_database image (is_read image of)))
    (first_member (database_of (queue_db image)) [])

has_length : (image : List ℕ) → IsFullQueue image → HasLength image
has_length image of = of.full (database_of (queue_db image)) (among image of) refl

-- what is given of it is its list
list_is : (image : List ℕ) → IsFullQueue image → list_given (in_image (read image) (queue_db image)) ≡ list_of (file_of image) (QueueFields (queue_of image))
unfolding records_given
list_is image of = queue_given image (is_read image of)

-- Sections.

section_kept : (print : Bool) (image : List ℕ) (section : Section) → IsFullQueue image → IsGivenOf print image (queue_db image) section
    → IsKeptAs print image (database_of (queue_db image)) section
section_kept print image section of given = record {
  name_is = given.name_is;
  lines_are = given.lines_are;
  alike = given.alike;
  page_size = given.page_size;
  order = given.order;
  list_is = keeps_lists image (database_of (queue_db image)) section.settings section.pairs
      (record { sound = of.queue.sound; among = among image of; list_is = given.pairs_are ∙ list_is image of }) given.alike;
}

one_kept : (print : Bool) (image : List ℕ) (sections : List Section) → IsFullQueue image → AllZip (IsGivenOf print image) (queue_db image ∷ []) sections
    → AreKeptAs print image (database_of (queue_db image) ∷ []) sections
one_kept print image [] of given = absurd given
one_kept print image (section ∷ []) of given = (section_kept print image section of given.0, tt)
one_kept print image (section ∷ other ∷ sections) of given = absurd given.1

queue_again : (print : Bool) (image other : List ℕ) (sections : List Section) → IsFullQueue image
    → AllZip (IsGivenOf print image) (found (read image)) sections → AreLoadedAs other sections → IsAgain print image other
queue_again print image other sections of given loads =
    let is : IsQueueRead image = is_read image of in
    let one : AllZip (IsGivenOf print image) (queue_db image ∷ []) sections =
    subst (λ dbs. AllZip (IsGivenOf print image) dbs sections) (queue_found image is (has_length image of)) given in
    built_again print image other sections (record {
      given = given;
      kept = subst (λ all. AreKeptAs print image all sections) (sym (queue_database image is)) (one_kept print image sections of one);
      loads = loads;
    })

pub built_queue_is_the_file : BuiltQueueIsTheFile
built_queue_is_the_file print image built of builds =
    queue_again print image built (sections_in (read image)) of (sections_are_given print image) builds.databases

-- The text.

queue_fit : (image : List ℕ) → IsFullQueue image → IsFit image (queue_db image)
queue_fit image of = record {
  can = subst (CanBeWritten None (settings_in (in_image (read image) (queue_db image)))) (sym (list_is image of))
      (all_can_be_written image (database_of (queue_db image)) of.queue.sound of.bytes (among image of) (λ queue. has_length image of));
  fixed = λ queue. refl;
}

text_is : (print : Bool) (image : List ℕ) → IsFullQueue image
    → apart_text print (read image).guess image ≡ db_section print (in_image (read image) (queue_db image))
unfolding apart_text
text_is print image of =
    ap (λ dbs. flat_map (db_section print) (map (in_image (read image)) dbs)) (queue_found image (is_read image of) (has_length image of))
    ∙ append-nil (db_section print (in_image (read image) (queue_db image)))

no_error : (print : Bool) (image : List ℕ) (section : Section) → IsFullQueue image → IsReadOf print image (queue_db image) section
    → load_error (section ∷ []) ≡ None
no_error print image section of read_of =
    let size : ℕ = (head_of image).page_size in
    let is : IsQueueRead image = is_read image of in
    let legal = legal_size image is.forest in
    let good : IsGoodSection size true (section_in (in_image (read image) (queue_db image))) =
    queue_good (read image) (queue_of image) legal (queue_fits (read image) (queue_of image) of.bytes legal (found_queue image is (has_length image of))) in
    let none : section_errors size true section ≡ [] =
    section_without size true section (section_in (in_image (read image) (queue_db image)))
    (like_built print image size true (queue_db image) section read_of good) good.errors in
    ap (λ n. fold sooner None (section_errors n true section ++ [])) (given_of print image (queue_db image) section read_of).page_size
    ∙ ap (λ errors. fold sooner None (errors ++ [])) none

read_loads_again : (print : Bool) (image : List ℕ) → IsFullQueue image → LoadsAgain print (apart_text print (read image).guess image) image
read_loads_again print image of =
    let it : FoundIn = in_image (read image) (queue_db image) in
    let fit : IsFit image (queue_db image) = queue_fit image of in
    let text = written_is_read print None (settings_in it) (list_given it) fit.can in
    let reads : Reads (apart_text print (read image).guess image) (text.0 ∷ []) =
    subst (λ bytes. Reads bytes (text.0 ∷ [])) (sym (text_is print image of)) text.1 in
    let tell : All TellsItsLength (text.0 ∷ []) = sections_tell (apart_text print (read image).guess image) (text.0 ∷ []) reads in
    let read_of : IsReadOf print image (queue_db image) text.0 =
    record { of = fit; is = text.2; tells = All-head TellsItsLength text.0 [] tell } in
    let given : AllZip (IsGivenOf print image) (found (read image)) (text.0 ∷ []) =
    subst (λ dbs. AllZip (IsGivenOf print image) dbs (text.0 ∷ [])) (sym (queue_found image (is_read image of) (has_length image of)))
    (given_of print image (queue_db image) text.0 read_of, tt) in
    record {
      sections = text.0 ∷ [];
      reads = reads;
      no_error = no_error print image text.0 of read_of;
      again = λ built builds. queue_again print image built (text.0 ∷ []) of given builds.databases;
    }

-- Where no guess is given.

queue_told : (image : List ℕ) → IsFullQueue image → chosen None image ≡ Some (read image).guess
queue_told image of = guess_is_told image (formed_accepted image (head_of image) (is_read image of).forest.formed).accepted

pub queue_loads_again : QueueLoadsAgain
queue_loads_again print guess image of chosen_is =
    let same : (read image).guess ≡ guess = same_Some (read image).guess guess (sym (queue_told image of) ∙ chosen_is) in
    subst (λ g. LoadsAgain print (apart_text print g image) image) same (read_loads_again print image of)

pub repaired_queue_is_the_file : RepairedQueueIsTheFile
unfolding apart_sections
repaired_queue_is_the_file print max image (Ok built) of is =
    built_queue_is_the_file print image built of
    (of_built max (sections_in (read image)) built (subst (λ guess. IsRepairedApart max guess image (Ok built)) (queue_told image of) is))
repaired_queue_is_the_file print max image (Err error) of is = tt
