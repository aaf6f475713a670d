-- The text of what is given of a sound file reads as sections that are given, without an error of loading.
use Rattle.std.proofs.Common.{◌≡◌, ℕ, Bool, true, false, cond, List, [], ◌∷◌, ◌++◌, length, map, Option, None, arith, refl, sym, ◌∙◌, ap, subst, inl, inr}
use Rattle.std.specs.Prelude.{◌==◌}
use Rattle.std.specs.List.{All, AllZip, Contains, flat_map, fold}
use Rattle.std.proofs.lemmas.List.Elements.{All-contains, All-head, All-tail}
use Rattle.std.proofs.lemmas.Option.{none-some}
use Rattle.bdb_repair.specs.of_format.declared.kinds.Kind.TheVariants.{Queue}
use Rattle.bdb_repair.specs.of_format.declared.kinds.Order.{Order}
use Rattle.bdb_repair.specs.of_format.declared.metadata.QueueMeta.{QueueMeta}
use Rattle.bdb_repair.specs.of_format.declared.settings.Settings.{Settings}
use Rattle.bdb_repair.specs.of_format.Flags.{has_records}
use Rattle.bdb_repair.specs.of_format.Terms.{BtreeFields, Database, HashFields, ListKey, Metadata, QueueFields, btree_settings, databases, file_of}
use Rattle.bdb_repair.specs.of_format.Terms.{first_judgement, head_of, is_recno, list_of, page_at, recno_settings, settings_of}
use Rattle.bdb_repair.proofs.of_format.ListLemmas.{all_of}
use Rattle.bdb_repair.proofs.of_format.MemberLemmas.{first_member, in_map, later_member, of_map}
use Rattle.bdb_repair.proofs.of_format.SizeLemmas.{size_bounds}
use Rattle.bdb_repair.specs.of_text_format.declared.sections.Section.{Section}
use Rattle.bdb_repair.specs.of_text_format.Terms.{Reads, holds_records}
use Rattle.bdb_repair.specs.of_settle.LoadErrors.{load_error, page_size_in, section_errors, sooner}
use Rattle.bdb_repair.specs.of_apart.Found.{Found, found, tree_fields}
use Rattle.bdb_repair.specs.of_apart.Given.{FoundIn, found_in, in_image}
use Rattle.bdb_repair.specs.of_apart.Read.{read}
use Rattle.bdb_repair.specs.of_apart.Text.{apart_text, db_section, list_given, settings_in}
use Rattle.bdb_repair.specs.of_rescue.Kept.{file_in}
use Rattle.bdb_repair.specs.Apart.{section_in, told_settings}
use Rattle.bdb_repair.proofs.FoundNameLemmas.{page_fits}
use Rattle.bdb_repair.proofs.GivenFitLemmas.{IsGoodSection, section_good}
use Rattle.bdb_repair.proofs.MetaFitLemmas.{IsFitMeta}
use Rattle.bdb_load.specs.of_law_kept.Kept.{IsSound, LoadsAlike}
use Rattle.bdb_load.specs.of_law_kept.of_text.WrittenLaw.{AreSectionsOf, CanBeWritten, CanStandTogether, IsPairOf, IsSectionOf, IsWritable, Written}
use Rattle.bdb_load.specs.of_law_kept.of_text.WrittenLaw.{written_text}
use Rattle.bdb_load.proofs.of_law_kept.HeaderLemmas.{TellsLength, lines_alike, lines_order}
use Rattle.bdb_load.proofs.of_law_kept.NameLemmas.{all_together}
use Rattle.bdb_load.proofs.of_law_kept.SectionLemmas.{TellsItsLength, sections_tell}
use Rattle.bdb_load.proofs.of_law_kept.WrittenLemmas.{all_can_be_written}
use Rattle.bdb_load.proofs.of_law_kept.of_text.LookedLemmas.{legal_below}
use Rattle.bdb_load.proofs.of_law_kept.of_text.WrittenLemmas.{written_are_read}
use Rattle.bdb_law_apart.specs.of_law_whole.Kept.{IsSoundFile}
use Rattle.bdb_law_apart.specs.Named.{database_of}
use Rattle.bdb_law_apart.specs.Sections.{IsGivenOf}
use Rattle.bdb_law_apart.proofs.of_apart.KnownLemmas.{known, stands}
use Rattle.bdb_law_apart.proofs.of_apart.of_rescue.of_overflow.LinkedLemmas.{legal_size}
use Rattle.bdb_law_apart.proofs.DatabaseLemmas.{databases_are_found}
use Rattle.bdb_law_apart.proofs.FoundLemmas.{no_queue}
use Rattle.bdb_law_apart.proofs.SeenLemmas.{seen}
use Rattle.bdb_law_again.proofs.ErrorLemmas.{IsLike, section_without}
use Rattle.bdb_law_again.proofs.GivenLemmas.{given_in, order_is}
use Rattle.bdb_repair.proofs.ApartRoomLemmas.{found_size}
use Rattle.bdb_law_again.proofs.HoldLemmas.{given_holds}
use Rattle.bdb_law_again.proofs.ToldLemmas.{told_lines}

-- Databases.

-- a database that is found in a sound btree or hash file
pub record IsFound (image : List ℕ) (db : Found) : Type 0 where
  pub sound : IsSoundFile image
  pub at : Contains (found (read image)) db

is_sound : (image : List ℕ) → IsSoundFile image → IsSound image
is_sound image sound = record { size = sound.small; sound = ap first_judgement sound.sound }

no_queue_fields : (image : List ℕ) (db : Found) (meta : QueueMeta) → IsFound image db → db.fields ≡ QueueFields meta → ⊥
no_queue_fields image db meta of is = none-some meta (sym (no_queue image (seen image of.sound)) ∙ known (read image) db of.at meta is)

no_queue_kind : (size : ℕ) (order : Order) (fields : Metadata) → ((meta : QueueMeta) → fields ≡ QueueFields meta → ⊥)
    → (settings_of size order fields).kind ≡ Queue → ⊥
no_queue_kind size order (BtreeFields meta) other is = by_kind (is_recno meta) is
  where
    by_kind : (b : Bool) → (cond b (recno_settings size order meta) (btree_settings size order meta)).kind ≡ Queue → ⊥
    by_kind true is = cc
    by_kind false is = cc
no_queue_kind size order (HashFields meta) other is = cc
no_queue_kind size order (QueueFields meta) other is = other meta refl

kind_holds : (size : ℕ) (order : Order) (fields : Metadata) → has_records fields ≡ holds_records (settings_of size order fields).kind
kind_holds size order (BtreeFields meta) = by_kind (is_recno meta)
  where
    by_kind : (b : Bool) → b ≡ holds_records (cond b (recno_settings size order meta) (btree_settings size order meta)).kind
    by_kind true = refl
    by_kind false = refl
kind_holds size order (HashFields meta) = refl
kind_holds size order (QueueFields meta) = refl

-- a list in place of another
with_list : (name : Option (List ℕ)) (settings : Settings) (list other : List (ListKey × List ℕ)) → CanBeWritten name settings list
    → All (IsPairOf (holds_records settings.kind)) other → CanBeWritten name settings other
with_list name settings list other can pairs = record {
  page_size = can.page_size;
  no_conflict = can.no_conflict;
  minkey = can.minkey;
  ffactor = can.ffactor;
  re_len = can.re_len;
  re_pad = can.re_pad;
  name_bytes = can.name_bytes;
  pairs = pairs;
}

-- what is given of a database can be written
pub record IsFit (image : List ℕ) (db : Found) : Type 0 where
  pub can : CanBeWritten db.name (settings_in (in_image (read image) db)) (list_given (in_image (read image) db))
  pub fixed : (settings_in (in_image (read image) db)).kind ≡ Queue → (settings_in (in_image (read image) db)).fixed ≡ true

is_fit : (image : List ℕ) (db : Found) → IsFound image db → IsFit image db
is_fit image db of =
    let size : ℕ = (head_of image).page_size in
    let order : Order = (head_of image).order in
    let other : (meta : QueueMeta) → db.fields ≡ QueueFields meta → ⊥ = λ meta is. no_queue_fields image db meta of is in
    let among : Contains (databases (file_of image)) (database_of db) =
    subst (λ all. Contains all (database_of db)) (databases_are_found image of.sound) (in_map database_of (found (read image)) db of.at) in
    let full : CanBeWritten db.name (settings_of size order db.fields) (list_of (file_of image) db.fields) =
    all_can_be_written image (database_of db) (is_sound image of.sound) of.sound.bytes among
    (λ queue. absurd (no_queue_kind size order db.fields other queue)) in
    record {
      can = with_list db.name (settings_of size order db.fields) (list_of (file_of image) db.fields) (list_given (in_image (read image) db)) full
          (subst (λ b. All (IsPairOf b) (list_given (in_image (read image) db))) (kind_holds size order db.fields)
          (given_holds (read image) db of.sound.bytes other));
      fixed = λ queue. absurd (no_queue_kind size order db.fields other queue);
    }

-- The text.

abbrev pub written_in : FoundIn → Written
written_in it = record { name = it.db.name; settings = settings_in it; list = list_given it }

texts_are : (print : Bool) (its : List FoundIn) → flat_map (db_section print) its ≡ flat_map (written_text print) (map written_in its)
texts_are print [] = refl
texts_are print (it ∷ its) = ap (λ text. db_section print it ++ text) (texts_are print its)

names_are : (image : List ℕ) (dbs : List Found)
    → map (λ (one : Written). one.name) (map written_in (map (in_image (read image)) dbs)) ≡ map (λ (database : Database). database.name) (map database_of dbs)
names_are image [] = refl
names_are image (db ∷ dbs) = ap (λ names. db.name ∷ names) (names_are image dbs)

stand_together : (image : List ℕ) → IsSoundFile image → (databases (file_of image) ≡ [] → ⊥)
    → CanStandTogether (map (λ (one : Written). one.name) (map written_in (found_in (read image))))
stand_together image sound some =
    subst CanStandTogether
    (sym (names_are image (found (read image)) ∙ ap (map (λ (database : Database). database.name)) (databases_are_found image sound)))
    (all_together image (is_sound image sound) some)

all_writable : (image : List ℕ) → IsSoundFile image → All IsWritable (map written_in (found_in (read image)))
all_writable image sound =
    all_of IsWritable (map written_in (found_in (read image))) (λ one at.
    let it = of_map written_in (found_in (read image)) one at in
    let db = of_map (in_image (read image)) (found (read image)) it.0 it.1 in
    subst IsWritable (ap written_in db.2 ∙ it.2) (is_fit image db.0 (record { sound = sound; at = db.1 })).can)

-- Sections.

-- a section that is read of a database
pub record IsReadOf (print : Bool) (image : List ℕ) (db : Found) (section : Section) : Type 0 where
  pub of : IsFit image db
  pub is : IsSectionOf print db.name (settings_in (in_image (read image) db)) (list_given (in_image (read image) db)) section
  pub tells : TellsLength section.settings

alike : (print : Bool) (image : List ℕ) (db : Found) (section : Section) → IsReadOf print image db section
    → LoadsAlike section.settings (settings_in (in_image (read image) db))
alike print image db section read_of =
    let it : FoundIn = in_image (read image) db in
    lines_alike print db.name section.settings (settings_in it) read_of.is.lines_are read_of.tells
    (legal_below (settings_in it).page_size read_of.of.can.page_size) read_of.of.can.re_len read_of.of.fixed

pub given_of : (print : Bool) (image : List ℕ) (db : Found) (section : Section) → IsReadOf print image db section → IsGivenOf print image db section
given_of print image db section read_of =
    let it : FoundIn = in_image (read image) db in
    let loads : LoadsAlike section.settings (settings_in it) = alike print image db section read_of in
    record {
      name_is = read_of.is.name_is;
      lines_are = read_of.is.lines_are;
      alike = loads;
      page_size = loads.page_size ∙ found_size (head_of image).page_size (head_of image).order db.fields;
      order = lines_order print db.name section.settings (settings_in it) read_of.is.lines_are
          ∙ order_is (head_of image).page_size (head_of image).order db.fields;
      pairs_are = read_of.is.list_is;
    }

-- Errors.

-- the section that is built of what is given, without an error
built_good : (image : List ℕ) (size : ℕ) (alone : Bool) (db : Found) → IsFound image db
    → IsGoodSection size alone (section_in (in_image (read image) db))
built_good image size alone db of = section_good size alone (in_image (read image) db) (legal_size image (seen image of.sound).sound.forest) fit
  where
    fit : IsFitMeta db.fields
    fit = elim (stands (read image) db of.at) [
      | inl queue ↦ absurd (none-some queue.meta (sym (no_queue image (seen image of.sound)) ∙ queue.queue))
      | inr there ↦ All-contains IsFitMeta (tree_fields (page_at (file_in (read image)) db.meta)) db.fields
          (page_fits (read image) db.meta of.sound.bytes) there
    ]

pub like_built : (print : Bool) (image : List ℕ) (size : ℕ) (alone : Bool) (db : Found) (section : Section) → IsReadOf print image db section
    → IsGoodSection size alone (section_in (in_image (read image) db)) → IsLike section (section_in (in_image (read image) db))
like_built print image size alone db section read_of good =
    let it : FoundIn = in_image (read image) db in
    let bounds = size_bounds (told_settings (settings_in it)).page_size good.fit.settings.page_size in
    record {
      name_is = read_of.is.name_is;
      alike = lines_alike print db.name section.settings (told_settings (settings_in it))
          (read_of.is.lines_are ∙ sym (told_lines print db.name (settings_in it))) read_of.tells (omega (arith, bounds.1)) good.fit.settings.re_len
          good.fit.settings.fixed;
      pairs_are = read_of.is.list_is ∙ sym (given_in it);
    }

-- All sections.

-- as many sections, each read of its database
abbrev AreReadOf : Bool → List ℕ → List Found → List Section → Type 0
AreReadOf print image dbs sections = AllZip (IsReadOf print image) dbs sections

all_read : (print : Bool) (image : List ℕ) (dbs : List Found) (sections : List Section) → ((db : Found) → Contains dbs db → IsFit image db)
    → All TellsItsLength sections → AreSectionsOf print (map written_in (map (in_image (read image)) dbs)) sections → AreReadOf print image dbs sections
all_read print image [] [] fit tell are = tt
all_read print image [] (section ∷ sections) fit tell are = absurd are
all_read print image (db ∷ dbs) [] fit tell are = absurd are
all_read print image (db ∷ dbs) (section ∷ sections) fit tell are = (
  record { of = fit db (first_member db dbs); is = are.0; tells = All-head TellsItsLength section sections tell },
  all_read print image dbs sections (λ other at. fit other (later_member db dbs other at)) (All-tail TellsItsLength section sections tell) are.1,
)

all_given : (print : Bool) (image : List ℕ) (dbs : List Found) (sections : List Section) → AreReadOf print image dbs sections
    → AllZip (IsGivenOf print image) dbs sections
all_given print image [] [] read_of = tt
all_given print image [] (section ∷ sections) read_of = absurd read_of
all_given print image (db ∷ dbs) [] read_of = absurd read_of
all_given print image (db ∷ dbs) (section ∷ sections) (one, read_of) =
    (given_of print image db section one, all_given print image dbs sections read_of)

no_errors : (print : Bool) (image : List ℕ) (size : ℕ) (alone : Bool) (dbs : List Found) (sections : List Section)
    → ((db : Found) → Contains dbs db → IsGoodSection size alone (section_in (in_image (read image) db))) → AreReadOf print image dbs sections
    → flat_map (section_errors size alone) sections ≡ []
no_errors print image size alone [] [] good read_of = refl
no_errors print image size alone [] (section ∷ sections) good read_of = absurd read_of
no_errors print image size alone (db ∷ dbs) [] good read_of = absurd read_of
no_errors print image size alone (db ∷ dbs) (section ∷ sections) good (one, read_of) =
    let here : IsGoodSection size alone (section_in (in_image (read image) db)) = good db (first_member db dbs) in
    ap (λ errors. errors ++ flat_map (section_errors size alone) sections)
    (section_without size alone section (section_in (in_image (read image) db)) (like_built print image size alone db section one here) here.errors)
    ∙ no_errors print image size alone dbs sections (λ other at. good other (later_member db dbs other at)) read_of

-- what the text is read as
pub record IsTextOf (print : Bool) (image : List ℕ) (sections : List Section) : Type 0 where
  pub reads : Reads (apart_text print (read image).guess image) sections
  pub no_error : load_error sections ≡ None
  pub given : AllZip (IsGivenOf print image) (found (read image)) sections

pub text_of_found : (print : Bool) (image : List ℕ) → IsSoundFile image → (databases (file_of image) ≡ [] → ⊥)
    → (sections : List Section) × IsTextOf print image sections
unfolding apart_text
text_of_found print image sound some =
    let dbs : List Found = found (read image) in
    let all : List Written = map written_in (found_in (read image)) in
    let text = written_are_read print all (stand_together image sound some) (all_writable image sound) in
    let read_of : AreReadOf print image dbs text.0 =
    all_read print image dbs text.0 (λ db at. is_fit image db (record { sound = sound; at = at }))
    (sections_tell (flat_map (written_text print) all) text.0 text.1) text.2 in (
      text.0,
      record {
        reads = subst (λ bytes. Reads bytes text.0) (sym (texts_are print (found_in (read image)))) text.1;
        no_error = ap (fold sooner None) (no_errors print image (page_size_in text.0) (length text.0 == 1) dbs text.0
            (λ db at. built_good image (page_size_in text.0) (length text.0 == 1) db (record { sound = sound; at = at })) read_of);
        given = all_given print image dbs text.0 read_of;
      },
    )
