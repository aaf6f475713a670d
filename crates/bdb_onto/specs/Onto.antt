-- What loading sections onto a base gives. Source: docs/FORMAT.md, "Loading onto a file".
use Rattle.std.specs.Prelude.{◌≡◌, ℕ, ◌*◌, nat_lt, ◌==◌, ◌&&◌, ◌||◌, not, if◌then◌else◌, Bool, true, false, List, [], ◌++◌, length, map, Option, Some}
use Rattle.std.specs.Prelude.{None, is_some}
use Rattle.std.specs.List.{All, AllZip, filter, find, flat_map, fold, list_any}
use Rattle.bdb_format.specs.declared.kinds.Kind.{Kind}
use Rattle.bdb_format.specs.declared.settings.Settings.{Settings}
use Rattle.bdb_format.specs.Terms.{Database, databases, file_of, is_name, list_of, verdict_of}
use Rattle.bdb_mkfile.specs.of_text_format.declared.pairs.Pair.{Pair}
use Rattle.bdb_mkfile.specs.of_text_format.declared.pairs.TextPair.{TextPair}
use Rattle.bdb_mkfile.specs.of_text_format.declared.sections.Section.{Section}
use Rattle.bdb_mkfile.specs.of_text_format.Terms.{header_lines, is_btree, is_hash, is_queue, is_recno, listed}
use Rattle.bdb_mkfile.specs.of_settle.Loaded.{loaded_pair, unnumbered, with_loaded}
use Rattle.bdb_mkfile.specs.of_settle.declared.load_error.LoadError.{LoadError}
use Rattle.bdb_mkfile.specs.of_settle.declared.load_error.LoadError.TheVariants.{RecordTooLong, TooLarge, QueueAmongNames, OntoKind, OntoNames}
use Rattle.bdb_mkfile.specs.of_settle.LoadErrors.{is_among_names, is_too_wide, pair_errors, sooner, where_so}
use Rattle.bdb_mkfile.specs.of_need.TreePages.{unlined_pairs}
use Rattle.bdb_mkfile.specs.of_need.Need.{need_of}
use Rattle.bdb_law_kept.specs.Kept.{settings_in}
use Rattle.bdb_mkfile.specs.Builds.{in_name_order}
use Rattle.bdb_mkfile.specs.Loading.{IsLoadRefusalBy, or_else}
use Rattle.bdb_onto.specs.declared.base.Base.{Base}

-- Partners.

-- a database has the name of a section, or neither has one
abbrev pub is_partner : Section → Section → Bool
is_partner section database = is_name section.name database.name

-- the database of the base that a section is loaded onto, where there is one
abbrev pub partner_of : Base → Section → Option Section
partner_of base section = find (is_partner section) base.databases

-- settings in the file of a base
abbrev pub in_base : Base → Settings → Settings
in_base base settings = record settings { page_size = base.page_size; order = base.order }

abbrev pub settings_from : Settings → Option Section → Settings
settings_from settings None = settings
settings_from settings (Some partner) = partner.settings

-- the settings of a section on a base: those of its partner, where it has one, and in any case the page size and the order of the base
abbrev pub settings_onto : Base → Section → Settings
settings_onto base section = in_base base (settings_from section.settings (partner_of base section))

abbrev pub pairs_from : Option Section → List TextPair
pairs_from None = []
pairs_from (Some partner) = partner.pairs

-- Lists.

-- the list after each pair of a section in turn, starting from a list
abbrev pub loaded_from : Settings → List Pair → List TextPair → List Pair
loaded_from settings list pairs = fold (with_loaded settings) list (map (loaded_pair settings) pairs)

-- the database that a section makes: it starts from the list of its partner, or from the empty list
abbrev pub loaded_onto : Base → Section → Section
loaded_onto base section = record section {
  settings = settings_onto base section;
  header_line = 0;
  pairs = map unnumbered (loaded_from (settings_onto base section) (unlined_pairs (pairs_from (partner_of base section))) section.pairs);
}

-- a database of the base is no section's partner
abbrev pub is_left : List Section → Section → Bool
is_left sections database = not (list_any (λ section. is_partner section database) sections)

-- the databases that loading sections onto a base gives: one of each section, and those that are left as they are
abbrev pub result_of : Base → List Section → List Section
result_of base sections = map (loaded_onto base) sections ++ filter (is_left sections) base.databases

-- Errors.

abbrev pub same_kind : Kind → Kind → Bool
same_kind a b = (is_btree a && is_btree b) || ((is_recno a && is_recno b) || ((is_hash a && is_hash b) || (is_queue a && is_queue b)))

abbrev pub differ : Bool → Bool → Bool
differ true b = not b
differ false b = b

-- one is of another kind than the other, or keeps the data of a key in another way
abbrev pub is_unlike : Settings → Settings → Bool
is_unlike settings others =
    not (same_kind settings.kind others.kind)
    || (differ settings.sorted others.sorted || differ (settings.duplicates || settings.sorted) (others.duplicates || others.sorted))

-- a section has a partner that is unlike it
abbrev pub is_other : Settings → Option Section → Bool
is_other settings None = false
is_other settings (Some partner) = is_unlike settings partner.settings

-- a section has a name and the base no master, or the other way round
abbrev pub is_misnamed : Base → Section → Bool
is_misnamed base section = differ (is_some section.name) base.master

-- all errors of a section on a base, and the first of those of sections
abbrev pub onto_errors : Base → Bool → Section → List LoadError
onto_errors base alone section =
    where_so (is_too_wide base.page_size (settings_onto base section)) (RecordTooLong section.header_line)
    ++ (where_so (is_among_names alone section) (QueueAmongNames section.header_line)
    ++ (where_so (is_other section.settings (partner_of base section)) (OntoKind section.header_line)
    ++ (where_so (is_misnamed base section) (OntoNames section.header_line)
    ++ flat_map (pair_errors (settings_onto base section)) section.pairs)))

abbrev pub onto_error : Base → List Section → Option LoadError
onto_error base sections = fold sooner None (flat_map (onto_errors base (length sections == 1)) sections)

-- no error holds for a section on a base
pub record HasNoErrorsOnto (base : Base) (alone : Bool) (section : Section) : Type 0 where
  pub wide : is_too_wide base.page_size (settings_onto base section) ≡ false
  pub among : is_among_names alone section ≡ false
  pub like : is_other section.settings (partner_of base section) ≡ false
  pub named : is_misnamed base section ≡ false
  pub pairs : flat_map (pair_errors (settings_onto base section)) section.pairs ≡ []

abbrev pub HaveNoErrorsOnto : Base → List Section → Type 0
HaveNoErrorsOnto base sections = All (HasNoErrorsOnto base (length sections == 1)) sections

-- What is built.

-- a database of an image is this one of a result: its name, its list, and its settings as header lines show them
pub record IsMadeAs (image : List ℕ) (section : Section) (database : Database) : Type 0 where
  pub name : database.name ≡ section.name
  pub list : list_of (file_of image) database.fields ≡ listed (unlined_pairs section.pairs)
  pub settings : (print : Bool) (name : Option (List ℕ))
      → header_lines print name (settings_in image database.fields) ≡ header_lines print name section.settings

-- how many bytes the image has that is built of sections on a base
abbrev pub size_onto : Base → List Section → ℕ
size_onto base sections = need_of (result_of base sections) * base.page_size

-- a sound image, with as many pages as the result needs, and its databases in the order of their names
pub record BuildsOnto (base : Base) (sections : List Section) (image : List ℕ) : Type 0 where
  pub sound : verdict_of image ≡ None
  pub size : length image ≡ size_onto base sections
  pub databases : AllZip (IsMadeAs image) (in_name_order (result_of base sections)) (databases (file_of image))

-- the image would be larger than a number of bytes
abbrev pub size_error_onto : ℕ → Base → List Section → Option LoadError
size_error_onto most base sections = if nat_lt most (size_onto base sections) then Some TooLarge else None

-- the first error of sections on a base, or that their image would be too large
abbrev pub loading_error_onto : ℕ → Base → List Section → Option LoadError
loading_error_onto most base sections = or_else (onto_error base sections) (size_error_onto most base sections)

-- a refusal gives the first error of sections on a base; where there is none, that their image would be too large, or lack of memory
abbrev pub IsOntoRefusal : ℕ → Base → List Section → LoadError → Type 0
IsOntoRefusal most base sections error = IsLoadRefusalBy (onto_error base sections) (size_error_onto most base sections) error

-- How it is done: the pairs of a section stand behind those of its partner, as if one text had both.

abbrev pub joined_section : Base → Section → Section
joined_section base section = record section {
  settings = settings_onto base section;
  pairs = pairs_from (partner_of base section) ++ section.pairs;
}

abbrev pub joined : Base → List Section → List Section
joined base sections = map (joined_section base) sections ++ filter (is_left sections) base.databases
