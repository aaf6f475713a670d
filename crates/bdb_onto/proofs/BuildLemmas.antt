-- What is built of the joined sections is built of the sections on the base.
use Rattle.std.proofs.Common.{◌≡◌, ℕ, ◌*◌, List, [], ◌∷◌, map, refl, sym, ◌∙◌, ap, subst}
use Rattle.std.specs.List.{All, AllZip, filter}
use Rattle.std.proofs.lemmas.List.Elements.{All-append, All-head, All-map, All-tail}
use Rattle.bdb_format.specs.declared.settings.Settings.{Settings}
use Rattle.bdb_format.specs.Terms.{Database, databases, file_of}
use Rattle.bdb_format.proofs.ListLemmas.{all_of}
use Rattle.bdb_format.proofs.MemberLemmas.{of_filter}
use Rattle.bdb_mkfile.specs.of_text_format.declared.sections.Section.{Section}
use Rattle.bdb_mkfile.specs.of_text_format.Terms.{header_lines, listed}
use Rattle.bdb_mkfile.specs.of_settle.Loaded.{loaded, loaded_section}
use Rattle.bdb_mkfile.specs.of_need.Need.{need_of}
use Rattle.bdb_mkfile.proofs.of_need.NeedLemmas.{listed_again}
use Rattle.bdb_mkfile.specs.Builds.{Builds, IsLoadedAs, image_size, in_name_order}
use Rattle.bdb_mkfile.proofs.ApartLemmas.{order_all, order_map}
use Rattle.bdb_onto.specs.declared.base.Base.{Base}
use Rattle.bdb_onto.specs.Bases.{IsBase}
use Rattle.bdb_onto.specs.Laws.{AreLoadableOnto, IsBuiltOnto, JoinedBuildOnto}
use Rattle.bdb_onto.specs.Onto.{BuildsOnto, IsMadeAs, in_base, is_left, joined, joined_section, size_onto}
use Rattle.bdb_onto.proofs.BaseLemmas.{in_base_already, of_base}
use Rattle.bdb_onto.proofs.JoinLemmas.{joined_result}

-- settings that are in the file of the base
abbrev IsInBase : Base → Section → Type 0
IsInBase base section = in_base base section.settings ≡ section.settings

all_in_base : (base : Base) (sections : List Section) → IsBase base → All (IsInBase base) (joined base sections)
all_in_base base sections is =
    let left : List Section = filter (is_left sections) base.databases in
    All-append (IsInBase base) (map (joined_section base) sections) left
    (All-map (IsInBase base) (joined_section base) sections (λ k d low. refl))
    (all_of (IsInBase base) left (λ database at.
    in_base_already base database (of_base base database is (of_filter (is_left sections) base.databases database at).0)))

-- a database that is loaded of a section is made of the section with its list
made_as : (base : Base) (image : List ℕ) (first : Settings) (section : Section) (database : Database) → first.page_size ≡ base.page_size
    → first.order ≡ base.order → IsInBase base section → IsLoadedAs image first section database → IsMadeAs image (loaded_section section) database
made_as base image first section database size order in_it is = record {
  name = is.name;
  list = is.list ∙ ap listed (sym (listed_again (loaded section.settings section.pairs)));
  settings = λ print name.
      is.settings print name
      ∙ ap (header_lines print name)
      (ap (λ n. record section.settings { page_size = n; order = first.order }) size
      ∙ ap (λ o. record section.settings { page_size = base.page_size; order = o }) order
      ∙ in_it);
}

all_made : (base : Base) (image : List ℕ) (first : Settings) (sections : List Section) (all : List Database) → first.page_size ≡ base.page_size
    → first.order ≡ base.order → All (IsInBase base) sections → AllZip (IsLoadedAs image first) sections all
    → AllZip (IsMadeAs image) (map loaded_section sections) all
all_made base image first [] [] size order in_it zip = tt
all_made base image first [] (database ∷ all) size order in_it zip = absurd zip
all_made base image first (section ∷ sections) [] size order in_it zip = absurd zip
all_made base image first (section ∷ sections) (database ∷ all) size order in_it zip = (
  made_as base image first section database size order (All-head (IsInBase base) section sections in_it) zip.0,
  all_made base image first sections all size order (All-tail (IsInBase base) section sections in_it) zip.1,
)

-- the joined sections begin with one in the file of the base
size_joined : (base : Base) (first : Section) (rest : List Section) → IsBase base
    → image_size (joined base (first ∷ rest)) ≡ size_onto base (first ∷ rest)
size_joined base first rest is = ap (λ ss. need_of ss * base.page_size) (joined_result base (first ∷ rest) is)

builds_onto : (base : Base) (first : Section) (rest : List Section) (image : List ℕ) → IsBase base
    → Builds (joined base (first ∷ rest)) image → BuildsOnto base (first ∷ rest) image
builds_onto base first rest image is builds =
    let sections : List Section = joined base (first ∷ rest) in
    let made : AllZip (IsMadeAs image) (map loaded_section (in_name_order sections)) (databases (file_of image)) =
    all_made base image (joined_section base first).settings (in_name_order sections) (databases (file_of image)) refl refl
    (order_all (IsInBase base) sections (all_in_base base (first ∷ rest) is)) builds.databases in
    record {
      sound = builds.sound;
      size = builds.size ∙ size_joined base first rest is;
      databases =
          subst (λ ss. AllZip (IsMadeAs image) ss (databases (file_of image)))
          (sym (order_map loaded_section (λ s. refl) sections) ∙ ap in_name_order (joined_result base (first ∷ rest) is)) made;
    }

built_onto : (base : Base) (sections : List Section) → AreLoadableOnto base sections → IsBuiltOnto base sections
built_onto base [] loadable = absurd (cc loadable.fit.fit.some)
built_onto base (first ∷ rest) loadable = record {
  size = size_joined base first rest loadable.base_is;
  built = λ image builds. builds_onto base first rest image loadable.base_is builds;
}

pub joined_build_onto : JoinedBuildOnto
joined_build_onto base sections loadable = built_onto base sections loadable
