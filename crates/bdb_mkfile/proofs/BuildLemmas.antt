-- The image of sections with their lists is one that is built of the sections.
use Rattle.std.proofs.Common.{◌≡◌, ℕ, ◌+◌, ◌-◌, ◌*◌, Result, Ok, Err, true, false, cond, List, [], ◌∷◌, length, map, Option, Some, ◌⊎◌, None, refl, sym}
use Rattle.std.proofs.Common.{◌∙◌, ap, subst, arith, is_some, nat_lt, slice_get, if◌then◌else◌, IfOk}
use Rattle.std.specs.declared.alloc.AllocError.{AllocError}
use Rattle.bdb_mkfile.proofs.Common.{All, AllZip, fold, sum_by, All-cons, All-nil, Kind, Btree, Recno, Hash, Queue, Order, Settings, Database, HashFields, Metadata, QueueFields, databases, file_of}
use Rattle.bdb_mkfile.proofs.Common.{head_of, list_of, settings_of, verdict_of, Pair, Section, header_lines, listed, TooLarge, Memory, load_error, page_size_in, loaded, loaded_section, HasBuiltTable}
use Rattle.bdb_mkfile.proofs.Common.{queue_meta, tree_pages, unlined_pairs, list_pages, master_pages, need_of, section_pages, file_settings, own_settings, AreNamed, HasBuiltTables, IsDatabaseOf}
use Rattle.bdb_mkfile.proofs.Common.{IsNamed, IsNamedImage, names_pages, Builds, IsLoadedAs, image_size, in_file_of, in_name_order, IsLoadRefusal, IsLoadRefusalBy, loading_error, or_else, size_error}
use Rattle.bdb_mkfile.proofs.Common.{with_named, IsLoneImage, queue_first, queue_pages, table_fields, table_first, table_pages, AreBuildable, AreNamedApart, IsBuildable, IsImageBy, IsImageOfSections}
use Rattle.bdb_mkfile.proofs.Common.{IsLaidOut, IsListImage, IsSectionImage, IsTreeImage, listed_again}
use Rattle.bdb_need.specs.of_settle.declared.load_error.LoadError.{LoadError}
use Rattle.bdb_mkfile.proofs.SettingsLemmas.{own_size, settings_shown}
use Rattle.bdb_mkfile.proofs.AlikeLemmas.{pages_own}
use Rattle.bdb_mkfile.proofs.ApartLemmas.{fold_is_order, order_all, order_map, order_sum}
use Rattle.bdb_mkfile.proofs.MasterLemmas.{master_same, names_ascend}

-- One section alone.

-- what is so of the image of one database, of whatever kind
record IsAloneImage (settings : Settings) (pairs : List Pair) (image : List ℕ) : Type 0 where
  sound : verdict_of image ≡ None
  size : length image ≡ (1 + list_pages settings.kind settings pairs) * settings.page_size
  fields : Metadata
  alone : databases (file_of image) ≡ record { name = None; fields = fields } ∷ []
  settings_are : settings_of (head_of image).page_size (head_of image).order fields ≡ settings
  list : list_of (file_of image) fields ≡ listed pairs
  buckets : HasBuiltTable (file_of image) fields

tree_alone : (settings : Settings) (pairs : List Pair) (image : List ℕ) → list_pages settings.kind settings pairs ≡ tree_pages settings pairs
    → IsTreeImage settings pairs image → IsAloneImage settings pairs image
tree_alone settings pairs image pages is = grind (arith, HasBuiltTable, file_of)

lone_alone : (settings : Settings) (pairs : List Pair) (pages : ℕ) (first : List ℕ) (fields : Metadata) (image : List ℕ)
    → list_pages settings.kind settings pairs ≡ pages → HasBuiltTable (file_of image) fields → IsLoneImage settings pairs (1 + pages) first fields image
    → IsAloneImage settings pairs image
lone_alone settings pairs pages first fields image pages_are buckets is = grind arith

image_alone : (k : Kind) (settings : Settings) (pairs : List Pair) (image : List ℕ) → settings.kind ≡ k → IsListImage k settings pairs image
    → IsAloneImage settings pairs image
image_alone Btree settings pairs image same is = tree_alone settings pairs image (ap (λ k. list_pages k settings pairs) same) is
image_alone Recno settings pairs image same is = tree_alone settings pairs image (ap (λ k. list_pages k settings pairs) same) is
image_alone Hash settings pairs image same is = grind (arith, lone_alone, table_pages, table_first, HashFields, table_fields, list_pages)
image_alone Queue settings pairs image same is = grind (arith, lone_alone, queue_pages, queue_first, QueueFields, queue_meta, list_pages)

pub alone_built : (section : Section) (image : List ℕ) → is_some section.name ≡ false
    → IsBuildable section.settings.kind section.settings (unlined_pairs section.pairs) → IsSectionImage section image
    → IsImageOfSections (section ∷ []) image
alone_built section image unnamed buildable laid_out =
    let is : IsAloneImage (file_settings section.settings) (unlined_pairs section.pairs) image =
    image_alone (file_settings section.settings).kind (file_settings section.settings) (unlined_pairs section.pairs) image refl laid_out in
    let settings : Settings = section.settings in
    let list : List Pair = unlined_pairs section.pairs in
    let none : section.name ≡ None = no_name section.name unnamed in
    let pages : 1 + list_pages settings.kind settings list ≡ need_of (section ∷ []) =
    let test : cond (is_some section.name) (1 + master_pages settings.page_size (section ∷ [])) 0 ≡ 0 =
    ap (λ b. cond b (1 + master_pages settings.page_size (section ∷ [])) 0) unnamed in omega (arith, test) in
    let same : IsDatabaseOf settings.page_size settings.order image section (record { name = None; fields = is.fields }) =
    record { name = sym none; settings_are = is.settings_are; list = is.list } in
    record {
      sound = is.sound;
      size = is.size
          ∙ (ap (λ n. (1 + n) * (file_settings settings).page_size) (pages_own settings list buildable)
          ∙ (ap (λ n. (1 + list_pages settings.kind settings list) * n) (own_size settings.kind settings.page_size settings.order settings)
          ∙ ap (λ n. n * settings.page_size) pages));
      databases =
          subst (AllZip (IsDatabaseOf settings.page_size settings.order image) (section ∷ [])) (sym is.alone) (same, tt);
      tables =
          let of : Database → Type 0 = λ database. HasBuiltTable (file_of image) database.fields in
          subst (All of) (sym is.alone)
          (All-cons of (record { name = None; fields = is.fields }) [] is.buckets (All-nil of));
      laid_out = subst (λ b. IsImageBy b section (section ∷ []) image) (sym unnamed) laid_out;
    }
  where
    no_name : (name : Option (List ℕ)) → is_some name ≡ false → name ≡ None
    no_name None is = refl
    no_name (Some name) is = absurd (cc is)

-- Sections with names.

-- sections in the order of their names can be written under them
pub are_named : (size : ℕ) (sections sorted : List Section) → AreNamedApart size sections → sorted ≡ fold with_named [] sections
    → AreNamed size sorted
are_named size sections sorted named are =
    let ordered : sorted ≡ in_name_order sections = are ∙ fold_is_order sections named.apart in
    subst (AreNamed size) (sym ordered)
    (record { each = order_all (IsNamed size) sections named.each; ascend = names_ascend sections named.apart })

pub named_built : (first : Section) (rest sorted : List Section) (image : List ℕ) → is_some first.name ≡ true
    → AreNamedApart first.settings.page_size (first ∷ rest) → sorted ≡ fold with_named [] (first ∷ rest)
    → IsNamedImage first.settings.page_size first.settings.order sorted image → IsImageOfSections (first ∷ rest) image
named_built first rest sorted image has named are is =
    let sections : List Section = first ∷ rest in
    let size : ℕ = first.settings.page_size in
    let ordered : sorted ≡ in_name_order sections = are ∙ fold_is_order sections named.apart in
    let there : IsNamedImage size first.settings.order (in_name_order sections) image =
    subst (λ ss. IsNamedImage size first.settings.order ss image) ordered is in
    let pages : 1 + names_pages size (in_name_order sections) + sum_by (section_pages size) (in_name_order sections) ≡ need_of sections =
    let test : cond (is_some first.name) (1 + master_pages size sections) 0 ≡ 1 + master_pages size sections =
    ap (λ b. cond b (1 + master_pages size sections) 0) has in
    let master = master_same size sections named.apart in
    let others = order_sum (section_pages size) sections in omega (arith, test, master, others) in
    record {
      sound = there.sound;
      size = there.long ∙ ap (λ n. n * size) pages;
      databases = there.databases;
      tables = there.tables;
      laid_out = subst (λ b. IsImageBy b first sections image) (sym has) there;
    }

-- The first section is found, and the only one is taken off.

found_first : (sections : List Section) (found : Section) (built : AreBuildable sections) → Some found ≡ slice_get sections 0 → found ≡ built.first
found_first sections found built at =
    let same : Some found ≡ Some built.first = at ∙ ap (λ (ss : List Section). slice_get ss 0) built.are in cc same

named_first : (sections : List Section) (found : Section) (built : AreBuildable sections) → Some found ≡ slice_get sections 0
    → is_some found.name ≡ true → is_some built.first.name ≡ true
named_first sections found built at has = ap (λ (s : Section). is_some s.name) (sym (found_first sections found built at)) ∙ has

pub can_be_named : (sections sorted : List Section) (found : Section) → AreBuildable sections → Some found ≡ slice_get sections 0
    → is_some found.name ≡ true → sorted ≡ fold with_named [] sections → AreNamed found.settings.page_size sorted
can_be_named sections sorted found built at has are =
    subst (λ (s : Section). AreNamed s.settings.page_size sorted) (sym (found_first sections found built at))
    (are_named built.first.settings.page_size sections sorted (built.named (named_first sections found built at has)) are)

pub named_image_built : (sections sorted : List Section) (found : Section) (result : Result (List ℕ) AllocError) → AreBuildable sections
    → Some found ≡ slice_get sections 0 → is_some found.name ≡ true → sorted ≡ fold with_named [] sections
    → IfOk result (λ image. IsNamedImage found.settings.page_size found.settings.order sorted image)
    → IfOk result (λ image. IsImageOfSections sections image)
named_image_built sections sorted found (Err error) built at has are is = tt
named_image_built sections sorted found (Ok image) built at has are is =
    grind (arith, Section, AreNamedApart, named_first, IsImageOfSections, named_built, fold, with_named, IsNamedImage, found_first)

-- the only section, which has no name
pub record IsOnly (sections : List Section) (section : Section) : Type 0 where
  pub one : sections ≡ section ∷ []
  pub unnamed : is_some section.name ≡ false
  pub built : IsBuildable section.settings.kind section.settings (unlined_pairs section.pairs)

pub taken_only : (sections : List Section) (found section : Section) → AreBuildable sections → Some found ≡ slice_get sections 0
    → is_some found.name ≡ false → Some section ≡ slice_get sections (length sections - 1) → IsOnly sections section
taken_only sections found section built at none last =
    let unnamed : is_some built.first.name ≡ false =
    ap (λ (s : Section). is_some s.name) (sym (found_first sections found built at)) ∙ none in
    let alone = built.unnamed unnamed in
    let one : sections ≡ built.first ∷ [] = built.are ∙ ap (λ (ss : List Section). built.first ∷ ss) alone.none in
    let taken : Some section ≡ Some built.first = last ∙ ap (λ (ss : List Section). slice_get ss (length ss - 1)) one in
    let same : built.first ≡ section = cc taken in
    subst (IsOnly sections) same (record { one = one; unnamed = unnamed; built = alone.built })

pub alone_image : (sections : List Section) (found section : Section) (result : Result (List ℕ) AllocError) → AreBuildable sections
    → Some found ≡ slice_get sections 0 → is_some found.name ≡ false → Some section ≡ slice_get sections (length sections - 1)
    → IfOk result (λ image. IsSectionImage section image)
    → IfOk result (λ image. IsImageOfSections sections image)
alone_image sections found section (Err error) built at none last is = tt
alone_image sections found section (Ok image) built at none last is =
    let only : IsOnly sections section = taken_only sections found section built at none last in
    subst (λ ss. IsImageOfSections ss image) (sym only.one) (alone_built section image only.unnamed only.built is)

-- The sections as they were given.

own_alike : (k : Kind) (size : ℕ) (order : Order) (settings : Settings)
    → own_settings k size order settings ≡ own_settings k size order (record settings { page_size = size; order = order })
own_alike Btree size order settings = refl
own_alike Recno size order settings = refl
own_alike Hash size order settings = refl
own_alike Queue size order settings = refl

-- the database of a section with its list is that of the section
loaded_as : (image : List ℕ) (first : Settings) (section : Section) (database : Database)
    → IsDatabaseOf first.page_size first.order image (loaded_section section) database → IsLoadedAs image first section database
loaded_as image first section database is = grind (arith, listed, listed_again, loaded, header_lines, own_alike, settings_shown, in_file_of)

all_loaded_as : (image : List ℕ) (first : Settings) (sections : List Section) (all : List Database)
    → AllZip (IsDatabaseOf first.page_size first.order image) (map loaded_section sections) all → AllZip (IsLoadedAs image first) sections all
all_loaded_as image first [] [] zip = tt
all_loaded_as image first [] (database ∷ all) zip = absurd zip
all_loaded_as image first (section ∷ sections) [] zip = absurd zip
all_loaded_as image first (section ∷ sections) (database ∷ all) zip =
    (loaded_as image first section database zip.0, all_loaded_as image first sections all zip.1)

builds_loaded : (sections : List Section) (image : List ℕ) → IsImageOfSections (map loaded_section sections) image → Builds sections image
builds_loaded [] image never = absurd never
builds_loaded (first ∷ rest) image is = record {
  sound = is.sound;
  size = is.size;
  databases =
      all_loaded_as image first.settings (in_name_order (first ∷ rest)) (databases (file_of image))
      (subst (λ ss. AllZip (IsDatabaseOf first.settings.page_size first.settings.order image) ss (databases (file_of image)))
      (order_map loaded_section (λ s. refl) (first ∷ rest)) is.databases);
}

-- the image of the settled sections is built of the sections
pub builds : (sections settled : List Section) (image : List ℕ) → settled ≡ map loaded_section sections → IsImageOfSections settled image
    → Builds sections image
builds sections settled image lists is = builds_loaded sections image (subst (λ ss. IsImageOfSections ss image) lists is)

-- and its buckets are as built
pub built_tables : (settled : List Section) (image : List ℕ) → IsImageOfSections settled image → HasBuiltTables image
built_tables [] image never = absurd never
built_tables (section ∷ sections) image is = is.tables

-- and it says all that its parts say
laid_out_settled : (settled : List Section) (image : List ℕ) → IsImageOfSections settled image → IsLaidOut settled image
laid_out_settled [] image never = absurd never
laid_out_settled (section ∷ sections) image is = is.laid_out

pub laid_out_as : (sections settled : List Section) (image : List ℕ) → settled ≡ map loaded_section sections → IsImageOfSections settled image
    → IsLaidOut (map loaded_section sections) image
laid_out_as sections settled image lists is = subst (λ ss. IsLaidOut ss image) lists (laid_out_settled settled image is)

-- Errors.

loaded_size : (sections : List Section) → need_of (map loaded_section sections) * page_size_in (map loaded_section sections) ≡ image_size sections
loaded_size [] = refl
loaded_size (section ∷ sections) = refl

-- the bytes of the pages that are counted are those of the image
pub counted_size : (sections settled : List Section) (pages : ℕ) → settled ≡ map loaded_section sections → pages ≡ need_of settled
    → pages * page_size_in settled ≡ image_size sections
counted_size sections settled pages lists pages_are =
    ap (λ n. n * page_size_in settled) pages_are ∙ ap (λ ss. need_of ss * page_size_in ss) lists ∙ loaded_size sections

pub no_error : (max pages : ℕ) (sections settled : List Section) → load_error sections ≡ None → settled ≡ map loaded_section sections
    → pages ≡ need_of settled → nat_lt max (pages * page_size_in settled) ≡ false → loading_error max sections ≡ None
no_error max pages sections settled none lists pages_are within = grind (arith, nat_lt, image_size, counted_size, or_else, size_error, Some, TooLarge, None)

pub too_large : (max pages : ℕ) (sections settled : List Section) → settled ≡ map loaded_section sections
    → pages ≡ need_of settled → nat_lt max (pages * page_size_in settled) ≡ true → size_error max sections ≡ Some TooLarge
too_large max pages sections settled lists pages_are above = grind (arith, nat_lt, image_size, counted_size, Some, TooLarge, None)

-- Refusals.

-- others for lack of memory, or by the size of their image
pub refused_late : (most : ℕ) (sections : List Section) (error : LoadError) → load_error sections ≡ None
    → (error ≡ Memory) ⊎ (size_error most sections ≡ Some error) → IsLoadRefusal most sections error
refused_late most sections error none is = subst (λ first. IsLoadRefusalBy first (size_error most sections) error) (sym none) is

-- a refusal is for lack of memory, or gives the error that there is
pub refusal_found : (most : ℕ) (sections : List Section) (error : LoadError) → IsLoadRefusal most sections error
    → (error ≡ Memory) ⊎ (loading_error most sections ≡ Some error)
refusal_found most sections error is = grind (arith, load_error, Option, IsLoadRefusalBy, size_error, Memory, or_else, Some, None)
