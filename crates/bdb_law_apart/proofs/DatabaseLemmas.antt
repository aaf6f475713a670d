-- The databases that are found in a sound file are those that it has, in the same order.
use Rattle.std.proofs.Common.{◌≡◌, ℕ, ◌<◌, ◌≤◌, ◌/◌, true, false, List, [], ◌∷◌, map, length, arith, refl, sym, ◌∙◌, ap, subst}
use Rattle.std.specs.Prelude.{Option, Some, None, unwrap_or}
use Rattle.std.specs.List.{Contains}
use Rattle.bdb_apart.specs.of_format.declared.kinds.Order.{Order}
use Rattle.bdb_apart.specs.of_format.declared.metadata.BtreeMeta.{BtreeMeta}
use Rattle.bdb_apart.specs.of_format.declared.metadata.FileKind.{FileKind}
use Rattle.bdb_apart.specs.of_format.declared.metadata.FileKind.TheVariants.{Btree, Hash, Queue}
use Rattle.bdb_apart.specs.of_format.declared.metadata.Head.{Head}
use Rattle.bdb_apart.specs.of_format.Terms.{Database, File, Meta, Metadata, Page, StoredPair, ascends, database_on, databases, databases_under, fields_in}
use Rattle.bdb_apart.specs.of_format.Terms.{file_of}
use Rattle.bdb_apart.specs.of_format.Terms.{byte_at, head_of, is_meta, is_page_size, is_zero, less, master_in, master_pairs, named_by, named_database, page_as}
use Rattle.bdb_apart.specs.of_format.Terms.{page_at, page_bytes, page_type, type_of}
use Rattle.bdb_apart.specs.Found.{Found, found, name_of}
use Rattle.bdb_apart.proofs.OrderLemmas.{names_ascend}
use Rattle.bdb_law_homes.proofs.of_format.FileLemmas.{page_is as file_page}
use Rattle.bdb_law_homes.proofs.of_format.GraphLemmas.{typed_page}
use Rattle.bdb_law_homes.proofs.of_format.SizeLemmas.{size_bounds}
use Rattle.bdb_law_homes.proofs.of_format.ListLemmas.{only_member}
use Rattle.bdb_law_homes.proofs.of_format.MemberLemmas.{first_member, in_flat_map, in_map, of_flat_map, of_map}
use Rattle.bdb_law_homes.proofs.of_image.CodeLemmas.{not_zero}
use Rattle.bdb_law_homes.proofs.of_image.FirstLemmas.{formed_page}
use Rattle.bdb_law_homes.proofs.of_image.HeldLemmas.{own_type}
use Rattle.bdb_law_homes.proofs.of_law_sums.of_overflow.LinkedLemmas.{legal_size}
use Rattle.bdb_law_homes.proofs.of_law_sums.of_overflow.WholeLemmas.{page_length}
use Rattle.bdb_law_homes.proofs.of_law_whole.PageLemmas.{last_there}
use Rattle.bdb_law_kept.proofs.of_databases.NameOrderLemmas.{names_ascend as databases_ascend}
use Rattle.bdb_law_kept.proofs.KeyedLemmas.{ascends_rise}
use Rattle.bdb_law_kept.proofs.LaterLemmas.{later_map}
use Rattle.bdb_law_apart.specs.Named.{DatabasesAreFound, database_of}
use Rattle.bdb_apart.specs.Read.{read}
use Rattle.bdb_law_apart.proofs.ApartLemmas.{Rises, later_unmap, same_rising}
use Rattle.bdb_law_apart.proofs.EntryLemmas.{HasMaster}
use Rattle.bdb_law_apart.proofs.FoundLemmas.{IsNamed, IsOn, found_alone, found_named, on_page}
use Rattle.bdb_law_apart.proofs.LeftLemmas.{meta_view}
use Rattle.bdb_law_apart.proofs.MasterLemmas.{NamesPage, names_page, one_pair}
use Rattle.bdb_law_apart.proofs.SeenLemmas.{IsSeen, seen}

-- the bytes of a name
abbrev name_bytes : Database → List ℕ
name_bytes database = unwrap_or database.name []

-- Page 0.

kind_meta : (order : Order) (page : List ℕ) (kind : FileKind) → is_meta (page_as order page (page_type (type_of kind))) ≡ true
kind_meta order page Btree = refl
kind_meta order page Hash = refl
kind_meta order page Queue = refl

-- page 0 is metadata
first_meta : (image : List ℕ) → IsSeen image → is_meta (page_at (file_of image) 0) ≡ true
first_meta image is =
    let head : Head = head_of image in
    let bytes : List ℕ = page_bytes head image 0 in
    let own : byte_at bytes 25 ≡ type_of head.kind = own_type head bytes (formed_page image 0 is.sound.forest.formed.form (omega arith)) in
    let legal : is_page_size head.page_size ≡ true = legal_size image is.sound.forest in
    let there : 0 < length image / head.page_size = omega (arith, last_there image is.sound.forest) in
    let size : length bytes ≡ head.page_size = page_length head.page_size image 0 (omega (arith, (size_bounds head.page_size legal).0)) there in
    let some : is_zero bytes ≡ false = not_zero bytes head.kind (ap is_page_size size ∙ legal) own in
    ap is_meta (file_page image 0 (omega arith) ∙ typed_page head.order bytes some)
    ∙ (ap (λ b. is_meta (page_as head.order bytes (page_type b))) own ∙ kind_meta head.order bytes head.kind)

meta_fields_in : (page : Page) (fields : Metadata) → page ≡ Meta fields → fields_in page ≡ fields ∷ []
meta_fields_in page fields is = ap fields_in is

-- Without a master.

pub alone_is : (image : List ℕ) → IsSeen image → master_in (page_at (file_of image) 0) ≡ None
    → map database_of (found (read image)) ≡ databases (file_of image)
unfolding databases
alone_is image is none =
    let file : File = file_of image in
    let view = meta_view (page_at file 0) (first_meta image is) in
    ap (map database_of) (found_alone image view.0 is none view.1).1
    ∙ sym (ap (databases_under file) none ∙ ap (map (λ fields. record { name = None; fields = fields })) (meta_fields_in (page_at file 0) view.0 view.1))

-- With a master.

rises_of : {X : Type 0} (name : X → List ℕ) (xs : List X) → ascends (map name xs) ≡ true → Rises name xs
rises_of name xs rise = later_unmap (λ (a b : List ℕ). less a b ≡ true) name xs (ascends_rise (map name xs) rise)

-- a database of the file is named by a pair, and stands on a page
record IsListed (image : List ℕ) (database : Database) : Type 0 where
  pair : StoredPair
  among : Contains (master_pairs (file_of image)) pair
  page : ℕ
  names : named_by (file_of image) pair.data_item ≡ Some page
  above : 1 ≤ page
  is : page_at (file_of image) page ≡ Meta database.fields
  name_is : database.name ≡ Some pair.key

of_databases : (image : List ℕ) (meta : BtreeMeta) (database : Database) → HasMaster image meta → Contains (databases (file_of image)) database
    → IsListed image database
unfolding databases
of_databases image meta database has at =
    let file : File = file_of image in
    let pair = of_flat_map (named_database file) (master_pairs file) database (subst (λ o. Contains (databases_under file o) database) has.master at) in
    let page : NamesPage file pair.0 = names_page image pair.0 has.is pair.1 in
    let view = meta_view (page_at file page.page) page.is in
    let one : database_on file (Some pair.0.key) (named_by file pair.0.data_item) ≡ record { name = Some pair.0.key; fields = view.0 } ∷ [] =
    ap (database_on file (Some pair.0.key)) page.names
    ∙ ap (map (λ fields. record { name = Some pair.0.key; fields = fields })) (meta_fields_in (page_at file page.page) view.0 view.1) in
    let same : record { name = Some pair.0.key; fields = view.0 } ≡ database =
    only_member (record { name = Some pair.0.key; fields = view.0 }) database (subst (λ l. Contains l database) one pair.2) in
    record {
      pair = pair.0;
      among = pair.1;
      page = page.page;
      names = page.names;
      above = page.above;
      is = view.1 ∙ ap (λ (d : Database). Meta d.fields) same;
      name_is = sym (ap (λ (d : Database). d.name) same);
    }

in_databases : (image : List ℕ) (meta : BtreeMeta) (db : Found) → HasMaster image meta → IsNamed image db
    → Contains (databases (file_of image)) (database_of db)
unfolding databases
in_databases image meta db has named =
    let file : File = file_of image in
    let pair : StoredPair = named.names.pair in
    let one : database_on file (Some pair.key) (named_by file pair.data_item) ≡ record { name = Some pair.key; fields = db.fields } ∷ [] =
    ap (database_on file (Some pair.key)) named.names.names
    ∙ ap (map (λ fields. record { name = Some pair.key; fields = fields })) (meta_fields_in (page_at file db.meta) db.fields named.page) in
    let same : record { name = Some pair.key; fields = db.fields } ≡ database_of db =
    ap (λ n. record { name = n; fields = db.fields }) (ap Some named.names.key_is ∙ sym named.name_is) in
    let there : Contains (database_on file (Some pair.key) (named_by file pair.data_item)) (database_of db) =
    subst (Contains (database_on file (Some pair.key) (named_by file pair.data_item))) same
    (subst (λ l. Contains l (record { name = Some pair.key; fields = db.fields })) (sym one)
    (first_member (record { name = Some pair.key; fields = db.fields }) [])) in
    subst (λ o. Contains (databases_under file o) (database_of db)) (sym has.master)
    (in_flat_map (named_database file) (master_pairs file) pair (database_of db) named.names.among there)

found_there : (image : List ℕ) (meta : BtreeMeta) (database : Database) → HasMaster image meta → Contains (databases (file_of image)) database
    → Contains (map database_of (found (read image))) database
found_there image meta database has at =
    let file : File = file_of image in
    let listed : IsListed image database = of_databases image meta database has at in
    let on : IsOn image listed.page database.fields = on_page image meta listed.page database.fields has listed.above listed.is in
    let named : IsNamed image on.db = (found_named image meta on.db has on.among).1 in
    let pair : named.names.pair ≡ listed.pair =
    one_pair image named.names.pair listed.pair listed.page has.is named.names.among listed.among (named.names.names ∙ ap Some on.meta_is) listed.names in
    let key : on.db.name ≡ database.name =
    named.name_is ∙ (ap Some (sym named.names.key_is ∙ ap (λ (p : StoredPair). p.key) pair) ∙ sym listed.name_is) in
    let same : database_of on.db ≡ database =
    ap (λ n. record { name = n; fields = on.db.fields }) key ∙ ap (λ f. record { name = database.name; fields = f }) on.fields_are in
    subst (Contains (map database_of (found (read image)))) same (in_map database_of (found (read image)) on.db on.among)

named_is : (image : List ℕ) (meta : BtreeMeta) → HasMaster image meta → map database_of (found (read image)) ≡ databases (file_of image)
named_is image meta has =
    same_rising name_bytes (map database_of (found (read image))) (databases (file_of image))
    (later_map (λ (a b : Database). less (name_bytes a) (name_bytes b) ≡ true) database_of (found (read image))
    (rises_of name_of (found (read image)) (names_ascend (read image))))
    (rises_of name_bytes (databases (file_of image)) (databases_ascend image meta has.is.is.small has.is.is.sound has.master))
    (λ database at.
    let db = of_map database_of (found (read image)) database at in
    subst (Contains (databases (file_of image))) db.2 (in_databases image meta db.0 has (found_named image meta db.0 has db.1).1))
    (λ database at. found_there image meta database has at)

pub databases_are_found : DatabasesAreFound
databases_are_found image is = by_master (master_in (page_at (file_of image) 0)) refl
  where
    by_master : (master : Option BtreeMeta) → master_in (page_at (file_of image) 0) ≡ master
        → map database_of (found (read image)) ≡ databases (file_of image)
    by_master None none = alone_is image (seen image is) none
    by_master (Some meta) master = named_is image meta (record { is = seen image is; master = master })
