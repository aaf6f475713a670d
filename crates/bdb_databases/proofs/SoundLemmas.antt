-- A database of a sound file has metadata that keeps every rule.
use Rattle.std.proofs.Common.{◌≡◌, ℕ, ◌<◌, ◌≤◌, List, [], length, Option, Some, None, refl, sym, ◌∙◌, ap, subst, inl, inr, Contains}
use Rattle.std.proofs.lemmas.Bool.{cases_lt}
use Rattle.std.proofs.lemmas.List.{get_or_default}
use Rattle.bdb_recno.specs.of_format.declared.kinds.Fault.{Fault}
use Rattle.bdb_recno.specs.of_format.declared.metadata.BtreeMeta.{BtreeMeta}
use Rattle.bdb_recno.specs.of_format.Terms.{Database, File, Meta, Metadata, NoType, contents_faults, database_faults, database_on, databases, databases_under}
use Rattle.bdb_recno.specs.of_format.Terms.{faults_of, fields_in, fields_of, file_of, is_meta, master_in, master_pairs, named_by, named_database, page_at}
use Rattle.bdb_recno.specs.of_format.Terms.{structure_faults}
use Rattle.bdb_recno.proofs.of_format.MemberLemmas.{first_member, in_flat_map, is_empty, no_member, of_flat_map, of_map}
use Rattle.bdb_recno.proofs.of_format.VerdictLemmas.{no_stage}
use Rattle.bdb_recno.proofs.of_format.FileLemmas.{past_last}
use Rattle.bdb_recno.specs.of_image.Linked.{HasMetadata}
use Rattle.bdb_recno.proofs.of_graph.ReadLemmas.{is_of_page}
use Rattle.bdb_databases.specs.Named.{database_at, no_database}
use Rattle.bdb_any_order.proofs.ContentLemmas.{in_contents}
use Rattle.bdb_any_order.proofs.DatabaseLemmas.{in_fields}
use Rattle.bdb_recno.proofs.of_tree.ListedLemmas.{at_meta}
use Rattle.bdb_databases.proofs.NamedLemmas.{with_name}

-- Where a database has its metadata.

abbrev OnPage : File → Database → Type 0
OnPage file database = (p : ℕ) × (page_at file p ≡ Meta database.fields)

on_page : (file : File) (name : Option (List ℕ)) (names : Option ℕ) (database : Database) → Contains (database_on file name names) database
    → OnPage file database
on_page file name None database at = absurd (no_member [] database refl at)
on_page file name (Some p) database at =
    let found = of_map (with_name name) (fields_in (page_at file p)) database at in
    (p, is_of_page (page_at file p) found.0 found.1 ∙ ap (λ (d : Database). Meta d.fields) found.2)

under_master : (file : File) (found : Option BtreeMeta) (database : Database) → Contains (databases_under file found) database → OnPage file database
under_master file None database at = on_page file None (Some 0) database at
under_master file (Some meta) database at =
    let pair = of_flat_map (named_database file) (master_pairs file) database at in
    on_page file (Some pair.0.key) (named_by file pair.0.data_item) database pair.2

on_some_page : (file : File) (database : Database) → Contains (databases file) database → OnPage file database
unfolding databases
on_some_page file database at = under_master file (master_in (page_at file 0)) database at

page_there : (image : List ℕ) (p : ℕ) (fields : Metadata) → page_at (file_of image) p ≡ Meta fields → p ≤ (file_of image).last
page_there image p fields is =
    elim (cases_lt (file_of image).last p) [
      | inl past ↦ let none : page_at (file_of image) p ≡ NoType = past_last image p past in absurd cc
      | inr low ↦ low
    ]

at_place : (image : List ℕ) (i : ℕ) → i < length (databases (file_of image)) → HasMetadata (file_of image) (database_at (file_of image) i).fields
at_place image i below =
    let file : File = file_of image in
    let database : Database = database_at file i in
    let at : Contains (databases file) database = (i, below, get_or_default (databases file) i database no_database below) in
    let on : OnPage file database = on_some_page file database at in
    record { page = on.0; inside = page_there image on.0 database.fields on.1; is = on.1 }

pub has_metadata_at : (image : List ℕ) (i : ℕ) (fields : Metadata) → i < length (databases (file_of image))
    → fields ≡ (database_at (file_of image) i).fields → HasMetadata (file_of image) fields
has_metadata_at image i fields below same = subst (HasMetadata (file_of image)) (sym same) (at_place image i below)

-- What a sound file keeps.

pub no_structure : (image : List ℕ) → faults_of image ≡ [] → structure_faults (file_of image) ≡ []
no_structure image sound = no_stage image 6 sound

pub no_contents : (image : List ℕ) (fields : Metadata) → faults_of image ≡ [] → HasMetadata (file_of image) fields
    → database_faults (file_of image) fields ≡ []
no_contents image fields sound has = is_empty (database_faults file fields) none
  where
    file : File
    file = file_of image

    listed : Contains (fields_of file) fields
    listed =
        in_fields image has.page fields (at_meta file has.page has.inside (ap is_meta has.is))
        (subst (λ page. Contains (fields_in page) fields) (sym has.is) (first_member fields []))

    none : (fault : Fault) → Contains (database_faults file fields) fault → ⊥
    none fault at =
        no_member (contents_faults file) fault (no_stage image 8 sound)
        (in_contents file fault (in_flat_map (database_faults file) (fields_of file) fields fault listed at))

pub no_contents_at : (image : List ℕ) (i : ℕ) (fields : Metadata) → faults_of image ≡ [] → i < length (databases (file_of image))
    → fields ≡ (database_at (file_of image) i).fields
    → database_faults (file_of image) fields ≡ []
no_contents_at image i fields sound below same = no_contents image fields sound (has_metadata_at image i fields below same)
