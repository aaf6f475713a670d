-- In a table of a file on which no row counts in any order no key comes twice.
use Rattle.std.proofs.Common.{◌≡◌, ℕ, List, [], refl, sym, ap, subst, Contains}
use Rattle.bdb_recno.specs.of_format.Terms.{BtreeFields, Database, File, HashFields, Metadata, QueueFields, contents_faults, database_faults, databases}
use Rattle.bdb_recno.specs.of_format.Terms.{fault_at, fields_in, file_of, is_meta, page_at}
use Rattle.bdb_recno.specs.of_format.declared.rows.ContentsRow.TheVariants.{KeyTwice}
use Rattle.bdb_recno.specs.of_format.declared.rows.Row.TheVariants.{Contents}
use Rattle.bdb_recno.specs.of_format.declared.metadata.HashMeta.{HashMeta}
use Rattle.bdb_recno.proofs.of_format.MemberLemmas.{first_member, in_filter, in_flat_map, no_member}
use Rattle.bdb_recno.specs.of_image.Linked.{HasMetadata, meta_pages}
use Rattle.bdb_hash_list.specs.Scanned.{KeysDiffer}
use Rattle.bdb_any_order.specs.AnyOrder.{contents_by, counts, faults_by_rows}
use Rattle.bdb_any_order.specs.Contents.{faults_on}
use Rattle.bdb_databases.specs.Listing.{HasNewKeys}
use Rattle.bdb_any_order.specs.declared.rows.Rows.TheVariants.{AnyOrder, All}
use Rattle.bdb_any_order.proofs.DatabaseLemmas.{of_pages}
use Rattle.bdb_recno.proofs.of_tree.ListedLemmas.{at_meta}
use Rattle.bdb_any_order.proofs.RowsLemmas.{contents_kept, fewer}
use Rattle.bdb_databases.specs.Named.{IsReadable}
use Rattle.bdb_any_order.specs.declared.rows.Rows.{Rows}

keys_differ : (image : List ℕ) (meta : HashMeta) → faults_by_rows AnyOrder image ≡ [] → HasMetadata (file_of image) (HashFields meta)
    → KeysDiffer (file_of image) meta
keys_differ image meta none has = record {
  none_comes_twice = λ p at.
      let file : File = file_of image in
      let on : Contains (faults_on file has.page) (fault_at (Contents KeyTwice) p) =
      in_flat_map (database_faults file) (fields_in (page_at file has.page)) (HashFields meta) (fault_at (Contents KeyTwice) p)
      (subst (λ page. Contains (fields_in page) (HashFields meta)) (sym has.is) (first_member (HashFields meta) [])) at in
      let listed : Contains (contents_faults file) (fault_at (Contents KeyTwice) p) =
      of_pages image (fault_at (Contents KeyTwice) p)
      (in_flat_map (faults_on file) (meta_pages file) has.page (fault_at (Contents KeyTwice) p)
      (at_meta file has.page has.inside (ap is_meta has.is)) on) in
      no_member (contents_by AnyOrder file) (fault_at (Contents KeyTwice) p) (contents_kept image none)
      (in_filter (counts file) (contents_faults file) (fault_at (Contents KeyTwice) p) listed refl);
}

pub has_new_keys : (image : List ℕ) (fields : Metadata) → faults_by_rows AnyOrder image ≡ [] → HasMetadata (file_of image) fields
    → HasNewKeys (file_of image) fields
has_new_keys image (BtreeFields meta) none has = tt
has_new_keys image (HashFields meta) none has = keys_differ image meta none has
has_new_keys image (QueueFields meta) none has = tt

-- Where no row counts, the databases can be read in any order.

pub read_in_any_order : (rows : Rows) (image : List ℕ) (all : List Database) → faults_by_rows rows image ≡ [] → all ≡ databases (file_of image)
    → IsReadable image all
read_in_any_order All image all none are = record { none_counts = fewer image none; all_are = are }
read_in_any_order AnyOrder image all none are = record { none_counts = none; all_are = are }
