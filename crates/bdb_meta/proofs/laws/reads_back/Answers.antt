use Rattle.std.proofs.Common.{ap, ◌∙◌, Ok}
use Rattle.bdb_layout.specs.of_format.declared.metadata.FileKind.TheVariants.{Btree, Hash, Queue}
use Rattle.bdb_layout.specs.of_format.Terms.{btree_bytes, btree_fields, form_fault, hash_fields, metadata_rows, queue_bytes, queue_fields, table_bytes}
use Rattle.bdb_meta.proofs.FieldLemmas.{btree_fields-bytes, hash_fields-bytes, queue_fields-bytes, spares-bytes}
use Rattle.bdb_meta.proofs.RowLemmas.{faulted-none}
use Rattle.bdb_meta.proofs.laws.reads_back.Goals as goal

pub returns : goal.returns
returns c = record {
  btree = λ order size number last meta fits none.
      let page = btree_bytes order size number last meta in
      faulted-none form_fault (metadata_rows order page number 0 Btree) (btree_fields order page) none
      ∙ ap Ok (btree_fields-bytes order size number last meta fits);
  table = λ order size number last elements meta fits spares none.
      let page = table_bytes order size number last elements meta in
      faulted-none form_fault (metadata_rows order page number last Hash) (hash_fields order page) none
      ∙ ap Ok (hash_fields-bytes order size number last elements meta fits (spares-bytes order size number last elements meta spares));
  queue = λ order size last meta fits none.
      let page = queue_bytes order size last meta in
      faulted-none form_fault (metadata_rows order page 0 0 Queue) (queue_fields order page) none ∙ ap Ok (queue_fields-bytes order size last meta fits);
}
