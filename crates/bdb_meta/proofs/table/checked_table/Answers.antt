use Rattle.std.proofs.Common.{sym, ◌∙◌, rules}
use Rattle.bdb_layout.specs.of_format.declared.metadata.FileKind.TheVariants.{Hash}
use Rattle.bdb_layout.specs.of_format.Terms.{form_row_code, hash_fields, table_rows}
use Rattle.bdb_meta.proofs.RowLemmas.{answer-code, answer-value, metadata-common, metadata-kind}
use Rattle.bdb_meta.proofs.table.checked_table.Goals as goal

pub returns-in_err-check_common : goal.returns-in_err-check_common
returns-in_err-check_common c =
    let page = c.args.page.now in
    rw (metadata-common c.args.order page c.args.number c.args.last Hash (hash_fields c.args.order page) (form_row_code c.in_err-check_common.field-0.0)
    (sym c.in_err-check_common.ensures)) (search rules)

pub returns-in_err-check_table : goal.returns-in_err-check_table
returns-in_err-check_table c =
    let page = c.args.page.now in
    let fields = hash_fields c.args.order page in
    let kind = metadata-kind c.args.order page c.args.number c.args.last Hash fields (sym c.in_ok-check_common.ensures) in
    rw (kind ∙ answer-code (table_rows c.args.order page c.args.last) fields (form_row_code c.in_err-check_table.field-0.0)
    (sym c.in_err-check_table.ensures)) (search rules)

pub returns : goal.returns
returns c =
    let page = c.args.page.now in
    let fields = hash_fields c.args.order page in
    let kind = metadata-kind c.args.order page c.args.number c.args.last Hash fields (sym c.in_ok-check_common.ensures) in
    rw c.hash_fields-meta.ensures (sym (kind ∙ answer-value (table_rows c.args.order page c.args.last) fields (sym c.in_ok-check_table.ensures)))
