use Rattle.std.proofs.Common.{◌≤◌, ◌∙◌, length, sym, arith, rules}
use Rattle.bdb_layout.specs.of_format.Terms.{file_row_code, head_of}
use Rattle.bdb_meta.specs.RowGroups.{length_rows}
use Rattle.bdb_meta.proofs.RowLemmas.{answer-code, answer-value, head_rows-version, head_rows-pages, head_rows-length}
use Rattle.bdb_meta.proofs.file_head.checked_head.Goals as goal

pub returns-in_err-check_version : goal.returns-in_err-check_version
returns-in_err-check_version c =
    let long : 512 ≤ length c.args.image.now = omega arith in
    rw (head_rows-version c.args.image.now (head_of c.args.image.now) (file_row_code c.in_err-check_version.field-0.0) long
    (sym c.in_err-check_version.ensures)) (search rules)

pub returns-in_err-check_pages : goal.returns-in_err-check_pages
returns-in_err-check_pages c =
    let long : 512 ≤ length c.args.image.now = omega arith in
    rw (head_rows-pages c.args.image.now (head_of c.args.image.now) (file_row_code c.in_err-check_pages.field-0.0) long (sym c.in_ok-check_version.ensures)
    (sym c.in_err-check_pages.ensures.rows)) (search rules)

pub returns-in_err-check_length : goal.returns-in_err-check_length
returns-in_err-check_length c =
    let long : 512 ≤ length c.args.image.now = omega arith in
    let groups = head_rows-length c.args.image.now (head_of c.args.image.now) long (sym c.in_ok-check_version.ensures) (sym c.in_ok-check_pages.ensures.rows) in
    rw (groups ∙ answer-code (length_rows c.args.image.now) (head_of c.args.image.now) (file_row_code c.in_err-check_length.field-0.0)
    (sym c.in_err-check_length.ensures))
    (search rules)

pub returns : goal.returns
returns c =
    let long : 512 ≤ length c.args.image.now = omega arith in
    let groups = head_rows-length c.args.image.now (head_of c.args.image.now) long (sym c.in_ok-check_version.ensures) (sym c.in_ok-check_pages.ensures.rows) in
    rw c.head_of-head.ensures (sym (groups ∙ answer-value (length_rows c.args.image.now) (head_of c.args.image.now) (sym c.in_ok-check_length.ensures)))
