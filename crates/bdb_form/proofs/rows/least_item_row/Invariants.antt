use Rattle.std.proofs.Common.{◌≡◌, option_map}
use Rattle.bdb_layout.specs.of_format.Terms.{form_row_code, item_row}
use Rattle.bdb_layout.proofs.of_format.ItemLemmas.{least_below}
use Rattle.bdb_form.proofs.rows.least_item_row.Given as goal

-- The least row of the items so far.
abbrev pub invariant-loop-index : goal.invariant-loop-index
invariant-loop-index g l = option_map form_row_code l.least ≡ least_below (item_row g.K.PageKind.page_type l.order l.page) l.index
