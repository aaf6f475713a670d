use Rattle.std.proofs.Common.{ℕ, Option, ◌≡◌, ◌∙◌, rules, option_map}
use Rattle.bdb_layout.specs.of_format.Terms.{entries_of, form_row_code, item_row}
use Rattle.bdb_layout.proofs.of_format.ItemLemmas.{least_below, least_items}
use Rattle.bdb_form.proofs.rows.least_item_row.Goals as goal

-- The least of all items is the first of the rows on all of them.
pub returns : goal.returns
returns g c =
    let row : ℕ → Option ℕ = item_row g.K.PageKind.page_type c.args.order c.args.page.now in
    let least : option_map form_row_code c.loop-index.least ≡ least_below row (entries_of c.args.order c.args.page.now) = search rules in
    least ∙ least_items g.K.PageKind.page_type c.args.order c.args.page.now
