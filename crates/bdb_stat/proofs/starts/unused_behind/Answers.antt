use Rattle.std.proofs.Common.{◌∙◌}
use Rattle.bdb_law_turned.proofs.of_form.EndLemmas.{listed_index}
use Rattle.bdb_stat.proofs.ItemLemmas.{items_outside}
use Rattle.bdb_stat.proofs.starts.unused_behind.Goals as goal

pub bytes_in_none-requires-clause-room : goal.bytes_in_none-requires-clause-room
bytes_in_none-requires-clause-room g c = listed_index g.K.PageKind.page_type c.args.order c.args.page.now c.requires.code

pub returns-clause-unused : goal.returns-clause-unused
returns-clause-unused g c =
    c.bytes_in_none.ensures.unused
    ∙ items_outside g.K.LaidKind.item_end g.K.PageKind.no_item c.args.order c.args.page.now (g.K.PageKind.item_at c.args.order c.args.page.now)
    (g.K.EndKind.end c.args.order c.args.page.now) c.are_laid.ensures.ends
