use Rattle.std.proofs.Common.{◌≡◌, ◌∙◌, ap, subst, sym, IfOk}
use Rattle.bdb_need.proofs.Common.{records_per_page, table_size, table_units, unlined_pairs, filled_pairs, IsListOf, list_pages}
use Rattle.bdb_mkhash.specs.Table.{IsTableList}
use Rattle.bdb_need.proofs.FilledLemmas.{ascend_before, queue_filled, table_as_is}
use Rattle.bdb_need.proofs.sections.list_pages.Goals as goal

-- Of a hash nothing is filled up.
pub table_pages-requires-clause-list : goal.table_pages-requires-clause-list
table_pages-requires-clause-list c =
    let settings = c.args.settings.now in
    let pairs = c.args.list.now in
    subst (λ ps. IsTableList settings (unlined_pairs ps)) (table_as_is settings pairs c.in-Hash.is)
    (subst (λ k. IsListOf k settings (unlined_pairs (filled_pairs settings pairs))) c.in-Hash.is c.requires.list)

pub returns-in-Hash-clause-pages : goal.returns-in-Hash-clause-pages
returns-in-Hash-clause-pages c =
    let settings = c.args.settings.now in
    let pairs = c.args.list.now in
    let same : table_size settings.page_size settings.sorted (table_units (unlined_pairs pairs))
    ≡ list_pages settings.kind settings (unlined_pairs (filled_pairs settings pairs)) =
    ap (λ ps. table_size settings.page_size settings.sorted (table_units (unlined_pairs ps))) (sym (table_as_is settings pairs c.in-Hash.is))
    ∙ ap (λ k. list_pages k settings (unlined_pairs (filled_pairs settings pairs))) (sym c.in-Hash.is) in
    subst (λ n. IfOk c.table_pages.result (λ pages. pages ≡ n)) same c.table_pages.ensures.pages

-- Of a queue the numbers of the records are as they were.
pub queue_pages-requires-clause-ascend : goal.queue_pages-requires-clause-ascend
queue_pages-requires-clause-ascend c =
    let settings = c.args.settings.now in
    ascend_before settings 1 c.args.list.now
    (subst (λ k. IsListOf k settings (unlined_pairs (filled_pairs settings c.args.list.now))) c.in-Queue.is c.requires.list).1

pub returns-in-Queue-clause-pages : goal.returns-in-Queue-clause-pages
returns-in-Queue-clause-pages c =
    let settings = c.args.settings.now in
    let pairs = c.args.list.now in
    c.from.ensures ∙ c.queue_pages.ensures.pages
    ∙ sym (queue_filled settings (records_per_page settings.page_size settings.re_len) pairs)
    ∙ ap (λ k. list_pages k settings (unlined_pairs (filled_pairs settings pairs))) (sym c.in-Queue.is)
