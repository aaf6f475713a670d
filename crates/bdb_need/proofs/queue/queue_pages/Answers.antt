use Rattle.std.proofs.Common.{sym, ◌∙◌, ap}
use Rattle.bdb_mkqueue.specs.Layout.{page_of_record}
use Rattle.bdb_need.proofs.QueueLemmas.{greatest}
use Rattle.bdb_need.proofs.queue.queue_pages.Goals as goal

pub page_of_record-requires-clause-number : goal.page_of_record-requires-clause-number
page_of_record-requires-clause-number c =
    (greatest c.args.list.now _ _ c.in-Some.pair c.number_of.result c.as_slice.ensures c.last.ensures c.in-Some.is c.number_of.ensures c.requires.ascend).low

pub returns-in-Some-clause-pages : goal.returns-in-Some-clause-pages
returns-in-Some-clause-pages c =
    c.page_of_record.ensures
    ∙ (ap (λ k. page_of_record k c.number_of.result) c.records_per_page-per_page.ensures
    ∙ sym ((greatest c.args.list.now _ _ c.in-Some.pair c.number_of.result c.as_slice.ensures c.last.ensures c.in-Some.is c.number_of.ensures
    c.requires.ascend).size _))
