use Rattle.std.proofs.Common.{arith}
use Rattle.bdb_text_format.proofs.of_format.SizeLemmas.{size_bounds}
use Rattle.bdb_mkqueue.proofs.StepLemmas.{header_written}
use Rattle.bdb_mkqueue.proofs.build.begin_page.Goals as goal

pub returns : goal.returns
returns c =
    header_written c.args.pages.now c.args.number c.order-order.result _ _ c.order-order.ensures.whole c.requires
    (omega (arith, (size_bounds c.args.pages.now.size c.order-order.ensures.legal).0)) c.order-order.ensures.order
    c.page_mut.ensures.value c.put_header.ensures
