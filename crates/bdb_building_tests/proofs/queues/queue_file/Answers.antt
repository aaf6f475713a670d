use Rattle.std.proofs.Common.{arith}
use Rattle.bdb_need.specs.of_text_format.Terms.{pairs_of}
use Rattle.bdb_need.proofs.of_mkqueue.FileLemmas.{filed, zero_first}
use Rattle.bdb_building_tests.proofs.queues.queue_file.Goals as goal

pub put_queue_meta-requires-clause-zero : goal.put_queue_meta-requires-clause-zero
put_queue_meta-requires-clause-zero c =
    zero_first c.new-pages.result c.add.new.self c.build_queue.new.pages c.page_mut.result.now c.new-pages.ensures.pages c.in_ok-add.ensures.ok
    c.in_ok-meta.ensures.kept c.page_mut.ensures.value

pub returns : goal.returns
returns c =
    filed c.args.settings.now (pairs_of c.args.list) c.new-pages.result c.add.new.self c.build_queue.new.pages c.in_ok-meta.meta c.count-last.result
    c.page_mut.result.now c.put_queue_meta.new.page c.into_bytes.result c.new-pages.ensures.order c.in_ok-add.ensures.ok c.in_ok-meta.ensures
    c.count-last.ensures.legal c.count-last.ensures.whole c.count-last.ensures.count
    (omega arith) c.page_mut.ensures.value c.put_queue_meta.ensures.page
    c.put_queue_meta.ensures.fields c.into_bytes.ensures
