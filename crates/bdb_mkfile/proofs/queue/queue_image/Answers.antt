use Rattle.std.proofs.Common.{arith, ◌∙◌}
use Rattle.bdb_text_format.specs.Terms.{pairs_of}
use Rattle.bdb_need.proofs.of_mkqueue.FileLemmas.{zero_first}
use Rattle.bdb_mkfile.proofs.QueueLemmas.{queue_filed}
use Rattle.bdb_mkfile.proofs.queue.queue_image.Goals as goal

pub put_queue_meta-requires-clause-zero : goal.put_queue_meta-requires-clause-zero
put_queue_meta-requires-clause-zero c =
    zero_first c.with_room-pages.result c.add.new.self c.build_queue.new.pages c.page_mut.result.now c.with_room-pages.ensures.pages c.in_ok-add.ensures.ok
    c.in_ok-meta.ensures.kept c.page_mut.ensures.value

pub returns : goal.returns
returns c =
    queue_filed c.args.settings.now (pairs_of c.args.list) c.with_room-pages.result c.add.new.self c.build_queue.new.pages c.in_ok-meta.meta c.count-last.result
    c.page_mut.result.now c.put_queue_meta.new.page c.from_bytes.result
    (record {
      kind = c.requires.kind;
      own = c.requires.own;
      size = c.with_room-pages.ensures.size;
      order = c.with_room-pages.ensures.order;
      added_is = c.in_ok-add.ensures.ok;
      queue = c.in_ok-meta.ensures;
      legal = c.count-last.ensures.legal;
      whole = c.count-last.ensures.whole;
      count_is = c.count-last.ensures.count;
      few = omega arith;
      lent_is = c.page_mut.ensures.value;
      bytes = c.put_queue_meta.ensures.page;
      fields = c.put_queue_meta.ensures.fields;
      image_is = c.from_bytes.ensures ∙ c.into_bytes.ensures;
    })
