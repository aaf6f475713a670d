use Rattle.std.proofs.Common.{◌-◌, arith}
use Rattle.bdb_mkfile.proofs.WritingLemmas.{put_is}
use Rattle.bdb_mkfile.proofs.named_metadata.put_meta.Goals as goal

pub returns : goal.returns
returns c =
    put_is c.args.pages.now c.args.number c.page_mut.result.now c.put_on.new.page c.order-order.result (c.count-last.result - 1) c.args.meta.now
    (record {
      there = c.requires.there;
      pages = record {
        legal = c.order-order.ensures.legal;
        some = omega (arith, c.requires.there);
        few = omega (arith, c.count-last.ensures.count);
        whole = c.order-order.ensures.whole;
      };
      order_is = c.order-order.ensures.order;
      last_is = omega (arith, c.count-last.ensures.count);
      lent = c.page_mut.ensures.value;
      long = c.put_on.auto.page;
      bytes = c.put_on.ensures.page;
      fields = c.put_on.ensures.fields;
    })
