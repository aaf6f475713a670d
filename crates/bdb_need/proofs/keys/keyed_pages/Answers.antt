use Rattle.std.proofs.Common.{◌∙◌, arith, drop}
use Rattle.bdb_need.proofs.Common.{values_seen, pairs_of, slice_seen, own_pages, KeyedUnit, keyed_units}
use Rattle.bdb_need.proofs.KeyLemmas.{keys_end, leaves_here, own_next, unit_short}
use Rattle.bdb_need.proofs.TreeLemmas.{keyed_next}
use Rattle.bdb_need.proofs.keys.keyed_pages.Goals as goal

pub own_pages-requires-clause-short : goal.own_pages-requires-clause-short
own_pages-requires-clause-short c =
    unit_short (own_pages c.args.size c.args.sorted) (slice_seen c.args.pairs) c.loop-start.start _ _
    (KeyedUnit c.run_at-run.result.key.now (values_seen c.run_at-run.result.values)) c.loop-start.invariant.passed c.run_at-run.ensures

pub loop-start-preserved : goal.loop-start-preserved
loop-start-preserved c =
    let pairs = slice_seen c.args.pairs in
    let list = pairs_of c.args.pairs in
    let run = c.run_at-run.result in
    let unit = KeyedUnit run.key.now (values_seen run.values) in
    let before = c.loop-start.invariant in
    let put = c.in_ok-put.ensures in
    record {
      passed =
          own_next (own_pages c.args.size c.args.sorted) pairs c.loop-start.start run.end c.loop-start.own c.in_ok-own.field-0 unit before.passed
          c.run_at-run.ensures c.in_ok-own.ensures.pages c.in_ok-own.ensures.few;
      leaves =
          keyed_next c.args.size c.loop-start.leaves.left c.put.new.self.left c.loop-start.leaves.room c.leaf_cost-taken.result.cost
          c.key_item_cost.result (keyed_units list) (keyed_units (drop run.end list)) unit c.loop-start.leaves.items.items c.put.new.self.items.items
          (leaves_here c.args.size c.args.sorted pairs c.loop-start.start run.end c.loop-start.own c.loop-start.leaves.left c.loop-start.leaves.room
          c.loop-start.leaves.items.items unit before c.run_at-run.ensures)
          before.room_is c.leaf_cost-taken.ensures.cost c.key_item_cost.ensures.cost c.key_item_cost.ensures.fits put.left put.same put.begun put.more;
      room_is = put.room ∙ before.room_is;
      count = let few = put.few in let count = before.count in let ahead = c.run_at-run.ensures.ahead in omega (arith, few, count, ahead);
    }

pub returns-clause-pages : goal.returns-clause-pages
returns-clause-pages c =
    keys_end c.args.size c.args.sorted (slice_seen c.args.pairs) c.loop-start.start c.loop-start.own c.loop-start.leaves.left c.loop-start.leaves.room
    c.tree_pages.result c.loop-start.leaves.items.items (omega arith) c.loop-start.invariant c.tree_pages.ensures.pages
