use Rattle.std.proofs.Common.{◌∙◌, ap, subst, sym}
use Rattle.bdb_mkhash.proofs.Common.{values_seen, Set, IsGrown, CanTakeContent}
use Rattle.bdb_mkhash.proofs.StoreLemmas.{set_found, set_put, set_short, set_there, takes_set}
use Rattle.bdb_mkhash.proofs.data.put_set.Goals as goal

pub unreachable-requires : goal.unreachable-requires
unreachable-requires c =
    set_there c.order-order.result (values_seen c.args.values) c.in_ok-run.run' c.as_slice.result.now c.over.result
    (set_short c.args.pages.now.size (values_seen c.args.values) c.requires.legal c.requires.form)
    c.in_ok-run.ensures c.as_slice.ensures c.over.ensures c.in_default.is

pub append_item-requires-clause-takes : goal.append_item-requires-clause-takes
append_item-requires-clause-takes c =
    let short = set_short c.args.pages.now.size (values_seen c.args.values) c.requires.legal c.requires.form in
    let found = set_found c.order-order.result (values_seen c.args.values) c.in_ok-run.run' c.as_slice.result.now c.over.result c.in-Some.set short
    c.in_ok-run.ensures c.as_slice.ensures c.over.ensures c.in-Some.is in
    subst (λ set. CanTakeContent c.args.pages.now c.args.page (Set set.blocks)) (sym found)
    (takes_set c.args.pages.now c.args.page (values_seen c.args.values) c.requires.open c.requires.form short c.requires.room)

pub append_item-requires-clause-same_order : goal.append_item-requires-clause-same_order
append_item-requires-clause-same_order c =
    let short = set_short c.args.pages.now.size (values_seen c.args.values) c.requires.legal c.requires.form in
    let found = set_found c.order-order.result (values_seen c.args.values) c.in_ok-run.run' c.as_slice.result.now c.over.result c.in-Some.set short
    c.in_ok-run.ensures c.as_slice.ensures c.over.ensures c.in-Some.is in
    ap (λ set. set.order) found ∙ c.order-order.ensures.order

pub returns : goal.returns
returns c =
    let short = set_short c.args.pages.now.size (values_seen c.args.values) c.requires.legal c.requires.form in
    let found = set_found c.order-order.result (values_seen c.args.values) c.in_ok-run.run' c.as_slice.result.now c.over.result c.in-Some.set short
    c.in_ok-run.ensures c.as_slice.ensures c.over.ensures c.in-Some.is in
    set_put c.args.page c.args.pages.now c.append_item.new.pages c.args.sorted (values_seen c.args.values) c.requires.open.there c.requires.form
    (subst (λ set. IsGrown c.args.page c.args.pages.now c.append_item.new.pages (Set set.blocks)) found c.append_item.ensures)
