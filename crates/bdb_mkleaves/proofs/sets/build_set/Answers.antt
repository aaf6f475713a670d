use Rattle.std.proofs.Common.{subst}
use Rattle.bdb_mkleaves.proofs.Common.{values_seen, IsSetFilled}
use Rattle.bdb_mkleaves.proofs.SetLemmas.{set_built}
use Rattle.bdb_mkleaves.proofs.sets.build_set.Goals as goal

pub returns : goal.returns
returns c =
    let set = subst (λ t. IsSetFilled c.args.pages.now c.fill_set.new.pages t (values_seen c.args.values) c.in_ok-leaves.leaves) c.set_type.ensures
    c.in_ok-leaves.ensures in
    set_built c.args.pages.now c.fill_set.new.pages c.finish.new.pages c.args.sorted (values_seen c.args.values) c.in_ok-leaves.leaves c.in_ok-root.root set
    (c.in_ok-root.ensures _ set.closed set.units set.filled set.some)
