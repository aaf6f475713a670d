use Rattle.std.proofs.Common.{◌<◌, arith, length}
use Rattle.bdb_mkhash.proofs.buckets.table_cost.Goals as goal

pub keyed_cost-requires-clause-some : goal.keyed_cost-requires-clause-some
keyed_cost-requires-clause-some c =
    let many = c.run_at-run.ensures.many in let ahead = c.run_at-run.ensures.ahead in omega (arith, many, ahead)
