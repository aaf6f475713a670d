use Rattle.std.proofs.Common.{arith}
use Rattle.bdb_layout.proofs.HashingLemmas.{group-le}
use Rattle.bdb_meta.proofs.table.groups.Goals as goal

pub returns-clause-bound : goal.returns-clause-bound
returns-clause-bound c = rw c.group_of.ensures (omega (arith, group-le c.args.max_bucket 31 (omega arith) c.requires))
