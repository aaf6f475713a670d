use Rattle.std.proofs.Common.{◌≤◌, arith}
use Rattle.bdb_format.specs.Terms.{group}
use Rattle.bdb_layout.proofs.HashingLemmas.{group-le}
use Rattle.bdb_layout.proofs.hashing.page_of.Goals as goal

pub bounds-spares-group_of : goal.bounds-spares-group_of
bounds-spares-group_of c =
    let in_range : group c.args.bucket ≤ 31 = group-le c.args.bucket 31 (omega arith) c.requires in
    omega (arith, c.group_of.ensures)
