use Rattle.std.proofs.Common.{◌≡◌, Some, None}
use Rattle.bdb_rescue.specs.Kept.{file_in}
use Rattle.bdb_apart.specs.Found.{found}
use Rattle.bdb_apart.specs.Left.{start_by}
use Rattle.bdb_apart.proofs.LeftLemmas.{loose_none, loose_some}
use Rattle.bdb_apart.proofs.left.loose_on.Goals as goal

pub returns-in-Some : goal.returns-in-Some
returns-in-Some c =
    let told : start_by (file_in c.args.apart.now) (found c.args.apart.now) c.args.page ≡ Some (c.in-Some.start, c.in-Some.holds) = cc in
    loose_some (file_in c.args.apart.now) (found c.args.apart.now) c.args.page c.in-Some.start c.in-Some.holds c.records_on.result told c.records_on.ensures

pub returns-in-None : goal.returns-in-None
returns-in-None c =
    let told : start_by (file_in c.args.apart.now) (found c.args.apart.now) c.args.page ≡ None = cc in
    loose_none (file_in c.args.apart.now) (found c.args.apart.now) c.args.page c.records_on-in-None.result told c.records_on-in-None.ensures
