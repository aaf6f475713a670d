use Rattle.bdb_apart.proofs.RowLemmas.{put_before}
use Rattle.bdb_apart.proofs.rows.put.Goals as goal

pub returns-clause-rows : goal.returns-clause-rows
returns-clause-rows c = λ aboves is are. put_before aboves c.args.first.now c.args.next.now c.args.page c.args.above is c.requires.above c.requires.page are
