use Rattle.bdb_need.proofs.OpenLemmas.{put_new, put_open}
use Rattle.bdb_need.proofs.open_page.OpenPage.put.Goals as goal

pub returns-then-cost-self : goal.returns-then-cost-self
returns-then-cost-self c = put_open c.args.self.now.room c.args.self.now.closed c.args.self.now.left c.args.cost c.if-cost-self.true

pub returns-else-cost-self : goal.returns-else-cost-self
returns-else-cost-self c = put_new c.args.self.now.room c.args.self.now.closed c.args.self.now.left c.args.cost c.if-cost-self.false
