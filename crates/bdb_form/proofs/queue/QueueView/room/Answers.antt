use Rattle.std.proofs.Common.{arith, length-drop}
use Rattle.bdb_form.proofs.queue.QueueView.room.Goals as goal

pub returns : goal.returns
returns c = rw (← c.self.view_is) (omega (arith, length-drop 28 c.self.inside.page.bytes.now))
