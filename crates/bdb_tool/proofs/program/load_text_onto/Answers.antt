use Rattle.bdb_tool.specs.Parts.{BaseRead}
use Rattle.bdb_tool.proofs.OntoLemmas.{base_stopped}
use Rattle.bdb_tool.proofs.program.load_text_onto.Goals as goal

pub returns-in-Ok : goal.returns-in-Ok
returns-in-Ok g c = BaseRead c.in-Ok.image c.in-Ok.ensures c.answer_onto.ensures

pub returns-in-Err : goal.returns-in-Err
returns-in-Err g c = base_stopped c.args.limit c.args.text _ _ _ _ c.in-Err.stop _ c.in-Err.ensures c.tell_unread_base.ensures
