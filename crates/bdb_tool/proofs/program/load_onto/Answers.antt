use Rattle.bdb_tool.proofs.OntoLemmas.{onto_runs, unread_runs}
use Rattle.bdb_tool.proofs.program.load_onto.Goals as goal

pub returns-in-Ok : goal.returns-in-Ok
returns-in-Ok g c = λ words are. onto_runs words c.args.limit c.in-Ok.text _ _ _ _ _ are c.in-Ok.ensures c.load_text_onto.ensures

pub returns-in-Err : goal.returns-in-Err
returns-in-Err g c = λ words are. unread_runs words c.args.limit _ _ _ _ _ _ c.in-Err.stop _ are c.in-Err.ensures c.stopped.ensures
