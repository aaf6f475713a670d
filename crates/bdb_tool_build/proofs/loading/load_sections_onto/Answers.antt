use Rattle.bdb_onto.specs.Bases.{base_of}
use Rattle.bdb_tool_build.proofs.OntoLemmas.{onto_refused}
use Rattle.bdb_tool_build.proofs.loading.load_sections_onto.Goals as goal

pub returns-in-Err : goal.returns-in-Err
returns-in-Err c =
    onto_refused c.args.limit c.from.result (base_of c.args.sound.now) c.args.sections c.in-Err.error c.refusal_of.result c.from.ensures
    c.in-Err.ensures.refused c.refusal_of.ensures
