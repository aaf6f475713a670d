use Rattle.bdb_text.proofs.FieldLemmas.{cut_some, cut_none}
use Rattle.bdb_text.proofs.fields.field_of.Goals as goal

pub returns-in-Some : goal.returns-in-Some
returns-in-Some c = cut_some c.args.line.now c.in-Some.end c.in-Some.ensures.0.high c.in-Some.ensures.0.before c.in-Some.ensures.1

pub returns-in-None : goal.returns-in-None
returns-in-None c = cut_none c.args.line.now c.in-None.ensures
