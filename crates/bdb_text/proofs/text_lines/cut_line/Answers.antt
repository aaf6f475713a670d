use Rattle.bdb_text.proofs.CutLemmas.{cut_some, cut_none}
use Rattle.bdb_text.proofs.text_lines.cut_line.Goals as goal

pub returns-in-Some-clause-lines : goal.returns-in-Some-clause-lines
returns-in-Some-clause-lines c = cut_some c.args.text.now c.in-Some.end c.in-Some.ensures.0.high c.in-Some.ensures.0.before c.in-Some.ensures.1

pub returns-in-None-clause-lines : goal.returns-in-None-clause-lines
returns-in-None-clause-lines c = cut_none c.args.text.now c.requires c.in-None.ensures
