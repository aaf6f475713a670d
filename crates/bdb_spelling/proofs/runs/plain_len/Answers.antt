use Rattle.std.proofs.Common.{arith, length}
use Rattle.bdb_spelling.proofs.RunLemmas.{no_backslash}
use Rattle.bdb_spelling.proofs.runs.plain_len.Goals as goal

pub returns-in-Some-clause-plain : goal.returns-in-Some-clause-plain
returns-in-Some-clause-plain c =
    let within = c.in-Some.ensures.0.high in
    no_backslash c.args.text.now c.in-Some.end (omega arith) c.in-Some.ensures.0.before

pub returns-in-None-clause-plain : goal.returns-in-None-clause-plain
returns-in-None-clause-plain c = no_backslash c.args.text.now (length c.args.text.now) (omega arith) c.in-None.ensures
