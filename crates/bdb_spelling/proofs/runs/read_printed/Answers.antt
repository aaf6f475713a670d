use Rattle.std.proofs.Common.{sym, true}
use Rattle.std.proofs.lemmas.Bool.{eqb-true}
use Rattle.bdb_spelling.proofs.RunLemmas.{read_whole, refused_behind, run_behind}
use Rattle.bdb_spelling.proofs.runs.read_printed.Goals as goal

pub loop-rest-preserved : goal.loop-rest-preserved
loop-rest-preserved c =
    rw c.in_ok-extend_from_slice.ensures.items
    (run_behind true c.args.text.now c.args.bytes.now.items c.loop-rest.bytes.items c.loop-rest.rest.now _ _ c.loop-rest.invariant c.in-Some.ensures.value)

pub returns-in_default-clause-err : goal.returns-in_default-clause-err
returns-in_default-clause-err c =
    refused_behind true c.args.text.now c.args.bytes.now.items c.loop-rest.bytes.items c.loop-rest.rest.now c.loop-rest.invariant c.in_default.ensures.value

pub returns-clause-ok : goal.returns-clause-ok
returns-clause-ok c = read_whole true c.args.text.now c.args.bytes.now.items c.loop-rest.bytes.items c.loop-rest.rest.now c.loop-rest.invariant
    (eqb-true _ _ (sym c.loop-rest-test.ensures))
