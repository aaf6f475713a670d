use Rattle.std.proofs.Common.{sym, ap, ◌∙◌, is_some}
use Rattle.std.proofs.lemmas.Bool.{eqb-true}
use Rattle.bdb_spelling.proofs.ReadingLemmas.{is_some-empty}
use Rattle.bdb_spelling.proofs.RunLemmas.{is_some-behind}
use Rattle.bdb_spelling.proofs.spellings.is_spelling.Goals as goal

pub returns : goal.returns
returns c = is_some-empty c.args.print c.args.text.now c.loop-rest.rest.now c.loop-rest.invariant (eqb-true _ _ (sym c.loop-rest-test.ensures))

pub loop-rest-preserved : goal.loop-rest-preserved
loop-rest-preserved c = is_some-behind c.args.print c.args.text.now c.loop-rest.rest.now _ _ c.loop-rest.invariant c.in-Some.ensures.value

pub returns-in-None : goal.returns-in-None
returns-in-None c = sym (c.loop-rest.invariant ∙ ap is_some c.in-None.ensures.value)
