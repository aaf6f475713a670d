use Rattle.std.proofs.Common.{sym, arith}
use Rattle.std.proofs.lemmas.Bool.{eqb-false, eqb-true}
use Rattle.bdb_text.proofs.SectionLemmas.{empty_fault, text_begun, text_ended, text_more}
use Rattle.bdb_text.proofs.dump.read_dump.Goals as goal

pub returns-then-is_empty-clause-err : goal.returns-then-is_empty-clause-err
returns-then-is_empty-clause-err c = rw c.fault_at.ensures (empty_fault c.args.text.now (eqb-true _ _ (sym c.if-is_empty.ensures)))

pub loop-rest-init : goal.loop-rest-init
loop-rest-init c = record {
  to = rw c.new-earlier.ensures (text_begun c.args.text.now (eqb-false _ _ (sym c.if-is_empty.ensures)));
  room = omega arith;
}

pub loop-rest-preserved : goal.loop-rest-preserved
loop-rest-preserved c = record {
  to = rw c.in-Ok.ensures
      (text_more c.args.text.now c.loop-rest.earlier c.loop-rest.rest.now c.loop-rest.number c.in_ok-read.read c.loop-rest.invariant.to
      c.in_ok-read.ensures.ok);
  room = omega (arith, c.loop-rest.invariant.room, c.in_ok-read.ensures.within);
}

pub returns-clause-ok : goal.returns-clause-ok
returns-clause-ok c =
    rw c.into_sections.ensures
    (text_ended c.args.text.now c.loop-rest.earlier c.loop-rest.rest.now c.loop-rest.number c.loop-rest.invariant.to
    (eqb-true _ _ (sym c.loop-rest-test.ensures)))
