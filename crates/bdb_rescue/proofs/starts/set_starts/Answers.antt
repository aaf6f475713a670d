use Rattle.std.proofs.Common.{◌+◌, sym, ◌∙◌, subst, take}
use Rattle.bdb_rescue.specs.Marks.{Marks, starts_of}
use Rattle.bdb_rescue.proofs.MarkLemmas.{starts_more, written}
use Rattle.bdb_rescue.proofs.starts.set_starts.Goals as goal

-- One pair more.
pub loop-pair-preserved : goal.loop-pair-preserved
loop-pair-preserved c =
    subst (λ xs. Marks c.args.count xs (starts_of (take (c.loop-pair.pair-index + 1) c.args.pairs.now)))
    (sym (written c.mark_start.new.starts c.loop-pair.starts.items c.loop-pair.starts.len (c.mark_start.ensures.length ∙ c.deref_mut.ensures.len)))
    (subst (Marks c.args.count c.mark_start.new.starts) (sym (starts_more c.args.pairs.now c.loop-pair.pair-index _ c.loop-pair-test.true))
    (c.mark_start.ensures.marks c.args.count (starts_of (take c.loop-pair.pair-index c.args.pairs.now))
    (subst (λ xs. Marks c.args.count xs (starts_of (take c.loop-pair.pair-index c.args.pairs.now))) (sym c.deref_mut.ensures.value) c.loop-pair.invariant)))
