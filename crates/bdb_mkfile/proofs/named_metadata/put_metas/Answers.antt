use Rattle.std.proofs.Common.{arith}
use Rattle.bdb_mkfile.proofs.WritingLemmas.{put_next}
use Rattle.bdb_mkfile.proofs.named_metadata.put_metas.Goals as goal

pub loop-meta-preserved : goal.loop-meta-preserved
loop-meta-preserved c = (
  put_next _ c.args.pages.now c.loop-meta.pages c.put_meta.new.pages c.args.beyond c.loop-meta.number c.loop-meta.meta-index c.args.metas.now
      c.loop-meta.invariant.0 c.put_meta.ensures c.loop-meta-test.true c.loop-meta.invariant.1
      (omega (arith, c.loop-meta.invariant.1, c.requires.room, c.loop-meta-test.true)),
  omega (arith, c.loop-meta.invariant.1, c.requires.room, c.loop-meta-test.true),
)
