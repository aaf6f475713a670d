use Rattle.std.proofs.Common.{◌∙◌}
use Rattle.bdb_hash.proofs.PassedLemmas.{bucket_passed, bucket_strays}
use Rattle.bdb_hash.proofs.contents.note_by_bucket.Goals as goal

pub loop-b-preserved : goal.loop-b-preserved
loop-b-preserved g c = record {
  noted =
      bucket_passed c.args.linked.now c.args.meta.now c.loop-b.b (g.F.FaultSink.has_noted c.args.found.now)
      (g.F.FaultSink.has_noted c.loop-b.found) (g.F.FaultSink.has_noted c.note_bucket.new.found) (g.F.FaultSink.has_noted c.note_again.new.found) _
      c.note_bucket.new.passed c.bucket_pages.result c.bucket_pages-in-loop-b.result c.loop-b.invariant.noted c.bucket_pages.ensures.pages
      c.in_ok-note_bucket.ensures.passes c.bucket_pages-in-loop-b.ensures.pages c.in_ok-note_again.ensures;
  stray =
      bucket_strays c.args.linked.now c.args.meta.now c.loop-b.b (g.F.FaultSink.has_noted c.loop-b.found)
      (g.F.FaultSink.has_noted c.note_bucket.new.found) _ c.note_bucket.new.passed c.bucket_pages.result c.loop-b.invariant.stray
      c.bucket_pages.ensures.pages c.in_ok-note_bucket.ensures.passes;
  known = c.in_ok-note_bucket.ensures.same ∙ c.loop-b.invariant.known;
}
