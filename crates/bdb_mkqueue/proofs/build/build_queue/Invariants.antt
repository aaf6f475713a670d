use Rattle.std.proofs.Common.{take}
use Rattle.bdb_mkqueue.proofs.Common.{pairs_of, HasRoom, IsQueueOn, KeepsFirst}
use Rattle.bdb_mkqueue.proofs.build.build_queue.Given as goal

abbrev pub invariant-loop-place : goal.invariant-loop-place
invariant-loop-place l = record {
  room : HasRoom l.pages.size l.meta;
  queue : IsQueueOn l.meta (take l.place (pairs_of l.list)) l.pages;
  kept : KeepsFirst l.fn.pages l.pages;
}
