use Rattle.std.proofs.Common.{◌≤◌, length, arith, subst}
use Rattle.bdb_mkqueue.proofs.Common.{length-map, take_all, pairs_of, slice_seen, unlined, IsQueueOn}
use Rattle.bdb_mkqueue.proofs.BuiltLemmas.{lengths_for, queue_built}
use Rattle.bdb_mkqueue.proofs.build.build_queue.Goals as goal

pub returns : goal.returns
returns c =
    let list = pairs_of c.args.list in
    let all : length list ≤ c.loop-place.place = omega (arith, c.loop-place-test.false, c.len-place-end.ensures, length-map (slice_seen c.args.list) unlined) in
    queue_built c.args.settings.now list c.args.pages.now c.loop-place.pages c.queue_meta-meta.result c.requires.list c.requires.size
    c.queue_meta-meta.ensures c.loop-place.invariant.room
    (subst (λ xs. IsQueueOn c.queue_meta-meta.result xs c.loop-place.pages) (take_all c.loop-place.place list all) c.loop-place.invariant.queue)
    c.loop-place.invariant.kept

pub push_record-requires-clause-long : goal.push_record-requires-clause-long
push_record-requires-clause-long c = lengths_for c.args.settings.now (pairs_of c.args.list) c.queue_meta-meta.result c.requires.list c.queue_meta-meta.ensures
