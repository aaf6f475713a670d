use Rattle.bdb_buckets.specs.Told.{joined_pages}
use Rattle.bdb_hash.proofs.HashedLemmas.{no_repeat}
use Rattle.bdb_hash.proofs.repeats.note_again.Goals as goal

pub returns-else-has_twice : goal.returns-else-has_twice
returns-else-has_twice g c =
    no_repeat (g.F.FaultSink.has_noted c.args.found.now) c.args.hashes.now.items (joined_pages c.args.pages) c.requires.hashes
    (c.has_twice.ensures c.if-has_twice.false)
