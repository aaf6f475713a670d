use Rattle.std.proofs.Common.{subst}
use Rattle.bdb_tree.specs.of_layout.Seen.{hash_content_seen}
use Rattle.bdb_tree.specs.of_overflow.Datum.{datum_seen}
use Rattle.bdb_buckets.specs.Chained.{IsHead}
use Rattle.bdb_buckets.specs.Told.{told_as}
use Rattle.bdb_buckets.proofs.HeadLemmas.{is_head}
use Rattle.bdb_buckets.proofs.pair.Pair.head.Goals as goal

pub returns : goal.returns
returns c =
    subst (IsHead c.self.inside.head) c.self.view_is
    (is_head c.self.inside.head c.self.inside.key c.self.inside.index
    (told_as c.self.inside.forest c.self.inside.page (datum_seen c.self.inside.key) (hash_content_seen c.self.inside.item)) c.self.invariant)
