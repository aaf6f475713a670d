use Rattle.bdb_buckets.proofs.PairLemmas.{set_inside}
use Rattle.bdb_buckets.proofs.pair.Pair.is_wrong_set.Goals as goal

pub page-requires : goal.page-requires
page-requires c = set_inside c.self.inside.forest c.in-OffPage.root (rw c.in-OffPage.is at c.self.invariant.read.pair)
