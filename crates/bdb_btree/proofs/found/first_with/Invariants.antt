use Rattle.std.proofs.Common.{◌≡◌, length}
use Rattle.bdb_ranks.specs.of_overflow.Datum.{datum_seen}
use Rattle.bdb_btree.specs.Search.{from_key}
use Rattle.bdb_btree.proofs.found.first_with.Given as goal

-- No pair before those that are left has the key.
abbrev pub invariant-loop-pair : goal.invariant-loop-pair
invariant-loop-pair l = from_key (datum_seen l.key) l.pairs ≡ from_key (datum_seen l.key) l.initial.pairs

abbrev pub decreases-loop-pair : goal.decreases-loop-pair
decreases-loop-pair l = length l.pairs
