use Rattle.std.proofs.Common.{◌++◌, length, flat_map}
use Rattle.bdb_hash_list.specs.Scanned.{IsListedOn}
use Rattle.bdb_buckets.specs.of_overflow.Datum.{datum_seen}
use Rattle.bdb_buckets.specs.Told.{entry_list, listed_told}
use Rattle.bdb_hash_list.proofs.listing.next_entry.Given as goal

-- The pairs that are left are all that were left at first.
abbrev pub invariant-loop-value : goal.invariant-loop-value
invariant-loop-value l = IsListedOn (entry_list (datum_seen l.fn.key) l.fn.values ++ flat_map listed_told l.fn.rest)
    (datum_seen l.key) l.values l.rest

abbrev pub decreases-loop-value : goal.decreases-loop-value
decreases-loop-value l = length l.rest
