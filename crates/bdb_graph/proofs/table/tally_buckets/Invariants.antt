use Rattle.std.proofs.Common.{◌+◌, ◌-◌}
use Rattle.bdb_image.specs.of_format.Terms.{file_of}
use Rattle.bdb_graph.proofs.TableLemmas.{AreTallied}
use Rattle.bdb_graph.proofs.table.tally_buckets.Given as goal

-- The buckets below this one are tallied and judged.
abbrev pub invariant-groups : goal.invariant-groups
invariant-groups l = AreTallied (file_of l.formed) l.fn.tallies l.tallies l.pages l.misfits l.holder l.buckets l.bucket

abbrev pub decreases-groups : goal.decreases-groups
decreases-groups l = l.buckets.max_bucket + 1 - l.bucket
