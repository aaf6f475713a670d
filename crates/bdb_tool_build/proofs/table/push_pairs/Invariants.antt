use Rattle.std.proofs.Common.{map, flat_map}
use Rattle.bdb_file.specs.of_buckets.Chained.{AreOf}
use Rattle.bdb_file.specs.of_buckets.Told.{listed_told}
use Rattle.bdb_onto.specs.Bases.{text_pair}
use Rattle.bdb_tool_build.specs.Gathered.{AreListing}
use Rattle.bdb_tool_build.proofs.table.push_pairs.Given as goal

-- The pairs so far, and those of what is left, are those of all; what is left stands in the same image.
abbrev pub invariant-loop-pair : goal.invariant-loop-pair
invariant-loop-pair l = record {
  pairs : AreListing l.fn.beside l.fn.all.gathered.pairs l.all.gathered.pairs (map text_pair (flat_map listed_told l.fn.pairs))
      (map text_pair (flat_map listed_told l.pair-iterator));
  image : AreOf l.all.image l.pair-iterator;
}
