use Rattle.std.proofs.Common.{◌≡◌, map}
use Rattle.std.specs.List.{range_with_len}
use Rattle.bdb_image.specs.of_format.Terms.{file_of}
use Rattle.bdb_graph.specs.ChainLengths.{kept_length}
use Rattle.bdb_graph.proofs.chain_lengths.kept_lengths.Given as goal

-- What is kept of the pages below this one.
abbrev pub invariant-loop-page : goal.invariant-loop-page
invariant-loop-page l = l.kept.items ≡ map (kept_length (file_of l.formed)) (range_with_len 0 l.page)
