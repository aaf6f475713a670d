use Rattle.bdb_image.specs.of_format.Terms.{file_of}
use Rattle.bdb_graph.proofs.ChainLengthLemmas.{IsAdded}
use Rattle.bdb_graph.proofs.chain_lengths.chain_length.Given as goal

-- What was added so far, and what the pages from here on hold, are the whole.
abbrev pub invariant-loop-turn : goal.invariant-loop-turn
invariant-loop-turn l = IsAdded (file_of l.formed) l.head l._turn l.page l.total
