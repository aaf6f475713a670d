use Rattle.bdb_image.specs.of_format.Terms.{file_of}
use Rattle.bdb_graph.specs.Blanks.{ArePassed}
use Rattle.bdb_graph.proofs.blanks.blanks_of.Given as goal

-- What is passed over of the chains so far has no data.
abbrev pub invariant-loop-page : goal.invariant-loop-page
invariant-loop-page l = ArePassed (file_of l.formed) l.nexts.items
