-- Rows of pages that name the one before them: no page comes twice, so turns up to the number of pages are enough.
use Rattle.std.specs.Prelude.{ℕ, Bool, List, IsTrue}
use Rattle.bdb_law_sums.specs.of_format.Terms.{File, Page}
use Rattle.bdb_law_sums.specs.of_graph.Forest.{AllDistinct}
use Rattle.bdb_survey.specs.Salvage.{follows}

-- pages that follow each other are all distinct, whatever bytes they stand for
abbrev pub NoPageTwiceInARow : Type 0
NoPageTwiceInARow = (file : File) (test : Page → Bool) (ps : List ℕ) → IsTrue (follows file test 0 ps) → AllDistinct ps
