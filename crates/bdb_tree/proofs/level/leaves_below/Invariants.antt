use Rattle.bdb_overflow.specs.of_format.Terms.{file_of, leaves}
use Rattle.bdb_tree.proofs.LevelLemmas.{IsLevel}
use Rattle.bdb_tree.proofs.TreeLemmas.{level}
use Rattle.bdb_tree.proofs.level.leaves_below.Given as goal

-- The pages stand for the leaves below the first one.
abbrev pub invariant-loop-turn : goal.invariant-loop-turn
invariant-loop-turn l = IsLevel (file_of l.forest) l.pages.items l._turn (level (file_of l.forest) l.page) (leaves (file_of l.forest) l.page)
