-- The lines of `stat`. Source: man/bdbtool.1.
use Rattle.std.specs.Prelude.{ℕ, List, ◌++◌, codes}
use Rattle.bdb_tool_print.specs.Survey.{figure_line}
use Rattle.bdb_stat.specs.declared.figures.Stat.{Stat}

-- of all pages, and of those of trees
abbrev pub tree_figures : Stat → List ℕ
tree_figures stat =
    figure_line (codes "pages") stat.pages
    ++ (figure_line (codes "meta") stat.meta ++ (figure_line (codes "internal") stat.internal ++ figure_line (codes "leaf") stat.leaf))

-- of other pages
abbrev pub other_figures : Stat → List ℕ
other_figures stat =
    figure_line (codes "hash") stat.hash
    ++ (figure_line (codes "overflow") stat.overflow ++ (figure_line (codes "free") stat.free ++ figure_line (codes "reserve") stat.reserve))

-- of queues, of what is behind the last page, and of all pages together
abbrev pub last_figures : Stat → List ℕ
last_figures stat =
    figure_line (codes "queue") stat.queue
    ++ (figure_line (codes "tail") stat.tail ++ (figure_line (codes "levels") stat.levels ++ figure_line (codes "unused") stat.unused))

abbrev pub figures_text : Stat → List ℕ
figures_text stat = tree_figures stat ++ (other_figures stat ++ last_figures stat)
