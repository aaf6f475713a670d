use Rattle.bdb_image.proofs.RoleLemmas.{NoTable}
use Rattle.bdb_image.specs.of_format.Terms.{file_of}
use Rattle.bdb_graph.proofs.roles.has_table.Given as goal

-- No page passed is the metadata of a table.
abbrev pub invariant-loop-page : goal.invariant-loop-page
invariant-loop-page l = NoTable (file_of l.formed) l.page
