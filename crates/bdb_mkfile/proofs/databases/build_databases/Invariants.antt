use Rattle.std.proofs.Common.{◌≡◌, List, ◌++◌, length}
use Rattle.bdb_mkfile.proofs.Common.{Section, AreDatabasesBuilt}
use Rattle.bdb_mkfile.proofs.databases.build_databases.Given as goal

-- The databases of the sections that were taken off are built.
abbrev pub invariant-loop-section : goal.invariant-loop-section
invariant-loop-section l = (done : List Section) × (l.fn.sections ≡ l.sections ++ done) × AreDatabasesBuilt done l.fn.pages l.pages l.metas.items

abbrev pub decreases-loop-section : goal.decreases-loop-section
decreases-loop-section l = length l.sections
