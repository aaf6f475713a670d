use Rattle.std.proofs.Common.{◌≡◌, ◌++◌, map}
use Rattle.bdb_repair.specs.Apart.{section_in}
use Rattle.bdb_repair.proofs.apart.push_sections.Given as goal

-- The sections so far, and those of the databases that are left, are all.
abbrev pub invariant-loop-db : goal.invariant-loop-db
invariant-loop-db l = l.sections ++ map section_in l.db-iterator ≡ l.initial.sections ++ map section_in l.fn.dbs
