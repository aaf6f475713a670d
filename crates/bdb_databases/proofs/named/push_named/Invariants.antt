use Rattle.std.proofs.Common.{◌≡◌, ◌++◌, take, flat_map}
use Rattle.bdb_recno.specs.of_format.Terms.{file_of}
use Rattle.bdb_databases.specs.Named.{entry_database}
use Rattle.bdb_databases.proofs.named.push_named.Given as goal

-- The databases of the entries so far are added.
abbrev pub invariant-loop-entry : goal.invariant-loop-entry
invariant-loop-entry l = l.databases.items ≡ l.fn.databases.items ++ flat_map (entry_database (file_of l.linked)) (take l.entry-index l.entries)
