-- The lines of the error sink that don't come from an answer.
use Rattle.std.specs.Prelude.{ℕ, List, codes}
use Rattle.bdb_text_format.specs.Terms.{line}

abbrev pub read_fault_line : List ℕ
read_fault_line = line (codes "read fault")

abbrev pub write_fault_line : List ℕ
write_fault_line = line (codes "write fault")

abbrev pub memory_line : List ℕ
memory_line = line (codes "out of memory")
