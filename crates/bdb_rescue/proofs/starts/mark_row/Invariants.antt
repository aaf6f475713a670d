use Rattle.std.specs.Prelude.{◌≡◌, ◌++◌, ℕ, List, length}
use Rattle.bdb_rescue.specs.Marks.{Marks}
use Rattle.bdb_rescue.proofs.starts.mark_row.Given as goal

abbrev pub invariant-loop-page : goal.invariant-loop-page
invariant-loop-page l = record {
  marks : (count : ℕ) (ps : List ℕ) → Marks count l.fn.taken ps → Marks count l.taken (ps ++ l.yielded);
  length : length l.taken ≡ length l.fn.taken;
  all : l.yielded ++ l.page-iterator ≡ l.fn.row;
}
