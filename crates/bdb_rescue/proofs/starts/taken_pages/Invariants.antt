use Rattle.std.specs.List.{flat_map, range_with_len}
use Rattle.bdb_rescue.specs.Marks.{Marks, row_of}
use Rattle.bdb_rescue.proofs.starts.taken_pages.Given as goal

abbrev pub invariant-loop-page : goal.invariant-loop-page
invariant-loop-page l = Marks l.pages.count l.taken.items (flat_map (row_of l.pages l.starts) (range_with_len 0 l.page))
