use Rattle.std.proofs.Common.{◌≡◌}
use Rattle.std.specs.List.{list_any}
use Rattle.bdb_tree.specs.of_format.Terms.{file_of, has_wrong_record, is_wrong_record, page_at}
use Rattle.bdb_tree.specs.Entries.{AreFit}
use Rattle.bdb_recno.proofs.lengths.has_wrong_record.Given as goal

-- No record passed has a wrong length.
abbrev pub invariant-loop-item : goal.invariant-loop-item
invariant-loop-item l = record {
  left :
      list_any (is_wrong_record (file_of l.forest) l.meta) l.item-iterator
      ≡ has_wrong_record (file_of l.forest) l.meta (page_at (file_of l.forest) l.page);
  fit : AreFit (file_of l.forest) l.item-iterator;
}
