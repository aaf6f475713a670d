use Rattle.std.proofs.Common.{◌≡◌, ◌+◌, [], length, map, flat_map}
use Rattle.std.specs.List.{enumerate_from}
use Rattle.bdb_model.specs.of_format.Terms.{file_of, listed_entry, recno_list}
use Rattle.bdb_onto.specs.Bases.{text_pair}
use Rattle.bdb_ranks.specs.of_tree.Entries.{AreFit}
use Rattle.bdb_tool_build.specs.Gathered.{AreListing}
use Rattle.bdb_tool_build.proofs.tree.recno_pairs.Given as goal

-- The records so far, and those of the entries that are left, are those of the recno.
abbrev pub invariant-loop-entry : goal.invariant-loop-entry
invariant-loop-entry l = record {
  image : l.all.image ≡ l.fn.linked;
  fit : AreFit (file_of l.fn.linked) l.entries;
  pairs : AreListing l.fn.beside [] l.all.gathered.pairs (map text_pair (recno_list (file_of l.fn.linked) l.fn.meta.root))
      (map text_pair (flat_map (listed_entry (file_of l.fn.linked)) (enumerate_from (l.number + 1) l.entries)));
}

abbrev pub decreases-loop-entry : goal.decreases-loop-entry
decreases-loop-entry l = length l.entries
