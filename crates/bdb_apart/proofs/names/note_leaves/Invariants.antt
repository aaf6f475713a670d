use Rattle.std.specs.List.{filter, flat_map, range_with_len}
use Rattle.bdb_rescue.specs.Kept.{file_in}
use Rattle.bdb_apart.specs.Found.{entries_on, is_master_leaf}
use Rattle.bdb_apart.specs.Names.{AreNoted}
use Rattle.bdb_apart.proofs.names.note_leaves.Given as goal

-- The names that the pages below this one give are noted.
abbrev pub invariant-loop-page : goal.invariant-loop-page
invariant-loop-page l =
    AreNoted l.fn.names l.names
    (flat_map (entries_on (file_in l.salvaged)) (filter (is_master_leaf (file_in l.salvaged)) (range_with_len 0 l.page)))
