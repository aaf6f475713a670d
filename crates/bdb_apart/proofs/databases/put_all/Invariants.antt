use Rattle.std.specs.Prelude.{◌≡◌, ◌≤◌, ◌-◌, map}
use Rattle.std.specs.List.{flat_map, fold, range_with_len}
use Rattle.bdb_rescue.specs.Kept.{file_in}
use Rattle.bdb_apart.specs.Found.{entries, meta_by, with_found}
use Rattle.bdb_apart.specs.Names.{entry_found}
use Rattle.bdb_apart.proofs.databases.put_all.Given as goal

-- The databases of the pages below this one are put.
abbrev pub invariant-loop-page : goal.invariant-loop-page
invariant-loop-page l = record {
  within : l.page - 1 ≤ l.page-end - 1;
  put : map entry_found l.dbs.entries
      ≡ fold with_found (map entry_found l.fn.dbs.entries)
      (flat_map (meta_by l.named (file_in l.salvaged) (entries (file_in l.salvaged))) (range_with_len 1 (l.page - 1)));
}
