use Rattle.std.proofs.Common.{◌≡◌, ◌++◌, map}
use Rattle.bdb_btree.specs.Held.{AreKeyed, stored_as}
use Rattle.bdb_btree.specs.Pairs.{AreFit}
use Rattle.bdb_master.specs.Entries.{live_entries}
use Rattle.bdb_format.specs.Terms.{file_of}
use Rattle.bdb_master.proofs.entry.push_live.Given as goal

-- The pairs so far, and those that are left behind them, whose items name what is there.
abbrev pub invariant-loop-pair : goal.invariant-loop-pair
invariant-loop-pair l = record {
  entries : l.entries.items ++ live_entries (file_of l.fn.known) l.pair-iterator ≡ l.fn.entries.items ++ live_entries (file_of l.fn.known) l.fn.pairs;
  keyed : AreKeyed (file_of l.fn.known) l.pair-iterator;
  fits : AreFit (file_of l.fn.known) (map (stored_as (file_of l.fn.known)) l.pair-iterator);
  same : l.known ≡ l.fn.known;
}
