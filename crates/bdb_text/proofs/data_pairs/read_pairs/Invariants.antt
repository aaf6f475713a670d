use Rattle.std.proofs.Common.{◌+◌, ◌≤◌, length}
use Rattle.bdb_spelling.specs.of_text_format.Terms.{ArePlaced, placed_pairs, text_lines}
use Rattle.bdb_text.specs.DataTo.{IsPairsTo}
use Rattle.bdb_text.specs.Fields.{values_in}
use Rattle.bdb_text.proofs.data_pairs.read_pairs.Given as goal

-- the lines so far give the pairs, which stand in the run
abbrev pub invariant-loop-rest : goal.invariant-loop-rest
invariant-loop-rest l = record {
  to : IsPairsTo (values_in l.fields) (text_lines l.text) l.start (placed_pairs l.bytes.items l.places.items) (text_lines l.rest) l.number;
  placed : ArePlaced l.bytes.items l.places.items;
  room : l.number + length l.rest ≤ l.start + length l.text;
  few : l.start + length l.places.items ≤ l.number;
}

abbrev pub decreases-loop-rest : goal.decreases-loop-rest
decreases-loop-rest l = length l.rest
