use Rattle.std.proofs.Common.{◌≡◌, ◌++◌, length, map, reverse}
use Rattle.bdb_onto.specs.Joining.{place_placed, placed_section}
use Rattle.bdb_onto.proofs.joining.with_places.Given as goal

-- The sections that were taken off are there with their places, the last one first.
abbrev pub invariant-loop-section : goal.invariant-loop-section
invariant-loop-section l = record {
  same : length l.places.items ≡ length l.sections;
  sections : l.fn.sections ≡ l.sections ++ map placed_section (reverse l.all.items);
  places : l.fn.places.items ≡ l.places.items ++ map place_placed (reverse l.all.items);
}

abbrev pub decreases-loop-section : goal.decreases-loop-section
decreases-loop-section l = length l.sections
