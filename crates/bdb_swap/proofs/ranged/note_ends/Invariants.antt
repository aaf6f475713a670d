use Rattle.std.proofs.Common.{◌≡◌, length}
use Rattle.bdb_io.specs.of_format.Terms.{offset_of}
use Rattle.bdb_swap.specs.Crossing.{AreEnds, AreNoted}
use Rattle.bdb_swap.proofs.ranged.note_ends.Given as goal

-- The ends of the items so far are noted.
abbrev pub invariant-loop-i : goal.invariant-loop-i
invariant-loop-i g l = record {
  ends : AreEnds l.ends l.i (offset_of l.order l.page) (λ i. g.K.EndKind.end l.order l.page (offset_of l.order l.page i));
  same : length l.ends ≡ length l.fn.ends;
  noted : AreNoted l.ends l.noted.first l.noted.places;
}
