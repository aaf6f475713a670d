use Rattle.std.proofs.Common.{◌≡◌, length}
use Rattle.bdb_swap.specs.Turns.{pages_turned}
use Rattle.bdb_swap.proofs.ImageLemmas.{NoneBelow}
use Rattle.bdb_swap.proofs.image.turned_image.Given as goal

-- The pages so far are byte-swapped, and on none of them do items overlap.
abbrev pub invariant-loop-number : goal.invariant-loop-number
invariant-loop-number l = record {
  copied : l.copy.items ≡ pages_turned l.head l.image l.number;
  none : NoneBelow l.head l.image l.number;
  long : length l.ends ≡ 32768;
}
