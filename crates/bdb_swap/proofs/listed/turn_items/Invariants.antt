use Rattle.std.proofs.Common.{◌≡◌, length}
use Rattle.std.specs.List.{flat_map, range_with_len}
use Rattle.bdb_io.specs.of_format.Terms.{offset_of}
use Rattle.bdb_swap.specs.Turns.{Turns}
use Rattle.bdb_swap.proofs.listed.turn_items.Given as goal

-- The items so far are byte-swapped.
abbrev pub invariant-loop-i : goal.invariant-loop-i
invariant-loop-i g l = record {
  turns : Turns l.source
      (flat_map (λ i. g.K.TurnKind.fields (offset_of l.order l.source i) (g.K.PageKind.item_at l.order l.source i)) (range_with_len 0 l.i)) l.fn.page l.page;
  same : length l.page ≡ length l.fn.page;
}
