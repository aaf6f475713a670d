use Rattle.std.proofs.Common.{◌+◌, ◌∙◌, ap, arith, drop, sym, ◌&&◌}
use Rattle.bdb_mkfile.proofs.Common.{list_all, slice_seen, is_short_pair}
use Rattle.bdb_mkfile.proofs.LengthLemmas.{all_on, all_past}
use Rattle.bdb_mkfile.proofs.lengths.are_short_pairs.Goals as goal

pub loop-i-preserved : goal.loop-i-preserved
loop-i-preserved c =
    c.loop-i.invariant
    ∙ (all_on (slice_seen c.args.pairs) c.loop-i.i _ c.is_short_pair.result c.at.ensures c.is_short_pair.ensures
    ∙ ap (λ b. b && list_all is_short_pair (drop (c.loop-i.i + 1) (slice_seen c.args.pairs))) c.if-not-is_short_pair.false)

pub returns-then-not-is_short_pair : goal.returns-then-not-is_short_pair
returns-then-not-is_short_pair c =
    sym (c.loop-i.invariant
    ∙ (all_on (slice_seen c.args.pairs) c.loop-i.i _ c.is_short_pair.result c.at.ensures c.is_short_pair.ensures
    ∙ ap (λ b. b && list_all is_short_pair (drop (c.loop-i.i + 1) (slice_seen c.args.pairs))) c.if-not-is_short_pair.true))

pub returns : goal.returns
returns c = sym (c.loop-i.invariant ∙ all_past (slice_seen c.args.pairs) c.loop-i.i (omega arith))
