use Rattle.std.proofs.Common.{arith, sym, ◌∙◌}
use Rattle.std.proofs.lemmas.Bool.Decides.{nat_tests}
use Rattle.bdb_text_format.specs.Terms.{slice_seen}
use Rattle.bdb_text_format.proofs.PlacedLemmas.{joined_more, last_shared}
use Rattle.bdb_text_format.proofs.pairs.TextPairs.push_each.Goals as goal
use Rattle.bdb_text_format.proofs.pairs.TextPairs.push_each.Goals.{then-i-gt0, else-i-gt0}

-- The key that is shared is that of the pair which was added last.
pub push_beside-requires-clause-same : goal.push_beside-requires-clause-same
push_beside-requires-clause-same c =
    elim c.if-i-gt0.branch [
      | then-i-gt0 w ↦ λ shared.
          last_shared c.args.self.now c.loop-i.self (slice_seen c.args.pairs) c.loop-i.i _ c.loop-i.invariant (omega (arith, w.if-i-gt0.true)) c.at.ensures
          (w.share_key-shares_key.ensures.same (sym w.shares_key-is ∙ shared))
      | else-i-gt0 w ↦ λ shared. absurd (let is = sym shared ∙ w.shares_key-is in grind (arith, nat_tests, is, w.if-i-gt0.false))
    ]

pub loop-i-preserved : goal.loop-i-preserved
loop-i-preserved c =
    c.in_ok-push_beside.ensures.ok ∙ joined_more c.args.self.now c.loop-i.self (slice_seen c.args.pairs) c.loop-i.i _ c.loop-i.invariant c.at.ensures
