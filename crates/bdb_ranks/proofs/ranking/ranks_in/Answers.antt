use Rattle.std.proofs.Common.{◌≡◌, ◌<◌, cond, length, arith, sym, ◌∙◌, ap, subst, Some, nat_cmp}
use Rattle.std.specs.BTreeMap.{Updates}
use Rattle.std.proofs.lemmas.List.{get_or_default}
use Rattle.bdb_ranks.specs.Ranks.{is_above, no_chain}
use Rattle.bdb_ranks.proofs.RankLemmas.{ranked_on}
use Rattle.bdb_ranks.proofs.ranking.ranks_in.Goals as goal
use Rattle.bdb_ranks.proofs.ranking.ranks_in.Goals.{then-is_above, else-is_above}

-- The next chain has a rank too.
pub loop-i-preserved : goal.loop-i-preserved
loop-i-preserved c =
    let high : c.loop-i.i < length c.args.chains.now = omega arith in
    let next : c.if-is_above.rank ≡ cond (is_above c.args.chains.now c.loop-i.i) c.loop-i.i c.loop-i.rank =
    elim c.if-is_above.branch [
      | then-is_above w ↦ w.rank-is ∙ sym (ap (λ b. cond b c.loop-i.i c.loop-i.rank) (sym c.is_above.ensures ∙ w.if-is_above.true))
      | else-is_above w ↦ w.rank-is ∙ sym (ap (λ b. cond b c.loop-i.i c.loop-i.rank) (sym c.is_above.ensures ∙ w.if-is_above.false))
    ] in
    λ image are.
    ranked_on image c.args.chains.now c.loop-i.ranks c.insert.new.self c.loop-i.rank c.if-is_above.rank c.loop-i.i c.index-chains-i.result are c.requires
    (c.loop-i.invariant image are) high (c.index-chains-i.is ∙ get_or_default c.args.chains.now c.loop-i.i c.index-chains-i.result no_chain high) next
    (subst (λ head. Updates nat_cmp c.loop-i.ranks c.insert.new.self head (Some c.if-is_above.rank)) c.head.ensures c.in_ok-insert.ensures.updates)
