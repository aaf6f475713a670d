use Rattle.std.proofs.Common.{arith, ap, subst, Some, true, ◌≡◌, ◌∙◌}
use Rattle.bdb_mktree.proofs.Common.{slice_seen, has_key_at}
use Rattle.bdb_mktree.proofs.ListLemmas.{ends_at, goes_on_at, key_within, run_over}
use Rattle.bdb_mktree.proofs.runs.run_length.Goals as goal

pub loop-n-init : goal.loop-n-init
loop-n-init c = (omega (arith, goes_on_at c.args.key.now (slice_seen c.args.list) 0 c.requires), c.requires)

pub loop-n-preserved : goal.loop-n-preserved
loop-n-preserved c =
    let same : has_key_at c.args.key.now (slice_seen c.args.list) c.loop-n.n ≡ Some true = c.has_key_at.ensures ∙ ap Some c.if-not-has_key_at.false in (
      omega (arith, c.loop-n.invariant.0, goes_on_at c.args.key.now (slice_seen c.args.list) c.loop-n.n same),
      subst (λ n. has_key_at c.args.key.now (slice_seen c.args.list) n ≡ Some true) (omega arith) same,
    )

pub returns-then-not-has_key_at : goal.returns-then-not-has_key_at
returns-then-not-has_key_at c =
    omega (
      arith,
      c.loop-n.invariant.0,
      ends_at c.args.key.now (slice_seen c.args.list) c.loop-n.n (c.has_key_at.ensures ∙ ap Some c.if-not-has_key_at.true),
    )

pub returns : goal.returns
returns c =
    let some = key_within c.args.key.now (slice_seen c.args.list) 0 c.requires in
    omega (
      arith,
      c.loop-n.invariant.0,
      run_over c.args.key.now (slice_seen c.args.list) c.loop-n.n (omega (arith, some, c.len-n-end.ensures)),
      c.len.ensures,
      c.len-n-end.ensures,
      some,
    )
