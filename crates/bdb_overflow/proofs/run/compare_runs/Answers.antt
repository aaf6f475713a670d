use Rattle.std.proofs.Common.{arith, sym, ◌∙◌}
use Rattle.bdb_graph.specs.of_format.Terms.{joined}
use Rattle.bdb_overflow.specs.Runs.{run_seen}
use Rattle.bdb_overflow.proofs.RunLemmas.{alike, ends_decide, fronts_agree, fronts_decide}
use Rattle.bdb_overflow.proofs.run.compare_runs.Goals as goal

pub returns-then-n-eq0 : goal.returns-then-n-eq0
returns-then-n-eq0 c =
    let a = c.fill.new.self in
    let b = c.fill-in-loop-b.new.self in
    ends_decide c.compare.result a.front.now b.front.now (joined a.rest) (joined b.rest) (run_seen c.args.a) (run_seen c.args.b)
    (sym c.min-n.ensures ∙ c.if-n-eq0.true) c.compare.ensures
    c.fill.ensures.end c.fill-in-loop-b.ensures.end
    (alike (run_seen c.loop-b.a) (run_seen c.loop-b.b) (run_seen a) (run_seen b) (run_seen c.args.a) (run_seen c.args.b) c.fill.ensures.same
    c.fill-in-loop-b.ensures.same c.loop-b.invariant)

pub loop-b-preserved : goal.loop-b-preserved
loop-b-preserved c =
    let a = c.fill.new.self in
    let b = c.fill-in-loop-b.new.self in
    fronts_agree c.min-n.result a.front.now b.front.now (run_seen a) (run_seen b) (run_seen c.skip.new.self) (run_seen c.skip-in-Equal.new.self)
    (run_seen c.args.a) (run_seen c.args.b)
    c.in-Equal.ensures c.skip.ensures c.skip-in-Equal.ensures
    (alike (run_seen c.loop-b.a) (run_seen c.loop-b.b) (run_seen a) (run_seen b) (run_seen c.args.a) (run_seen c.args.b) c.fill.ensures.same
    c.fill-in-loop-b.ensures.same c.loop-b.invariant)

pub returns-in_default : goal.returns-in_default
returns-in_default c =
    let a = c.fill.new.self in
    let b = c.fill-in-loop-b.new.self in
    fronts_decide c.compare-in-loop-b.result c.min-n.result a.front.now b.front.now (joined a.rest) (joined b.rest) (run_seen c.args.a) (run_seen c.args.b)
    (omega (arith, c.min-n.ensures)) (omega (arith, c.min-n.ensures)) c.compare-in-loop-b.ensures c.in_default.not-Equal
    (alike (run_seen c.loop-b.a) (run_seen c.loop-b.b) (run_seen a) (run_seen b) (run_seen c.args.a) (run_seen c.args.b) c.fill.ensures.same
    c.fill-in-loop-b.ensures.same c.loop-b.invariant)
