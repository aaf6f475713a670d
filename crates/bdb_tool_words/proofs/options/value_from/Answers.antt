use Rattle.std.proofs.Common.{drop, map, subst, sym}
use Rattle.bdb_tool_words.specs.Arguments.{arguments}
use Rattle.bdb_tool_words.specs.ArgumentsSeen.{option_seen}
use Rattle.bdb_tool_words.proofs.ReadLemmas.{IsLeft, left_found, left_more}
use Rattle.bdb_tool_words.proofs.options.value_from.Goals as goal

pub returns-in-Given : goal.returns-in-Given
returns-in-Given c =
    let step = rw c.in-Given.is at c.in_ok-step_at.ensures in
    let all = arguments (map option_seen c.args.options.now) (drop c.args.place c.args.words.now) in
    left_found c.args.word.now all (arguments (map option_seen c.args.options.now) (drop c.in-Given.field-1 c.args.words.now)) c.in-Given.given.word.now
    c.in-Given.given.value.now (subst (λ rest. IsLeft c.args.word.now all rest) step.2 c.loop-at.invariant) (sym c.if-eq.ensures)

pub loop-at-preserved : goal.loop-at-preserved
loop-at-preserved c =
    let step = rw c.in-Given.is at c.in_ok-step_at.ensures in
    let all = arguments (map option_seen c.args.options.now) (drop c.args.place c.args.words.now) in
    left_more c.args.word.now all (arguments (map option_seen c.args.options.now) (drop c.in-Given.field-1 c.args.words.now)) c.in-Given.given.word.now
    c.in-Given.given.value.now (subst (λ rest. IsLeft c.args.word.now all rest) step.2 c.loop-at.invariant) (sym c.if-eq.ensures)
