use Rattle.std.proofs.Common.{◌≡◌, ◌<◌, arith, ap, sym, ◌∙◌}
use Rattle.bdb_image.specs.of_format.declared.metadata.Head.{Head}
use Rattle.bdb_image.specs.of_format.Terms.{file_of}
use Rattle.bdb_image.proofs.of_format.FileLemmas.{count_is}
use Rattle.bdb_graph.proofs.ChainLengthLemmas.{at_end, at_last, at_next, at_start, sum_fits}
use Rattle.bdb_graph.proofs.chain_lengths.chain_length.Goals as goal

pub loop-turn-init : goal.loop-turn-init
loop-turn-init c = at_start (file_of c.args.formed.now) c.args.head

-- An image has few bytes, and each of its pages is added once at most.
pub overflow_add-total : goal.overflow_add-total
overflow_add-total c =
    omega (
      arith,
      sum_fits c.args.formed.now c.head-turn-end.result c.loop-turn._turn c.loop-turn.total c.link_at-link.result.length c.head-turn-end.ensures.formed
          c.loop-turn-test.true c.loop-turn.invariant.short c.link_at-link.ensures.short,
    )

pub returns-then-link-eq0 : goal.returns-then-link-eq0
returns-then-link-eq0 c =
    let pages : (file_of c.args.formed.now).count ≡ c.head-turn-end.result.pages =
    count_is c.args.formed.now ∙ ap (λ (head : Head). head.pages) (sym c.head-turn-end.ensures.head) in
    let below : c.loop-turn._turn < (file_of c.args.formed.now).count = omega (arith, pages, c.loop-turn-test.true) in
    at_last (file_of c.args.formed.now) c.args.head c.loop-turn._turn c.loop-turn.page c.loop-turn.total c.link_at-link.result.length c.link_at-link.result.next
    c.loop-turn.invariant below c.link_at-link.ensures.length c.link_at-link.ensures.next c.if-link-eq0.true

pub loop-turn-preserved : goal.loop-turn-preserved
loop-turn-preserved c =
    let pages : (file_of c.args.formed.now).count ≡ c.head-turn-end.result.pages =
    count_is c.args.formed.now ∙ ap (λ (head : Head). head.pages) (sym c.head-turn-end.ensures.head) in
    let below : c.loop-turn._turn < (file_of c.args.formed.now).count = omega (arith, pages, c.loop-turn-test.true) in
    at_next (file_of c.args.formed.now) c.args.head c.loop-turn._turn c.loop-turn.page c.loop-turn.total c.link_at-link.result.length c.link_at-link.result.next
    c.loop-turn.invariant below c.link_at-link.ensures.length c.link_at-link.ensures.next c.link_at-link.ensures.short c.if-link-eq0.false

pub returns : goal.returns
returns c =
    let pages : (file_of c.args.formed.now).count ≡ c.head-turn-end.result.pages =
    count_is c.args.formed.now ∙ ap (λ (head : Head). head.pages) (sym c.head-turn-end.ensures.head) in
    at_end (file_of c.args.formed.now) c.args.head c.loop-turn._turn c.loop-turn.page c.loop-turn.total c.loop-turn.invariant
    (omega (arith, pages, c.loop-turn-test.false))
