use Rattle.std.proofs.Common.{ap, sym, ◌∙◌, ◌-◌}
use Rattle.bdb_apart.specs.of_format.Terms.{File}
use Rattle.bdb_apart.specs.of_survey.declared.guess.Guess.{Guess}
use Rattle.bdb_damage.proofs.WalkLemmas.{row_of_queue, row_of_tree}
use Rattle.bdb_damage.proofs.rows.row_at.Goals as goal

pub returns-then-queue : goal.returns-then-queue
returns-then-queue c =
    c.queue_row.ensures
    ∙ row_of_queue c.args.salvaged.now c.args.page c.guess-order.result.order c.bytes_at-bytes.result.now (sym c.requires.queue ∙ c.if-queue.true)
    (ap (λ (g : Guess). g.order) c.guess-order.ensures) c.bytes_at-bytes.ensures.bytes

pub returns-else-queue : goal.returns-else-queue
returns-else-queue c =
    c.tree_row.ensures
    ∙ row_of_tree c.args.salvaged.now c.args.page (c.count.result - 1) c.guess-order.result.order c.bytes_at-bytes.result.now
    (sym c.requires.queue ∙ c.if-queue.false)
    (ap (λ (g : Guess). g.order) c.guess-order.ensures) (ap (λ n. n - 1) (c.count.ensures.count ∙ ap (λ (f : File). f.count) c.pages.ensures))
    c.bytes_at-bytes.ensures.bytes
