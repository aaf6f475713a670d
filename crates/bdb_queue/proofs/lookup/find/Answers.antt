use Rattle.std.proofs.Common.{◌≡◌, arith, ap, sym, ◌∙◌}
use Rattle.bdb_overflow.specs.of_format.Terms.{NumberKey, file_of, get, queue_list}
use Rattle.bdb_queue.proofs.FindLemmas.{none_under_zero}
use Rattle.bdb_queue.proofs.lookup.find.Goals as goal

-- No record has number 0.
pub returns-in-None-clause-data : goal.returns-in-None-clause-data
returns-in-None-clause-data g c =
    let zero : c.args.number ≡ 0 = omega (arith, c.in-None.ensures) in
    none_under_zero (file_of c.args.linked.now) c.args.meta.now
    ∙ ap (λ n. get (queue_list (file_of c.args.linked.now) c.args.meta.now) (NumberKey n)) (sym zero)
