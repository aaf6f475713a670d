use Rattle.std.proofs.Common.{arith, ap, ◌∙◌, ◌≤◌}
use Rattle.std.proofs.lemmas.Nat.{mod_below}
use Rattle.bdb_queue.specs.Records.{data_in}
use Rattle.bdb_queue.proofs.FindLemmas.{none_past, record_under}
use Rattle.bdb_queue.proofs.QueueLemmas.{some_slots}
use Rattle.bdb_queue.proofs.lookup.record_after.Goals as goal

pub nonzero_div-before : goal.nonzero_div-before
nonzero_div-before g c = some_slots c.args.forest.now c.args.meta.now c.head-last.ensures.forest c.requires

pub nonzero_rem-number : goal.nonzero_rem-number
nonzero_rem-number g c = some_slots c.args.forest.now c.args.meta.now c.head-last.ensures.forest c.requires

pub record_on-requires-clause-slot : goal.record_on-requires-clause-slot
record_on-requires-clause-slot g c = mod_below c.args.number c.args.meta.now.per_page
    (some_slots c.args.forest.now c.args.meta.now c.head-last.ensures.forest c.requires)

pub returns-then-before-last-clause-data : goal.returns-then-before-last-clause-data
returns-then-before-last-clause-data g c =
    let some : 1 ≤ c.args.meta.now.per_page = omega (arith, some_slots c.args.forest.now c.args.meta.now c.head-last.ensures.forest c.requires) in
    none_past c.args.forest.now c.args.meta.now c.args.number some (omega
    (arith, c.if-before-last.true, c.head-last.ensures.last))

-- The one place of the number.
pub returns-clause-data : goal.returns-clause-data
returns-clause-data g c =
    let some : 1 ≤ c.args.meta.now.per_page = omega (arith, some_slots c.args.forest.now c.args.meta.now c.head-last.ensures.forest c.requires) in
    ap data_in c.record_on.ensures ∙ record_under c.args.forest.now c.args.meta.now c.args.number some
