use Rattle.std.proofs.Common.{◌≡◌, length, arith, ap}
use Rattle.bdb_rescue.specs.Kept.{file_in}
use Rattle.bdb_apart.proofs.MetaLemmas.{are_below, aboves_len}
use Rattle.bdb_apart.proofs.apart.apart_of.Goals as goal

-- There are few pages.
pub of-requires-2-clause-few : goal.of-requires-2-clause-few
of-requires-2-clause-few g c =
    let len : length c.in_ok-aboves.field-0.items ≡ (file_in c.args.salvaged.now).count =
    aboves_len (file_in c.args.salvaged.now) c.in_ok-aboves.field-0.items c.in_ok-aboves.ensures in
    omega (arith, len, c.count-count.ensures.count, c.count-count.ensures.few, ap (λ f. f.count) c.pages.ensures)

-- Pages are below pages that are there.
pub of-requires-2-clause-within : goal.of-requires-2-clause-within
of-requires-2-clause-within g c = are_below c.args.salvaged.now c.in_ok-aboves.field-0.items c.in_ok-aboves.ensures
