use Rattle.std.proofs.Common.{refl, arith, ◌^◌, nat_lt}
use Rattle.std.proofs.lemmas.Bool.{ltb-true, lt-ltb}
use Rattle.bdb_format.specs.Terms.{group}
use Rattle.bdb_format.proofs.GroupLemmas.{least_passing, first_passes}
use Rattle.bdb_format.proofs.laws.groups.Goals as goal

pub returns-clause-above : goal.returns-clause-above
unfolding group
returns-clause-above c =
    let bucket = c.args.bucket in
    ltb-true bucket _ (first_passes (λ g. nat_lt bucket (2 ^ g)) 0 33 33 32 (omega arith) (omega arith) (lt-ltb bucket (2 ^ 32) (omega arith)))

pub returns-clause-least : goal.returns-clause-least
unfolding group
returns-clause-least c = λ g above. least_passing (λ g. nat_lt c.args.bucket (2 ^ g)) 0 33 33 g refl (omega arith) (lt-ltb c.args.bucket (2 ^ g) above)
