-- Where records have no length, the pairs are as they are.
use Rattle.std.proofs.Common.{◌≡◌, false, sym, ◌∙◌}
use Rattle.bdb_settle.specs.Loaded.{has_length}
use Rattle.bdb_settle.proofs.FillingLemmas.{as_they_are}
use Rattle.bdb_settle.proofs.filling.filled_pairs.Goals as goal

pub returns-then-not-has_length : goal.returns-then-not-has_length
returns-then-not-has_length c =
    let none : has_length c.args.settings.now ≡ false = sym c.has_length.ensures ∙ c.if-not-has_length.true in
    sym (as_they_are c.args.settings.now c.args.pairs none)
