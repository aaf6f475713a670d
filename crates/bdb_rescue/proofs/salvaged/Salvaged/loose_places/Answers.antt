use Rattle.std.proofs.Common.{◌∙◌, subst}
use Rattle.bdb_rescue.specs.Kept.{IsTable, Reading, file_in, untaken_on}
use Rattle.bdb_rescue.proofs.KeptLemmas.{loose_table}
use Rattle.bdb_rescue.proofs.salvaged.Salvaged.loose_places.Goals as goal

pub returns : goal.returns
returns c =
    let table : IsTable (untaken_on (file_in c.args.self.now)) (file_in c.args.self.now).count c.self.inside.values.bounds.items c.self.inside.values.all.items =
    subst (λ (r : Reading). IsTable (untaken_on (file_in r)) (file_in r).count c.self.inside.values.bounds.items c.self.inside.values.all.items) c.self.view_is
    c.self.invariant.values_are in
    c.deref.ensures.value ∙ loose_table (file_in c.args.self.now) c.self.inside.values.bounds.items c.self.inside.values.all.items table
