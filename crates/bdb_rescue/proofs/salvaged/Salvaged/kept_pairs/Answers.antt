use Rattle.std.proofs.Common.{◌∙◌, subst}
use Rattle.bdb_rescue.specs.Kept.{IsTable, Reading, file_in, kept_on}
use Rattle.bdb_rescue.proofs.KeptLemmas.{pairs_table}
use Rattle.bdb_rescue.proofs.salvaged.Salvaged.kept_pairs.Goals as goal

pub returns : goal.returns
returns c =
    let table : IsTable (kept_on (file_in c.args.self.now)) (file_in c.args.self.now).count c.self.inside.pairs.bounds.items c.self.inside.pairs.all.items =
    subst (λ (r : Reading). IsTable (kept_on (file_in r)) (file_in r).count c.self.inside.pairs.bounds.items c.self.inside.pairs.all.items) c.self.view_is
    c.self.invariant.pairs_are in
    c.deref.ensures.value ∙ pairs_table (file_in c.args.self.now) c.self.inside.pairs.bounds.items c.self.inside.pairs.all.items table
