use Rattle.std.proofs.Common.{◌≡◌, ◌∙◌, subst}
use Rattle.bdb_rescue.specs.Kept.{IsTable, Reading, file_in, loose_values, untaken_on}
use Rattle.bdb_rescue.proofs.KeptLemmas.{all_loose, loose_table}
use Rattle.bdb_rescue.proofs.LooseLemmas.{loose_is}
use Rattle.bdb_rescue.proofs.salvaged.Salvaged.loose.Goals as goal

pub over-requires : goal.over-requires
over-requires c =
    let table : IsTable (untaken_on (file_in c.args.self.now)) (file_in c.args.self.now).count c.self.inside.values.bounds.items c.self.inside.values.all.items =
    subst (λ (r : Reading). IsTable (untaken_on (file_in r)) (file_in r).count c.self.inside.values.bounds.items c.self.inside.values.all.items) c.self.view_is
    c.self.invariant.values_are in
    all_loose (file_in c.args.self.now) c.deref.result.now
    (c.deref.ensures.value ∙ loose_table (file_in c.args.self.now) c.self.inside.values.bounds.items c.self.inside.values.all.items table)

pub returns : goal.returns
returns c =
    let table : IsTable (untaken_on (file_in c.args.self.now)) (file_in c.args.self.now).count c.self.inside.values.bounds.items c.self.inside.values.all.items =
    subst (λ (r : Reading). IsTable (untaken_on (file_in r)) (file_in r).count c.self.inside.values.bounds.items c.self.inside.values.all.items) c.self.view_is
    c.self.invariant.values_are in
    let all : c.deref.result.now ≡ loose_values (file_in c.args.self.now) =
    c.deref.ensures.value ∙ loose_table (file_in c.args.self.now) c.self.inside.values.bounds.items c.self.inside.values.all.items table in
    c.over.ensures ∙ loose_is (file_in c.args.self.now) c.deref.result.now all
