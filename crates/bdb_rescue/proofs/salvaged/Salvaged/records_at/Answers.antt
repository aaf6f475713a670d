use Rattle.std.proofs.Common.{sym, ◌∙◌, ap, subst}
use Rattle.bdb_rescue.specs.Kept.{HasPart, IsTable, Reading, file_in, part_of, untaken_on}
use Rattle.bdb_rescue.proofs.TableLemmas.{has_part, part_is}
use Rattle.bdb_rescue.proofs.salvaged.Salvaged.records_at.Goals as goal

pub part-requires : goal.part-requires
part-requires c =
    let now : Reading = c.args.self.now in
    let table : IsTable (untaken_on (file_in now)) (file_in now).count c.self.inside.values.bounds.items c.self.inside.values.all.items =
    subst (λ (r : Reading). IsTable (untaken_on (file_in r)) (file_in r).count c.self.inside.values.bounds.items c.self.inside.values.all.items) c.self.view_is
    c.self.invariant.values_are in
    subst (λ bounds. HasPart bounds c.deref-2.result.now c.args.page) (sym c.deref.ensures.value)
    (subst (λ values. HasPart c.self.inside.values.bounds.items values c.args.page) (sym c.deref-2.ensures.value)
    (has_part (untaken_on (file_in now)) (file_in now).count c.self.inside.values.bounds.items c.self.inside.values.all.items c.args.page table c.requires))

pub returns : goal.returns
returns c =
    let now : Reading = c.args.self.now in
    let table : IsTable (untaken_on (file_in now)) (file_in now).count c.self.inside.values.bounds.items c.self.inside.values.all.items =
    subst (λ (r : Reading). IsTable (untaken_on (file_in r)) (file_in r).count c.self.inside.values.bounds.items c.self.inside.values.all.items) c.self.view_is
    c.self.invariant.values_are in
    c.part.ensures
    ∙ (ap (λ bounds. part_of bounds c.deref-2.result.now c.args.page) c.deref.ensures.value
    ∙ (ap (λ values. part_of c.self.inside.values.bounds.items values c.args.page) c.deref-2.ensures.value
    ∙ part_is (untaken_on (file_in now)) (file_in now).count c.self.inside.values.bounds.items c.self.inside.values.all.items c.args.page table c.requires))
