use Rattle.std.proofs.Common.{sym, ◌∙◌, ap, subst}
use Rattle.bdb_rescue.specs.Kept.{HasPart, IsTable, Reading, file_in, part_of, kept_on}
use Rattle.bdb_rescue.proofs.TableLemmas.{has_part, part_is}
use Rattle.bdb_rescue.proofs.salvaged.Salvaged.pairs_at.Goals as goal

pub part-requires : goal.part-requires
part-requires c =
    let now : Reading = c.args.self.now in
    let table : IsTable (kept_on (file_in now)) (file_in now).count c.self.inside.pairs.bounds.items c.self.inside.pairs.all.items =
    subst (λ (r : Reading). IsTable (kept_on (file_in r)) (file_in r).count c.self.inside.pairs.bounds.items c.self.inside.pairs.all.items) c.self.view_is
    c.self.invariant.pairs_are in
    subst (λ bounds. HasPart bounds c.deref-2.result.now c.args.page) (sym c.deref.ensures.value)
    (subst (λ values. HasPart c.self.inside.pairs.bounds.items values c.args.page) (sym c.deref-2.ensures.value)
    (has_part (kept_on (file_in now)) (file_in now).count c.self.inside.pairs.bounds.items c.self.inside.pairs.all.items c.args.page table c.requires))

pub returns : goal.returns
returns c =
    let now : Reading = c.args.self.now in
    let table : IsTable (kept_on (file_in now)) (file_in now).count c.self.inside.pairs.bounds.items c.self.inside.pairs.all.items =
    subst (λ (r : Reading). IsTable (kept_on (file_in r)) (file_in r).count c.self.inside.pairs.bounds.items c.self.inside.pairs.all.items) c.self.view_is
    c.self.invariant.pairs_are in
    c.part.ensures
    ∙ (ap (λ bounds. part_of bounds c.deref-2.result.now c.args.page) c.deref.ensures.value
    ∙ (ap (λ values. part_of c.self.inside.pairs.bounds.items values c.args.page) c.deref-2.ensures.value
    ∙ part_is (kept_on (file_in now)) (file_in now).count c.self.inside.pairs.bounds.items c.self.inside.pairs.all.items c.args.page table c.requires))
