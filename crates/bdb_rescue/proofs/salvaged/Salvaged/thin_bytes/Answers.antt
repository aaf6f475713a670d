use Rattle.std.proofs.Common.{◌<◌, sym, ◌∙◌, ap, subst}
use Rattle.bdb_rescue.specs.Kept.{HasPart, IsTable, Reading, file_in, part_of, thin_from}
use Rattle.bdb_rescue.proofs.SetLemmas.{past_of}
use Rattle.bdb_rescue.proofs.TableLemmas.{has_part, part_is}
use Rattle.bdb_rescue.proofs.ThinLemmas.{chain_there}
use Rattle.bdb_rescue.proofs.salvaged.Salvaged.thin_bytes.Goals as goal

pub part-requires : goal.part-requires
part-requires c =
    let now : Reading = c.args.self.now in
    let table : IsTable (thin_from (file_in now)) (file_in now).count c.self.inside.thin.bounds.items c.self.inside.thin.all.items =
    subst (λ (r : Reading). IsTable (thin_from (file_in r)) (file_in r).count c.self.inside.thin.bounds.items c.self.inside.thin.all.items) c.self.view_is
    c.self.invariant.thin_are in
    let there : c.args.head < (file_in now).count = chain_there (file_in now) c.args.head (past_of now.guess.order now.guess.page_size now.image) c.requires in
    subst (λ bounds. HasPart bounds c.deref-2.result.now c.args.head) (sym c.deref.ensures.value)
    (subst (λ values. HasPart c.self.inside.thin.bounds.items values c.args.head) (sym c.deref-2.ensures.value)
    (has_part (thin_from (file_in now)) (file_in now).count c.self.inside.thin.bounds.items c.self.inside.thin.all.items c.args.head table there))

pub returns : goal.returns
returns c =
    let now : Reading = c.args.self.now in
    let table : IsTable (thin_from (file_in now)) (file_in now).count c.self.inside.thin.bounds.items c.self.inside.thin.all.items =
    subst (λ (r : Reading). IsTable (thin_from (file_in r)) (file_in r).count c.self.inside.thin.bounds.items c.self.inside.thin.all.items) c.self.view_is
    c.self.invariant.thin_are in
    let there : c.args.head < (file_in now).count = chain_there (file_in now) c.args.head (past_of now.guess.order now.guess.page_size now.image) c.requires in
    c.part.ensures
    ∙ (ap (λ bounds. part_of bounds c.deref-2.result.now c.args.head) c.deref.ensures.value
    ∙ (ap (λ values. part_of c.self.inside.thin.bounds.items values c.args.head) c.deref-2.ensures.value
    ∙ (part_is (thin_from (file_in now)) (file_in now).count c.self.inside.thin.bounds.items c.self.inside.thin.all.items c.args.head table there)))
