use Rattle.std.proofs.Common.{◌<◌, sym, ◌∙◌, ap, subst}
use Rattle.bdb_rescue.specs.Kept.{HasPart, IsTable, Reading, file_in, part_of, set_from}
use Rattle.bdb_rescue.proofs.MarkLemmas.{start_there}
use Rattle.bdb_rescue.proofs.SetLemmas.{past_of, set_there}
use Rattle.bdb_rescue.proofs.TableLemmas.{has_part, part_is}
use Rattle.bdb_rescue.proofs.salvaged.Salvaged.places_in.Goals as goal

pub part-requires : goal.part-requires
part-requires c =
    let now : Reading = c.args.self.now in
    let table : IsTable (set_from (file_in now)) (file_in now).count c.self.inside.sets.bounds.items c.self.inside.sets.all.items =
    subst (λ (r : Reading). IsTable (set_from (file_in r)) (file_in r).count c.self.inside.sets.bounds.items c.self.inside.sets.all.items) c.self.view_is
    c.self.invariant.sets_are in
    let there : c.args.leaf < (file_in now).count = start_there (file_in now) c.args.leaf (past_of now.guess.order now.guess.page_size now.image) c.requires in
    subst (λ bounds. HasPart bounds c.deref-2.result.now c.args.leaf) (sym c.deref.ensures.value)
    (subst (λ values. HasPart c.self.inside.sets.bounds.items values c.args.leaf) (sym c.deref-2.ensures.value)
    (has_part (set_from (file_in now)) (file_in now).count c.self.inside.sets.bounds.items c.self.inside.sets.all.items c.args.leaf table there))

pub returns : goal.returns
returns c =
    let now : Reading = c.args.self.now in
    let table : IsTable (set_from (file_in now)) (file_in now).count c.self.inside.sets.bounds.items c.self.inside.sets.all.items =
    subst (λ (r : Reading). IsTable (set_from (file_in r)) (file_in r).count c.self.inside.sets.bounds.items c.self.inside.sets.all.items) c.self.view_is
    c.self.invariant.sets_are in
    let there : c.args.leaf < (file_in now).count = start_there (file_in now) c.args.leaf (past_of now.guess.order now.guess.page_size now.image) c.requires in
    c.part.ensures
    ∙ (ap (λ bounds. part_of bounds c.deref-2.result.now c.args.leaf) c.deref.ensures.value
    ∙ (ap (λ values. part_of c.self.inside.sets.bounds.items values c.args.leaf) c.deref-2.ensures.value
    ∙ (part_is (set_from (file_in now)) (file_in now).count c.self.inside.sets.bounds.items c.self.inside.sets.all.items c.args.leaf table there
    ∙ set_there (file_in now) c.args.leaf c.requires)))
