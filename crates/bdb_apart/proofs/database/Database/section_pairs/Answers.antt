use Rattle.std.proofs.Common.{◌≡◌, IfOk, ap, refl, subst, sym, ◌∙◌}
use Rattle.bdb_apart.specs.Kept.{found_seen}
use Rattle.bdb_apart.specs.Text.{section_pairs}
use Rattle.bdb_apart.specs.declared.holds.Holds.TheVariants.{Leaves, Buckets}
use Rattle.bdb_apart.proofs.SectionLemmas.{section_of_pairs, section_of_records}
use Rattle.bdb_apart.proofs.database.Database.section_pairs.Goals as goal

pub returns-in-Leaves : goal.returns-in-Leaves
returns-in-Leaves c =
    subst (λ all. IfOk c.pairs_of.result (λ pairs. pairs ≡ all))
    (section_of_pairs c.self.inside.apart.now c.salvaged.result.now (found_seen c.self.inside.place.now) Leaves c.row-row.result refl
    c.salvaged.ensures (sym c.in-Leaves.is ∙ c.holds_of.ensures) c.row-row.ensures.row
    ∙ ap section_pairs c.self.view_is) c.pairs_of.ensures

pub returns-in-Buckets : goal.returns-in-Buckets
returns-in-Buckets c =
    subst (λ all. IfOk c.pairs_of-in-Buckets.result (λ pairs. pairs ≡ all))
    (section_of_pairs c.self.inside.apart.now c.salvaged-in-Buckets.result.now (found_seen c.self.inside.place.now) Buckets c.row-row.result refl
    c.salvaged-in-Buckets.ensures (sym c.in-Buckets.is ∙ c.holds_of.ensures) c.row-row.ensures.row
    ∙ ap section_pairs c.self.view_is) c.pairs_of-in-Buckets.ensures

pub returns-in-Records : goal.returns-in-Records
returns-in-Records c =
    subst (λ all. IfOk c.records_of.result (λ pairs. pairs ≡ all))
    (section_of_records c.self.inside.apart.now c.salvaged-in-Records.result.now (found_seen c.self.inside.place.now) c.in-Records.length c.row-row.result
    c.salvaged-in-Records.ensures (sym c.in-Records.is ∙ c.holds_of.ensures) c.row-row.ensures.row
    ∙ ap section_pairs c.self.view_is) c.records_of.ensures
