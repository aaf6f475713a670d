use Rattle.std.proofs.Common.{◌+◌, ◌*◌, ◌<◌, ◌^◌, ℕ, ap, length, sym, subst, ◌∙◌}
use Rattle.bdb_apart.specs.of_format.Terms.{Content, File, page_at}
use Rattle.bdb_apart.specs.of_survey.Items.{slot_at, slots_in}
use Rattle.bdb_apart.specs.of_rescue.Kept.{data_here, file_in}
use Rattle.bdb_damage.specs.Tallies.{set_size}
use Rattle.bdb_damage.proofs.RoomLemmas.{set_few}
use Rattle.bdb_damage.proofs.TallyLemmas.{here_counted, set_counted}
use Rattle.bdb_damage.proofs.pair_counts.data_count.Goals as goal

-- A set on a page is short.
pub count_here-requires : goal.count_here-requires
count_here-requires c =
    subst (λ (content : Content). set_size content < 2 ^ 32)
    (sym (c.content.ensures
    ∙ (ap (λ (f : File). (slot_at (slots_in (page_at f c.args.pair.page)) (2 * c.from.result + 1)).content) c.pages.ensures
    ∙ ap (λ (i : ℕ). (slot_at (slots_in (page_at (file_in c.args.salvaged.now) c.args.pair.page)) (2 * i + 1)).content) c.from.ensures)))
    (set_few c.args.salvaged.now c.args.pair.page (2 * c.args.pair.index + 1) c.image-image.ensures.legal)

pub returns-in-Here : goal.returns-in-Here
returns-in-Here c =
    c.count_here.ensures (file_in c.args.salvaged.now)
    ∙ (ap (λ (content : Content). length (data_here (file_in c.args.salvaged.now) content))
    (c.content.ensures
    ∙ (ap (λ (f : File). (slot_at (slots_in (page_at f c.args.pair.page)) (2 * c.from.result + 1)).content) c.pages.ensures
    ∙ ap (λ (i : ℕ). (slot_at (slots_in (page_at (file_in c.args.salvaged.now) c.args.pair.page)) (2 * i + 1)).content) c.from.ensures))
    ∙ here_counted (file_in c.args.salvaged.now) c.args.pair c.in-Here.is)

pub returns-in-Set : goal.returns-in-Set
returns-in-Set c =
    set_counted (file_in c.args.salvaged.now) c.args.pair c.in-Set.leaf c.places_in.result.now c.in-Set.is c.places_in.ensures
