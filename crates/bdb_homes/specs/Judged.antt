-- A page as it is looked at: metadata by its fields, another page by its view.
use Rattle.std.specs.Prelude.{Option, Some, None}
use Rattle.bdb_graph.specs.of_form.Seen.{page_seen}
use Rattle.bdb_graph.specs.of_image.Metas.{meta_seen}
use Rattle.bdb_graph.specs.of_slots.Slots.{IsNoMetadata}
use Rattle.bdb_survey.specs.Metas.{HasFewBuckets}
use Rattle.bdb_survey.specs.of_format.Terms.{Meta as MetaPage, NoType, Page}
use Rattle.bdb_homes.specs.declared.judged.Judged.{Judged}
use Rattle.bdb_homes.specs.declared.judged.Judged.TheVariants.{Meta, Other}

-- the page that was judged
abbrev pub judged_seen : Judged → Page
judged_seen (Meta meta) = MetaPage (meta_seen meta)
judged_seen (Other view) = page_seen view

abbrev pub judged_in : Option Judged → Page
judged_in None = NoType
judged_in (Some page) = judged_seen page

-- metadata stands apart, and has no more buckets than can be counted
abbrev pub IsJudged : Judged → Type 0
IsJudged (Meta meta) = HasFewBuckets meta
IsJudged (Other view) = IsNoMetadata view
