use Rattle.std.proofs.Common.{◌≡◌, ◌∙◌, ap, refl}
use Rattle.bdb_survey.specs.of_format.declared.pages.Header.{Header}
use Rattle.bdb_survey.specs.of_format.declared.references.Sort.TheVariants.{Child}
use Rattle.bdb_survey.specs.of_format.Terms.{Internal, asked_by}
use Rattle.bdb_graph.specs.of_layout.Seen.{internal_item_seen}
use Rattle.bdb_homes.proofs.ItemLemmas.{below_more, holder_up, keyed, keyed_asked, keyed_at}
use Rattle.bdb_homes.specs.declared.up.Up.TheVariants.{Holder}
use Rattle.bdb_homes.proofs.items.note_keyed.Goals as goal

pub loop-index-preserved : goal.loop-index-preserved
loop-index-preserved c =
    let level : c.header-level.result.level ≡ c.args.view.now.header.level = ap (λ (header : Header). header.level) c.header-level.ensures in
    below_more c.args.faces.now (Internal c.args.view.now) c.args.ups.now c.loop-index.ups c.note.new.ups c.args.holder c.loop-index.index
    (keyed (internal_item_seen c.item-child.result)) (asked_by c.args.holder (Internal c.args.view.now) Child) c.fits-fits.result
    (Holder c.args.holder 0) c.loop-index.invariant
    (keyed_at c.args.view.now.items c.loop-index.index (internal_item_seen c.item-child.result) c.item-child.ensures) c.note.auto.ups refl
    (c.fits-fits.ensures
    ∙ keyed_asked c.args.faces.now c.child_of-asked.result c.keyed_types.result.now c.args.holder c.header-level.result.level c.item-child.result.child
    c.args.view.now c.child_of-asked.ensures c.keyed_types.ensures level)
    (λ file is. holder_up file (Internal c.args.view.now) c.args.holder (keyed (internal_item_seen c.item-child.result)) refl is)
    c.note.ensures.ups c.note.ensures.claimed
