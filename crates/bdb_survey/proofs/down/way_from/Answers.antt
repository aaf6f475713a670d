use Rattle.std.proofs.Common.{◌≡◌, map, drop, sym, ◌∙◌, ap, Some}
use Rattle.bdb_law_sums.specs.of_format.declared.pages.Header.{Header}
use Rattle.bdb_law_sums.specs.of_format.Terms.{Internal, InternalItem, RecnoInternal, page_at}
use Rattle.bdb_law_sums.specs.of_format.declared.pages.RecnoItem.{RecnoItem}
use Rattle.bdb_meta.specs.of_layout.Seen.{internal_item_seen}
use Rattle.bdb_law_sums.specs.of_form.Seen.{page_seen}
use Rattle.bdb_survey.proofs.WayLemmas.{first_child, way_internal}
use Rattle.bdb_survey.proofs.down.way_from.Goals as goal

pub returns-else-entries-eq0 : goal.returns-else-entries-eq0
returns-else-entries-eq0 c =
    let is : page_at c.args.pages.now c.args.number ≡ Internal c.in-Internal.view = sym c.requires ∙ ap page_seen c.in-Internal.is in
    c.way_to.ensures
    ∙ way_internal c.args.pages.now c.args.number c.item-child.result.child (Internal c.in-Internal.view)
    (map (λ (item : InternalItem). item.child) (drop 1 c.in-Internal.view.items)) c.fits_keyed.result is
    (ap (λ children. Some children) (first_child (λ (item : InternalItem). item.child) c.in-Internal.view.items (internal_item_seen c.item-child.result)
    c.item-child.ensures))
    (c.fits_keyed.ensures c.args.number c.in-Internal.view is (ap (λ (header : Header). header.level) (sym c.header.ensures)))

pub returns-else-entries-eq0-2 : goal.returns-else-entries-eq0-2
returns-else-entries-eq0-2 c =
    let is : page_at c.args.pages.now c.args.number ≡ RecnoInternal c.in-RecnoInternal.view = sym c.requires ∙ ap page_seen c.in-RecnoInternal.is in
    c.way_to-in-RecnoInternal.ensures
    ∙ way_internal c.args.pages.now c.args.number c.item-child-in-RecnoInternal.result.child (RecnoInternal c.in-RecnoInternal.view)
    (map (λ (item : RecnoItem). item.child) (drop 1 c.in-RecnoInternal.view.items)) c.fits_records.result is
    (ap (λ children. Some children) (first_child (λ (item : RecnoItem). item.child) c.in-RecnoInternal.view.items c.item-child-in-RecnoInternal.result
    c.item-child-in-RecnoInternal.ensures))
    (c.fits_records.ensures c.args.number c.in-RecnoInternal.view is (ap (λ (header : Header). header.level) (sym c.header-in-RecnoInternal.ensures)))
