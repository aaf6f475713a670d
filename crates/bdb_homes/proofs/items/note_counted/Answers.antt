use Rattle.std.proofs.Common.{◌∙◌, Some, ap, arith, refl}
use Rattle.bdb_survey.specs.of_format.declared.pages.Header.{Header}
use Rattle.bdb_survey.specs.of_format.declared.references.Sort.TheVariants.{Child}
use Rattle.bdb_survey.specs.of_format.Terms.{RecnoInternal, asked_by}
use Rattle.bdb_homes.proofs.ItemLemmas.{below_all, below_more, child_after, counted_at, counted_len, holder_up, record_asked, records_more}
use Rattle.bdb_homes.specs.declared.up.Up.TheVariants.{Holder}
use Rattle.bdb_homes.proofs.items.note_counted.Goals as goal

pub loop-index-preserved : goal.loop-index-preserved
loop-index-preserved c = record {
  below = below_more c.args.faces.now (RecnoInternal c.args.view.now) c.args.ups.now c.loop-index.ups c.note.new.ups c.args.holder c.loop-index.index
      (child_after c.item-item.result c.loop-index.before) (asked_by c.args.holder (RecnoInternal c.args.view.now) Child) c.fits-fits.result
      (Holder c.args.holder c.loop-index.before) c.loop-index.invariant.below
      (counted_at 0 c.args.view.now.items c.loop-index.index c.item-item.result c.item-item.ensures
      ∙ ap (λ n. Some (child_after c.item-item.result n)) (omega (arith, c.loop-index.invariant.before)))
      c.note.auto.ups refl
      (c.fits-fits.ensures
      ∙ record_asked c.args.faces.now c.child_of-asked.result c.record_types.result.now c.args.holder c.header-level.result.level c.item-item.result.child
      c.args.view.now c.child_of-asked.ensures c.record_types.ensures (ap (λ (header : Header). header.level) c.header-level.ensures))
      (λ file is. holder_up file (RecnoInternal c.args.view.now) c.args.holder (child_after c.item-item.result c.loop-index.before) refl is)
      c.note.ensures.ups c.note.ensures.claimed;
  before = omega (
    arith,
    c.loop-index.invariant.before,
    c.from-before.ensures,
    records_more c.args.view.now.items c.loop-index.index c.item-item.result
        c.item-item.ensures,
  );
  small = omega (arith, c.loop-index.invariant.small, c.from-before.ensures);
}

pub returns-clause-ups : goal.returns-clause-ups
returns-clause-ups c =
    below_all c.args.faces.now (RecnoInternal c.args.view.now) c.args.ups.now c.loop-index.ups c.args.holder c.loop-index.index c.loop-index.invariant.below
    (omega (arith, counted_len 0 c.args.view.now.items, c.entries-index-end.ensures, c.loop-index-test.false))
