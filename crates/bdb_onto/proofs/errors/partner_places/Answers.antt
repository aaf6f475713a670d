use Rattle.std.proofs.Common.{◌∙◌, subst, sym, take, ◌+◌}
use Rattle.std.specs.List.{AllZip}
use Rattle.bdb_onto.specs.Search.{IsPartnerAt}
use Rattle.bdb_onto.proofs.JoiningLemmas.{errors_more, zip_more}
use Rattle.bdb_onto.proofs.errors.partner_places.Goals as goal

pub loop-section-preserved : goal.loop-section-preserved
loop-section-preserved c =
    let i = c.loop-section.section-index in
    let sections = c.as_slice-section-items.result.now in
    let section = c.section-item.result in
    record {
      first =
          c.with_section-first.ensures
          ∙ errors_more c.args.base.now _ sections i section c.loop-section.first c.loop-section-test.true c.section-item.is
          c.loop-section.invariant.first;
      places = λ none.
          subst (AllZip (IsPartnerAt c.args.base.now) (take (i + 1) sections)) (sym (c.push_place-wanting.ensures.places none))
          (zip_more c.args.base.now sections i section c.loop-section.places.items c.place_of-place.result c.loop-section-test.true c.section-item.is
          (c.loop-section.invariant.places (c.push_place-wanting.ensures.before none)) c.place_of-place.ensures);
    }
