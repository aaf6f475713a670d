use Rattle.std.proofs.Common.{◌≡◌, take, false, None}
use Rattle.std.specs.List.{AllZip, flat_map, fold}
use Rattle.bdb_mkfile.specs.of_settle.LoadErrors.{sooner}
use Rattle.bdb_onto.specs.Onto.{onto_errors}
use Rattle.bdb_onto.specs.Search.{IsPartnerAt}
use Rattle.bdb_onto.proofs.errors.partner_places.Given as goal

-- The first error of the sections so far, and the places of their partners where memory doesn't run out.
abbrev pub invariant-loop-section : goal.invariant-loop-section
invariant-loop-section l = record {
  first : l.first ≡ fold sooner None (flat_map (onto_errors l.base l.alone) (take l.section-index l.section-items));
  places : l.wanting ≡ false → AllZip (IsPartnerAt l.base) (take l.section-index l.section-items) l.places.items;
}
