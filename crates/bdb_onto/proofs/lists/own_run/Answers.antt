use Rattle.std.proofs.Common.{◌≡◌, ◌∙◌, true, ap, sym}
use Rattle.std.specs.List.{list_all}
use Rattle.bdb_mkfile.specs.Lengths.{is_short_pair}
use Rattle.bdb_mkfile.specs.of_need.Need.{is_short}
use Rattle.bdb_onto.proofs.ListsLemmas.{placed_short}
use Rattle.bdb_onto.proofs.lists.own_run.Goals as goal

pub returns-then-copied_length-len-clause-short : goal.returns-then-copied_length-len-clause-short
returns-then-copied_length-len-clause-short c =
    let bytes = c.into_placed-bytes.result.bytes.items in
    let short : is_short bytes ≡ true = ap is_short (sym c.as_slice.ensures.value) ∙ sym c.is_short.ensures ∙ c.if-not-is_short.false in
    ap (list_all is_short_pair) (sym c.into_placed-bytes.ensures.pairs) ∙ placed_short bytes c.into_placed-bytes.result.places.items short

pub returns-clause-short : goal.returns-clause-short
returns-clause-short c =
    let bytes = c.into_placed-bytes.result.bytes.items in
    let short : is_short bytes ≡ true = ap is_short (sym c.as_slice.ensures.value) ∙ sym c.is_short.ensures ∙ c.if-not-is_short.false in
    ap (list_all is_short_pair) (sym c.into_placed-bytes.ensures.pairs) ∙ placed_short bytes c.into_placed-bytes.result.places.items short
