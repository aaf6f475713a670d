use Rattle.std.proofs.Common.{◌∙◌, sym}
use Rattle.bdb_mkfile.proofs.BuildLemmas.{alone_image, can_be_named, named_image_built}
use Rattle.bdb_mkfile.proofs.loading.settled_image.Goals as goal

pub named_image-requires-clause-named : goal.named_image-requires-clause-named
named_image-requires-clause-named c =
    can_be_named c.args.settled c.in_ok-sorted.sorted c.in-Some.first.now c.requires c.in-Some.ensures (sym c.is_some.ensures ∙ c.if-is_some.true)
    c.in_ok-sorted.ensures

pub returns-then-is_some : goal.returns-then-is_some
returns-then-is_some c =
    named_image_built c.args.settled c.in_ok-sorted.sorted c.in-Some.first.now c.named_image.result c.requires c.in-Some.ensures
    (sym c.is_some.ensures ∙ c.if-is_some.true) c.in_ok-sorted.ensures c.named_image.ensures

pub returns : goal.returns
returns c =
    alone_image c.args.settled c.in-Some.first.now c.in-Some-pop.section c.section_image.result c.requires c.in-Some.ensures
    (sym c.is_some.ensures ∙ c.if-is_some.false) c.in-Some-pop.ensures.last c.section_image.ensures
