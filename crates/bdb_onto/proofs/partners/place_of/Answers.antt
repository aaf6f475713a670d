use Rattle.std.proofs.Common.{arith, ◌∙◌, ap, sym, is_some}
use Rattle.std.proofs.lemmas.Bool.Decides.{nat_tests}
use Rattle.bdb_onto.proofs.ErrorLemmas.{same_of}
use Rattle.bdb_onto.proofs.SearchLemmas.{all_named, first_place, no_place}
use Rattle.bdb_onto.proofs.partners.place_of.Goals as goal

pub returns-then-is_misnamed : goal.returns-then-is_misnamed
returns-then-is_misnamed c = no_place c.args.base.now c.args.section.now c.requires (sym c.is_misnamed.ensures ∙ c.if-is_misnamed.true)

pub place_named-requires-clause-rise : goal.place_named-requires-clause-rise
place_named-requires-clause-rise c =
    c.requires.rise
    (sym (same_of (is_some c.args.section.now.name) c.args.base.now.master (sym c.is_misnamed.ensures ∙ c.if-is_misnamed.false)) ∙ ap is_some c.in-Some.is)

pub place_named-requires-clause-named : goal.place_named-requires-clause-named
place_named-requires-clause-named c =
    all_named c.args.base.now c.requires
    (sym (same_of (is_some c.args.section.now.name) c.args.base.now.master (sym c.is_misnamed.ensures ∙ c.if-is_misnamed.false)) ∙ ap is_some c.in-Some.is)

pub returns-in-None-2 : goal.returns-in-None-2
returns-in-None-2 c =
    first_place c.args.base.now c.args.section.now c.requires
    (sym (same_of (is_some c.args.section.now.name) c.args.base.now.master (sym c.is_misnamed.ensures ∙ c.if-is_misnamed.false)) ∙ ap is_some c.in-None-2.is)
    c.in-None-2.is (grind (arith, nat_tests, c.is_empty.ensures, c.if-is_empty.false))
