use Rattle.std.proofs.Common.{ap, sym, ◌∙◌, option_copied}
use Rattle.bdb_text_format.specs.Terms.{Gathering, noted}
use Rattle.bdb_text_format.proofs.gathered.Gathered.chain.Goals as goal

pub returns-in-Some-clause-some : goal.returns-in-Some-clause-some
returns-in-Some-clause-some c = λ value has.
    has.each c.args.head c.in-Some.span.now
    (sym (ap (λ (it : Gathering). noted it.chains c.args.head) c.self.view_is) ∙ (sym c.get.ensures.value ∙ ap option_copied c.in-Some.is))

pub returns-in-Some-clause-told : goal.returns-in-Some-clause-told
returns-in-Some-clause-told c =
    sym (sym (ap (λ (it : Gathering). noted it.chains c.args.head) c.self.view_is) ∙ (sym c.get.ensures.value ∙ ap option_copied c.in-Some.is))
