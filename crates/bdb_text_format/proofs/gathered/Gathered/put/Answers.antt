use Rattle.std.proofs.Common.{ap, subst}
use Rattle.bdb_text_format.specs.Terms.{Gathering, Keeps}
use Rattle.bdb_text_format.proofs.GatheredLemmas.{chains_stay}
use Rattle.bdb_text_format.proofs.gathered.Gathered.put.Goals as goal

pub returns-clause-chains : goal.returns-clause-chains
returns-clause-chains c = λ value has.
    chains_stay value c.args.self.now _ (subst (λ (it : Gathering). Keeps it.bytes c.put.new.bytes.items) c.self.view_is c.put.ensures.kept)
    (ap (λ (it : Gathering). it.chains) c.self.view_is) has
