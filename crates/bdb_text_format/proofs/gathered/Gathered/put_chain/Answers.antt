use Rattle.std.proofs.Common.{ap, refl, subst, sym, ◌∙◌}
use Rattle.bdb_text_format.specs.Terms.{Gathering, Keeps}
use Rattle.bdb_text_format.proofs.GatheredLemmas.{chains_more, chains_stay}
use Rattle.bdb_text_format.proofs.gathered.Gathered.put_chain.Goals as goal

pub returns-in_err-span-clause-chains : goal.returns-in_err-span-clause-chains
returns-in_err-span-clause-chains c = λ value is has.
    chains_stay value c.args.self.now _ (subst (λ (it : Gathering). Keeps it.bytes c.put.new.bytes.items) c.self.view_is c.put.ensures.kept)
    (ap (λ (it : Gathering). it.chains) c.self.view_is) has

pub returns-in_err-insert-clause-chains : goal.returns-in_err-insert-clause-chains
returns-in_err-insert-clause-chains c = λ value is has.
    chains_stay value c.args.self.now _ (subst (λ (it : Gathering). Keeps it.bytes c.put.new.bytes.items) c.self.view_is c.put.ensures.kept)
    (c.in_err-insert.ensures.err ∙ ap (λ (it : Gathering). it.chains) c.self.view_is) has

-- The value of the chain stands in the run, where it's noted.
pub returns-clause-chains : goal.returns-clause-chains
returns-clause-chains c = λ value is has.
    chains_more value c.args.self.now _ c.self.inside.chains c.insert.new.self c.args.head c.in_ok-span.span c.args.piece.now
    (subst (λ (it : Gathering). Keeps it.bytes c.put.new.bytes.items) c.self.view_is c.put.ensures.kept)
    (sym (ap (λ (it : Gathering). it.chains) c.self.view_is)) refl c.in_ok-insert.ensures.updates c.in_ok-span.ensures.ok is has
