use Rattle.std.proofs.Common.{ℕ, ◌≡◌, [], sym, ◌∙◌, ap, subst, IfOk}
use Rattle.bdb_need.proofs.Common.{values_seen, chain_pages, pages_in}
use Rattle.bdb_mkhash.proofs.CostLemmas.{first_is, one_long}
use Rattle.bdb_need.proofs.units.data_own_pages.Goals as goal

pub returns-in-One-clause-pages : goal.returns-in-One-clause-pages
returns-in-One-clause-pages c =
    let values = values_seen c.args.values in
    let form = sym c.in-One.is ∙ c.data_form.ensures in
    c.chain_pages.ensures.pages
    ∙ (ap (chain_pages c.args.size) (c.at.ensures ∙ first_is values [] (one_long c.args.size values form))
    ∙ ap (λ f. pages_in f c.args.size c.args.sorted values) form)

pub returns-in-Set-clause-pages : goal.returns-in-Set-clause-pages
returns-in-Set-clause-pages c = ap (λ f. pages_in f c.args.size c.args.sorted (values_seen c.args.values)) (sym c.in-Set.is ∙ c.data_form.ensures)

pub returns-in-Tree-clause-pages : goal.returns-in-Tree-clause-pages
returns-in-Tree-clause-pages c =
    let values = values_seen c.args.values in
    subst (λ f. IfOk c.set_pages.result (λ (pages : ℕ). pages ≡ pages_in f c.args.size c.args.sorted values)) (sym c.in-Tree.is ∙ c.data_form.ensures)
    c.set_pages.ensures.pages
