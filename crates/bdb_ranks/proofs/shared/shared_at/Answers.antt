use Rattle.std.proofs.Common.{sym, ◌∙◌, ap}
use Rattle.bdb_tree.specs.of_format.declared.pages.Header.{Header}
use Rattle.bdb_ranks.proofs.HeadLemmas.{head_fits}
use Rattle.bdb_ranks.proofs.shared.shared_at.Goals as goal

-- A page without one before it is the head of its chain.
pub chain_pieces-requires : goal.chain_pieces-requires
chain_pieces-requires c =
    head_fits c.args.forest.now c.args.page c.page.result c.in-Overflow.view c.page.ensures.forest c.requires c.page.ensures.page c.in-Overflow.is
    (sym (ap (λ (header : Header). header.previous) c.header.ensures) ∙ c.if-header-eq0.true)
