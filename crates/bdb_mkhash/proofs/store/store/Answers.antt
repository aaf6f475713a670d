use Rattle.std.proofs.Common.{arith, refl, subst}
use Rattle.bdb_mkhash.proofs.Common.{IsStored, size_bounds}
use Rattle.bdb_mkhash.proofs.StoreLemmas.{chain_stored, inline_stored}
use Rattle.bdb_mkhash.proofs.store.store.Goals as goal

pub returns-in-Inline-clause-item : goal.returns-in-Inline-clause-item
returns-in-Inline-clause-item c =
    let is = subst (IsStored c.args.pages.now c.push_value.new.pages c.args.value.now) c.in-Inline.is c.in_ok-push_value.ensures in
    let bounds = size_bounds c.args.pages.now.size c.requires.legal in
    inline_stored c.args.pages.now c.push_value.new.pages c.args.value.now (omega (arith, bounds.1, is.0)) is.0 is.1

pub returns-in-Chain-clause-item : goal.returns-in-Chain-clause-item
returns-in-Chain-clause-item c =
    let is = subst (IsStored c.args.pages.now c.push_value.new.pages c.args.value.now) c.in-Chain.is c.in_ok-push_value.ensures in
    chain_stored c.args.pages.now c.push_value.new.pages c.args.value.now _ _
    (omega arith) (omega arith) c.requires.legal c.requires.first
    (c.if-not-has_pages_for.ensures refl) is.0 is.1 is.2
