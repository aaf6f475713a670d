use Rattle.std.proofs.Common.{arith, refl, subst}
use Rattle.bdb_mkleaves.proofs.Common.{IsStored, size_bounds}
use Rattle.bdb_mkleaves.proofs.PutLemmas.{chain_item, inline_item}
use Rattle.bdb_mkleaves.proofs.leaves.store.Goals as goal

pub returns-in-Inline : goal.returns-in-Inline
returns-in-Inline c =
    let is = subst (IsStored c.args.pages.now c.push_value.new.pages c.args.value.now) c.in-Inline.is c.in_ok-push_value.ensures in
    let bounds = size_bounds c.args.pages.now.size c.requires.legal in
    inline_item c.args.pages.now c.push_value.new.pages c.args.value.now c.args.deleted (omega (arith, bounds.1, is.0)) is.0 is.1

pub returns-in-Chain : goal.returns-in-Chain
returns-in-Chain c =
    let is = subst (IsStored c.args.pages.now c.push_value.new.pages c.args.value.now) c.in-Chain.is c.in_ok-push_value.ensures in
    chain_item c.args.pages.now c.push_value.new.pages c.args.value.now c.args.deleted _ _
    (omega arith, omega arith) c.requires.legal c.requires.first
    (c.if-not-has_pages_for.ensures refl) is.0 is.1 is.2
