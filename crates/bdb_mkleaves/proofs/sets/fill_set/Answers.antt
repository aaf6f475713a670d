use Rattle.std.proofs.Common.{[], arith, sym, subst}
use Rattle.bdb_mkleaves.proofs.Common.{take_more, values_seen, IsPushed, live_entry, IsSetFilled}
use Rattle.bdb_mkleaves.proofs.SetLemmas.{set_begun, set_grown}
use Rattle.bdb_mkleaves.proofs.sets.fill_set.Goals as goal

pub loop-i-init : goal.loop-i-init
loop-i-init c =
    set_begun c.args.pages.now c.start.new.pages c.args.leaf_type c.in_ok-leaves.leaves c.in_ok-leaves.ensures.leaf c.in_ok-leaves.ensures.number
    c.in_ok-leaves.ensures.kept c.in_ok-leaves.ensures.filled c.in_ok-leaves.ensures.count

pub loop-i-preserved : goal.loop-i-preserved
loop-i-preserved c =
    subst (λ vs. IsSetFilled c.args.pages.now c.push_entry.new.pages c.args.leaf_type vs c.push_entry.new.self)
    (sym (take_more (values_seen c.args.values) c.loop-i.i [] (omega arith)))
    (set_grown c.args.pages.now c.loop-i.pages c.push_entry.new.pages c.args.leaf_type _ _ c.loop-i.leaves c.push_entry.new.self
    c.loop-i.invariant
    (subst (λ v. IsPushed c.loop-i.leaves c.push_entry.new.self c.loop-i.pages c.push_entry.new.pages (live_entry v))
    c.at.ensures
    c.in_ok-push_entry.ensures.pushed))
