use Rattle.std.proofs.Common.{[], get_or, length, refl, sym, subst, ◌-◌, arith}
use Rattle.bdb_mkleaves.proofs.Common.{CanBeAsked, TakesNow, no_child, Child}
use Rattle.bdb_mkleaves.proofs.LevelLemmas.{can_be_asked, laid_takes, last_child, last_takes_now, sum_is}
use Rattle.bdb_mkleaves.proofs.levels.last_takes.Goals as goal

pub take_child-requires-clause-asked : goal.take_child-requires-clause-asked
take_child-requires-clause-asked c =
    let last = last_child c.args.above.now.items c.index-last.result.now c.len-n.result c.index-last.ensures (omega (arith, c.len-n.ensures))
    c.if-n-eq0.false in
    subst (λ (x : Child). CanBeAsked c.args.inner c.args.pages.now x.page c.args.child.leaf) (sym last.0)
    (can_be_asked c.args.inner c.args.level c.args.pages.now c.args.above.now.items c.args.child.leaf c.requires.can last.1)

pub returns-then-not-branch : goal.returns-then-not-branch
returns-then-not-branch c = λ origin nodes node laid is.
    let last = last_child c.args.above.now.items c.index-last.result.now c.len-n.result c.index-last.ensures (omega (arith, c.len-n.ensures))
    c.if-n-eq0.false in
    let answer =
    subst (λ b. TakesNow b c.args.inner c.args.level c.args.pages.now c.take_child.new.pages
    (get_or c.args.above.now.items (length c.args.above.now.items - 1) no_child).page (get_or laid.groups (length laid.groups - 1) []) node)
    c.if-not-branch.true
    (last_takes_now c.args.inner c.args.level origin c.args.pages.now c.take_child.new.pages c.args.above.now.items nodes c.args.child
    c.index-last.result.now
    node c.in_ok-take_child.field-0 laid is last.1 last.0 c.in_ok-take_child.ensures) in
    (answer.0, refl, λ some. answer.1)

pub returns : goal.returns
returns c = λ origin nodes node laid is.
    let last = last_child c.args.above.now.items c.index-last.result.now c.len-n.result c.index-last.ensures (omega (arith, c.len-n.ensures))
    c.if-n-eq0.false in
    laid_takes c.args.inner c.args.level origin c.args.pages.now c.take_child.new.pages c.args.above.now.items nodes node c.args.child
    c.index-last.result.now
    c.len-n.result c.in_ok-count.count laid is last.1 (omega (arith, c.len-n.ensures)) last.0
    (subst (λ b. TakesNow b c.args.inner c.args.level c.args.pages.now c.take_child.new.pages
    (get_or c.args.above.now.items (length c.args.above.now.items - 1) no_child).page (get_or laid.groups (length laid.groups - 1) []) node)
    c.if-not-branch.false
    (last_takes_now c.args.inner c.args.level origin c.args.pages.now c.take_child.new.pages c.args.above.now.items nodes c.args.child
    c.index-last.result.now
    node c.in_ok-take_child.field-0 laid is last.1 last.0 c.in_ok-take_child.ensures))
    (sum_is c.checked_add.result _ _ c.in_ok-count.count c.checked_add.ensures c.in_ok-count.ensures.ok_part)
