use Rattle.std.proofs.Common.{[], sym, ◌∙◌, ap, subst, arith}
use Rattle.bdb_mkleaves.proofs.Common.{Inline, Unknown, Node, Keyed, Numbered, HoldsChildrenOn, with_inner, IsStarted}
use Rattle.bdb_mkleaves.proofs.LevelTakeLemmas.{can_start, keyed_same, numbered_same, started}
use Rattle.bdb_mkleaves.proofs.levels.start_page.Goals as goal

pub append_child-requires-clause-takes : goal.append_child-requires-clause-takes
append_child-requires-clause-takes c =
    let node : Node = record { page = c.args.child.page; count = c.args.child.count; leaves = []; key = Unknown } in
    can_start Keyed c.add_inner.new.pages c.in_ok-page.page c.args.level node
    (subst (λ i. HoldsChildrenOn i c.add_inner.new.pages c.in_ok-page.page c.args.level []) c.in-Keyed.is c.in_ok-page.ensures.holds)
    (omega arith, omega arith, omega arith)

pub append_count-requires-clause-takes : goal.append_count-requires-clause-takes
append_count-requires-clause-takes c =
    let node : Node = record { page = c.args.child.page; count = c.args.child.count; leaves = []; key = Unknown } in
    can_start Numbered c.add_inner.new.pages c.in_ok-page.page c.args.level node
    (subst (λ i. HoldsChildrenOn i c.add_inner.new.pages c.in_ok-page.page c.args.level []) c.in-Numbered.is c.in_ok-page.ensures.holds)
    (omega arith, omega arith)

pub returns-in-Keyed : goal.returns-in-Keyed
returns-in-Keyed c = λ node page count.
    subst (λ i. IsStarted i c.args.level c.args.pages.now c.append_child.new.pages c.in_ok-page.page node) (sym c.in-Keyed.is)
    (started Keyed c.args.pages.now c.add_inner.new.pages c.append_child.new.pages c.in_ok-page.page c.args.level node _ c.requires.legal
    c.requires.whole
    c.in_ok-page.ensures.number (c.in_ok-page.ensures.pages ∙ ap (λ i. with_inner i c.args.pages.now c.args.level) c.in-Keyed.is)
    c.append_child.ensures.page
    (can_start Keyed c.add_inner.new.pages c.in_ok-page.page c.args.level (record
    { page = c.args.child.page; count = c.args.child.count; leaves = []; key = Unknown })
    (subst (λ i. HoldsChildrenOn i c.add_inner.new.pages c.in_ok-page.page c.args.level []) c.in-Keyed.is c.in_ok-page.ensures.holds)
    (omega arith, omega arith, omega arith))
    (c.append_child.ensures.holds c.args.level [] node
    (subst (λ i. HoldsChildrenOn i c.add_inner.new.pages c.in_ok-page.page c.args.level []) c.in-Keyed.is c.in_ok-page.ensures.holds)
    (keyed_same c.args.child node (Inline []) page count)))

pub returns-in-Numbered : goal.returns-in-Numbered
returns-in-Numbered c = λ node page count.
    subst (λ i. IsStarted i c.args.level c.args.pages.now c.append_count.new.pages c.in_ok-page.page node) (sym c.in-Numbered.is)
    (started Numbered c.args.pages.now c.add_inner.new.pages c.append_count.new.pages c.in_ok-page.page c.args.level node _ c.requires.legal
    c.requires.whole
    c.in_ok-page.ensures.number (c.in_ok-page.ensures.pages ∙ ap (λ i. with_inner i c.args.pages.now c.args.level) c.in-Numbered.is)
    c.append_count.ensures.page
    (can_start Numbered c.add_inner.new.pages c.in_ok-page.page c.args.level
    (record { page = c.args.child.page; count = c.args.child.count; leaves = []; key = Unknown })
    (subst (λ i. HoldsChildrenOn i c.add_inner.new.pages c.in_ok-page.page c.args.level []) c.in-Numbered.is c.in_ok-page.ensures.holds)
    (omega arith, omega arith))
    (c.append_count.ensures.holds c.args.level [] node
    (subst (λ i. HoldsChildrenOn i c.add_inner.new.pages c.in_ok-page.page c.args.level []) c.in-Numbered.is c.in_ok-page.ensures.holds)
    (numbered_same c.args.child node page count)))
