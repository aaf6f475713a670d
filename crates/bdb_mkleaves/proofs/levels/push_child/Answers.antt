use Rattle.std.proofs.Common.{List, [], ◌∷◌, ◌++◌, sym, subst, ap, ◌∙◌, IsTrue}
use Rattle.bdb_mkleaves.proofs.Common.{is_page_size, AreWhole, Built, IsLevelLaid, IsStarted, LaidNow, Child}
use Rattle.bdb_mkleaves.proofs.LevelLemmas.{laid_started, stays_as}
use Rattle.bdb_mkleaves.proofs.levels.push_child.Goals as goal

pub returns-then-branch : goal.returns-then-branch
returns-then-branch c = λ origin nodes node laid is.
    subst (λ b. LaidNow b c.args.inner c.args.level origin c.args.pages.now c.last_takes.new.pages c.args.above.now.items c.last_takes.new.above.items
    nodes node)
    c.if-branch.true (c.in_ok-last_takes.ensures origin nodes node laid is)

pub start_page-requires-clause-legal : goal.start_page-requires-clause-legal
start_page-requires-clause-legal c =
    let same = stays_as c.args.inner c.args.level c.args.pages.now c.last_takes.new.pages c.args.above.now.items c.last_takes.new.above.items
    c.args.child
    c.in_ok-last_takes.field-0 c.if-branch.false c.requires.can c.in_ok-last_takes.ensures in
    subst (λ (b : Built). IsTrue (is_page_size b.size)) (sym same) c.requires.legal

pub start_page-requires-clause-whole : goal.start_page-requires-clause-whole
start_page-requires-clause-whole c =
    let same = stays_as c.args.inner c.args.level c.args.pages.now c.last_takes.new.pages c.args.above.now.items c.last_takes.new.above.items
    c.args.child
    c.in_ok-last_takes.field-0 c.if-branch.false c.requires.can c.in_ok-last_takes.ensures in
    subst AreWhole (sym same) c.requires.can.laid.laid.whole

pub returns : goal.returns
returns c = λ origin nodes node laid is.
    let answer =
    subst (λ b. LaidNow b c.args.inner c.args.level origin c.args.pages.now c.last_takes.new.pages c.args.above.now.items c.last_takes.new.above.items
    nodes node)
    c.if-branch.false (c.in_ok-last_takes.ensures origin nodes node laid is) in
    let child : Child = record { page = c.in_ok-page.page; count = c.args.child.count; leaf = c.args.child.leaf } in
    subst (λ (l : List Child). IsLevelLaid c.args.inner c.args.level origin c.start_page.new.pages l (nodes ++ (node ∷ [])))
    (sym (c.in_ok-push.ensures.items ∙ ap (λ (l : List Child). l ++ (child ∷ [])) answer.1))
    (laid_started c.args.inner c.args.level origin c.args.pages.now c.start_page.new.pages c.args.above.now.items nodes node c.args.child
    c.in_ok-page.page laid is
    (subst (λ (b : Built). IsStarted c.args.inner c.args.level b c.start_page.new.pages c.in_ok-page.page node) answer.0
    (c.in_ok-page.ensures node is.page_is is.count_is))
    answer.2)
