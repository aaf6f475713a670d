use Rattle.std.proofs.Common.{arith, ◌∙◌, ap, sum_by}
use Rattle.bdb_mkleaves.specs.declared.levels.Child.{Child}
use Rattle.bdb_mkleaves.proofs.FinishLemmas.{ends_of, tower_on}
use Rattle.bdb_mkleaves.proofs.placing.lay_levels_on.Goals as goal

pub lay_levels-requires-clause-some : goal.lay_levels-requires-clause-some
lay_levels-requires-clause-some c = let many = c.requires.many in omega (arith, many)

-- the root is the last page
pub place_root-requires-clause-last : goal.place_root-requires-clause-last
place_root-requires-clause-last c =
    let (nodes, are, cheap) = c.requires.children in
    (ends_of c.args.inner c.args.pages.now c.lay_levels.new.pages nodes c.in_ok-root.root c.args.below.items are c.requires.many
    (c.in_ok-root.ensures nodes are)).last

-- it was laid behind the pages that stood
pub place_root-requires-clause-first : goal.place_root-requires-clause-first
place_root-requires-clause-first c =
    let (nodes, are, cheap) = c.requires.children in
    let ends = ends_of c.args.inner c.args.pages.now c.lay_levels.new.pages nodes c.in_ok-root.root c.args.below.items are c.requires.many
    (c.in_ok-root.ensures nodes are) in
    let low = ends.low in
    let first = c.requires.first in omega (arith, low, first)

pub returns : goal.returns
returns c = λ nodes are.
    tower_on c.args.inner c.args.pages.now c.lay_levels.new.pages c.place_root.new.pages nodes c.args.first c.in_ok-root.root c.in_ok-sum.sum c.args.below.items
    are
    c.requires.many c.requires.first c.requires.blank (c.in_ok-root.ensures nodes are)
    (c.in_ok-sum.ensures ∙ ap (sum_by (λ (child : Child). child.count)) c.deref.ensures.value) c.place_root.ensures
