use Rattle.std.proofs.Common.{◌+◌, ◌<◌, ◌≡◌, List, length, arith, inl, inr, refl, sym, subst, ap, ◌∙◌}
use Rattle.bdb_mkleaves.proofs.Common.{get_or_default, Node, AreChildren, IsLevelLaid, no_child, HasTower, Child}
use Rattle.bdb_mkleaves.proofs.LevelLemmas.{as_many, sum_is}
use Rattle.bdb_mkleaves.proofs.TopLemmas.{ends_in_root, is_topped}
use Rattle.bdb_mkleaves.proofs.TowerLemmas.{IsBuilding, level_built, level_shrinks, none_built, some_laid, tower_built}
use Rattle.bdb_mkleaves.proofs.tower.lay_levels.Goals as goal

pub loop-alloc-init : goal.loop-alloc-init
loop-alloc-init c = record {
  low = omega arith;
  some = c.requires.some;
  built = λ nodes are. none_built c.args.inner c.args.pages.now nodes c.args.below.items c.requires.whole are;
  topped = inl refl;
}

-- the level is one above the one before
one_up : (c : goal.After-drop-row-in-loop-alloc) → c.in_ok-level.level ≡ c.loop-alloc.level + 1
one_up c = sum_is c.checked_add.result _ _ c.in_ok-level.level c.checked_add.ensures c.in_ok-level.ensures.ok_part

-- it stands over the nodes of that
is_laid : (c : goal.After-drop-row-in-loop-alloc) (nodes : List Node) (are : AreChildren c.args.inner c.args.pages.now c.args.below.items nodes)
    → IsLevelLaid c.args.inner (c.loop-alloc.level + 1) c.loop-alloc.pages c.lay_level.new.pages c.in_ok-row.row.items
    (c.loop-alloc.invariant.built nodes are).top
is_laid c nodes are =
    let built = c.loop-alloc.invariant.built nodes are in
    subst (λ n. IsLevelLaid c.args.inner n c.loop-alloc.pages c.lay_level.new.pages c.in_ok-row.row.items built.top) (one_up c)
    (c.in_ok-row.ensures built.top
    (subst (λ (l : List Child). AreChildren c.args.inner c.loop-alloc.pages l built.top) (sym c.deref.ensures.value) built.are))

-- and has fewer pages
fewer : (c : goal.After-drop-row-in-loop-alloc) → length c.in_ok-row.row.items < length c.loop-alloc.row.items
fewer c =
    let (nodes, are, cheap) = c.requires.children in
    level_shrinks c.args.inner c.args.pages.now c.loop-alloc.pages c.lay_level.new.pages nodes c.loop-alloc.level c.loop-alloc.row.items
    c.in_ok-row.row.items (c.loop-alloc.invariant.built nodes are) (is_laid c nodes are) cheap (omega (arith, c.loop-alloc-test.true, c.len.ensures))

pub loop-alloc-smaller : goal.loop-alloc-smaller
loop-alloc-smaller c = fewer c

pub loop-alloc-preserved : goal.loop-alloc-preserved
loop-alloc-preserved c =
    let (first, those, cheap) = c.requires.children in
    let top = c.loop-alloc.invariant.built first those in
    record {
      low = omega (arith, one_up c);
      some = some_laid c.args.inner (c.loop-alloc.level + 1) c.loop-alloc.pages c.lay_level.new.pages c.in_ok-row.row.items top.top
          (is_laid c first those)
          (omega (arith, c.loop-alloc.invariant.some, as_many c.args.inner c.loop-alloc.pages c.loop-alloc.row.items top.top top.are));
      built = λ nodes are.
          subst (λ n. IsBuilding c.args.inner c.args.pages.now c.lay_level.new.pages nodes n c.in_ok-row.row.items) (sym (one_up c))
          (level_built c.args.inner c.args.pages.now c.loop-alloc.pages c.lay_level.new.pages nodes c.loop-alloc.level c.args.below.items
          c.loop-alloc.row.items c.in_ok-row.row.items are c.loop-alloc.invariant.low (c.loop-alloc.invariant.built nodes are) (is_laid c nodes are)
          (omega (arith, c.loop-alloc-test.true, c.len.ensures)) (fewer c));
      topped = inr (λ nodes are. record {
        was = c.loop-alloc.pages;
        level = c.loop-alloc.level;
        below = c.loop-alloc.row.items;
        high = c.loop-alloc.invariant.low;
        many = omega (arith, c.loop-alloc-test.true, c.len.ensures);
        built = c.loop-alloc.invariant.built nodes are;
        laid = is_laid c nodes are;
      });
    }

pub returns : goal.returns
returns c = λ nodes are.
    let one : length c.loop-alloc.row.items ≡ 1 = omega (arith, c.loop-alloc-test.false, c.loop-alloc.invariant.some, c.len.ensures) in
    subst (HasTower c.args.inner c.args.pages.now c.loop-alloc.pages nodes)
    (ap (λ (child : Child). child.page)
    (get_or_default c.loop-alloc.row.items 0 no_child c.index.result.now c.loop-alloc.invariant.some ∙ sym c.index.ensures))
    (tower_built c.args.inner c.args.pages.now c.loop-alloc.pages nodes c.loop-alloc.level c.loop-alloc.row.items
    (c.loop-alloc.invariant.built nodes are) one
    (λ several. ends_in_root c.args.inner c.args.pages.now c.loop-alloc.pages nodes c.args.below.items c.loop-alloc.row.items are
    (is_topped (length c.loop-alloc.row.items) (length c.args.below.items) c.loop-alloc.invariant.topped one
    (omega (arith, several, as_many c.args.inner c.args.pages.now c.args.below.items nodes are)) nodes are) one))
