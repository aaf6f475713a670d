use Rattle.std.proofs.Common.{◌∙◌, ◌∷◌, ◌≡◌, ap, false, subst, sym, All}
use Rattle.bdb_mkleaves.proofs.Common.{All-head, All-tail, values_seen, IsPushed, IsReady, IsShort, KeyedUnit, has_own_tree, unit_cost}
use Rattle.bdb_mkleaves.proofs.PushLemmas.{pairs_pushed, some_pushed}
use Rattle.bdb_mkleaves.proofs.SetPutLemmas.{pairs_keyed, tree_pushed}
use Rattle.bdb_mkleaves.proofs.leaves.Leaves.push_keyed.Goals as goal

pub put_pairs-requires-clause-first : goal.put_pairs-requires-clause-first
put_pairs-requires-clause-first c = All-head IsShort c.in-Some.first.now (values_seen c.in-Some.more) (subst (All IsShort) c.in-Some.ensures c.requires.short)

pub put_pairs-requires-clause-more : goal.put_pairs-requires-clause-more
put_pairs-requires-clause-more c = All-tail IsShort c.in-Some.first.now (values_seen c.in-Some.more) (subst (All IsShort) c.in-Some.ensures c.requires.short)

pub returns-then-taken-clause-pushed : goal.returns-then-taken-clause-pushed
returns-then-taken-clause-pushed c =
    tree_pushed c.args.self.now c.make_room.new.self c.args.pages.now c.make_room.new.pages c.put_tree.new.pages c.args.sorted c.args.key.now
    (values_seen c.args.values) c.requires.filled
    (subst (IsReady c.args.self.now c.make_room.new.self c.args.pages.now c.make_room.new.pages)
    (c.leaf_cost-taken.ensures.cost ∙ ap (λ n. unit_cost n (KeyedUnit c.args.key.now (values_seen c.args.values))) c.size.ensures.size)
    c.in_ok-make_room.ensures)
    c.in_ok-put_tree.ensures

pub returns-then-taken-clause-filled : goal.returns-then-taken-clause-filled
returns-then-taken-clause-filled c =
    some_pushed c.args.self.now c.make_room.new.self c.args.pages.now c.put_tree.new.pages (KeyedUnit c.args.key.now (values_seen c.args.values))
    c.requires.filled (returns-then-taken-clause-pushed c).pushed

pub returns-clause-pushed : goal.returns-clause-pushed
returns-clause-pushed c =
    let values = values_seen c.args.values in
    let few : has_own_tree c.args.pages.now.size c.args.key.now values ≡ false =
    ap (λ n. has_own_tree n c.args.key.now values) (sym c.size.ensures.size) ∙ (sym c.leaf_cost-taken.ensures.tree ∙ c.if-taken.false) in
    let is : values ≡ c.in-Some.first.now ∷ values_seen c.in-Some.more = c.in-Some.ensures in
    pairs_keyed c.args.self.now c.make_room.new.self c.args.pages.now c.put_pairs.new.pages c.args.sorted c.args.key.now values few
    (subst (λ vs. IsPushed c.args.self.now c.make_room.new.self c.args.pages.now c.put_pairs.new.pages (KeyedUnit c.args.key.now vs)) (sym is)
    (pairs_pushed c.args.self.now c.make_room.new.self c.args.pages.now c.make_room.new.pages c.put_pairs.new.pages c.args.key.now
    c.in-Some.first.now (values_seen c.in-Some.more) c.requires.filled c.requires.leaf
    (subst (λ vs. has_own_tree c.args.pages.now.size c.args.key.now vs ≡ false) is few)
    (subst (IsReady c.args.self.now c.make_room.new.self c.args.pages.now c.make_room.new.pages)
    (c.leaf_cost-taken.ensures.cost ∙ (ap (λ n. unit_cost n (KeyedUnit c.args.key.now values)) c.size.ensures.size
    ∙ ap (λ vs. unit_cost c.args.pages.now.size (KeyedUnit c.args.key.now vs)) is))
    c.in_ok-make_room.ensures)
    c.in_ok-put_pairs.ensures))

pub returns-clause-filled : goal.returns-clause-filled
returns-clause-filled c =
    some_pushed c.args.self.now c.make_room.new.self c.args.pages.now c.put_pairs.new.pages (KeyedUnit c.args.key.now (values_seen c.args.values))
    c.requires.filled (returns-clause-pushed c).pushed
