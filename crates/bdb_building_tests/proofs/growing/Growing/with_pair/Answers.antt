use Rattle.std.proofs.Common.{◌≡◌, true, ◌++◌, ◌∷◌, [], ap, sym, subst, ◌∙◌, Some}
use Rattle.bdb_mktree.specs.Building.{units_of}
use Rattle.bdb_building_tests.specs.Trees.{IsGrowing, is_above}
use Rattle.bdb_building_tests.proofs.GrowingLemmas.{comes_next, grown}
use Rattle.bdb_building_tests.proofs.growing.Growing.with_pair.Goals as goal

-- Its key is above the last one.
pub push-requires-clause-next : goal.push-requires-clause-next
push-requires-clause-next c =
    let above : is_above c.self.inside.last c.args.key.now ≡ true = cc in
    comes_next _ _ _ _ _ _ c.self.invariant above c.unit_of-unit.ensures

-- So one above it may come next.
pub invariant_of-result : goal.invariant_of-result
invariant_of-result c =
    let above : is_above c.self.inside.last c.args.key.now ≡ true = cc in
    let key : c.push_all.new.self ≡ c.args.key.now = c.in_ok-push_all.ensures.ok ∙ ap (λ xs. xs ++ c.args.key.now) c.new-last.ensures in
    let units = c.in_ok-push.ensures.units ∙ ap (λ unit. units_of c.self.inside.builder c.self.inside.pages ++ (unit ∷ [])) c.unit_of-unit.ensures in
    subst (λ k. IsGrowing c.push.new.pages c.push.new.self (Some k)) (sym key)
    (grown _ _ _ _ _ _ _ c.self.invariant above c.in_ok-push.ensures.building c.in_ok-push.ensures.settings units)
