use Rattle.std.proofs.Common.{subst, sym, ◌∙◌, ap, length}
use Rattle.bdb_rescue.specs.Gathered.{Adds, InHand}
use Rattle.bdb_rescue.specs.Kept.{file_in}
use Rattle.bdb_rescue.proofs.GatheredLemmas.{none_noted, set_noted}
use Rattle.bdb_rescue.proofs.gathered.Gatherer.push_new_set.Goals as goal

pub invariant_of-self : goal.invariant_of-self
invariant_of-self c =
    none_noted (file_in c.self-2.inside.salvaged.now) c.self-2.inside.pairs c.self-2.inside.sets c.insert.new.self c.in_err-insert.ensures.err c.self-2.invariant

-- The data of the set stand behind the pairs that were there.
pub invariant_of-self-2 : goal.invariant_of-self-2
invariant_of-self-2 c =
    set_noted c.args.self.now c.push_places.new.self c.self-2.inside.salvaged.now c.self-2.inside.pairs c.self-2.inside.sets c.insert.new.self c.args.key
    c.args.leaf c.len-from.result c.self-2.view_is
    (subst (Adds c.args.self.now c.push_places.new.self c.args.key) c.requires.places c.in_ok-push_places.ensures)
    (c.len-from.ensures ∙ ap (λ (it : InHand). length it.gathered.pairs) c.self.view_is) c.in_ok-insert.ensures.updates c.self-2.invariant
