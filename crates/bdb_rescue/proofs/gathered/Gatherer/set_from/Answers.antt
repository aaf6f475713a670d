use Rattle.std.proofs.Common.{ap, subst, sym, ◌∙◌, option_copied}
use Rattle.bdb_rescue.specs.Gathered.{InHand, StandFrom, set_data}
use Rattle.bdb_rescue.specs.Kept.{file_in}
use Rattle.bdb_rescue.proofs.gathered.Gatherer.set_from.Goals as goal

pub returns-in-Some : goal.returns-in-Some
returns-in-Some c =
    subst (λ (it : InHand). StandFrom it.gathered.pairs (set_data (file_in it.reading) c.args.leaf) c.in-Some.from.now) c.self.view_is
    (c.self.invariant.sets.each c.args.leaf c.in-Some.from.now (sym c.get.ensures.value ∙ ap option_copied c.in-Some.is))
