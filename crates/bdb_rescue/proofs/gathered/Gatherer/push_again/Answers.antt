use Rattle.bdb_rescue.specs.Kept.{file_in}
use Rattle.bdb_rescue.proofs.GatheredLemmas.{extends_in_hand}
use Rattle.bdb_rescue.proofs.gathered.Gatherer.push_again.Goals as goal

pub invariant_of-self : goal.invariant_of-self
invariant_of-self c =
    extends_in_hand (file_in c.self.inside.salvaged.now) c.self.inside.pairs c.push_again.new.self c.self.inside.sets c.push_again.ensures.extends
    c.self.invariant
