use Rattle.bdb_rescue.specs.Kept.{file_in}
use Rattle.bdb_rescue.proofs.LeftLemmas.{pairs_rest}
use Rattle.bdb_rescue.proofs.entries.SalvageEntriesIterator.next.Goals as goal

pub invariant_of-self-2 : goal.invariant_of-self-2
invariant_of-self-2 c = pairs_rest (file_in c.self.inside.salvaged.now) c.self.inside.pairs c.next.new.self c.in_ok-pair.pair c.in_ok-pair.ensures.steps
    c.self.invariant
