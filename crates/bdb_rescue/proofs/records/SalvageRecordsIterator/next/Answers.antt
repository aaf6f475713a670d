use Rattle.bdb_rescue.specs.Kept.{file_in}
use Rattle.bdb_rescue.proofs.LeftLemmas.{values_rest}
use Rattle.bdb_rescue.proofs.records.SalvageRecordsIterator.next.Goals as goal

pub invariant_of-self-2 : goal.invariant_of-self-2
invariant_of-self-2 c = values_rest (file_in c.self.inside.salvaged.now) c.self.inside.places c.next.new.self c.in_ok-place.place c.in_ok-place.ensures.steps
    c.self.invariant
