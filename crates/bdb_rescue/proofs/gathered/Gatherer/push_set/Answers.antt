use Rattle.std.proofs.Common.{subst, All}
use Rattle.bdb_rescue.specs.Gathered.{InHand}
use Rattle.bdb_rescue.specs.Kept.{IsKeptValue, file_in}
use Rattle.bdb_rescue.proofs.KeptLemmas.{all_in_set}
use Rattle.bdb_rescue.proofs.gathered.Gatherer.push_set.Goals as goal

pub push_new_set-requires-clause-kept : goal.push_new_set-requires-clause-kept
push_new_set-requires-clause-kept c =
    subst (λ (it : InHand). All (IsKeptValue (file_in it.reading)) c.places_in-places.result.now) c.self.view_is
    (all_in_set (file_in c.self.inside.salvaged.now) c.args.leaf c.places_in-places.result.now c.places_in-places.ensures)
