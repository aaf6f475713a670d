use Rattle.bdb_pack.proofs.PlacingLaws.{items_are_placed}
use Rattle.bdb_pack.proofs.laws.items_are_placed.Goals as goal

pub returns : goal.returns
returns c = items_are_placed
