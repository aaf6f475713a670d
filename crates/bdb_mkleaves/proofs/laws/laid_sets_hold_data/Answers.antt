use Rattle.bdb_mkleaves.proofs.LaidSetLemmas.{laid_sets_hold_data}
use Rattle.bdb_mkleaves.proofs.laws.laid_sets_hold_data.Goals as goal

pub returns : goal.returns
returns c = laid_sets_hold_data
