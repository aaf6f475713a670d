use Rattle.bdb_settle.proofs.ListLawLemmas.{load_into_lists}
use Rattle.bdb_settle.proofs.laws.load_into_lists.Goals as goal

pub returns : goal.returns
returns c = load_into_lists
