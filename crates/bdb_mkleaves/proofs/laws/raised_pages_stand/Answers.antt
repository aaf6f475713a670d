use Rattle.bdb_mkleaves.proofs.InnerLemmas.{raised_pages_stand}
use Rattle.bdb_mkleaves.proofs.laws.raised_pages_stand.Goals as goal

pub returns : goal.returns
returns c = raised_pages_stand
