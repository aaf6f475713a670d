use Rattle.bdb_text.proofs.ReadLemmas.{reads_or_faults}
use Rattle.bdb_text.proofs.laws.reads_or_faults.Goals as goal

pub returns : goal.returns
returns c = reads_or_faults
