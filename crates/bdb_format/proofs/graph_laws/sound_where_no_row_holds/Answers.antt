use Rattle.bdb_format.proofs.VerdictLemmas.{sound_where_no_row_holds}
use Rattle.bdb_format.proofs.graph_laws.sound_where_no_row_holds.Goals as goal

pub returns : goal.returns
returns c = sound_where_no_row_holds
