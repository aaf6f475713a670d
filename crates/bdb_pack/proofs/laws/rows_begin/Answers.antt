use Rattle.bdb_pack.proofs.BoundLemmas.{rows_begin}
use Rattle.bdb_pack.proofs.laws.rows_begin.Goals as goal

pub returns : goal.returns
returns c = rows_begin
