use Rattle.bdb_pack.proofs.PieceLemmas.{chain_pages_are_formed}
use Rattle.bdb_pack.proofs.laws.chain_pages_are_formed.Goals as goal

pub returns : goal.returns
returns c = chain_pages_are_formed
