use Rattle.bdb_mkfile.proofs.TableMetaLemmas.{tables_are_spelled}
use Rattle.bdb_mkfile.proofs.laws.tables_are_spelled.Goals as goal

pub returns : goal.returns
returns c = tables_are_spelled
