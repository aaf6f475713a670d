use Rattle.bdb_mkfile.proofs.TableMetaLemmas.{tables_have_names}
use Rattle.bdb_mkfile.proofs.laws.tables_have_names.Goals as goal

pub returns : goal.returns
returns c = tables_have_names
