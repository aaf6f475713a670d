use Rattle.bdb_law_buckets.proofs.TableLemmas.{tables_are_parts as law}
use Rattle.bdb_law_buckets.proofs.laws.tables_are_parts.Goals as goal

pub returns : goal.returns
returns c = law
