use Rattle.bdb_format.proofs.GraphLemmas.{each_page_has_one_role}
use Rattle.bdb_format.proofs.graph_laws.each_page_has_one_role.Goals as goal

pub returns : goal.returns
returns c = each_page_has_one_role
