use Rattle.bdb_law_sections.proofs.SectionLemmas.{read_queues_have_bytes}
use Rattle.bdb_law_sections.proofs.laws.read_queues_have_bytes.Goals as goal

pub returns : goal.returns
returns c = read_queues_have_bytes
