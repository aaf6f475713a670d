use Rattle.bdb_model.specs.of_format.Terms.{file_of}
use Rattle.bdb_tool_build.proofs.GatheredLemmas.{extends_chains}
use Rattle.bdb_tool_build.proofs.gathered.Gatherer.push_span.Goals as goal

pub invariant_of-self : goal.invariant_of-self
invariant_of-self c =
    extends_chains (file_of c.self.inside.forest) c.self.inside.pairs c.push.new.self c.push.ensures.extends c.self.invariant
