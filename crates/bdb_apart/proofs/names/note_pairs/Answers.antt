use Rattle.bdb_apart.specs.Found.{entry_of}
use Rattle.bdb_apart.proofs.NameLemmas.{ends, steps}
use Rattle.bdb_apart.proofs.names.note_pairs.Goals as goal

pub loop-key-preserved : goal.loop-key-preserved
loop-key-preserved c = steps entry_of _ _ _ _ _ _ _ c.in-Some.ensures.steps c.note_pair.ensures c.loop-key.invariant

pub returns : goal.returns
returns c = ends entry_of _ _ _ _ c.in-None.ensures.steps.0 c.loop-key.invariant
