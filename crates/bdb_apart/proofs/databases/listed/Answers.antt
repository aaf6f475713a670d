use Rattle.std.proofs.Common.{refl}
use Rattle.bdb_apart.proofs.FoundLemmas.{all_listed, put_listed}
use Rattle.bdb_apart.proofs.databases.listed.Goals as goal

pub loop-name-preserved : goal.loop-name-preserved
loop-name-preserved c = put_listed _ _ _ _ _ _ _ c.in-Some.ensures.steps c.in_ok-push.ensures.items refl c.loop-name.invariant

pub returns : goal.returns
returns c = all_listed _ _ _ c.in-None.ensures.steps.0 c.loop-name.invariant
