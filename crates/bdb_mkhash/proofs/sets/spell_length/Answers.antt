use Rattle.std.proofs.Common.{◌∙◌}
use Rattle.bdb_mkhash.proofs.SetLemmas.{spelled_over}
use Rattle.bdb_mkhash.proofs.sets.spell_length.Goals as goal

pub returns : goal.returns
returns c = c.put_u16.ensures ∙ spelled_over c.args.order c.args.length
