use Rattle.std.proofs.Common.{ap}
use Rattle.std.proofs.lemmas.Result.{on_ok_weaker}
use Rattle.bdb_model.specs.of_format.Terms.{first_judgement}
use Rattle.bdb_tool_build.proofs.BaseLemmas.{all_bytes, is_base}
use Rattle.bdb_tool_build.proofs.base.open_base.Goals as goal

pub returns-clause-base : goal.returns-clause-base
returns-clause-base g c =
    on_ok_weaker c.sound_by.result
    (λ accepted. is_base c.args.image.now c.requires.small (ap first_judgement accepted) (all_bytes c.args.image.now (λ i. (c.type_inv.image i).fits)))
    c.sound_by.ensures.accepted

pub returns-clause-sound : goal.returns-clause-sound
returns-clause-sound g c = on_ok_weaker c.sound_by.result (λ accepted. ap first_judgement accepted) c.sound_by.ensures.accepted
