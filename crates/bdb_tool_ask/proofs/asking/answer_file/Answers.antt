use Rattle.std.proofs.Common.{ap}
use Rattle.bdb_file.specs.of_format.Terms.{faults_of, first_judgement, verdict_of}
use Rattle.bdb_tool_ask.proofs.AnswerLemmas.{asked_finishes, refused_finishes, sound_finishes}
use Rattle.bdb_tool_ask.proofs.asking.answer_file.Goals as goal

pub returns-in-Err : goal.returns-in-Err
returns-in-Err g c = λ asked is.
    asked_finishes c.args.request.now asked _ _ _ _ is
    (refused_finishes (faults_of c.args.image.now) c.in-Err.error asked _ _ _ _ _ c.in-Err.ensures.refusal c.refuse.ensures)

pub returns-in-Ok : goal.returns-in-Ok
returns-in-Ok g c = λ asked is.
    asked_finishes c.args.request.now asked _ _ _ _ is
    (sound_finishes (verdict_of c.args.image.now) c.args.image.now c.in-Ok.sound asked _ _ _ (c.answer_sound.ensures asked is)
    (ap first_judgement c.in-Ok.ensures.accepted) c.in-Ok.ensures.sound)
