use Rattle.std.proofs.Common.{◌∙◌, ap, arith, refl, Some}
use Rattle.bdb_tool.specs.of_io.Memory.{Memory}
use Rattle.check_images.proofs.VerdictLemmas.{bytes_told, verdict_line, verdict_printed}
use Rattle.bdb_tool.proofs.RunLemmas.{never_rose}
use Rattle.check_images.proofs.verdict.verdict_on.Goals as goal

pub returns-in-0 : goal.returns-in-0
returns-in-0 c =
    bytes_told c.bytes_of-in-0.result _ _ _ c.bytes.ensures
    (verdict_printed c.args.rows c.in_ok-words.words c.args.image.now _ _ _ _ _ c.in_ok-words.ensures c.run_counted-status.ensures
    (ap Some (c.new-source.ensures ∙ c.in_ok-bytes_of.ensures)) c.in-0.is
    (ap (λ (sink : Memory). Some sink.bytes) c.new-out.ensures) refl)
    c.bytes_of-in-0.ensures

pub returns : goal.returns
returns c =
    bytes_told c.bytes_of-in_default.result _ _ _ c.bytes-in_default.ensures
    (verdict_line c.args.rows c.in_ok-words.words c.args.image.now _ _ _ _ _ c.in_ok-words.ensures c.run_counted-status.ensures
    (ap Some (c.new-source.ensures ∙ c.in_ok-bytes_of.ensures)) never_rose
    (λ zero_is. grind (arith, zero_is, c.in_default)) (λ five. grind (arith, five, c.in_default)) (λ seven. grind (arith, seven, c.in_default))
    (ap (λ (sink : Memory). Some sink.bytes) c.new-err.ensures) refl)
    c.bytes_of-in_default.ensures
