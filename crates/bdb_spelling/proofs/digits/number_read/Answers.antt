use Rattle.std.proofs.Common.{◌∙◌, sym}
use Rattle.bdb_spelling.proofs.DigitLemmas.{no_number}
use Rattle.bdb_spelling.proofs.digits.number_read.Goals as goal

pub returns-in-None : goal.returns-in-None
returns-in-None c = c.hexadecimal.ensures ∙ sym (no_number c.args.value.now (sym c.number_in.ensures ∙ c.in-None.is))
