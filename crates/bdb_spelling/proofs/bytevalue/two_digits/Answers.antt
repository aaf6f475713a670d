use Rattle.std.proofs.Common.{◌∙◌}
use Rattle.bdb_spelling.proofs.SpellingLemmas.{encode_lower-byte}
use Rattle.bdb_spelling.proofs.bytevalue.two_digits.Goals as goal

pub returns : goal.returns
returns c = (rw c.unwrap.ensures at c.encode_to_slice.ensures.written) ∙ encode_lower-byte c.args.byte c.ranges.byte.fits
