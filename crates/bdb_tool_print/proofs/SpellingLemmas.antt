-- The spelling of no bytes.
use Rattle.std.proofs.Common.{◌≡◌, Bool, true, false, [], refl}
use Rattle.bdb_text.specs.of_text_format.Terms.{spelling}

pub spelling_none : (prints : Bool) → spelling prints [] ≡ []
unfolding spelling
spelling_none true = refl
spelling_none false = refl
