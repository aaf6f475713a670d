use Rattle.std.proofs.Common.{◌∙◌, ap}
use Rattle.bdb_layout.specs.of_format.Terms.{is_zero}
use Rattle.bdb_pack.specs.Built.{bytes_of, with_zeros}
use Rattle.bdb_pack.proofs.AddedLemmas.{added_zero}
use Rattle.bdb_pack.proofs.pages.Pages.add_begun.Goals as goal

pub begin-requires-clause-zero : goal.begin-requires-clause-zero
begin-requires-clause-zero c =
    ap (λ b. is_zero (bytes_of b c.in_ok-number.number)) c.in_ok-number.ensures.ok
    ∙ (ap (λ k. is_zero (bytes_of (with_zeros c.args.self.now) k)) c.in_ok-number.ensures.number ∙ added_zero c.args.self.now)
