use Rattle.std.proofs.Common.{◌≡◌, arith, option_map}
use Rattle.bdb_faults.specs.of_format.Terms.{file_of, reference_row_code}
use Rattle.bdb_image.proofs.FitLemmas.{names_page}
use Rattle.bdb_image.proofs.fits.misfit.Goals as goal

pub returns : goal.returns
returns c =
    let last : c.head.result.last ≡ (file_of c.args.formed.now).last = c.head.ensures.last in
    names_page (file_of c.args.formed.now) c.args.holder c.args.reference c.asked_by-asked.result c.page_at.result c.page_at-2.result
    (option_map reference_row_code c.misfit.result)
    c.if-reference-eq0.false (omega (arith, last, c.from.ensures, c.if-reference-from.false)) c.misfit.ensures c.asked_by-asked.ensures c.page_at.ensures
    c.page_at-2.ensures
