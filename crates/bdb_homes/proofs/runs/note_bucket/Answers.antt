use Rattle.std.proofs.Common.{◌≡◌, ◌∙◌, ap, arith, refl}
use Rattle.bdb_homes.specs.Fits.{bucket_asked, fits_by}
use Rattle.bdb_homes.proofs.RunLemmas.{bucket_fits, bucket_up, closed_now, leap_over, leaps_kept}
use Rattle.bdb_homes.specs.Runs.{bucket_claim}
use Rattle.bdb_homes.proofs.runs.note_bucket.Goals as goal

pub returns-clause-leaps : goal.returns-clause-leaps
returns-clause-leaps c =
    let fits : c.fits-fits.result ≡ fits_by c.args.faces.now bucket_asked c.args.page =
    c.fits-fits.ensures ∙ ap (λ asked. fits_by c.args.faces.now asked c.args.page) c.bucket.ensures in
    leap_over c.args.faces.now c.note.new.ups c.args.leaps.now c.args.page
    (leaps_kept c.args.faces.now c.args.ups.now c.note.new.ups c.args.leaps.now c.note.auto.ups c.note.ensures.claimed c.requires.leaps)
    (omega (arith, c.note.auto.ups, c.requires.there))
    (closed_now c.args.faces.now c.note.new.ups c.args.page c.fits-fits.result fits (λ is. c.note.ensures.noted c.requires.there is))

pub returns-clause-ups : goal.returns-clause-ups
returns-clause-ups c = λ file claims faced meta are.
    let fits : c.fits-fits.result ≡ fits_by c.args.faces.now bucket_asked c.args.page =
    c.fits-fits.ensures ∙ ap (λ asked. fits_by c.args.faces.now asked c.args.page) c.bucket.ensures in
    c.note.ensures.ups file claims (bucket_claim c.args.holder c.args.page) refl (bucket_up file c.args.holder c.args.page meta)
    (λ low. fits ∙ bucket_fits file c.args.faces.now c.args.holder c.args.page faced) are
