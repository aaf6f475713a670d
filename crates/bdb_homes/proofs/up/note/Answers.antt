use Rattle.std.proofs.Common.{◌<◌, ◌∙◌, ◌++◌, ◌∷◌, [], arith, length, slice_set, subst, sym, true≢false}
use Rattle.bdb_homes.specs.Ups.{AreUps}
use Rattle.bdb_homes.proofs.UpLemmas.{ups_same, ups_set}
use Rattle.bdb_homes.proofs.up.note.Goals as goal
use Rattle.bdb_homes.proofs.up.note.Goals.{else-fits-via-then-fits+then-page-ups+else-not-is_claimed, else-fits-via-then-fits+else-page-ups}
use Rattle.bdb_homes.proofs.up.note.Goals.{else-fits-via-else-fits}

pub returns-then-not-is_claimed-clause-ups : goal.returns-then-not-is_claimed-clause-ups
returns-then-not-is_claimed-clause-ups c = λ file claims claim here kept fits are.
    let inside : claim.below.page < length c.args.ups.now = omega (arith, here, c.if-page-ups.true) in
    subst (λ n. AreUps file (slice_set c.args.ups.now n c.args.up) (claims ++ claim ∷ [])) here
    (ups_set file c.args.ups.now claims claim c.args.up are kept inside (sym (fits (omega (arith, c.if-page-ups.true))) ∙ c.if-fits.true)
    (grind (arith, here, c.is_claimed.ensures, c.if-not-is_claimed.true)))

pub returns-else-fits-clause-ups : goal.returns-else-fits-clause-ups
returns-else-fits-clause-ups c = λ file claims claim here kept fits are.
    ups_same file c.args.ups.now claims claim are (λ inside fit. elim c.else-fits.branch [
      | else-fits-via-then-fits+then-page-ups+else-not-is_claimed w ↦ grind (arith, here, w.is_claimed.ensures, w.if-not-is_claimed.false)
      | else-fits-via-then-fits+else-page-ups w ↦ absurd (omega (arith, here, inside, w.if-page-ups.false))
      | else-fits-via-else-fits w ↦ absurd (true≢false (sym fit ∙ (sym (fits (omega (arith, here, inside))) ∙ w.if-fits.false)))
    ])
