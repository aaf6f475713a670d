use Rattle.std.proofs.Common.{◌≡◌, ◌+◌, ◌∙◌, ap, arith, length, sym}
use Rattle.bdb_homes.proofs.RunLemmas.{no_leap_yet}
use Rattle.bdb_homes.proofs.claims.ups_of.Goals as goal

-- No leap goes over a page yet.
pub note_pages-requires-clause-leaps : goal.note_pages-requires-clause-leaps
note_pages-requires-clause-leaps g c =
    let len : length c.deref_mut.result.now ≡ c.count-count.result = ap length c.deref_mut.ensures.value ∙ (sym c.in_ok-ups.ups.ok.0 ∙ c.in_ok-ups.ensures.len)
    in
    no_leap_yet c.args.faces.now c.deref_mut.result.now c.deref_mut-2.result.now (c.count-count.result + 1)
    (c.deref_mut-2.ensures.value ∙ c.in_ok-leaps.ensures) (omega (arith, len)) (omega (arith, len, c.count-count.ensures.few))
    (omega (arith, len, c.requires.len, c.count-count.ensures.count))
