use Rattle.std.proofs.Common.{map, take, subst}
use Rattle.std.proofs.lemmas.List.{take_all}
use Rattle.bdb_apart.specs.Kept.{AreHeld, found_seen}
use Rattle.bdb_apart.proofs.HeldLemmas.{place_more}
use Rattle.bdb_apart.proofs.apart.note_places.Goals as goal

pub loop-place-preserved : goal.loop-place-preserved
loop-place-preserved c =
    let places = c.args.places.now in
    let i = c.loop-place.place-index in
    λ count none.
    subst (λ dbs. AreHeld dbs count c.note_held.new.held) (place_more places i c.place-item.result c.loop-place-test.true c.place-item.is)
    (c.note_held.ensures (map found_seen (take i places)) count (c.loop-place.invariant count none))

pub returns : goal.returns
returns c =
    let places = c.args.places.now in
    λ count none.
    subst (λ ps. AreHeld (map found_seen ps) count c.loop-place.held) (take_all c.loop-place.place-index places c.loop-place-test.false)
    (c.loop-place.invariant count none)
