use Rattle.std.proofs.Common.{◌*◌, arith, sym}
use Rattle.bdb_tree.specs.of_overflow.Datum.{datum_seen}
use Rattle.bdb_buckets.proofs.PairLemmas.{item_fits}
use Rattle.bdb_buckets.proofs.PlaceKeyLemmas.{key_here, no_page}
use Rattle.bdb_buckets.proofs.place.key_at.Goals as goal

pub returns-then-place-head : goal.returns-then-place-head
returns-then-place-head c =
    no_page c.args.forest.now c.args.place.now (omega (arith, c.head.ensures.last))

pub page-requires : goal.page-requires
page-requires c = omega (arith, c.head.ensures.last)

pub key_of-requires : goal.key_of-requires
key_of-requires c =
    item_fits c.args.forest.now c.args.place.now.page (2 * c.args.place.now.index) c.in-Hash.view c.key.result c.requires
    (omega (arith, c.head.ensures.last)) (sym c.in-Hash.ensures.page) c.key.ensures

pub returns-in-Hash : goal.returns-in-Hash
returns-in-Hash c =
    key_here c.args.forest.now c.args.place.now c.in-Hash.view c.key.result (datum_seen c.key_of.result)
    (omega (arith, c.head.ensures.last)) (sym c.in-Hash.ensures.page)
    (omega (arith, c.pairs.ensures)) c.key.ensures c.key_of.ensures.value
