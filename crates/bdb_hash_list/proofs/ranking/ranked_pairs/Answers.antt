use Rattle.bdb_hash_list.proofs.PlaceLemmas.{sorted_places}
use Rattle.bdb_hash_list.proofs.ranking.ranked_pairs.Goals as goal

pub over-requires : goal.over-requires
over-requires c =
    (sorted_places c.args.linked.now c.args.meta.now c.forest-forest.result c.in_ok-places.places.items
    c.sort_places.new.places.items c.forest-forest.ensures c.in_ok-places.ensures.table c.requires.meta c.requires.keys
    c.in_ok-places.ensures.places c.sort_places.ensures.moved c.sort_places.ensures.sorted).are
