use Rattle.std.proofs.Common.{◌≡◌, ◌*◌, ◌+◌, length, true, sym, subst}
use Rattle.std.proofs.lemmas.Bool.{ltb-true}
use Rattle.bdb_buckets.specs.of_format.Terms.{Hash}
use Rattle.bdb_buckets.specs.Places.{IsGiven, has_pair}
use Rattle.bdb_buckets.proofs.PairLemmas.{is_given}
use Rattle.bdb_hash_list.proofs.ranked.read_at.Goals as goal

pub of-requires : goal.of-requires
of-requires c =
    let there : has_pair (Hash c.in-Hash.view) c.args.index ≡ true =
    subst (λ page. has_pair page c.args.index ≡ true) (sym c.in-Hash.ensures.page) c.requires.there in
    subst (IsGiven c.args.forest.now c.args.page) (sym c.pair.ensures)
    (is_given c.args.forest.now c.args.page c.args.index c.in-Hash.view c.requires.table c.requires.inside (sym c.in-Hash.ensures.page)
    (ltb-true (2 * c.args.index + 1) (length c.in-Hash.view.items) there))
