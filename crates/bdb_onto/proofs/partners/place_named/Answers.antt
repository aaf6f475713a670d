use Rattle.std.proofs.Common.{rules}
use Rattle.std.proofs.lemmas.Fn.{always_returns_same}
use Rattle.bdb_onto.specs.Search.{order_of}
use Rattle.bdb_onto.proofs.SearchLemmas.{place_found}
use Rattle.bdb_onto.proofs.partners.place_named.Goals as goal

-- What the search answers is the place of the database of the name.
pub returns : goal.returns
returns c =
    rw c.ok.ensures.value
    (place_found c.args.name.now c.args.databases.now c.as_slice.result.now c.as_slice.ensures c.requires.rise c.requires.named c.binary_search_by.result
    c.binary_search_by.ensures.bound
    (c.binary_search_by.ensures.position (order_of c.args.name.now) (always_returns_same _ _ _ (λ a r f k. search rules))))
