use Rattle.std.proofs.Common.{◌∙◌, ap, subst, flat_map}
use Rattle.bdb_ranks.specs.of_format.Terms.{file_of}
use Rattle.bdb_btree.specs.Pairs.{AreFit, pair_seen}
use Rattle.bdb_btree.specs.Search.{data_under}
use Rattle.bdb_btree.proofs.FindLemmas.{found_none, found_some, key_open, page_open}
use Rattle.bdb_btree.proofs.found.found_on.Goals as goal

pub from-requires-clause-pair : goal.from-requires-clause-pair
from-requires-clause-pair c =
    (subst (AreFit (file_of c.args.forest.now)) c.in-Some-first_with.ensures
    (key_open (file_of c.args.forest.now) c.args.key.now c.in-Some.pairs
    (page_open c.args.forest.now c.args.page c.in-Some.pairs c.in-Some.ensures.forest c.requires.page c.requires.stage
    c.in-Some.ensures.pairs)).fit).0

pub from-requires-clause-pairs : goal.from-requires-clause-pairs
from-requires-clause-pairs c = record {
  stage = c.requires.stage;
  fit = (subst (AreFit (file_of c.args.forest.now)) c.in-Some-first_with.ensures
      (key_open (file_of c.args.forest.now) c.args.key.now c.in-Some.pairs
      (page_open c.args.forest.now c.args.page c.in-Some.pairs c.in-Some.ensures.forest c.requires.page c.requires.stage
      c.in-Some.ensures.pairs)).fit).1;
}

pub returns-in-Some-first_with : goal.returns-in-Some-first_with
returns-in-Some-first_with c =
    let file = file_of c.args.forest.now in
    c.from.ensures
    ∙ (found_some file c.args.key.now c.in-Some.pairs (pair_seen c.in-Some-first_with.pair) c.first_with.new.pairs c.in-Some-first_with.ensures
    ∙ ap (flat_map (data_under file c.args.key.now)) c.in-Some.ensures.pairs)

pub returns : goal.returns
returns c =
    let file = file_of c.args.forest.now in
    c.none-in-None.ensures ∙ (found_none file c.args.key.now c.in-Some.pairs c.in-None.ensures
    ∙ ap (flat_map (data_under file c.args.key.now)) c.in-Some.ensures.pairs)
