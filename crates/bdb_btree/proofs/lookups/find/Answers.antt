use Rattle.std.proofs.Common.{◌∙◌, refl}
use Rattle.bdb_btree.proofs.FindLemmas.{found_by}
use Rattle.bdb_btree.proofs.lookups.find.Goals as goal

pub returns-clause-found : goal.returns-clause-found
returns-clause-found g c =
    found_by c.args.linked.now c.args.linked.now c.args.key.now c.args.meta.now c.args.meta.now.root c.number.result c.found_on.result
    c.leaf_for-leaf.ensures.forest c.requires.meta c.requires.keys c.requires.contents refl refl
    (c.number.ensures ∙ c.leaf_for-leaf.ensures.leaf) (c.found_on.ensures ∙ rw c.forest-forest.ensures refl)
