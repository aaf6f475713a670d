use Rattle.std.proofs.Common.{◌≡◌, ◌∙◌, ℕ, List, [], ap, inl, map, refl, subst, sym, flat_map}
use Rattle.bdb_model.specs.of_format.Terms.{btree_list, file_of, leaves, listed_pair, pairs_of, structure_faults}
use Rattle.bdb_file.specs.of_image.Linked.{FitsLeafPage, FitsTreeRoot, IsForest}
use Rattle.bdb_file.specs.of_btree.Pairs.{AreLeaves}
use Rattle.bdb_model.specs.of_text_format.declared.pairs.TextPair.{TextPair}
use Rattle.bdb_onto.specs.Bases.{text_pair}
use Rattle.bdb_tool_build.specs.Copied.{Follow}
use Rattle.bdb_tool_build.proofs.TreeLemmas.{last_follow, leaf_on, list_begins, next_follow, tree_follows}
use Rattle.bdb_file.proofs.of_btree.WalkLemmas.{are_leaves}
use Rattle.bdb_tool_build.specs.Gathered.{IsEnough}
use Rattle.bdb_tool_build.proofs.EnoughLemmas.{adds_enough, listing_ends}
use Rattle.bdb_tool_build.proofs.tree.btree_pairs.Goals as goal

pub loop-leaf-init : goal.loop-leaf-init
loop-leaf-init c =
    let image : List ℕ = c.args.linked.now in
    let root : ℕ = c.args.meta.now.root in
    let found : c.tree_leaves-leaves.result ≡ leaves (file_of image) root =
    rw (c.forest-forest.ensures, c.number.ensures, c.root.ensures.number) at c.tree_leaves-leaves.ensures.leaves in
    let fits : FitsTreeRoot (file_of image) root = subst (FitsTreeRoot (file_of image)) c.root.ensures.number c.root.ensures.fits in
    record {
      image = c.in_ok-all.ensures.image ∙ c.forest-forest.ensures;
      pairs = list_begins c.args.beside.now (file_of image) root c.in_ok-all.all.gathered.pairs c.tree_leaves-leaves.result found c.in_ok-all.ensures.pairs;
      leaves = subst (AreLeaves (file_of image)) (sym found) (are_leaves image root c.root.ensures.forest (inl fits));
      follow = subst (λ ps. Follow (flat_map (pairs_of (file_of image)) ps)) (sym found) (tree_follows image root);
    }

pub push_leaf-requires-clause-forest : goal.push_leaf-requires-clause-forest
push_leaf-requires-clause-forest c = subst IsForest (sym c.loop-leaf.invariant.image) c.root.ensures.forest

pub push_leaf-requires-clause-page : goal.push_leaf-requires-clause-page
push_leaf-requires-clause-page c =
    let image : List ℕ = c.args.linked.now in
    subst (λ (i : List ℕ). FitsLeafPage (file_of i) c.number-in-Some.result) (sym c.loop-leaf.invariant.image)
    (subst (FitsLeafPage (file_of image)) (sym c.number-in-Some.ensures) (subst (AreLeaves (file_of image)) c.in-Some.ensures.steps c.loop-leaf.invariant.leaves).0)

pub push_leaf-requires-clause-keys : goal.push_leaf-requires-clause-keys
push_leaf-requires-clause-keys c =
    next_follow c.args.linked.now c.loop-leaf.all.image c.loop-leaf.leaves c.next.new.self c.in-Some.leaf c.number-in-Some.result c.loop-leaf.invariant.image
    c.in-Some.ensures.steps c.number-in-Some.ensures c.loop-leaf.invariant.follow

pub push_leaf-requires-clause-stage : goal.push_leaf-requires-clause-stage
push_leaf-requires-clause-stage c =
    subst (λ (i : List ℕ). structure_faults (file_of i) ≡ []) (sym c.loop-leaf.invariant.image) c.requires.stage

pub loop-leaf-preserved : goal.loop-leaf-preserved
loop-leaf-preserved c =
    let image : List ℕ = c.args.linked.now in
    record {
      image = c.in_ok-push_leaf.ensures.image ∙ c.loop-leaf.invariant.image;
      pairs = leaf_on c.args.beside.now image c.loop-leaf.all.image [] (map text_pair (btree_list (file_of image) c.args.meta.now.root))
          c.loop-leaf.all.gathered.pairs c.push_leaf.new.all.gathered.pairs c.loop-leaf.leaves c.next.new.self c.in-Some.leaf c.number-in-Some.result c.loop-leaf.invariant.image
          c.in-Some.ensures.steps c.number-in-Some.ensures c.loop-leaf.invariant.pairs c.in_ok-push_leaf.ensures.pairs;
      leaves = (subst (AreLeaves (file_of image)) c.in-Some.ensures.steps c.loop-leaf.invariant.leaves).1;
      follow = last_follow (pairs_of (file_of image) c.in-Some.leaf) (flat_map (pairs_of (file_of image)) c.next.new.self)
          (subst (λ ps. Follow (flat_map (pairs_of (file_of image)) ps)) c.in-Some.ensures.steps c.loop-leaf.invariant.follow);
    }

pub returns : goal.returns
returns c =
    let image : List ℕ = c.args.linked.now in
    let all = map text_pair (btree_list (file_of image) c.args.meta.now.root) in
    let now = c.loop-leaf.all.gathered.pairs in
    let listed : List ℕ → List TextPair = λ ps. map text_pair (flat_map (listed_pair (file_of image)) (flat_map (pairs_of (file_of image)) ps)) in
    subst (IsEnough c.args.beside.now all) (sym c.into_pairs.ensures)
    (adds_enough c.args.beside.now [] now all refl
    (listing_ends c.args.beside.now [] now all (listed c.loop-leaf.leaves) c.loop-leaf.invariant.pairs (ap listed c.in_default.ensures.steps.0)))
