use Rattle.std.proofs.Common.{◌≡◌, ◌++◌, ◌∙◌, ◌≤◌, ap, append-nil, List, ℕ, map, refl, subst, sym, flat_map}
use Rattle.bdb_file.proofs.of_btree.WalkLemmas.{keys_fit, no_pairs, view_pairs}
use Rattle.bdb_file.specs.of_btree.Pairs.{AreFit, KeysFit, stored_pair}
use Rattle.bdb_model.specs.of_format.Terms.{File, Leaf, StoredPair, file_of, listed_pair, page_at, pairs_of, value_of}
use Rattle.bdb_onto.specs.Bases.{text_pair}
use Rattle.bdb_ranks.proofs.of_tree.TreeLemmas.{leaf_inside}
use Rattle.bdb_ranks.specs.of_form.Pairs.{pair_seen as view_seen}
use Rattle.bdb_ranks.specs.of_form.Seen.{page_seen}
use Rattle.bdb_ranks.specs.of_layout.Seen.{leaf_item_seen}
use Rattle.bdb_tool_build.specs.Copied.{ShareKeys}
use Rattle.bdb_tool_build.specs.Gathered.{AreListing, HasKey}
use Rattle.bdb_tool_build.proofs.EnoughLemmas.{adds_all, listing_begins, listing_ends}
use Rattle.bdb_tool_build.proofs.TreeLemmas.{leaf_fit, pair_more}
use Rattle.bdb_tool_build.proofs.tree.push_leaf.Goals as goal

pub page-view-requires : goal.page-view-requires
page-view-requires c =
    subst (λ (i : List ℕ). c.args.page ≤ (file_of i).last) (sym c.forest-forest.ensures) (leaf_inside c.args.all.now.image c.args.page c.requires.page)

-- Another page has no pairs.
pub returns-in_default : goal.returns-in_default
returns-in_default c =
    let image : List ℕ = c.args.all.now.image in
    let seen : page_seen c.page-view.result ≡ page_at (file_of image) c.args.page =
    c.page-view.ensures.page ∙ ap (λ (i : List ℕ). page_at (file_of i) c.args.page) c.forest-forest.ensures in
    record {
      image = refl;
      pairs = adds_all c.args.beside.now c.args.all.now.gathered.pairs c.args.all.now.gathered.pairs
          (map text_pair (flat_map (listed_pair (file_of image)) (pairs_of (file_of image) c.args.page)))
          (sym (ap (λ (found : List StoredPair). c.args.all.now.gathered.pairs ++ map text_pair (flat_map (listed_pair (file_of image)) found))
          (sym (no_pairs image c.args.page c.page-view.result c.requires.forest c.requires.page seen c.in_default.not-Leaf))
          ∙ append-nil c.args.all.now.gathered.pairs));
    }

pub loop-pair-init : goal.loop-pair-init
loop-pair-init c =
    let image : List ℕ = c.args.all.now.image in
    let file : File = file_of image in
    let leaf : Leaf c.in-Leaf.leaf ≡ page_at file c.args.page =
    c.in-Leaf.ensures.page ∙ ap (λ (i : List ℕ). page_at (file_of i) c.args.page) c.forest-forest.ensures in
    let are : map (stored_pair file c.args.page) c.iter-pairs.result ≡ pairs_of file c.args.page =
    ap (map (stored_pair file c.args.page)) c.iter-pairs.ensures ∙ view_pairs file c.args.page c.in-Leaf.leaf leaf in
    record {
      image = refl;
      pairs = subst (λ (found : List StoredPair). AreListing c.args.beside.now c.args.all.now.gathered.pairs c.args.all.now.gathered.pairs
          (map text_pair (flat_map (listed_pair file) (pairs_of file c.args.page))) (map text_pair (flat_map (listed_pair file) found))) (sym are)
          (listing_begins c.args.beside.now c.args.all.now.gathered.pairs (map text_pair (flat_map (listed_pair file) (pairs_of file c.args.page))));
      keys = subst (KeysFit file) (sym c.iter-pairs.ensures) (keys_fit image c.args.page c.in-Leaf.leaf c.requires.forest c.requires.page leaf);
      fit = subst (AreFit file) (sym are) (leaf_fit image c.args.page c.requires.forest c.requires.page);
      key = c.requires.keys.key;
      shares = subst (ShareKeys c.requires.keys.key) (sym are) c.requires.keys.shares;
      last = tt;
    }

pub loop-pair-preserved : goal.loop-pair-preserved
loop-pair-preserved c =
    let image : List ℕ = c.args.all.now.image in
    let file : File = file_of image in
    let pair = view_seen leaf_item_seen c.in-Some.pair in
    record {
      image = c.in_ok-push_pair.ensures.image ∙ c.loop-pair.invariant.image;
      pairs = pair_more c.args.beside.now image c.loop-pair.all.image c.args.all.now.gathered.pairs _ c.loop-pair.all.gathered.pairs
          c.push_pair.new.self.gathered.pairs c.args.page c.loop-pair.pairs c.next.new.self pair c.loop-pair.invariant.image c.in-Some.ensures.steps c.loop-pair.invariant.pairs c.in_ok-push_pair.ensures.pairs;
      keys = (subst (KeysFit file) c.in-Some.ensures.steps c.loop-pair.invariant.keys).1;
      fit = (subst (λ found. AreFit file (map (stored_pair file c.args.page) found)) c.in-Some.ensures.steps c.loop-pair.invariant.fit).1;
      key = value_of file pair.key.content;
      shares = (subst (λ found. ShareKeys c.loop-pair.invariant.key (map (stored_pair file c.args.page) found)) c.in-Some.ensures.steps
          c.loop-pair.invariant.shares).1;
      last = subst (λ (i : List ℕ). HasKey c.push_pair.new.self (value_of (file_of i) pair.key.content) c.in_ok-push_pair.field-0) c.loop-pair.invariant.image
          c.in_ok-push_pair.ensures.key;
    }

pub returns-clause-pairs : goal.returns-clause-pairs
returns-clause-pairs c =
    let file : File = file_of c.args.all.now.image in
    listing_ends c.args.beside.now c.args.all.now.gathered.pairs c.loop-pair.all.gathered.pairs
    (map text_pair (flat_map (listed_pair file) (pairs_of file c.args.page)))
    (map text_pair (flat_map (listed_pair file) (map (stored_pair file c.args.page) c.loop-pair.pairs))) c.loop-pair.invariant.pairs
    (ap (λ left. map text_pair (flat_map (listed_pair file) (map (stored_pair file c.args.page) left))) c.in_default-next.ensures.steps.0)
