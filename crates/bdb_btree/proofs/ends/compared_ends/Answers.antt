use Rattle.std.proofs.Common.{◌≡◌, ◌∙◌, List, ℕ, ap, map, refl, subst, sym, fold}
use Rattle.bdb_ranks.specs.of_format.Terms.{File, file_of}
use Rattle.bdb_ranks.specs.of_image.Linked.{IsForest}
use Rattle.bdb_btree.specs.Bounds.{ends_of, widen_by}
use Rattle.bdb_btree.specs.Held.{AreKeyed, FitsEnds, items_of, pair_held, stored_as}
use Rattle.bdb_btree.proofs.HeldLemmas.{first_keyed, page_keyed, page_stored}
use Rattle.bdb_btree.proofs.ItemLemmas.{leaf_tree}
use Rattle.bdb_btree.proofs.ends.compared_ends.Goals as goal

pub loop-pair-init : goal.loop-pair-init
loop-pair-init c =
    let image : List ℕ = c.args.known.now in
    let file : File = file_of image in
    let forest : IsForest image = subst IsForest c.forest-forest.ensures c.page_items-items.ensures.forest in
    let are : c.into_iter-pair-iterator.result ≡ items_of file c.args.leaf =
    c.into_iter-pair-iterator.ensures.into_iter_gives
    ∙ (c.in-Some.ensures.pairs ∙ ap (λ (of : List ℕ). items_of (file_of of) c.args.leaf) c.forest-forest.ensures) in
    record {
      ends =
          ap (λ ends. fold widen_by ends (map (stored_as file) c.into_iter-pair-iterator.result)) (c.new-ends.ensures.none file)
          ∙ ap ends_of
          (ap (map (stored_as file)) are
          ∙ (page_stored image c.args.leaf forest c.requires.leaf ∙ sym (leaf_tree image c.args.leaf forest c.requires.leaf)));
      fits = c.new-ends.ensures.fits file;
      keyed = subst (AreKeyed file) (sym are) (page_keyed image c.args.leaf forest c.requires.leaf);
      same = refl;
    }

pub join-requires-clause-more : goal.join-requires-clause-more
join-requires-clause-more c =
    let file : File = file_of c.args.known.now in
    subst (λ (image : List ℕ). FitsEnds (file_of image) c.of.result) (sym c.loop-pair.invariant.same)
    (c.of.ensures.fits file
    (c.leaf_held.ensures.fits file
    (first_keyed file c.loop-pair.pair-iterator c.next.new.self (pair_held c.in-Some-pair.pair) c.loop-pair.invariant.keyed
    c.in-Some-pair.ensures.steps)))

pub returns-in_default : goal.returns-in_default
returns-in_default c =
    let image : List ℕ = c.args.known.now in
    let file : File = file_of image in
    let forest : IsForest image = subst IsForest c.forest-forest.ensures c.page_items-items.ensures.forest in
    record {
      ends =
          c.new.ensures.none file
          ∙ ap ends_of
          (ap (map (stored_as file)) (c.in_default.ensures.pairs ∙ ap (λ (of : List ℕ). items_of (file_of of) c.args.leaf) c.forest-forest.ensures)
          ∙ (page_stored image c.args.leaf forest c.requires.leaf ∙ sym (leaf_tree image c.args.leaf forest c.requires.leaf)));
      fits = c.new.ensures.fits file;
      same = refl;
    }
