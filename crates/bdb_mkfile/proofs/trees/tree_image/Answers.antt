use Rattle.std.proofs.Common.{ℕ, ◌∙◌, ap, subst, arith}
use Rattle.bdb_mkfile.proofs.Common.{listed, pairs_of, Built, joined_pages, IsTreeBuilt, units_in}
use Rattle.bdb_mkfile.proofs.TreeLemmas.{first_zero, still_zero, topped_image}
use Rattle.bdb_mkfile.proofs.trees.tree_image.Goals as goal

pub put_first-requires-clause-zero : goal.put_first-requires-clause-zero
put_first-requires-clause-zero c =
    let first = first_zero c.with_room-pages.result c.add.new.self c.with_room-pages.ensures.pages c.in_ok-add.ensures.ok in
    still_zero c.add.new.self c.build_tree.new.pages first.0 (c.in_ok-root.ensures.kept.same 0 (omega (arith, first.1)))

pub returns : goal.returns
returns c =
    let old : Built = c.add.new.self in
    let built : Built = c.build_tree.new.pages in
    let first = first_zero c.with_room-pages.result old c.with_room-pages.ensures.pages c.in_ok-add.ensures.ok in
    let tree : IsTreeBuilt c.args.settings.now 1 old built (units_in c.args.settings.now.kind (pairs_of c.args.list)) (listed (pairs_of c.args.list))
    c.in_ok-root.root =
    subst (λ (n : ℕ). IsTreeBuilt c.args.settings.now n old built (units_in c.args.settings.now.kind (pairs_of c.args.list)) (listed (pairs_of c.args.list))
    c.in_ok-root.root)
    first.1 c.in_ok-root.ensures in
    topped_image c.args.settings.now (pairs_of c.args.list) old built c.in_ok-root.root c.tree_meta.result c.from_bytes.result
    (record {
      fit = c.requires.settings;
      own = c.requires.own;
      size = tree.kept.size ∙ (ap (λ (b : Built). b.size) c.in_ok-add.ensures.ok ∙ c.with_room-pages.ensures.size);
      order = tree.kept.order ∙ (ap (λ (b : Built). b.order) c.in_ok-add.ensures.ok ∙ c.with_room-pages.ensures.order);
      legal = c.put_first.ensures.legal;
      whole = c.put_first.ensures.whole;
      few = c.put_first.ensures.few;
      tree = tree;
      meta_is = c.tree_meta.ensures;
      fields = c.put_first.ensures.fields;
    })
    (c.from_bytes.ensures ∙ (c.into_bytes.ensures ∙ ap (λ (b : Built). joined_pages b.pages) c.put_first.ensures.page))
