use Rattle.std.proofs.Common.{◌≡◌, ◌∙◌, ap, subst, sym, Bool, ◌||◌}
use Rattle.std.specs.List.{list_any}
use Rattle.bdb_tree.specs.of_layout.Seen.{leaf_item_seen}
use Rattle.bdb_tree.specs.of_format.Terms.{File, Item, RecnoLeaf, file_of, has_wrong_record, is_wrong_record}
use Rattle.bdb_tree.specs.Entries.{AreFit}
use Rattle.bdb_tree.proofs.EntryLemmas.{page_fits, rest_fit}
use Rattle.bdb_recno.proofs.PageLemmas.{leaf_inside}
use Rattle.bdb_recno.proofs.lengths.has_wrong_record.Goals as goal

pub loop-item-init : goal.loop-item-init
loop-item-init c =
    let image = c.args.forest.now in
    let file : File = file_of image in
    let leaf = c.leaf_at.result in
    let all : c.into_iter-item-iterator.result ≡ leaf.items = c.into_iter-item-iterator.ensures.into_iter_gives ∙ c.items-item-items.ensures in
    let inside = leaf_inside image c.args.page c.requires.leaf in
    record {
      left = ap (list_any (is_wrong_record file c.args.meta.now)) all ∙ sym (ap (has_wrong_record file c.args.meta.now) c.leaf_at.ensures);
      fit = subst (AreFit file) (sym all) (page_fits image c.args.page (RecnoLeaf leaf) c.requires.forest inside c.leaf_at.ensures);
    }

pub loop-item-preserved : goal.loop-item-preserved
loop-item-preserved c =
    let file : File = file_of c.args.forest.now in
    let wrong : Item → Bool = is_wrong_record file c.args.meta.now in
    let rest = c.next.new.self in
    let right = ap (λ image. is_wrong_record (file_of image) c.args.meta.now (leaf_item_seen c.in-Some.item)) (sym c.requires.same)
    ∙ (sym c.is_wrong_record.ensures ∙ c.if-is_wrong_record.false) in
    record {
      left = sym (ap (list_any wrong) c.in-Some.ensures.steps ∙ ap (λ b. b || list_any wrong rest) right) ∙ c.loop-item.invariant.left;
      fit = rest_fit file (leaf_item_seen c.in-Some.item) rest c.loop-item.item-iterator c.in-Some.ensures.steps c.loop-item.invariant.fit;
    }
