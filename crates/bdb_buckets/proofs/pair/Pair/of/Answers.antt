use Rattle.std.proofs.Common.{◌≡◌, sym, ◌∙◌, ap, subst}
use Rattle.bdb_tree.specs.of_form.Pairs.{pair_seen}
use Rattle.bdb_tree.specs.of_format.Terms.{file_of}
use Rattle.bdb_tree.specs.of_layout.Seen.{hash_content_seen, hash_item_seen}
use Rattle.bdb_tree.specs.of_overflow.Datum.{datum_seen}
use Rattle.bdb_buckets.specs.Chained.{IsHeldBy, chain_head, head_on}
use Rattle.bdb_buckets.specs.Places.{IsRead}
use Rattle.bdb_buckets.specs.Told.{told_as, told_pair}
use Rattle.bdb_buckets.proofs.pair.Pair.of.Goals as goal

-- The key is what its item holds, in the file that the pair stands in.
pub invariant_of-result : goal.invariant_of-result
invariant_of-result c =
    let same : told_as c.again.result c.args.page (datum_seen c.key_of.result) (hash_content_seen c.args.pair.value)
    ≡ told_pair c.args.forest.now c.args.page (pair_seen hash_item_seen c.args.pair) =
    ap (λ image. told_as image c.args.page (datum_seen c.key_of.result) (hash_content_seen c.args.pair.value)) c.again.ensures
    ∙ ap (λ key. told_as c.args.forest.now c.args.page key (hash_content_seen c.args.pair.value)) c.key_of.ensures.value in
    record {
      read = subst (IsRead c.args.page c.args.pair.index) (sym same) c.requires.read;
      headed = c.head_of.ensures ∙ ap chain_head c.requires.stored ∙ ap (λ image. head_on image c.args.page c.args.pair.index) (sym c.again.ensures);
      held =
          subst (λ head. IsHeldBy (file_of c.again.result) head c.key_of.result) (sym c.head_of.ensures)
          (subst (λ image. IsHeldBy (file_of image) (chain_head (hash_content_seen c.args.pair.key)) c.key_of.result) (sym c.again.ensures) c.key_of.ensures.held);
    }
