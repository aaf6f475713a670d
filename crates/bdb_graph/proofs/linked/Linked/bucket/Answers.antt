use Rattle.std.proofs.Common.{ap, arith, subst, sym}
use Rattle.bdb_image.specs.of_format.declared.metadata.Head.{Head}
use Rattle.bdb_image.specs.of_format.Terms.{HashFields, file_of, head_of}
use Rattle.bdb_image.specs.Linked.{HasMetadata}
use Rattle.bdb_graph.proofs.LinkedLemmas.{bucket_few}
use Rattle.bdb_graph.proofs.linked.Linked.bucket.Goals as goal

-- There are no more buckets than pages, since each has a first page.
pub prove-unreachable-requires : goal.prove-unreachable-requires
prove-unreachable-requires c =
    omega (
      arith,
      c.if-prove.true,
      ap (λ (head : Head). head.last) c.head.ensures.head,
      bucket_few c.self.inside.forest (head_of c.self.inside.forest) c.args.meta.now c.args.b c.head.ensures.forest.formed c.head.ensures.forest.linked
          (subst (λ image. HasMetadata (file_of image) (HashFields c.args.meta.now)) (sym c.self.view_is) c.requires.meta) c.requires.bucket,
    )
