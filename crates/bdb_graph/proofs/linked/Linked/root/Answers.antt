use Rattle.std.proofs.Common.{ap, arith, subst, sym}
use Rattle.bdb_image.specs.of_format.declared.metadata.Head.{Head}
use Rattle.bdb_image.specs.of_format.Terms.{BtreeFields, file_of, head_of}
use Rattle.bdb_image.specs.Linked.{HasMetadata}
use Rattle.bdb_graph.proofs.LinkedLemmas.{root_inside}
use Rattle.bdb_graph.proofs.linked.Linked.root.Goals as goal

-- The root is the target of a reference, which fits.
pub prove-unreachable-requires : goal.prove-unreachable-requires
prove-unreachable-requires c =
    omega (
      arith,
      c.if-prove.true,
      ap (λ (head : Head). head.last) c.head.ensures.head,
      root_inside c.self.inside.forest (head_of c.self.inside.forest) c.args.meta.now c.head.ensures.forest.formed c.head.ensures.forest.linked
          (subst (λ image. HasMetadata (file_of image) (BtreeFields c.args.meta.now)) (sym c.self.view_is) c.requires),
    )
