use Rattle.std.proofs.Common.{◌∙◌, ap, subst, sym}
use Rattle.bdb_io.specs.of_format.Terms.{head_of}
use Rattle.bdb_law_turned.specs.of_image.Linked.{IsForest}
use Rattle.bdb_swap.proofs.ImageLemmas.{forest_has_form}
use Rattle.bdb_swap.proofs.flipping.flip.Goals as goal

pub turned_image-requires : goal.turned_image-requires
turned_image-requires c =
    forest_has_form c.args.image.now c.head-head.result (subst IsForest (sym c.requires) c.head-head.ensures.forest)
    (c.head-head.ensures.head ∙ ap head_of (sym c.requires))
