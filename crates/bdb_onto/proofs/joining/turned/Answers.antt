use Rattle.std.proofs.Common.{◌∙◌, ◌++◌, ap, drop, take}
use Rattle.bdb_mkfile.specs.of_text_format.Terms.{placed_pairs}
use Rattle.bdb_onto.proofs.JoiningLemmas.{turned_pairs}
use Rattle.bdb_onto.proofs.joining.turned.Goals as goal

pub returns : goal.returns
returns c =
    let n = c.args.count in
    let bytes = c.into_placed-bytes.result.bytes.items in
    c.from_placed.ensures
    ∙ (ap (placed_pairs bytes) c.rotate_left.ensures.items
    ∙ (turned_pairs bytes c.into_placed-bytes.result.places.items n ∙ ap (λ ps. drop n ps ++ take n ps) c.into_placed-bytes.ensures.pairs))
