use Rattle.std.proofs.Common.{◌∙◌, ap, sym, take}
use Rattle.std.proofs.lemmas.List.{take-map}
use Rattle.bdb_text_format.specs.Terms.{placed_pair, placed_pairs}
use Rattle.bdb_text_format.proofs.pairs.TextPairs.keep_first.Goals as goal

pub returns : goal.returns
returns c =
    ap (placed_pairs c.self.inside.bytes.items) c.truncate.ensures.items
    ∙ (sym (take-map (placed_pair c.self.inside.bytes.items) c.args.count c.self.inside.places.items) ∙ ap (take c.args.count) c.self.view_is)
