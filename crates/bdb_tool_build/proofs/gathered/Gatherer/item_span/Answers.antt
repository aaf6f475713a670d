use Rattle.bdb_model.specs.of_format.Terms.{file_of}
use Rattle.bdb_tool_build.proofs.gathered.Gatherer.item_span.Goals as goal

pub span-requires : goal.span-requires
span-requires c = c.leaf_held-held.ensures.fits (file_of c.args.self.now.image) c.requires
