use Rattle.bdb_tool_build.specs.Loads.{IsTextAnswer}
use Rattle.bdb_tool.proofs.BuiltLemmas.{image_ends}
use Rattle.bdb_tool.proofs.building.answer_load.Goals as goal

pub returns : goal.returns
returns g c = image_ends (IsTextAnswer c.args.limit c.args.text) _ _ _ _ c.load_text-built.ensures c.answer_built.ensures
