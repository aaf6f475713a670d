use Rattle.std.proofs.Common.{◌≡◌, ◌∙◌, None, subst, sym}
use Rattle.bdb_repair.specs.of_format.Terms.{faults_of, verdict_of}
use Rattle.bdb_repair.specs.of_faults.Refusals.{IsFirstRefusal}
use Rattle.bdb_tool_build.specs.of_onto.Bases.{IsBase, base_of}
use Rattle.bdb_tool_build.specs.Ontos.{IsTextOnto}
use Rattle.bdb_tool.proofs.BuiltLemmas.{image_ends}
use Rattle.bdb_tool.proofs.OntoLemmas.{ends_on_base, refused_ends}
use Rattle.bdb_tool.proofs.building.answer_onto.Goals as goal

-- The bytes that are opened are those of the image.
pub load_text_onto-built-requires-clause-base : goal.load_text_onto-built-requires-clause-base
load_text_onto-built-requires-clause-base g c = subst (λ image. IsBase (base_of image)) (sym c.in-Ok.ensures.same) c.in-Ok.ensures.base

pub returns-in-Ok : goal.returns-in-Ok
returns-in-Ok g c =
    ends_on_base c.args.limit c.args.text c.args.image c.in-Ok.sound _ _ _ (c.in-Ok.ensures.same ∙ c.bytes.ensures)
    (subst (λ image. verdict_of image ≡ None) c.bytes.ensures c.in-Ok.ensures.sound)
    (image_ends (IsTextOnto c.args.limit (base_of c.in-Ok.sound) c.args.text) _ _ _ _ c.load_text_onto-built.ensures c.answer_built.ensures)

pub returns-in-Err : goal.returns-in-Err
returns-in-Err g c =
    refused_ends c.in-Err.error c.args.limit c.args.text c.args.image _ _ _ _
    (subst (λ image. IsFirstRefusal (faults_of image) c.in-Err.error) c.bytes.ensures c.in-Err.ensures.refused) c.refuse.ensures
