use Rattle.bdb_onto.specs.Bases.{base_of}
use Rattle.bdb_onto.proofs.of_mkfile.ReadLemmas.{read_sections_are_loadable}
use Rattle.bdb_tool_build.proofs.OntoLemmas.{text_loaded_onto}
use Rattle.bdb_tool_build.proofs.loading.load_text_onto.Goals as goal

pub load_sections_onto-requires-clause-fit : goal.load_sections_onto-requires-clause-fit
load_sections_onto-requires-clause-fit c = read_sections_are_loadable c.args.text c.in_ok-sections.sections c.in_ok-sections.ensures.read

pub returns : goal.returns
returns c =
    text_loaded_onto c.args.limit (base_of c.args.sound.now) c.args.text c.in_ok-sections.sections c.load_sections_onto.result c.in_ok-sections.ensures.read
    c.load_sections_onto.ensures
