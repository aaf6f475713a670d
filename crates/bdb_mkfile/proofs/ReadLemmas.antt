-- The sections of a text can be loaded.
use Rattle.std.proofs.Common.{length}
use Rattle.bdb_law_sections.proofs.SectionLemmas.{read_sections_are_fit}
use Rattle.bdb_mkfile.specs.Loading.{ReadSectionsAreLoadable}

pub read_sections_are_loadable : ReadSectionsAreLoadable
read_sections_are_loadable text sections reads = record { most = length text; fit = read_sections_are_fit text sections reads }
