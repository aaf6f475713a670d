-- A base without its pairs, to which those of a database come when it is its turn. Source: docs/FORMAT.md, "Loading onto a file".
use Rattle.std.specs.Prelude.{List, [], ◌++◌, map}
use Rattle.bdb_mkfile.specs.of_text_format.declared.pairs.TextPair.{TextPair}
use Rattle.bdb_mkfile.specs.of_text_format.declared.sections.Section.{Section}
use Rattle.bdb_onto.specs.declared.base.Base.{Base}
use Rattle.bdb_onto.specs.Onto.{pairs_from, partner_of}

-- a database without its pairs
abbrev pub bare : Section → Section
bare database = record database { pairs = [] }

-- the base of such databases
abbrev pub bare_of : Base → Base
bare_of base = record base { databases = map bare base.databases }

-- a section with pairs before its own
abbrev pub with_before : List TextPair → Section → Section
with_before before section = record section { pairs = before ++ section.pairs }

-- a section with the pairs of its partner before its own
abbrev pub with_partner : Base → Section → Section
with_partner base section = with_before (pairs_from (partner_of base section)) section
