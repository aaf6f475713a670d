-- What a pass over sections does with each.
use Rattle.bdb_mktree.specs.of_text_format.declared.sections.Section.{Section}
use Rattle.bdb_settle.specs.declared.sections.Pass.{Pass}
use Rattle.bdb_settle.specs.declared.sections.Pass.TheVariants.{Fill, Settle}
use Rattle.bdb_settle.specs.Loaded.{filled_section, ordered_section}

-- a section after a pass
abbrev pub after_pass : Pass → Section → Section
after_pass Settle = ordered_section
after_pass Fill = filled_section
