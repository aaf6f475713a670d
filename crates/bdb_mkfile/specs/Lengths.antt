-- Lengths that fit their fields, which have four bytes. Source: docs/FORMAT.md, "Built trees".
use Rattle.std.specs.Prelude.{◌&&◌, Bool}
use Rattle.std.specs.List.{list_all}
use Rattle.bdb_text_format.specs.declared.pairs.TextPair.{TextPair}
use Rattle.bdb_text_format.specs.declared.sections.Section.{Section}
use Rattle.bdb_need.specs.of_mktree.Lists.{bytes_in}
use Rattle.bdb_need.specs.Need.{is_short, name_in}

abbrev pub is_short_pair : TextPair → Bool
is_short_pair pair = is_short (bytes_in pair.key) && is_short pair.value

abbrev pub is_short_section : Section → Bool
is_short_section section = is_short (name_in section.name) && list_all is_short_pair section.pairs
