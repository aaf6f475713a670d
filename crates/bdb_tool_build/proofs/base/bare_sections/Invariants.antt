use Rattle.std.proofs.Common.{◌≡◌, map, take}
use Rattle.bdb_model.specs.of_format.Terms.{databases, file_of}
use Rattle.bdb_onto.specs.Bare.{bare}
use Rattle.bdb_onto.specs.Bases.{base_section}
use Rattle.bdb_tool_build.proofs.base.bare_sections.Given as goal

-- The databases so far are the first of the file, without their pairs.
abbrev pub invariant-loop-i : goal.invariant-loop-i
invariant-loop-i l = l.all ≡ map bare (map (base_section l.fn.sound) (take l.i (databases (file_of l.fn.sound))))
