use Rattle.std.proofs.Common.{◌≡◌}
use Rattle.bdb_faults.specs.of_format.Terms.{file_of}
use Rattle.bdb_image.specs.Linked.{metas_below}
use Rattle.bdb_image.proofs.meta.metas_of.Given as goal

-- The metadata pages below this number.
abbrev pub invariant-loop-number : goal.invariant-loop-number
invariant-loop-number l = l.metas.items ≡ metas_below (file_of l.formed) l.number
