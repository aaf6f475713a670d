use Rattle.std.proofs.Common.{◌≡◌, map, reverse, vec_len}
use Rattle.std.specs.List.{All}
use Rattle.bdb_onto.specs.Bare.{with_partner}
use Rattle.bdb_onto.specs.Bases.{base_of}
use Rattle.bdb_onto.specs.Lists.{AreListedTo, IsCountable}
use Rattle.bdb_tool_build.proofs.onto.lists_onto.Given as goal

-- The lists of the first sections stand, and the pages of the others can be counted.
abbrev pub invariant-loop-section : goal.invariant-loop-section
invariant-loop-section l = record {
  page_size : l.lists.page_size ≡ l.fn.base.page_size;
  max : l.lists.max ≡ l.fn.max;
  countable : All (IsCountable l.fn.base.page_size) (map (with_partner (base_of l.fn.sound)) (reverse l.left.items));
  to : AreListedTo (map (with_partner (base_of l.fn.sound)) l.fn.sections) l.lists.lists (map (with_partner (base_of l.fn.sound)) (reverse l.left.items));
}

abbrev pub decreases-loop-section : goal.decreases-loop-section
decreases-loop-section l = vec_len l.left
