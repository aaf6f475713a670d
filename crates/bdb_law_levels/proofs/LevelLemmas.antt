-- Levels.
use Rattle.std.proofs.Common.{arith, ◌≡◌, ℕ, suc, List, [], ◌∷◌, Some, sym, ap, flat_map}
use Rattle.std.proofs.lemmas.Grind.{flat_map-append}
use Rattle.bdb_law_grove.specs.of_format.Terms.{File, children_in, leaves_in, leaves_under, page_at}
use Rattle.bdb_law_levels.specs.SameLeaves.{LevelsHaveTheSameLeaves}

pub leaves_of_children : (file : File) (level q : ℕ) (children : List ℕ) → children_in (page_at file q) ≡ Some children
    → leaves_in (suc level) file q ≡ flat_map (leaves_in level file) children
unfolding leaves_in
leaves_of_children file level q children is = ap (leaves_under (leaves_in level file) q) is

pub levels_have_the_same_leaves : LevelsHaveTheSameLeaves
levels_have_the_same_leaves file level [] below over = ap (flat_map (leaves_in level file)) (sym over)
levels_have_the_same_leaves file level (q ∷ qs) below (children, rest, is, joined, after) =
    grind (arith, leaves_of_children, flat_map-append, levels_have_the_same_leaves file level qs rest after)
