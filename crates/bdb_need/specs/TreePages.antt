-- How many pages the tree of a list has. Source: docs/FORMAT.md, "Built trees".
use Rattle.std.specs.Prelude.{ℕ, List}
use Rattle.bdb_mkhash.specs.of_format.declared.settings.Settings.{Settings}
use Rattle.bdb_mkhash.specs.of_text_format.declared.pairs.Pair.{Pair}
use Rattle.bdb_mkhash.specs.of_mkleaves.Spread.{tree_size}
use Rattle.bdb_mkhash.specs.of_mktree.Lists.{units_in}
use Rattle.bdb_mkhash.specs.of_mktree.Units.{leaf_type_of}
pub use Rattle.bdb_mkhash.specs.of_text_format.Pairs.{unlined_pairs, unlined}

-- the pages of the tree of a list
abbrev pub tree_pages : Settings → List Pair → ℕ
tree_pages settings list = tree_size (leaf_type_of settings.kind) settings.page_size settings.sorted (units_in settings.kind list)
