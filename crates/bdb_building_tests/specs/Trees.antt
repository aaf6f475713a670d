-- Lists of pairs that are tested when a test runs, and trees that take a pair more.
use Rattle.std.specs.Prelude.{◌≡◌, ℕ, Bool, true, List, [], ◌∷◌, ◌++◌, map, Option, None, Some}
use Rattle.bdb_need.specs.of_format.Terms.{ascends, less}
use Rattle.bdb_need.specs.of_format.declared.kinds.Kind.TheVariants.{Btree}
use Rattle.bdb_need.specs.of_text_format.declared.pairs.Pair.{Pair}
use Rattle.bdb_need.specs.of_text_format.declared.pairs.Key.TheVariants.{Number}
use Rattle.bdb_need.specs.of_pack.Built.{Built}
use Rattle.bdb_need.specs.of_mkleaves.Units.{key_of}
use Rattle.bdb_mktree.specs.Building.{Building, units_of}
use Rattle.bdb_mktree.specs.declared.builder.TreeBuilder.{TreeBuilder}
use Rattle.bdb_need.specs.of_text_format.declared.lent.PairRef.{PairRef}
use Rattle.bdb_need.specs.of_text_format.Terms.{pair_seen, unlined}

-- a pair without where it lies in memory
abbrev pub one_seen : PairRef → Pair
one_seen pair = unlined (pair_seen pair)

-- what is read past the end of a list
abbrev pub no_pair : Pair
no_pair = record { key = Number 0; value = [] }

-- whether a key is above the last one, where there is one
abbrev pub is_above : Option (List ℕ) → List ℕ → Bool
is_above None key = true
is_above (Some last) key = less last key

-- A btree that is being built: a key that is above the last one may come next.
pub record IsGrowing (pages : Built) (builder : TreeBuilder) (last : Option (List ℕ)) : Type 0 where
  pub building : Building builder pages
  pub kind : builder.settings.kind ≡ Btree
  pub next : (key : List ℕ) → is_above last key ≡ true → ascends (map key_of (units_of builder pages) ++ (key ∷ [])) ≡ true
