-- Pairs of a base that a text replaces. Source: docs/FORMAT.md, "What loading does to a list".
use Rattle.std.specs.Prelude.{◌≡◌, ◌&&◌, ◌||◌, ◌++◌, not, Bool, true, List}
use Rattle.std.specs.List.{Contains, fold}
use Rattle.bdb_format.specs.declared.settings.Settings.{Settings}
use Rattle.bdb_mkfile.specs.of_text_format.declared.pairs.Key.{Key}
use Rattle.bdb_mkfile.specs.of_text_format.declared.pairs.Pair.{Pair}
use Rattle.bdb_mkfile.specs.of_text_format.declared.pairs.TextPair.{TextPair}
use Rattle.bdb_mkfile.specs.of_text_format.Terms.{holds_records}
use Rattle.bdb_mkfile.specs.of_settle.Loaded.{unlined_pairs, with_loaded}

-- the last pair of each key stays, since its data are neither kept as they come nor sorted
abbrev pub replaces : Settings → Bool
replaces settings = holds_records settings.kind || (not settings.sorted && not settings.duplicates)

-- pairs of which one has this key
pub record HaveKey (pairs : List TextPair) (key : Key) : Type 0 where
  pub pair : TextPair
  pub among : Contains pairs pair
  pub same : pair.key ≡ key

-- a text replaces the pairs of this key that come before it
pub record IsReplaced (settings : Settings) (text : List TextPair) (key : Key) : Type 0 where
  pub has : HaveKey text key
  pub replaces : replaces settings ≡ true

-- of these pairs some are left out, which makes no difference before a text
pub record AreEnough (settings : Settings) (text full kept : List TextPair) : Type 0 where
  pub within : (pair : TextPair) → Contains kept pair → Contains full pair
  pub alike : (list : List Pair) (rest : List TextPair)
      → fold (with_loaded settings) list (unlined_pairs (kept ++ (rest ++ text))) ≡ fold (with_loaded settings) list (unlined_pairs (full ++ (rest ++ text)))
