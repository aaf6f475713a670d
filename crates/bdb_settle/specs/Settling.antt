-- Lists in the making. Source: docs/FORMAT.md, "What loading does to a list".
use Rattle.std.specs.Prelude.{◌≡◌, Bool, true, false, not, ◌||◌, ◌&&◌, List, [], ◌∷◌, ◌++◌, ◌<◌, drop, length, map, take, ℕ}
use Rattle.std.specs.List.{All, fold}
use Rattle.std.specs.List.Sorted.{IsSortedBy, IsStableBy}
use Rattle.std.specs.declared.cmp.Ordering.{Ordering}
use Rattle.std.specs.declared.cmp.Ordering.TheVariants.{Less as Below, Equal, Greater}
use Rattle.bdb_mktree.specs.of_text_format.declared.pairs.Pair.{Pair}
use Rattle.bdb_mktree.specs.of_text_format.declared.pairs.Key.{Key}
use Rattle.bdb_mktree.specs.of_text_format.declared.pairs.TextPair.{TextPair}
use Rattle.bdb_mktree.specs.of_format.declared.settings.Settings.{Settings}
use Rattle.bdb_mktree.specs.of_places.declared.place.Place.{Place}
use Rattle.bdb_mktree.specs.of_text_format.Terms.{ArePlaced, IsPlaced, placed_pair, placed_pairs, unlined}
use Rattle.bdb_settle.specs.Loaded.{keeps_data, key_less, stands_before, unnumbered, with_loaded}

-- the pair at a place of a run, without its line, and the order of places by their pairs
abbrev pub pair_on : List ℕ → Place → Pair
pair_on bytes place = unlined (placed_pair bytes place)

abbrev pub place_before : Settings → List ℕ → Place → Place → Bool
place_before settings bytes a b = stands_before settings (pair_on bytes a) (pair_on bytes b)

-- the order of the pairs of a text
abbrev pub pair_before : Settings → TextPair → TextPair → Bool
pair_before settings a b = stands_before settings (unlined a) (unlined b)

-- pairs in their order; those of which neither stands before the other keep theirs
pub record IsSortedOf (settings : Settings) (pairs sorted : List TextPair) : Type 0 where
  pub ascend : IsSortedBy (pair_before settings) sorted
  pub stable : IsStableBy (pair_before settings) pairs sorted

-- a pair that stays where another is put behind it
abbrev pub stays : (Pair → Pair → Bool) → Bool → Pair → Pair → Bool
stays before keeps pair other = not (before pair other) && (before other pair || keeps)

-- no pair stands before the one ahead of it
abbrev pub Ascend : (Pair → Pair → Bool) → Pair → List Pair → Type 0
Ascend before last [] = Unit {0}
Ascend before last (pair ∷ pairs) = (before pair last ≡ false) × Ascend before pair pairs

-- of pairs in their order these stand in the list, the last of them waits, and the rest are still to come
pub record IsSettledTo (settings : Settings) (all : List Pair) (list : List TextPair) (last : Pair) (rest : List Pair) : Type 0 where
  pub done : List Pair
  pub seen : list ≡ map unnumbered done
  pub stay : All (λ other. stays (stands_before settings) (keeps_data settings) last other ≡ true) done
  pub ascend : Ascend (stands_before settings) last rest
  pub whole : fold (with_loaded settings) [] all ≡ fold (with_loaded settings) (done ++ last ∷ []) rest

-- The same in place: of places in their order the first so many are of the list, the last pair waits, and from one on they are still to come.
pub record IsSettledAt (settings : Settings) (bytes : List ℕ) (all places : List Place) (kept : ℕ) (last : Place) (next : ℕ) : Type 0 where
  pub low : kept < next
  pub same : length places ≡ length all
  pub settled : IsSettledTo settings (map (pair_on bytes) all) (placed_pairs bytes (take kept places)) (pair_on bytes last)
      (map (pair_on bytes) (drop next places))
  pub line : last.line ≡ 0
  pub here : IsPlaced bytes last
  pub placed : ArePlaced bytes places

-- the answer of a comparison of two keys
abbrev pub KeyOrderingIs : Ordering → Key → Key → Type 0
KeyOrderingIs Below a b = key_less a b ≡ true
KeyOrderingIs Equal a b = a ≡ b
KeyOrderingIs Greater a b = key_less b a ≡ true
