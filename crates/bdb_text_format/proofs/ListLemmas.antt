-- Lists of pairs without lines.
use Rattle.std.proofs.Common.{◌≡◌, ℕ, List, [], ◌∷◌, ◌++◌, ◌∙◌, slice_get, option_map}
use Rattle.std.proofs.lemmas.List.{map-append}
use Rattle.std.proofs.lemmas.Option.{slice_get-map}
use Rattle.bdb_text_format.specs.declared.pairs.Pair.{Pair}
use Rattle.bdb_text_format.specs.declared.pairs.TextPair.{TextPair}
use Rattle.bdb_text_format.specs.Terms.{unlined, unlined_pairs, unnumbered, unnumbered_pairs}

-- one more pair, without a line
pub unlined_more : (pairs : List TextPair) (pair : TextPair) → unlined_pairs (pairs ++ pair ∷ []) ≡ unlined_pairs pairs ++ unlined pair ∷ []
unlined_more pairs pair = map-append unlined pairs (pair ∷ [])

pub unnumbered_more : (pairs : List Pair) (pair : Pair) → unnumbered_pairs (pairs ++ pair ∷ []) ≡ unnumbered_pairs pairs ++ unnumbered pair ∷ []
unnumbered_more pairs pair = map-append unnumbered pairs (pair ∷ [])

-- the pair at a place has no line
pub listed_pair : (pairs : List Pair) (i : ℕ) → slice_get (unnumbered_pairs pairs) i ≡ option_map unnumbered (slice_get pairs i)
listed_pair pairs i = slice_get-map unnumbered pairs i

pub ruleset lists_grow = (unlined_more, unnumbered_more)
