-- Pairs that share bytes of their run, in the making.
use Rattle.std.specs.Prelude.{◌≡◌, ◌≤◌, ℕ, List, [], ◌∷◌, ◌++◌, Option, Some, length, map}
use Rattle.std.specs.BTreeMap.{is_at}
use Rattle.std.specs.Map.{lookup}
use Rattle.std.specs.Ordering.{nat_cmp}
use Rattle.bdb_places.specs.declared.span.Span.{Span}
use Rattle.bdb_text_format.specs.declared.pairs.Key.{Key}
use Rattle.bdb_text_format.specs.declared.pairs.TextPair.{TextPair}
use Rattle.bdb_text_format.specs.Placed.{IsPiecePut, pair_with}

-- a run, where the values of chains stand in it, by their heads, for how many bytes there is room, and the pairs
pub record Gathering : Type 0 where
  pub bytes : List ℕ
  pub chains : List (ℕ × Span)
  pub room : ℕ
  pub pairs : List TextPair

-- where the chain with this head stands, if it's noted
abbrev pub noted : List (ℕ × Span) → ℕ → Option Span
noted chains head = lookup (is_at (nat_cmp head)) chains

-- where a chain is noted its value stands
pub record HasChains (value : ℕ → List ℕ) (it : Gathering) : Type 0 where
  pub each : (head : ℕ) (span : Span) → noted it.chains head ≡ Some span → IsPiecePut it.bytes (value head) span

-- a run has all bytes of a span
pub record IsSpanOf (bytes : List ℕ) (span : Span) : Type 0 where
  pub begin : span.start ≤ span.end
  pub end : span.end ≤ length bytes

-- one more pair
abbrev pub with_pair : TextPair → Gathering → Gathering
with_pair pair it = record it { pairs = it.pairs ++ pair ∷ [] }

-- a key with each datum of some pairs
abbrev pub key_again : Key → List TextPair → List TextPair
key_again key pairs = map (λ (pair : TextPair). pair_with key pair.value 0) pairs

abbrev pub with_again : Key → List TextPair → Gathering → Gathering
with_again key pairs it = record it { pairs = it.pairs ++ key_again key pairs }

-- some pairs more, and else the same
pub record Extends (old new : Gathering) : Type 0 where
  pub bytes : new.bytes ≡ old.bytes
  pub chains : new.chains ≡ old.chains
  pub more : List TextPair
  pub pairs : new.pairs ≡ old.pairs ++ more
