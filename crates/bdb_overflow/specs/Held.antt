-- Values as items hold them, and what was found of two of them. Source: docs/FORMAT.md, "Items" and "Order of keys".
use Rattle.std.specs.Prelude.{◌≡◌, ℕ, Bool, List, Option, Some, None}
use Rattle.std.specs.BTreeMap.{BTreeMap, get}
use Rattle.std.specs.Ordering.{nat_cmp, ordering_then}
use Rattle.std.specs.declared.cmp.Ordering.{Ordering}
use Rattle.bdb_graph.specs.of_format.Terms.{File, file_of, joined, less, pieces_of}
use Rattle.bdb_graph.specs.of_image.Linked.{FitsChain}
use Rattle.bdb_overflow.specs.declared.held.Held.{Held}
use Rattle.bdb_overflow.specs.declared.held.Held.TheVariants.{Inline, Chained}

-- the value of the chain with this head
abbrev pub chain_value : File → ℕ → List ℕ
chain_value file head = joined (pieces_of file head)

abbrev pub value_held : File → Held → List ℕ
value_held file (Inline bytes) = bytes.now
value_held file (Chained head) = chain_value file head

-- a chain begins at a page that fits
abbrev pub FitsHeld : File → Held → Type 0
FitsHeld file (Inline bytes) = Unit {0}
FitsHeld file (Chained head) = FitsChain file head

-- the same of a value that may be there
abbrev pub FitsAny : File → Option Held → Type 0
FitsAny file None = Unit {0}
FitsAny file (Some held) = FitsHeld file held

-- two heads in their order
abbrev pub two_cmp : (ℕ × ℕ) → (ℕ × ℕ) → Ordering
two_cmp x y = ordering_then (nat_cmp x.0 y.0) (nat_cmp x.1 y.1)

-- these tell of chains, two by two by their heads, whether the first is less
pub record AreFound (image : List ℕ) (found : BTreeMap (ℕ × ℕ) Bool) : Type 0 where
  pub each : (a b : ℕ) (is : Bool) → get two_cmp found (a, b) ≡ Some is → is ≡ less (chain_value (file_of image) a) (chain_value (file_of image) b)
