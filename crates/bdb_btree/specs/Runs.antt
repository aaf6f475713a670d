-- Values that ought to ascend, one after another: keys of pairs, and the live data of pairs that share a key.
use Rattle.std.specs.Prelude.{◌&&◌, ◌||◌, not, if◌then◌else◌, Bool, false, ℕ, List, Option, Some, None}
use Rattle.std.specs.List.{fold}
use Rattle.bdb_ranks.specs.Order.{is_not_above}
use Rattle.bdb_ranks.specs.of_format.Terms.{File, StoredPair, live_data}

-- the last value of a run, and whether some value wasn't above the one before it
pub record Ascent : Type 0 where
  pub last : Option (List ℕ)
  pub broken : Bool

abbrev pub follow : Ascent → List ℕ → Ascent
follow run value = record { last = Some value; broken = run.broken || is_not_above run.last value }

-- The keys of pairs.

-- the key of the last pair, whether it was out of order, and whether all are in order so far
pub record KeyOrder : Type 0 where
  pub before : Option (List ℕ)
  pub wrong : Bool
  pub ordered : Bool

-- a pair that shares its key isn't compared
abbrev pub is_wrong_key : KeyOrder → StoredPair → Bool
is_wrong_key order pair = not pair.shares && is_not_above order.before pair.key

abbrev pub next_key : KeyOrder → StoredPair → KeyOrder
next_key order pair = record {
  before = Some pair.key;
  wrong = is_wrong_key order pair;
  ordered = if is_wrong_key order pair then false else order.ordered;
}

-- The data of pairs.

-- a run goes on where a pair shares its key, else it begins anew
abbrev pub run_at : Ascent → StoredPair → Ascent
run_at run pair = record { last = if pair.shares then run.last else None; broken = false }

abbrev pub next_data : File → Ascent → StoredPair → Ascent
next_data file run pair = fold follow (run_at run pair) (live_data file pair)
