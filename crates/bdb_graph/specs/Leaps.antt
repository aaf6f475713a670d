-- Leaps over pages of which nothing more is counted.
use Rattle.std.specs.Prelude.{◌≡◌, ℕ, ◌+◌, ◌^◌, ◌<◌, ◌≤◌, nat_lt, ◌&&◌, not, Bool, true, List, length, get_or, Option, Some, None}
use Rattle.bdb_image.specs.of_format.Terms.{File}
use Rattle.bdb_image.specs.Buckets.{AreFits}
use Rattle.bdb_graph.specs.Tallies.{no_tally}
use Rattle.bdb_graph.specs.declared.table.BucketPages.{BucketPages}
use Rattle.bdb_graph.specs.declared.tally.Tally.{Tally}

-- a page with two owners and more, not all of them to the head of a chain: one more changes nothing that is told of it
abbrev pub is_full : Tally → Bool
is_full tally = nat_lt 1 tally.count && not tally.heads_alone

abbrev pub full_at : List Tally → ℕ → Bool
full_at tallies p = is_full (get_or tallies p no_tally)

-- each leap goes on from its page or stays there, and none goes past the last
pub record AreLeaps (leaps : List ℕ) : Type 0 where
  pub on : (p : ℕ) → p < length leaps → p ≤ get_or leaps p 0
  pub within : (p : ℕ) → p < length leaps → get_or leaps p 0 < length leaps

-- each page that is leapt over is full
abbrev pub AreOver : (ℕ → Bool) → List ℕ → Type 0
AreOver full leaps = (p q : ℕ) → p < length leaps → p ≤ q → q < get_or leaps p 0 → full q ≡ true

-- the pages from one on and below another are full
abbrev pub AllFull : (ℕ → Bool) → ℕ → ℕ → Type 0
AllFull full from to = (q : ℕ) → from ≤ q → q < to → full q ≡ true

-- the leaps from each page, and from the end behind them, go over full pages
pub record HasLeaps (tallies : List Tally) (leaps : List ℕ) : Type 0 where
  pub few : length tallies < 2 ^ 31
  pub len : length leaps ≡ length tallies + 1
  pub are : AreLeaps leaps
  pub over : AreOver (full_at tallies) leaps

-- what is known of the pages of a file as buckets
pub record AreKnown (file : File) (tallies : List Tally) (pages : BucketPages) : Type 0 where
  pub fits : AreFits file pages.fits
  pub leaps : HasLeaps tallies pages.leaps.items

-- the same, once it's asked for
abbrev pub AreKnownIfAny : File → List Tally → Option BucketPages → Type 0
AreKnownIfAny file tallies None = Unit {0}
AreKnownIfAny file tallies (Some pages) = AreKnown file tallies pages
