-- Leaps over pages that no further bucket claims.
use Rattle.std.specs.Prelude.{◌≡◌, ℕ, ◌+◌, ◌^◌, ◌<◌, ◌||◌, not, Bool, List, length, get_or}
use Rattle.bdb_graph.specs.Leaps.{AreLeaps, AreOver}
use Rattle.bdb_homes.specs.Fits.{bucket_asked, fits_by}
use Rattle.bdb_homes.specs.Ups.{is_claimed}
use Rattle.bdb_homes.specs.declared.face.Face.{Face}
use Rattle.bdb_homes.specs.declared.up.Up.{Up}
use Rattle.bdb_homes.specs.declared.up.Up.TheVariants.{Nowhere}

-- a page is claimed, or isn't one of a bucket
abbrev pub closed_at : List Face → List Up → ℕ → Bool
closed_at faces ups p = is_claimed (get_or ups p Nowhere) || not (fits_by faces bucket_asked p)

-- the leaps from each page, and from the end behind them, go over closed pages
pub record HasLeaps (faces : List Face) (ups : List Up) (leaps : List ℕ) : Type 0 where
  pub few : length ups < 2 ^ 31
  pub same : length faces ≡ length ups
  pub len : length leaps ≡ length ups + 1
  pub are : AreLeaps leaps
  pub over : AreOver (closed_at faces ups) leaps
