-- The homes that are kept.
use Rattle.std.specs.Prelude.{◌≡◌, ℕ, ◌<◌, List, length, get_or, Option, None}
use Rattle.bdb_survey.specs.of_format.Terms.{File}
use Rattle.bdb_homes.specs.Homes.{home}
use Rattle.bdb_homes.specs.declared.home.Home.{Home}

pub record AreHomes (file : File) (homes : List (Option Home)) : Type 0 where
  pub len : length homes ≡ file.count
  pub each : (p : ℕ) → p < file.count → get_or homes p None ≡ home file p
