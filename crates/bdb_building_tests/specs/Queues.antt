-- Lists of records that are tested when a test runs.
use Rattle.std.specs.Prelude.{ℕ, ◌≤◌, ◌<◌, ◌^◌, List, drop, length}
use Rattle.std.specs.List.{All}
use Rattle.bdb_need.specs.of_format.declared.settings.Settings.{Settings}
use Rattle.bdb_need.specs.of_text_format.declared.pairs.Pair.{Pair}
use Rattle.bdb_need.specs.of_text_format.Terms.{AscendFrom}
use Rattle.bdb_need.specs.of_mkqueue.Lists.{HasLength, HasNext}

-- the records from a place on may stand in a queue, behind those below a number
pub record MayStandFrom (settings : Settings) (list : List Pair) (place least : ℕ) : Type 0 where
  pub there : place ≤ length list
  pub small : least < 2 ^ 32
  pub ascend : AscendFrom least (drop place list)
  pub few : All HasNext (drop place list)
  pub long : All (HasLength settings.re_len) (drop place list)
