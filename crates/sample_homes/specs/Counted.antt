-- The homes of all pages.
use Rattle.std.specs.Prelude.{List, map, Option}
use Rattle.std.specs.List.{range_with_len}
use Rattle.bdb_survey.specs.of_format.Terms.{File}
use Rattle.bdb_homes.specs.Homes.{home}
use Rattle.bdb_homes.specs.declared.home.Home.{Home}

abbrev pub homes : File → List (Option Home)
homes file = map (home file) (range_with_len 0 file.count)
