use Rattle.std.specs.Prelude.{◌≡◌, map}
use Rattle.std.specs.List.{range_with_len}
use Rattle.bdb_rescue.specs.Kept.{file_in}
use Rattle.bdb_apart.specs.Given.{above}
use Rattle.bdb_apart.proofs.above.aboves.Given as goal

abbrev pub invariant-loop-page : goal.invariant-loop-page
invariant-loop-page l = l.aboves.items ≡ map (above (file_in l.salvaged)) (range_with_len 0 l.page)
