-- What is left of the walks over the pages of a damaged file.
use Rattle.std.specs.Prelude.{ℕ, ◌-◌, List, map}
use Rattle.std.specs.List.{filter, range_with_len}
use Rattle.std.specs.Option.{option_to_list}
use Rattle.bdb_apart.specs.of_format.declared.kinds.Fault.{Fault}
use Rattle.bdb_apart.specs.of_format.Terms.{by_page}
use Rattle.bdb_apart.specs.of_rescue.Kept.{Reading, file_in}
use Rattle.bdb_damage.specs.Pages.{is_renumbered, renumbered_page, row_at}

-- the refused pages from one on
abbrev pub refused_from : Reading → ℕ → List Fault
refused_from reading p = by_page 2 p ((file_in reading).count - p) (λ q. option_to_list (row_at reading q))

-- those with another number
abbrev pub renumbered_from : Reading → ℕ → List (ℕ × ℕ)
renumbered_from reading p = map (renumbered_page reading) (filter (is_renumbered reading) (range_with_len p ((file_in reading).count - p)))
