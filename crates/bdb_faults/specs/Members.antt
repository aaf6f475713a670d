-- The order of what a list keeps: by page and then by code.
use Rattle.std.specs.Prelude.{◌==◌, ◌&&◌, ◌||◌, nat_lt, Bool}
use Rattle.bdb_format.specs.Terms.{row_code}
use Rattle.bdb_format.specs.declared.named.Named.{Named}

abbrev pub is_before : Named → Named → Bool
is_before a b = nat_lt a.page b.page || (a.page == b.page && nat_lt (row_code a.row) (row_code b.row))

abbrev pub is_same : Named → Named → Bool
is_same a b = a.page == b.page && row_code a.row == row_code b.row
