use Rattle.std.specs.Prelude.{◌≡◌, ℕ, length, get_or, None}
use Rattle.bdb_apart.proofs.names.no_names.Given as goal

-- So many pages have no name.
abbrev pub invariant-loop-page : goal.invariant-loop-page
invariant-loop-page l = record {
  len : length l.names.items ≡ l._page;
  none : (p : ℕ) → get_or l.names.items p None ≡ None;
}
