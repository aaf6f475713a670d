use Rattle.std.proofs.Common.{◌≡◌, ℕ, ◌+◌, ◌*◌, ◌<◌, get_or}
use Rattle.bdb_layout.specs.of_format.Terms.{four_at}
use Rattle.bdb_meta.proofs.table.spares.Given as goal

-- The spares so far are those of the page.
abbrev pub invariant-loop-group : goal.invariant-loop-group
invariant-loop-group l = (k : ℕ) → k < l.group → get_or l.spare-items k 0 ≡ four_at l.order l.page (96 + 4 * k)
