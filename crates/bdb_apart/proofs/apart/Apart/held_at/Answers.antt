use Rattle.std.proofs.Common.{◌≡◌, ◌≤◌, length, arith, sym, ◌∙◌, ap}
use Rattle.std.specs.Option.{option_map}
use Rattle.bdb_rescue.specs.Kept.{file_in}
use Rattle.bdb_apart.specs.Found.{found}
use Rattle.bdb_apart.specs.Kept.{holds_in}
use Rattle.bdb_apart.specs.Left.{held_at}
use Rattle.bdb_apart.proofs.MetaLemmas.{none_past}
use Rattle.bdb_apart.proofs.apart.Apart.held_at.Goals as goal

-- No database is found with a metadata page that isn't there.
pub returns-else-at-len : goal.returns-else-at-len
returns-else-at-len c =
    let reading = c.args.self.now in
    let len : length c.self.inside.held.items ≡ (file_in reading).count = c.self.invariant.holds.len ∙ ap (λ r. (file_in r).count) c.self.view_is in
    let past : (file_in reading).count ≤ c.in_ok-at.field-0 = omega (arith, c.if-at-len.false, c.len.ensures, len) in
    sym (ap (held_at (found reading)) c.in_ok-at.was ∙ ap (option_map holds_in) (none_past reading c.in_ok-at.field-0 past))
