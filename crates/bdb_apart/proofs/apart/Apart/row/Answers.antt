use Rattle.std.proofs.Common.{sym, subst}
use Rattle.std.specs.List.{All}
use Rattle.bdb_rescue.specs.Kept.{file_in}
use Rattle.bdb_apart.specs.Left.{IsThere}
use Rattle.bdb_apart.proofs.MetaLemmas.{row_pages}
use Rattle.bdb_apart.proofs.apart.Apart.row.Goals as goal

pub returns-clause-there : goal.returns-clause-there
returns-clause-there c =
    subst (All (IsThere (file_in c.args.self.now))) (sym c.row.ensures)
    (row_pages (file_in c.args.self.now) c.self.inside.rows c.args.meta (rw c.self.view_is at c.self.invariant.rows))
