use Rattle.std.proofs.Common.{refl, subst, sym, All}
use Rattle.bdb_need.proofs.Common.{Btree, keyed_units, IsShortUnit, unlined_pairs}
use Rattle.bdb_need.proofs.SectionLemmas.{short_units}
use Rattle.bdb_need.proofs.table.table_pages.Goals as goal

pub all_pages-requires-clause-short : goal.all_pages-requires-clause-short
all_pages-requires-clause-short c =
    subst (λ ps. All IsShortUnit (keyed_units (unlined_pairs ps))) (sym c.as_slice-pairs.ensures)
    (short_units (record c.args.settings.now { kind = Btree }) c.args.list.now refl c.requires.list)
