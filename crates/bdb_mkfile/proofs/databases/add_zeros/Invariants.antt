use Rattle.bdb_mkfile.specs.Standing.{AreAdded}
use Rattle.bdb_mkfile.proofs.databases.add_zeros.Given as goal

-- So many pages are added.
abbrev pub invariant-loop-page : goal.invariant-loop-page
invariant-loop-page l = AreAdded l.fn.pages l.pages l._page
