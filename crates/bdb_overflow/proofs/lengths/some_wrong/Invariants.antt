use Rattle.bdb_graph.specs.of_format.Terms.{file_of}
use Rattle.bdb_overflow.specs.Lengths.{is_wrong_entry}
use Rattle.bdb_overflow.proofs.LengthLemmas.{NoneBelow}
use Rattle.bdb_overflow.proofs.lengths.some_wrong.Given as goal

-- No entry passed tells a wrong length.
abbrev pub invariant-loop-index : goal.invariant-loop-index
invariant-loop-index g l =
    NoneBelow (is_wrong_entry (file_of l.linked) g.K.PageKind.SHARES g.K.ContentKind.content_of g.K.PageKind.no_item l.page) l.index
