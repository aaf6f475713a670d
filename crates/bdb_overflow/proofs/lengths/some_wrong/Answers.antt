use Rattle.std.proofs.Common.{ℕ, Bool, arith, length, sym}
use Rattle.bdb_graph.specs.of_format.Terms.{file_of}
use Rattle.bdb_overflow.specs.Lengths.{is_wrong_entry}
use Rattle.bdb_overflow.proofs.LengthLemmas.{entries_none, entries_some, one_more}
use Rattle.bdb_overflow.proofs.lengths.some_wrong.Goals as goal

pub loop-index-preserved : goal.loop-index-preserved
loop-index-preserved g c =
    one_more (is_wrong_entry (file_of c.args.linked.now) g.K.PageKind.SHARES g.K.ContentKind.content_of g.K.PageKind.no_item c.args.page.now)
    c.loop-index.index c.loop-index.invariant (sym c.if-is_wrong_entry.ensures)

pub returns-then-is_wrong_entry : goal.returns-then-is_wrong_entry
returns-then-is_wrong_entry g c =
    let wrong : ℕ → Bool = is_wrong_entry (file_of c.args.linked.now) g.K.PageKind.SHARES g.K.ContentKind.content_of g.K.PageKind.no_item c.args.page.now in
    sym (entries_some wrong (length c.args.page.now.items) c.loop-index.index (omega arith) (sym c.if-is_wrong_entry.ensures))

pub returns : goal.returns
returns g c =
    let wrong : ℕ → Bool = is_wrong_entry (file_of c.args.linked.now) g.K.PageKind.SHARES g.K.ContentKind.content_of g.K.PageKind.no_item c.args.page.now in
    sym (entries_none wrong (length c.args.page.now.items) c.loop-index.index c.loop-index.invariant (omega arith))
