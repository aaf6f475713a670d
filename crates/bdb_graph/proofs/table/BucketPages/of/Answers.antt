use Rattle.std.proofs.Common.{◌≡◌, arith}
use Rattle.bdb_image.specs.of_format.Terms.{file_of}
use Rattle.bdb_graph.proofs.RunLemmas.{no_leap_yet}
use Rattle.bdb_graph.proofs.table.BucketPages.of.Goals as goal

-- A leap from each page, and from the end behind the last.
pub returns : goal.returns
returns c = λ tallies len.
    let last : c.head.result.last ≡ (file_of c.args.formed.now).last =
    c.head.ensures.last in
    record {
      fits = c.in_ok-fits.ensures;
      leaps = no_leap_yet tallies c.in_ok-leaps.leaps.items _ c.in_ok-leaps.ensures (omega arith) (omega arith);
    }
