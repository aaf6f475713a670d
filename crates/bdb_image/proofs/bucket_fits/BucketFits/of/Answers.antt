use Rattle.std.proofs.Common.{◌≡◌, arith}
use Rattle.bdb_faults.specs.of_format.Terms.{file_of}
use Rattle.bdb_image.proofs.bucket_fits.BucketFits.of.Goals as goal

-- The page is there.
pub row_of-row-requires : goal.row_of-row-requires
row_of-row-requires c =
    let last : c.head.result.last ≡ (file_of c.args.formed.now).last =
    c.head.ensures.last in
    omega arith

-- The last page is passed.
pub returns : goal.returns
returns c =
    let last : c.head.result.last ≡ (file_of c.args.formed.now).last =
    c.head.ensures.last in
    record {
      kinds = c.loop-page.invariant.of_type;
      backs = c.loop-page.invariant.of_back;
      kinds_len = omega (arith, c.loop-page.invariant.kinds_len);
      backs_len = omega (arith, c.loop-page.invariant.backs_len);
    }
