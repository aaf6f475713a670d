use Rattle.std.proofs.Common.{length, ap, arith}
use Rattle.bdb_text_format.proofs.of_format.SizeLemmas.{size_bounds}
use Rattle.bdb_mkqueue.proofs.StepLemmas.{record_put}
use Rattle.bdb_mkqueue.proofs.build.write_record.Goals as goal

pub put_record-requires-clause-short : goal.put_record-requires-clause-short
put_record-requires-clause-short c =
    omega (
      arith,
      ap length c.page_mut.ensures.value,
      c.page_mut.ensures.whole c.args.page c.requires.page,
      (size_bounds c.args.pages.now.size c.page_mut.ensures.legal).1,
    )

pub returns : goal.returns
returns c =
    record_put c.args.meta.now c.args.pages.now c.args.page c.args.slot c.args.value.now _ _ c.page_mut.ensures.whole c.requires.page
    c.requires.room c.page_mut.ensures.value c.put_record.ensures
