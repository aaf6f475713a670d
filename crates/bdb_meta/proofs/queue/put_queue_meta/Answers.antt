use Rattle.std.proofs.Common.{◌≡◌, ◌≤◌, length, ap, ◌∙◌, refl, arith}
use Rattle.bdb_layout.specs.of_format.declared.metadata.FileKind.TheVariants.{Queue}
use Rattle.bdb_layout.specs.of_format.Terms.{queue_bytes, queue_fields}
use Rattle.bdb_meta.specs.ReadBack.{QueueFits}
use Rattle.bdb_meta.proofs.CommonLemmas.{filled_common, page_size-least}
use Rattle.bdb_meta.proofs.FieldLemmas.{queue_fields-bytes, queue_pieces}
use Rattle.bdb_meta.proofs.FilledLemmas.{filled_number}
use Rattle.bdb_meta.proofs.queue.put_queue_meta.Goals as goal

-- The page is filled field after field.
pub returns : goal.returns
returns c =
    let order = c.args.order in
    let meta = c.args.meta.now in
    let size = length c.args.page.now in
    let room : 512 ≤ size = page_size-least size c.requires.size in
    let common = filled_common order Queue 0 0 c.args.last 0 c.put_generic.ensures (omega arith) in
    let one = filled_number order meta.first 76 common c.put_u32.ensures refl (omega arith) in
    let current = filled_number order meta.current 80 one c.put_u32-2.ensures refl (omega arith) in
    let re_len = filled_number order meta.re_len 84 current c.put_u32-3.ensures refl (omega arith) in
    let re_pad = filled_number order meta.re_pad 88 re_len c.put_u32-4.ensures refl (omega arith) in
    let per_page = filled_number order meta.per_page 92 re_pad c.put_u32-5.ensures refl (omega arith) in
    let written : c.put_u32-5.new.bytes ≡ queue_bytes order size c.args.last meta = per_page.is ∙ queue_pieces order size c.args.last meta in
    let fits : QueueFits meta = record { first = omega arith; current = omega arith; re_len = omega arith; re_pad = omega arith; per_page = omega arith } in
    record { page = written; fields = ap (queue_fields order) written ∙ queue_fields-bytes order size c.args.last meta fits }
