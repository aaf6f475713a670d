use Rattle.std.proofs.Common.{◌≡◌, ap, arith, length, length-drop}
use Rattle.bdb_rescue.specs.of_format.Terms.{byte_at, four_at}
use Rattle.bdb_apart.proofs.SlotLemmas.{on_queue_page}
use Rattle.bdb_apart.proofs.slots.slots_on.Goals as goal

pub returns : goal.returns
returns c =
    let kind : byte_at c.bytes_at-bytes.result.now 25 ≡ 11 = omega (arith, c.if-bytes-ne-QUEUE.false) in
    let same : c.u32_at.result ≡ c.args.page = omega (arith, c.if-u32_at-page.false) in
    let number : four_at c.args.salvaged.now.guess.order c.bytes_at-bytes.result.now 8 ≡ c.args.page = cc in
    on_queue_page c.args.salvaged.now c.args.meta.now c.args.page c.bytes_at-bytes.result.now c.behind_header.result.now
    c.bytes_at-bytes.ensures.bytes c.behind_header.ensures kind number

pub invariant_of-result : goal.invariant_of-result
invariant_of-result c = record {
  above = c.requires.low;
  room =
      omega (arith, c.requires.slots, c.bytes_at-bytes.ensures.whole, ap length c.behind_header.ensures, length-drop 28 c.bytes_at-bytes.result.now);
}
