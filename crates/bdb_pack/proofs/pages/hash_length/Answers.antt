use Rattle.std.proofs.Common.{length, ap, sym, ◌∙◌, arith}
use Rattle.bdb_layout.proofs.WritingLemmas.{hash_set-is, length-hash_inline, length-hash_chain, length-hash_tree}
use Rattle.bdb_pack.proofs.pages.hash_length.Goals as goal

pub returns-in-Inline : goal.returns-in-Inline
returns-in-Inline c = rw c.in-Inline.is (c.followed.ensures.long ∙ sym (length-hash_inline c.args.order c.in-Inline.bytes.now))

pub returns-in-Set : goal.returns-in-Set
returns-in-Set c =
    let set = c.in-Set.set in
    let order = rw c.in-Set.is at c.requires in
    let is = hash_set-is c.args.order set.order c.bytes-run.result.now set.blocks c.followed-in-Set.ensures.bytes order c.bytes-run.ensures in
    rw c.in-Set.is (omega (arith, c.followed-in-Set.ensures.long, ap length is))

pub returns-in-Overflow : goal.returns-in-Overflow
returns-in-Overflow c = rw c.in-Overflow.is (sym (length-hash_chain c.args.order c.in-Overflow.head c.in-Overflow.total))

pub returns-in-OffPage : goal.returns-in-OffPage
returns-in-OffPage c = rw c.in-OffPage.is (sym (length-hash_tree c.args.order c.in-OffPage.root))
