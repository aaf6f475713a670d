use Rattle.std.proofs.Common.{length, ap, ◌∙◌, arith}
use Rattle.bdb_format.specs.Terms.{hash_bytes, overwritten}
use Rattle.bdb_layout.proofs.WritingLemmas.{run_fits, hash_set-is, length-hash_inline, length-hash_chain, length-hash_tree}
use Rattle.bdb_layout.proofs.writing.put_hash_item.Goals as goal

pub put_hash_bytes-requires : goal.put_hash_bytes-requires
put_hash_bytes-requires c =
    let room = rw c.in-Inline.is at c.requires.room in
    omega (arith, room, length-hash_inline c.args.order c.in-Inline.bytes.now)

pub put_hash_bytes-requires-in-Set : goal.put_hash_bytes-requires-in-Set
put_hash_bytes-requires-in-Set c =
    let set = c.in-Set.set in
    let order = rw c.in-Set.is at c.requires.same_order in
    let room = rw c.in-Set.is at c.requires.room in
    omega (
      arith,
      room,
      ap length (hash_set-is c.args.order set.order c.bytes-run.result.now set.blocks (λ i. (c.type_inv.run i).fits) order
          c.bytes-run.ensures),
    )

pub put_hash_chain-requires : goal.put_hash_chain-requires
put_hash_chain-requires c =
    let room = rw c.in-Overflow.is at c.requires.room in
    omega (arith, room, length-hash_chain c.args.order c.in-Overflow.head c.in-Overflow.total)

pub put_hash_root-requires : goal.put_hash_root-requires
put_hash_root-requires c =
    let room = rw c.in-OffPage.is at c.requires.room in
    omega (arith, room, length-hash_tree c.args.order c.in-OffPage.root)

pub returns-in-Inline : goal.returns-in-Inline
unfolding hash_bytes
returns-in-Inline c = rw c.in-Inline.is c.put_hash_bytes.ensures

-- The run that was written spells the blocks of the set.
pub returns-in-Set : goal.returns-in-Set
returns-in-Set c =
    let set = c.in-Set.set in
    let order = rw c.in-Set.is at c.requires.same_order in
    let fit = run_fits c.args.page.now c.put_hash_bytes-in-Set.new.page c.bytes-run.result.now c.args.at 2 c.put_hash_bytes-in-Set.ensures (omega arith)
    (λ i. (c.type_inv.page i).fits) in
    let is = hash_set-is c.args.order set.order c.bytes-run.result.now set.blocks fit order c.bytes-run.ensures in
    rw c.in-Set.is (c.put_hash_bytes-in-Set.ensures ∙ ap (overwritten c.args.page.now c.args.at) is)

pub returns-in-Overflow : goal.returns-in-Overflow
unfolding hash_bytes
returns-in-Overflow c = rw c.in-Overflow.is c.put_hash_chain.ensures

pub returns-in-OffPage : goal.returns-in-OffPage
unfolding hash_bytes
returns-in-OffPage c = rw c.in-OffPage.is c.put_hash_root.ensures
