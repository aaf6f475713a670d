use Rattle.std.proofs.Common.{arith, sym, ◌∙◌, ap, subst, ◌+◌, ◌≤◌}
use Rattle.bdb_mkleaves.proofs.Common.{take_all, values_seen, is_page_size, bytes_of, room_of, IsPut, value_cost, ArePairsPut}
use Rattle.bdb_mkleaves.proofs.PairsLemmas.{first_pair, first_room, more_pairs, room_again, some_of, takes_key}
use Rattle.bdb_mkleaves.proofs.RunLemmas.{some_after}
use Rattle.bdb_mkleaves.proofs.leaves.Leaves.put_pairs.Goals as goal

pub put-requires-2-clause-leaves : goal.put-requires-2-clause-leaves
put-requires-2-clause-leaves c =
    (first_room c.args.self.now c.args.pages.now c.put.new.pages c.args.key.now c.args.first.now (values_seen c.args.more) c.requires.leaves c.in_ok-put.ensures
    c.requires.room).0

pub put-requires-2-clause-room : goal.put-requires-2-clause-room
put-requires-2-clause-room c =
    (first_room c.args.self.now c.args.pages.now c.put.new.pages c.args.key.now c.args.first.now (values_seen c.args.more) c.requires.leaves c.in_ok-put.ensures
    c.requires.room).1

pub loop-i-init : goal.loop-i-init
loop-i-init c =
    first_pair c.args.self.now c.args.pages.now c.put.new.pages c.put-2.new.pages c.args.key.now c.args.first.now c.requires.leaves
    c.in_ok-put.ensures c.in_ok-put-2.ensures

pub append_shared_key-requires-clause-leaves : goal.append_shared_key-requires-clause-leaves
append_shared_key-requires-clause-leaves c =
    some_after c.args.self.now c.args.pages.now c.loop-i.pages _ _ c.loop-i.invariant.run
    (some_of c.args.self.now c.args.pages.now c.requires.leaves)

pub append_shared_key-requires-clause-shares : goal.append_shared_key-requires-clause-shares
append_shared_key-requires-clause-shares c =
    takes_key c.args.self.now c.args.pages.now c.loop-i.pages c.args.key.now c.args.first.now (values_seen c.args.more) c.loop-i.i
    c.requires.leaves
    c.loop-i.invariant c.requires.room (omega arith)

pub put-requires-in-loop-i-clause-leaves : goal.put-requires-in-loop-i-clause-leaves
put-requires-in-loop-i-clause-leaves c =
    (room_again c.args.self.now c.args.pages.now c.loop-i.pages c.append_shared_key.new.pages c.args.key.now c.args.first.now (values_seen c.args.more)
    c.loop-i.i c.requires.leaves c.loop-i.invariant c.requires.room (omega arith) c.append_shared_key.ensures.grown
    c.append_shared_key.ensures.count).0

pub put-requires-in-loop-i-clause-legal : goal.put-requires-in-loop-i-clause-legal
put-requires-in-loop-i-clause-legal c = ap is_page_size (c.append_shared_key.ensures.grown.kept.size ∙ c.loop-i.invariant.run.kept.size) ∙ c.requires.legal

pub put-requires-in-loop-i-clause-room : goal.put-requires-in-loop-i-clause-room
put-requires-in-loop-i-clause-room c =
    subst
    (λ v. 2 + value_cost c.append_shared_key.new.pages.size v
    ≤ room_of c.append_shared_key.new.pages.order (bytes_of c.append_shared_key.new.pages c.args.self.now.last))
    (sym c.at.ensures)
    (room_again c.args.self.now c.args.pages.now c.loop-i.pages c.append_shared_key.new.pages c.args.key.now c.args.first.now (values_seen c.args.more)
    c.loop-i.i c.requires.leaves c.loop-i.invariant c.requires.room (omega arith) c.append_shared_key.ensures.grown
    c.append_shared_key.ensures.count).1

pub loop-i-preserved : goal.loop-i-preserved
loop-i-preserved c =
    more_pairs c.args.self.now c.args.pages.now c.loop-i.pages c.append_shared_key.new.pages c.put-in-loop-i.new.pages c.args.key.now
    c.args.first.now
    (values_seen c.args.more) c.loop-i.i c.requires.leaves c.loop-i.invariant (omega arith) c.append_shared_key.ensures.grown
    c.append_shared_key.ensures.count
    (subst (λ v. IsPut c.args.self.now c.append_shared_key.new.pages c.put-in-loop-i.new.pages v _)
    c.at.ensures
    c.in_ok-put-3.ensures)

pub returns : goal.returns
returns c =
    subst (ArePairsPut c.args.self.now c.args.pages.now c.loop-i.pages c.args.key.now c.args.first.now)
    (take_all c.loop-i.i (values_seen c.args.more) (omega arith)) c.loop-i.invariant
