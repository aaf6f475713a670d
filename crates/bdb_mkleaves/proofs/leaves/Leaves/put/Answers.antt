use Rattle.bdb_pack.specs.of_layout.Seen.{leaf_item_seen}
use Rattle.bdb_mkleaves.proofs.PutLemmas.{some_stay, takes_put}
use Rattle.bdb_mkleaves.proofs.leaves.Leaves.put.Goals as goal

pub append-requires-clause-leaves : goal.append-requires-clause-leaves
append-requires-clause-leaves c =
    some_stay c.args.self.now c.args.pages.now c.store.new.pages c.args.value.now c.args.deleted
    (leaf_item_seen c.in_ok-item.item) c.in_ok-item.ensures
    c.requires.leaves

pub append-requires-clause-takes : goal.append-requires-clause-takes
append-requires-clause-takes c =
    takes_put c.args.self.now c.args.pages.now c.store.new.pages c.args.value.now c.args.deleted
    (leaf_item_seen c.in_ok-item.item) c.in_ok-item.ensures
    c.requires.leaves c.requires.room
