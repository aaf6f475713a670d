use Rattle.bdb_mktree.specs.of_layout.Seen.{hash_content_seen}
use Rattle.bdb_mkhash.proofs.StoreLemmas.{takes_item}
use Rattle.bdb_mkhash.proofs.data.put_value.Goals as goal

pub append_item-requires-clause-takes : goal.append_item-requires-clause-takes
append_item-requires-clause-takes c =
    takes_item c.args.pages.now c.store.new.pages c.args.page c.args.value.now (hash_content_seen c.in_ok-item.item) c.requires.open
    c.in_ok-item.ensures.item
    c.requires.room
