use Rattle.bdb_mktree.specs.of_layout.Seen.{hash_content_seen}
use Rattle.bdb_mkhash.proofs.PageLemmas.{item_grown, item_placed}
use Rattle.bdb_mkhash.proofs.page.append_item.Goals as goal

pub append_hash-requires-clause-place : goal.append_hash-requires-clause-place
append_hash-requires-clause-place c = item_placed c.args.pages.now c.args.page (hash_content_seen c.args.item.now) c.requires.takes

pub returns : goal.returns
returns c =
    item_grown c.args.pages.now c.append_hash.new.self c.args.page (hash_content_seen c.args.item.now) c.requires.page c.append_hash.ensures
    c.requires.takes
