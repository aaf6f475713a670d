use Rattle.bdb_mkleaves.proofs.EntryLemmas.{key_held, key_long, key_placed}
use Rattle.bdb_mkleaves.proofs.entries.append_shared_key.Goals as goal

pub append_shared-requires-clause-shares : goal.append_shared-requires-clause-shares
append_shared-requires-clause-shares c = key_placed c.args.pages.now c.args.leaf c.requires.shares

pub returns-clause-holds : goal.returns-clause-holds
returns-clause-holds c = key_held c.args.pages.now c.append_shared.new.self c.args.leaf c.requires.leaf c.append_shared.ensures c.requires.shares

pub returns-clause-long : goal.returns-clause-long
returns-clause-long c = key_long c.args.pages.now c.append_shared.new.self c.args.leaf c.requires.leaf c.append_shared.ensures c.requires.shares
