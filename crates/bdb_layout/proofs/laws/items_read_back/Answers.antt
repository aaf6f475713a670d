use Rattle.bdb_layout.proofs.ReadBackLemmas.{leaf_items_read_back, internal_items_read_back, recno_items_read_back, hash_items_read_back}
use Rattle.bdb_layout.proofs.laws.items_read_back.Goals as goal

pub returns-clause-leaves : goal.returns-clause-leaves
returns-clause-leaves c = leaf_items_read_back

pub returns-clause-internal : goal.returns-clause-internal
returns-clause-internal c = internal_items_read_back

pub returns-clause-recno : goal.returns-clause-recno
returns-clause-recno c = recno_items_read_back

pub returns-clause-hash : goal.returns-clause-hash
returns-clause-hash c = hash_items_read_back
