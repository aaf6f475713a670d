use Rattle.bdb_pack.proofs.HeaderLemmas.{begun_pages_take_items}
use Rattle.bdb_pack.proofs.laws.begun_pages_take_items.Goals as goal

pub returns : goal.returns
returns c = begun_pages_take_items
