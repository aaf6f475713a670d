use Rattle.bdb_mkleaves.proofs.Common.{leaf_item_seen, own_entry}
use Rattle.bdb_mkleaves.proofs.LeavesLemmas.{grown, page_written}
use Rattle.bdb_mkleaves.proofs.leaves.Leaves.append.Goals as goal

pub returns-clause-grown : goal.returns-clause-grown
returns-clause-grown c =
    grown c.args.self.now c.args.pages.now c.append_item.new.pages (λ entries. own_entry (leaf_item_seen c.args.item.now))
    (page_written c.args.pages.now c.append_item.new.pages c.args.self.now.last _ c.append_item.ensures.page) c.append_item.ensures.long
    (c.append_item.ensures.holds c.args.self.now.leaf_type)
