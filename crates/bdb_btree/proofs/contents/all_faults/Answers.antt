use Rattle.bdb_btree.proofs.contents.all_faults.Goals as goal

pub returns : goal.returns
returns c = c.note_contents.ensures.noted
