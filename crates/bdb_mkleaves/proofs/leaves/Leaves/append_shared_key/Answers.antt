use Rattle.std.proofs.Common.{ℕ, List, [], ◌∷◌, ◌++◌, sym, subst}
use Rattle.bdb_mkleaves.specs.LeafEntries.{Entry, HoldsEntriesOn, shared_key}
use Rattle.bdb_mkleaves.proofs.LeavesLemmas.{grown, page_written}
use Rattle.bdb_mkleaves.proofs.leaves.Leaves.append_shared_key.Goals as goal

pub returns-clause-grown : goal.returns-clause-grown
returns-clause-grown c =
    grown c.args.self.now c.args.pages.now c.append_shared_key.new.pages shared_key
    (page_written c.args.pages.now c.append_shared_key.new.pages c.args.self.now.last _ c.append_shared_key.ensures.page)
    c.append_shared_key.ensures.long
    (subst (λ t. (previous next : ℕ) (entries : List Entry) → HoldsEntriesOn t c.args.pages.now c.args.self.now.last previous next entries
    → HoldsEntriesOn t c.append_shared_key.new.pages c.args.self.now.last previous next (entries ++ (shared_key entries ∷ [])))
    (sym c.requires.pairs) c.append_shared_key.ensures.holds)
