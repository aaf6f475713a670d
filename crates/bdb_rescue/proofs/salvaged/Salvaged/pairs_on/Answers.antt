use Rattle.std.proofs.Common.{◌∙◌, All, ap, flat_map, subst, sym}
use Rattle.bdb_rescue.specs.Kept.{IsKeptPair, file_in, given_live}
use Rattle.bdb_rescue.proofs.KeptLemmas.{pairs_on}
use Rattle.bdb_rescue.proofs.StoredLemmas.{stored_on_is}
use Rattle.bdb_rescue.proofs.salvaged.Salvaged.pairs_on.Goals as goal

pub among-requires : goal.among-requires
among-requires c =
    subst (All (IsKeptPair (file_in c.args.self.now))) (sym c.over.ensures)
    (pairs_on (file_in c.args.self.now) c.args.page c.pairs_at.result.now c.pairs_at.ensures c.requires)

pub returns : goal.returns
returns c =
    c.among.ensures
    ∙ (ap (flat_map (given_live (file_in c.args.self.now))) (c.over.ensures ∙ c.pairs_at.ensures)
    ∙ stored_on_is (file_in c.args.self.now) c.args.page)
