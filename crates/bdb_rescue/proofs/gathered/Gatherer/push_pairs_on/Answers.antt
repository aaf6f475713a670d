use Rattle.std.proofs.Common.{◌≡◌, ◌++◌, ◌∙◌, ap, map, subst, All, flat_map, OnOk}
use Rattle.bdb_rescue.specs.Gathered.{InHand, stored_pair}
use Rattle.bdb_rescue.specs.Kept.{file_in, given_live, kept_on}
use Rattle.bdb_rescue.proofs.KeptLemmas.{pairs_on}
use Rattle.bdb_rescue.proofs.StoredLemmas.{stored_on_is}
use Rattle.bdb_rescue.proofs.gathered.Gatherer.push_pairs_on.Goals as goal

pub push_kept-requires : goal.push_kept-requires
push_kept-requires c =
    pairs_on (file_in c.args.self.now.reading) c.args.page c.pairs_at-pairs.result.now
    (subst (λ (it : InHand). c.pairs_at-pairs.result.now ≡ kept_on (file_in it.reading) c.args.page) c.self.view_is c.pairs_at-pairs.ensures) c.requires

pub returns-clause-pairs : goal.returns-clause-pairs
returns-clause-pairs c =
    subst (λ pairs. OnOk c.push_kept.result (c.push_kept.new.self.gathered.pairs ≡ c.args.self.now.gathered.pairs ++ map stored_pair pairs))
    (ap (flat_map (given_live (file_in c.args.self.now.reading)))
    (subst (λ (it : InHand). c.pairs_at-pairs.result.now ≡ kept_on (file_in it.reading) c.args.page) c.self.view_is c.pairs_at-pairs.ensures)
    ∙ stored_on_is (file_in c.args.self.now.reading) c.args.page) c.push_kept.ensures.pairs
