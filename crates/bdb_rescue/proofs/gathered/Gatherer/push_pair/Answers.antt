use Rattle.bdb_rescue.proofs.GatheredLemmas.{pair_given}
use Rattle.bdb_rescue.proofs.gathered.Gatherer.push_pair.Goals as goal

pub returns-clause-pairs : goal.returns-clause-pairs
returns-clause-pairs c =
    pair_given c.args.self.now c.key_span.new.self c.push_data.new.self c.args.pair c.in_ok-key.key c.if-not-pair.false c.key_span.ensures.grows
    c.in_ok-key.ensures.ok c.in_ok-push_data.ensures
