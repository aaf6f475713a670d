use Rattle.std.proofs.Common.{◌≡◌, List, ◌++◌, ◌∙◌, ap, map, subst, sym, flat_map}
use Rattle.bdb_rescue.specs.declared.kept.KeptPair.{KeptPair}
use Rattle.bdb_rescue.specs.Gathered.{stored_pair}
use Rattle.bdb_rescue.specs.Kept.{Reading, file_in, given_live}
use Rattle.bdb_rescue.proofs.GatheredLemmas.{all_given, more_given}
use Rattle.bdb_rescue.proofs.LeftLemmas.{pairs_rest}
use Rattle.bdb_rescue.proofs.gathered.Gatherer.push_kept.Goals as goal

pub loop-pair-preserved : goal.loop-pair-preserved
loop-pair-preserved c = record {
  kept = pairs_rest (file_in c.args.self.now.reading) c.loop-pair.pair-iterator c.next.new.self c.in-Some.pair c.in-Some.ensures.steps
      c.loop-pair.invariant.kept;
  reading = c.in_ok-push_pair.ensures.reading ∙ c.loop-pair.invariant.reading;
  all =
      more_given (file_in c.args.self.now.reading) c.loop-pair.self.gathered.pairs c.push_pair.new.self.gathered.pairs _ c.loop-pair.pair-iterator
      c.next.new.self c.in-Some.pair c.in-Some.ensures.steps c.loop-pair.invariant.all
      (subst (λ (reading : Reading). c.push_pair.new.self.gathered.pairs
      ≡ c.loop-pair.self.gathered.pairs ++ map stored_pair (given_live (file_in reading) c.in-Some.pair))
      c.loop-pair.invariant.reading c.in_ok-push_pair.ensures.pairs);
}

pub returns-clause-pairs : goal.returns-clause-pairs
returns-clause-pairs c =
    all_given c.loop-pair.self.gathered.pairs _ _
    (ap (λ (left : List KeptPair). map stored_pair (flat_map (given_live (file_in c.args.self.now.reading)) left)) c.in-None.ensures.steps.0)
    c.loop-pair.invariant.all
