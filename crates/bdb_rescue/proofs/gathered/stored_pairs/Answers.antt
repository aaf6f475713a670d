use Rattle.std.proofs.Common.{◌≡◌, List, ◌++◌, ◌∙◌, ap, map, subst, sym, flat_map}
use Rattle.bdb_rescue.specs.declared.kept.KeptPair.{KeptPair}
use Rattle.bdb_rescue.specs.Gathered.{stored_pair}
use Rattle.bdb_rescue.specs.Kept.{IsKeptPair, Reading, file_in, given_live}
use Rattle.bdb_rescue.proofs.GatheredLemmas.{all_given, more_given}
use Rattle.bdb_rescue.proofs.LeftLemmas.{first_pair, pairs_rest}
use Rattle.bdb_rescue.proofs.StoredLemmas.{stored_is}
use Rattle.bdb_rescue.proofs.gathered.stored_pairs.Goals as goal

pub push_pair-requires : goal.push_pair-requires
push_pair-requires c =
    subst (λ (reading : Reading). IsKeptPair (file_in reading) c.in-Some.pair) (sym c.loop-pair.invariant.reading)
    (first_pair (file_in c.args.salvaged.now) c.loop-pair.pair-iterator c.next.new.self c.in-Some.pair c.in-Some.ensures.steps c.loop-pair.invariant.kept)

pub loop-pair-preserved : goal.loop-pair-preserved
loop-pair-preserved c = record {
  kept = pairs_rest (file_in c.args.salvaged.now) c.loop-pair.pair-iterator c.next.new.self c.in-Some.pair c.in-Some.ensures.steps c.loop-pair.invariant.kept;
  reading = c.in_ok-push_pair.ensures.reading ∙ c.loop-pair.invariant.reading;
  all =
      more_given (file_in c.args.salvaged.now) c.loop-pair.all.gathered.pairs c.push_pair.new.self.gathered.pairs _ c.loop-pair.pair-iterator c.next.new.self
      c.in-Some.pair c.in-Some.ensures.steps c.loop-pair.invariant.all
      (subst (λ (reading : Reading). c.push_pair.new.self.gathered.pairs ≡ c.loop-pair.all.gathered.pairs ++ map stored_pair (given_live (file_in reading) c.in-Some.pair))
      c.loop-pair.invariant.reading c.in_ok-push_pair.ensures.pairs);
}

pub returns : goal.returns
returns c =
    c.into_pairs.ensures
    ∙ (all_given c.loop-pair.all.gathered.pairs _ _
    (ap (λ (left : List KeptPair). map stored_pair (flat_map (given_live (file_in c.args.salvaged.now)) left)) c.in-None.ensures.steps.0) c.loop-pair.invariant.all
    ∙ ap (map stored_pair) (stored_is (file_in c.args.salvaged.now)))
