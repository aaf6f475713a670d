use Rattle.std.proofs.Common.{◌≡◌, List, [], ◌∷◌, ◌++◌, ◌∙◌, ap, filter, map, subst}
use Rattle.bdb_rescue.specs.declared.kept.KeptValue.{KeptValue}
use Rattle.bdb_rescue.specs.Gathered.{is_record_of, loose_pair}
use Rattle.bdb_rescue.specs.Kept.{Reading, file_in, numbered_at}
use Rattle.bdb_rescue.proofs.GatheredLemmas.{all_given, more_records}
use Rattle.bdb_rescue.proofs.LeftLemmas.{values_rest}
use Rattle.bdb_rescue.proofs.gathered.Gatherer.push_records.Goals as goal

pub loop-place-preserved : goal.loop-place-preserved
loop-place-preserved c = record {
  kept = values_rest (file_in c.args.self.now.reading) c.loop-place.place-iterator c.next.new.self c.in-Some.place c.in-Some.ensures.steps
      c.loop-place.invariant.kept;
  reading = c.in_ok-push_record.ensures.reading ∙ c.loop-place.invariant.reading;
  all =
      more_records (file_in c.args.self.now.reading) c.args.start c.args.len c.loop-place.self.gathered.pairs c.push_record.new.self.gathered.pairs _
      c.loop-place.place-iterator c.next.new.self c.in-Some.place c.in-Some.ensures.steps c.loop-place.invariant.all
      (subst (λ (reading : Reading). c.push_record.new.self.gathered.pairs
      ≡ c.loop-place.self.gathered.pairs ++ map loose_pair (filter (is_record_of c.args.len) (numbered_at (file_in reading) c.args.start c.in-Some.place ∷ [])))
      c.loop-place.invariant.reading c.in_ok-push_record.ensures.pairs);
}

pub returns-clause-pairs : goal.returns-clause-pairs
returns-clause-pairs c =
    all_given c.loop-place.self.gathered.pairs _ _
    (ap (λ (left : List KeptValue). map loose_pair (filter (is_record_of c.args.len) (map (numbered_at (file_in c.args.self.now.reading) c.args.start) left)))
    c.in-None.ensures.steps.0) c.loop-place.invariant.all
