use Rattle.std.proofs.Common.{map}
use Rattle.bdb_rescue.specs.Kept.{file_in, value_at}
use Rattle.bdb_rescue.proofs.GatheredLemmas.{so_far_value}
use Rattle.bdb_rescue.proofs.LeftLemmas.{values_rest}
use Rattle.bdb_rescue.proofs.gathered.Gatherer.push_places.Goals as goal

pub loop-place-preserved : goal.loop-place-preserved
loop-place-preserved c = record {
  kept =
      values_rest (file_in c.args.self.now.reading) c.loop-place.place-iterator c.next.new.self c.in-Some.place c.in-Some.ensures.steps
      c.loop-place.invariant.kept;
  adds =
      so_far_value c.args.self.now c.loop-place.self c.push_place.new.self c.args.key (map (value_at (file_in c.args.self.now.reading)) c.args.places.now)
      c.loop-place.place-iterator c.next.new.self c.in-Some.place c.loop-place.invariant.adds c.in-Some.ensures.steps c.in_ok-push_place.ensures;
}
