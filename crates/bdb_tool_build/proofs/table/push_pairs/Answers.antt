use Rattle.std.proofs.Common.{ap, map, subst, sym, flat_map}
use Rattle.bdb_file.proofs.of_buckets.ChainedLemmas.{first_of, rest_of}
use Rattle.bdb_file.specs.of_buckets.Chained.{AreOf}
use Rattle.bdb_file.specs.of_buckets.Told.{listed_told}
use Rattle.bdb_onto.specs.Bases.{text_pair}
use Rattle.bdb_tool_build.proofs.EnoughLemmas.{listed_on, listing_ends}
use Rattle.bdb_tool_build.proofs.table.push_pairs.Goals as goal

pub push_table_pair-requires : goal.push_table_pair-requires
push_table_pair-requires c = first_of c.loop-pair.all.image c.loop-pair.pair-iterator c.next.new.self c.in-Some.pair c.loop-pair.invariant.image c.in-Some.ensures.steps

pub loop-pair-preserved : goal.loop-pair-preserved
loop-pair-preserved c = record {
  pairs =
      listed_on c.args.beside.now c.args.all.now.gathered.pairs c.loop-pair.all.gathered.pairs c.push_table_pair.new.self.gathered.pairs
      (map text_pair (flat_map listed_told c.args.pairs)) (listed_told c.in-Some.pair) (flat_map listed_told c.next.new.self)
      (flat_map listed_told c.loop-pair.pair-iterator) (ap (flat_map listed_told) c.in-Some.ensures.steps) c.loop-pair.invariant.pairs
      c.in_ok-push_table_pair.ensures.pairs;
  image =
      subst (λ image. AreOf image c.next.new.self) (sym c.in_ok-push_table_pair.ensures.image)
      (rest_of c.loop-pair.all.image c.loop-pair.pair-iterator c.next.new.self c.in-Some.pair c.loop-pair.invariant.image c.in-Some.ensures.steps);
}

pub returns : goal.returns
returns c =
    listing_ends c.args.beside.now c.args.all.now.gathered.pairs c.loop-pair.all.gathered.pairs (map text_pair (flat_map listed_told c.args.pairs))
    (map text_pair (flat_map listed_told c.loop-pair.pair-iterator)) c.loop-pair.invariant.pairs
    (ap (λ left. map text_pair (flat_map listed_told left)) c.in-None.ensures.steps.0)
