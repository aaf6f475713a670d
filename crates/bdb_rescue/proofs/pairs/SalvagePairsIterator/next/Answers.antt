use Rattle.std.proofs.Common.{◌≡◌, [], ◌∙◌}
use Rattle.bdb_text_format.specs.of_format.Terms.{File}
use Rattle.bdb_rescue.specs.Kept.{file_in, left_of}
use Rattle.bdb_rescue.proofs.LeftLemmas.{next_pairs, pairs_rest}
use Rattle.bdb_rescue.proofs.pairs.SalvagePairsIterator.next.Goals as goal

-- The next kept pair.
pub loop-pair-preserved : goal.loop-pair-preserved
loop-pair-preserved c =
    let file : File = file_in c.loop-pair.self-inside.salvaged.now in
    let none : left_of c.loop-pair.self-inside.here ≡ [] = c.in-None.ensures.0 in
    record {
      left = next_pairs file c.loop-pair.self-inside.here c.live_entry.result c.loop-pair.self-inside.pairs c.next.new.self c.in_ok-pair.pair none
          c.in_ok-pair.ensures.steps c.live_entry.ensures ∙ c.loop-pair.invariant.left;
      kept = pairs_rest file c.loop-pair.self-inside.pairs c.next.new.self c.in_ok-pair.pair c.in_ok-pair.ensures.steps c.loop-pair.invariant.kept;
    }

pub loop-pair-preserved-in_ok-pair-3 : goal.loop-pair-preserved-in_ok-pair-3
loop-pair-preserved-in_ok-pair-3 c =
    let file : File = file_in c.loop-pair.self-inside.salvaged.now in
    let none : left_of c.loop-pair.self-inside.here ≡ [] = c.in-None.ensures.0 in
    record {
      left = next_pairs file c.loop-pair.self-inside.here c.live_entry.result c.loop-pair.self-inside.pairs c.next.new.self c.in_ok-pair.pair none
          c.in_ok-pair.ensures.steps c.live_entry.ensures ∙ c.loop-pair.invariant.left;
      kept = pairs_rest file c.loop-pair.self-inside.pairs c.next.new.self c.in_ok-pair.pair c.in_ok-pair.ensures.steps c.loop-pair.invariant.kept;
    }
