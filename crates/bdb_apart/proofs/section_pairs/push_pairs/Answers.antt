use Rattle.std.proofs.Common.{ap, map, ℕ, List}
use Rattle.std.specs.List.{flat_map}
use Rattle.bdb_rescue.specs.Gathered.{stored_pair}
use Rattle.bdb_rescue.specs.Kept.{file_in}
use Rattle.bdb_rescue.proofs.GatheredLemmas.{all_given}
use Rattle.bdb_apart.specs.Left.{pairs_on}
use Rattle.bdb_apart.proofs.LeftLemmas.{first_page, pages_rest}
use Rattle.bdb_apart.proofs.SectionLemmas.{more_pages}
use Rattle.bdb_apart.proofs.section_pairs.push_pairs.Goals as goal

pub push_pairs_on-requires-clause-there : goal.push_pairs_on-requires-clause-there
push_pairs_on-requires-clause-there c =
    first_page (file_in c.args.salvaged.now) c.loop-page.page-iterator c.next.new.self c.in-Some.page c.in-Some.ensures.steps c.loop-page.invariant.there

pub loop-page-preserved : goal.loop-page-preserved
loop-page-preserved c = record {
  reading = c.in_ok-push_pairs_on.ensures.reading;
  there =
      pages_rest (file_in c.args.salvaged.now) c.loop-page.page-iterator c.next.new.self c.in-Some.page c.in-Some.ensures.steps c.loop-page.invariant.there;
  all =
      more_pages stored_pair (pairs_on (file_in c.args.salvaged.now) c.args.holds) c.loop-page.all.gathered.pairs c.push_pairs_on.new.all.gathered.pairs _
      c.loop-page.page-iterator c.next.new.self c.in-Some.page c.in-Some.ensures.steps c.loop-page.invariant.all c.in_ok-push_pairs_on.ensures.pairs;
}

pub returns : goal.returns
returns c =
    all_given c.loop-page.all.gathered.pairs _ _
    (ap (λ (left : List ℕ). map stored_pair (flat_map (pairs_on (file_in c.args.salvaged.now) c.args.holds) left)) c.in-None.ensures.steps.0)
    c.loop-page.invariant.all
