use Rattle.std.proofs.Common.{◌≡◌, [], ◌∙◌}
use Rattle.bdb_rescue.specs.of_format.Terms.{File}
use Rattle.bdb_rescue.specs.Kept.{file_in}
use Rattle.bdb_apart.specs.Left.{fit_left, fit_on}
use Rattle.bdb_apart.proofs.LeftLemmas.{next_page, pages_rest}
use Rattle.bdb_apart.proofs.leaf_records.LeafRecordsIterator.next.Goals as goal

-- The next page.
pub walk-preserved : goal.walk-preserved
walk-preserved c =
    let file : File = file_in c.walk.self-inside.salvaged.now in
    let none : fit_left c.walk.self-inside.here ≡ [] = c.in-None.ensures.0 in
    record {
      left = next_page (fit_on file c.walk.self-inside.holds) (fit_left c.walk.self-inside.here) (fit_left c.fitting_of-self-inside.result)
          c.walk.self-inside.pages
          c.next.new.self c.in_ok-page.page none c.in_ok-page.ensures.steps c.fitting_of-self-inside.ensures ∙ c.walk.invariant.left;
      of_one = record {
        homes_are = c.walk.invariant.of_one.homes_are;
        there = pages_rest file c.walk.self-inside.pages c.next.new.self c.in_ok-page.page c.in_ok-page.ensures.steps c.walk.invariant.of_one.there;
      };
    }
