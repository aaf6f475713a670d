use Rattle.std.proofs.Common.{◌≡◌, [], ◌∙◌}
use Rattle.bdb_rescue.specs.of_format.Terms.{File}
use Rattle.bdb_rescue.specs.Kept.{file_in, left_of}
use Rattle.bdb_apart.specs.Left.{pairs_on}
use Rattle.bdb_apart.proofs.LeftLemmas.{next_page, pages_rest}
use Rattle.bdb_apart.proofs.pairs.PairsIterator.next.Goals as goal

-- The next page.
pub walk-preserved-in_ok-page : goal.walk-preserved-in_ok-page
walk-preserved-in_ok-page c =
    let file : File = file_in c.walk.self-inside.salvaged.now in
    let none : left_of c.walk.self-inside.here ≡ [] = c.in-None.ensures.0 in
    record {
      left = next_page (pairs_on file c.walk.self-inside.holds) (left_of c.walk.self-inside.here) (left_of c.pairs_of.result) c.walk.self-inside.pages
          c.next.new.self c.in_ok-page.page none c.in_ok-page.ensures.steps c.pairs_of.ensures ∙ c.walk.invariant.left;
      there = pages_rest file c.walk.self-inside.pages c.next.new.self c.in_ok-page.page c.in_ok-page.ensures.steps c.walk.invariant.there;
    }

pub walk-preserved : goal.walk-preserved
walk-preserved c =
    let file : File = file_in c.walk.self-inside.salvaged.now in
    let none : left_of c.walk.self-inside.here ≡ [] = c.in-None.ensures.0 in
    record {
      left = next_page (pairs_on file c.walk.self-inside.holds) (left_of c.walk.self-inside.here) (left_of c.pairs_of.result) c.walk.self-inside.pages
          c.next.new.self c.in_ok-page.page none c.in_ok-page.ensures.steps c.pairs_of.ensures ∙ c.walk.invariant.left;
      there = pages_rest file c.walk.self-inside.pages c.next.new.self c.in_ok-page.page c.in_ok-page.ensures.steps c.walk.invariant.there;
    }

pub walk-preserved-in_ok-page-3 : goal.walk-preserved-in_ok-page-3
walk-preserved-in_ok-page-3 c =
    let file : File = file_in c.walk.self-inside.salvaged.now in
    let none : left_of c.walk.self-inside.here ≡ [] = c.in-None.ensures.0 in
    record {
      left = next_page (pairs_on file c.walk.self-inside.holds) (left_of c.walk.self-inside.here) (left_of c.pairs_of.result) c.walk.self-inside.pages
          c.next.new.self c.in_ok-page.page none c.in_ok-page.ensures.steps c.pairs_of.ensures ∙ c.walk.invariant.left;
      there = pages_rest file c.walk.self-inside.pages c.next.new.self c.in_ok-page.page c.in_ok-page.ensures.steps c.walk.invariant.there;
    }

pub walk-preserved-in_ok-page-4 : goal.walk-preserved-in_ok-page-4
walk-preserved-in_ok-page-4 c =
    let file : File = file_in c.walk.self-inside.salvaged.now in
    let none : left_of c.walk.self-inside.here ≡ [] = c.in-None.ensures.0 in
    record {
      left = next_page (pairs_on file c.walk.self-inside.holds) (left_of c.walk.self-inside.here) (left_of c.pairs_of.result) c.walk.self-inside.pages
          c.next.new.self c.in_ok-page.page none c.in_ok-page.ensures.steps c.pairs_of.ensures ∙ c.walk.invariant.left;
      there = pages_rest file c.walk.self-inside.pages c.next.new.self c.in_ok-page.page c.in_ok-page.ensures.steps c.walk.invariant.there;
    }
