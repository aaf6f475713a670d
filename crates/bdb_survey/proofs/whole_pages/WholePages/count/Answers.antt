use Rattle.std.proofs.Common.{sym, ◌∙◌, ap, arith}
use Rattle.bdb_law_sums.specs.of_format.Terms.{File, page_at}
use Rattle.bdb_survey.proofs.StoredPageLemmas.{page_past}
use Rattle.bdb_survey.proofs.whole_pages.WholePages.count.Goals as goal

pub returns-clause-past : goal.returns-clause-past
returns-clause-past c = λ p past.
    ap (λ (f : File). page_at f p) (sym c.self.view_is) ∙ page_past c.self.inside.guess.order c.self.inside.guess.page_size c.self.inside.image.now p
    (omega (arith, past))
