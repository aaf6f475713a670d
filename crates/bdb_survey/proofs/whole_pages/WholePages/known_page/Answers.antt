use Rattle.std.proofs.Common.{◌≤◌, sym, ◌∙◌, ap, subst, length, ℕ, List}
use Rattle.bdb_law_sums.specs.of_format.Terms.{File, abstract_page, four_at, page_at, page_code}
use Rattle.bdb_survey.specs.Items.{slots_in}
use Rattle.bdb_survey.proofs.PageLemmas.{known_code, known_same, known_there}
use Rattle.bdb_survey.proofs.whole_pages.WholePages.known_page.Goals as goal

pub page_bytes-page-requires-clause-there : goal.page_bytes-page-requires-clause-there
page_bytes-page-requires-clause-there c =
    known_there c.self.inside.guess.order c.self.inside.guess.page_size c.self.inside.image.now c.args.number
    (subst (λ (f : File). 1 ≤ length (slots_in (page_at f c.args.number))) (sym c.self.view_is) c.requires)

pub known_form-requires-clause-form : goal.known_form-requires-clause-form
known_form-requires-clause-form c =
    let order = c.self.inside.guess.order in
    let bytes : List ℕ = c.page_bytes-page.result.now in
    ap (λ (n : ℕ). page_code order n bytes) c.u32_at-number.ensures
    ∙ (ap (λ (page : List ℕ). page_code order (four_at order page 8) page) c.page_bytes-page.ensures.bytes
    ∙ known_code order c.self.inside.guess.page_size c.self.inside.image.now c.args.number
    (subst (λ (f : File). 1 ≤ length (slots_in (page_at f c.args.number))) (sym c.self.view_is) c.requires))

pub returns : goal.returns
returns c =
    let order = c.self.inside.guess.order in
    c.known_form.ensures.page
    ∙ (ap (abstract_page order) c.page_bytes-page.ensures.bytes
    ∙ (known_same order c.self.inside.guess.page_size c.self.inside.image.now c.args.number
    (subst (λ (f : File). 1 ≤ length (slots_in (page_at f c.args.number))) (sym c.self.view_is) c.requires)
    ∙ ap (λ (f : File). page_at f c.args.number) c.self.view_is))
