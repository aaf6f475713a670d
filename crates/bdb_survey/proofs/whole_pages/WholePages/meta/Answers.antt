use Rattle.std.proofs.Common.{◌≡◌, ◌-◌, ◌/◌, ◌<◌, length, arith, sym, ◌∙◌, ap, is_some}
use Rattle.bdb_law_sums.specs.of_format.Terms.{abstract_page, page_code}
use Rattle.bdb_law_sums.specs.of_image.Metas.{meta_in}
use Rattle.bdb_survey.specs.Salvage.{salvaged_page}
use Rattle.bdb_survey.proofs.MetaLemmas.{form_refused, no_code, unformed}
use Rattle.bdb_survey.proofs.PageLemmas.{counted, page_same}
use Rattle.bdb_survey.proofs.whole_pages.WholePages.meta.Goals as goal

pub page_bytes-page-requires-clause-there : goal.page_bytes-page-requires-clause-there
page_bytes-page-requires-clause-there c =
    let pages = counted c.self.inside.guess.order c.self.inside.guess.page_size c.self.inside.image.now c.count-pages.result c.args.self.now
    (sym c.self.view_is) c.count-pages.ensures.count in
    omega (arith, pages, c.if-number-pages.false)

pub returns-then-is_err-clause-meta : goal.returns-then-is_err-clause-meta
returns-then-is_err-clause-meta c =
    let order = c.self.inside.guess.order in
    let size = c.self.inside.guess.page_size in
    let image = c.self.inside.image.now in
    let page = c.page_bytes-page.result.now in
    let pages : c.count-pages.result ≡ length image / size =
    counted order size image c.count-pages.result c.args.self.now (sym c.self.view_is) c.count-pages.ensures.count in
    let there : c.args.number < length image / size = omega (arith, pages, c.if-number-pages.false) in
    sym (ap meta_in (page_same order size image c.args.number page c.args.self.now (sym c.self.view_is) there c.page_bytes-page.ensures.bytes
    ∙ unformed order (length image / size - 1) page
    (ap (λ n. is_some (page_code order n page)) (sym c.u32_at-number.ensures)
    ∙ (sym (form_refused _ (abstract_page order page) c.form.result c.form.ensures.page) ∙ (sym c.is_err.ensures.value ∙ c.if-is_err.true)))))

pub meta_on-requires-clause-form : goal.meta_on-requires-clause-form
meta_on-requires-clause-form c =
    let order = c.self.inside.guess.order in
    let page = c.page_bytes-page.result.now in
    no_code (page_code order c.u32_at-number.result page)
    (sym (form_refused _ (abstract_page order page) c.form.result c.form.ensures.page) ∙ (sym c.is_err.ensures.value ∙ c.if-is_err.false))

pub returns-clause-meta : goal.returns-clause-meta
returns-clause-meta c =
    let order = c.self.inside.guess.order in
    let size = c.self.inside.guess.page_size in
    let image = c.self.inside.image.now in
    let page = c.page_bytes-page.result.now in
    let pages : c.count-pages.result ≡ length image / size =
    counted order size image c.count-pages.result c.args.self.now (sym c.self.view_is) c.count-pages.ensures.count in
    let there : c.args.number < length image / size = omega (arith, pages, c.if-number-pages.false) in
    c.meta_on.ensures.meta
    ∙ (ap (λ n. meta_in (salvaged_page order (n - 1) page)) pages
    ∙ sym (ap meta_in (page_same order size image c.args.number page c.args.self.now (sym c.self.view_is) there c.page_bytes-page.ensures.bytes)))
