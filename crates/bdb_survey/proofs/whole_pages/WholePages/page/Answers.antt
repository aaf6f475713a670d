use Rattle.std.proofs.Common.{◌≡◌, ◌-◌, ◌/◌, ◌<◌, length, arith, sym, ◌∙◌, ap, is_some}
use Rattle.bdb_law_sums.specs.of_form.Seen.{page_seen}
use Rattle.bdb_law_sums.specs.of_format.Terms.{NoType, byte_at, page_at, page_type}
use Rattle.bdb_survey.specs.Salvage.{meta_code}
use Rattle.bdb_survey.proofs.MetaLemmas.{no_code}
use Rattle.bdb_survey.proofs.PageLemmas.{answer_is, answer_page, answer_short, counted, refused_is}
use Rattle.bdb_survey.proofs.whole_pages.WholePages.page.Goals as goal

pub page_bytes-page-requires-clause-there : goal.page_bytes-page-requires-clause-there
page_bytes-page-requires-clause-there c =
    let pages = counted c.self.inside.guess.order c.self.inside.guess.page_size c.self.inside.image.now c.count-pages.result c.args.self.now
    (sym c.self.view_is) c.count-pages.ensures.count in
    omega (arith, pages, c.if-number-pages.false)

-- A page on which a row of metadata holds is none.
pub returns-then-has_meta_row-clause-page : goal.returns-then-has_meta_row-clause-page
returns-then-has_meta_row-clause-page c =
    let order = c.self.inside.guess.order in
    let size = c.self.inside.guess.page_size in
    let image = c.self.inside.image.now in
    let page = c.page_bytes-page.result.now in
    let pages : c.count-pages.result ≡ length image / size =
    counted order size image c.count-pages.result c.args.self.now (sym c.self.view_is) c.count-pages.ensures.count in
    let there : c.args.number < length image / size = omega (arith, pages, c.if-number-pages.false) in
    refused_is order size image c.args.number page c.args.self.now (sym c.self.view_is) there c.page_bytes-page.ensures.bytes
    (ap (λ n. is_some (meta_code order (n - 1) page (page_type (byte_at page 25)))) (sym pages)
    ∙ (sym c.has_meta_row.ensures ∙ c.if-has_meta_row.true))

-- The view is the page, since its own number stands for its place.
pub returns-in-Ok : goal.returns-in-Ok
returns-in-Ok c =
    let order = c.self.inside.guess.order in
    let size = c.self.inside.guess.page_size in
    let image = c.self.inside.image.now in
    let page = c.page_bytes-page.result.now in
    let pages : c.count-pages.result ≡ length image / size =
    counted order size image c.count-pages.result c.args.self.now (sym c.self.view_is) c.count-pages.ensures.count in
    let there : c.args.number < length image / size = omega (arith, pages, c.if-number-pages.false) in
    let none = no_code (meta_code order (length image / size - 1) page (page_type (byte_at page 25)))
    (ap (λ n. is_some (meta_code order (n - 1) page (page_type (byte_at page 25)))) (sym pages)
    ∙ (sym c.has_meta_row.ensures ∙ c.if-has_meta_row.false)) in
    let same : page_seen c.in-Ok.view ≡ page_at c.args.self.now c.args.number =
    sym (ap answer_page c.in-Ok.is) ∙ answer_is order size image c.args.number page c.u32_at-number.result c.form.result c.args.self.now
    (sym c.self.view_is) there c.page_bytes-page.ensures.bytes c.u32_at-number.ensures none c.form.ensures.page in
    record { page = same; short = answer_short size order image c.args.number c.args.self.now (sym c.self.view_is) c.self.invariant.legal there _ same }

pub returns-in-Err : goal.returns-in-Err
returns-in-Err c =
    let order = c.self.inside.guess.order in
    let size = c.self.inside.guess.page_size in
    let image = c.self.inside.image.now in
    let page = c.page_bytes-page.result.now in
    let pages : c.count-pages.result ≡ length image / size =
    counted order size image c.count-pages.result c.args.self.now (sym c.self.view_is) c.count-pages.ensures.count in
    let there : c.args.number < length image / size = omega (arith, pages, c.if-number-pages.false) in
    let none = no_code (meta_code order (length image / size - 1) page (page_type (byte_at page 25)))
    (ap (λ n. is_some (meta_code order (n - 1) page (page_type (byte_at page 25)))) (sym pages)
    ∙ (sym c.has_meta_row.ensures ∙ c.if-has_meta_row.false)) in
    let same : NoType ≡ page_at c.args.self.now c.args.number =
    sym (ap answer_page c.in-Err.is) ∙ answer_is order size image c.args.number page c.u32_at-number.result c.form.result c.args.self.now
    (sym c.self.view_is) there c.page_bytes-page.ensures.bytes c.u32_at-number.ensures none c.form.ensures.page in
    record { page = same; short = omega arith }
