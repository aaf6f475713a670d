use Rattle.std.proofs.Common.{◌≡◌, ℕ, ◌+◌, ◌∙◌, ap, arith, sym, subst, get_or}
use Rattle.bdb_need.proofs.Common.{sum_by_more, Settings, unlined_pairs, filled_pairs, filled_section, Section, IsListOf, IsSettled, list_pages, section_pages}
use Rattle.bdb_need.proofs.sections.sections_pages.Goals as goal

pub list_pages-requires-clause-list : goal.list_pages-requires-clause-list
list_pages-requires-clause-list c =
    let section : Section = c.section-item.result in
    let settled : IsSettled c.args.size (filled_section section) =
    subst (λ (s : Section). IsSettled c.args.size (filled_section s)) (sym c.section-item.is)
    (c.requires.each c.loop-section.section-index section c.loop-section-test.true) in
    subst (λ (s : Settings). IsListOf s.kind s (unlined_pairs (filled_pairs s section.pairs))) (sym c.sized.ensures) settled.list

pub loop-section-preserved : goal.loop-section-preserved
loop-section-preserved c =
    let size = c.args.size in
    let section : Section = c.section-item.result in
    let f : Section → ℕ = λ s. section_pages size (filled_section s) in
    let step = sum_by_more f c.args.sections.now c.loop-section.section-index section c.loop-section-test.true in
    let here : f (get_or c.args.sections.now c.loop-section.section-index section) ≡ f section = ap f (sym c.section-item.is) in
    let more : 1 + c.in_ok-more.more ≡ f section =
    ap (λ n. 1 + n) (c.in_ok-more.ensures.pages ∙ ap (λ (s : Settings). list_pages s.kind s (unlined_pairs (filled_pairs s section.pairs))) c.sized.ensures) in
    let sum : c.in_ok-pages.pages ≡ c.loop-section.pages + (1 + c.in_ok-more.more) = grind
    (arith, c.in_ok-pages.ensures, c.ok_or.ensures, c.checked_add.ensures) in
    let so_far = c.loop-section.invariant in
    omega (arith, step, here, more, sum, so_far)
