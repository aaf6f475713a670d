use Rattle.std.proofs.Common.{◌≡◌, ◌+◌, ◌∙◌, true, false, ap, arith, map, subst, sym, IsTrue, is_some, All, sum_by}
use Rattle.bdb_need.proofs.Common.{is_page_size, Section, filled_section, IsSettled, master_pages, section_pages}
use Rattle.bdb_need.proofs.FilledLemmas.{each_before, first_filled, same_master, sums_filled}
use Rattle.bdb_need.proofs.NeedLemmas.{first_is, need_named, need_unnamed}
use Rattle.bdb_need.proofs.sections.filled_need.Goals as goal

-- The first section, filled up, is the first of those that are filled up.
pub sections_pages-requires-clause-each : goal.sections_pages-requires-clause-each
sections_pages-requires-clause-each c =
    let sections = c.args.sections.now in
    let first = c.in-Some.first.now in
    let one = first_is (map filled_section sections) c.requires (filled_section first) (first_filled sections first c.in-Some.ensures) in
    let each = subst (λ (s : Section). All (IsSettled s.settings.page_size) (map filled_section sections)) (sym one) c.requires.each in
    subst (All (λ section. IsSettled first.settings.page_size (filled_section section))) (sym c.as_slice.ensures)
    (each_before first.settings.page_size sections each)

pub returns-then-is_none : goal.returns-then-is_none
returns-then-is_none c =
    let sections = c.args.sections.now in
    let first = c.in-Some.first.now in
    let size = first.settings.page_size in
    need_unnamed (map filled_section sections) c.requires (filled_section first) c.in_ok-own.own (first_filled sections first c.in-Some.ensures)
    (let unnamed : is_some first.name ≡ false = grind (arith, c.is_none.ensures, c.if-is_none.true) in unnamed)
    (c.in_ok-own.ensures ∙ ap (sum_by (λ section. section_pages size (filled_section section))) c.as_slice.ensures ∙ sums_filled size sections)

pub master_pages-requires : goal.master_pages-requires
master_pages-requires c =
    let sections = c.args.sections.now in
    let first = c.in-Some.first.now in
    let one = first_is (map filled_section sections) c.requires (filled_section first) (first_filled sections first c.in-Some.ensures) in
    subst (λ (s : Section). IsTrue (is_page_size s.settings.page_size)) (sym one) c.requires.legal

pub returns : goal.returns
returns c =
    let sections = c.args.sections.now in
    let first = c.in-Some.first.now in
    let size = first.settings.page_size in
    need_named (map filled_section sections) c.requires (filled_section first) c.in_ok-own.own c.in_ok-master.master c.in_ok-pages.pages
    (first_filled sections first c.in-Some.ensures)
    (let named : is_some first.name ≡ true = grind (arith, c.is_none.ensures, c.if-is_none.false) in named)
    (c.in_ok-own.ensures ∙ ap (sum_by (λ section. section_pages size (filled_section section))) c.as_slice.ensures ∙ sums_filled size sections)
    (c.in_ok-master.ensures.pages ∙ ap (master_pages size) c.as_slice-2.ensures ∙ sym (same_master size sections))
    (let sum : c.in_ok-pages.pages ≡ c.in_ok-own.own + (1 + c.in_ok-master.master) = grind (arith, c.in_ok-pages.ensures, c.checked_add.ensures) in sum)
