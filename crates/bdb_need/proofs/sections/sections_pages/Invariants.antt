use Rattle.std.proofs.Common.{◌≡◌, take, sum_by}
use Rattle.bdb_need.proofs.Common.{section_pages, filled_section}
use Rattle.bdb_need.proofs.sections.sections_pages.Given as goal

-- The sections passed are counted.
abbrev pub invariant-loop-section : goal.invariant-loop-section
invariant-loop-section l = l.pages ≡ sum_by (λ section. section_pages l.size (filled_section section)) (take l.section-index l.sections)
