use Rattle.std.proofs.Common.{◌≡◌, ◌∙◌, ap, sym, true, false}
use Rattle.bdb_io.specs.of_format.Terms.{body_code, is_zero, page_as}
use Rattle.bdb_law_turned.specs.Overlaps.{overlaps}
use Rattle.bdb_law_turned.proofs.PageLemmas.{body_passed}
use Rattle.bdb_swap.proofs.ImageLemmas.{no_overlap_on_zeros}
use Rattle.bdb_swap.proofs.overlap.page_overlaps.Goals as goal
use Rattle.bdb_io.proofs.of_format.GraphLemmas.{typed_page}

pub returns-then-is_zero-clause-found : goal.returns-then-is_zero-clause-found
returns-then-is_zero-clause-found c =
    let zeros : is_zero c.args.page.now ≡ true = sym c.is_zero.ensures ∙ c.if-is_zero.true in
    sym (no_overlap_on_zeros c.args.head.now.order c.args.page.now zeros)

pub typed_overlaps-requires-clause-code : goal.typed_overlaps-requires-clause-code
typed_overlaps-requires-clause-code c =
    let some : is_zero c.args.page.now ≡ false = sym c.is_zero.ensures ∙ c.if-is_zero.false in
    ap (body_code c.args.head.now.order c.args.page.now) c.page_type.ensures
    ∙ body_passed c.args.head.now c.args.number c.args.page.now (c.requires.form some) some

pub returns-clause-found : goal.returns-clause-found
returns-clause-found c =
    let some : is_zero c.args.page.now ≡ false = sym c.is_zero.ensures ∙ c.if-is_zero.false in
    c.typed_overlaps.ensures.found
    ∙ ap (λ t. overlaps (page_as c.args.head.now.order c.args.page.now t)) c.page_type.ensures
    ∙ ap overlaps (sym (typed_page c.args.head.now.order c.args.page.now some))
