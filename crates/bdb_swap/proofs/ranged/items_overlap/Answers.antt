use Rattle.std.proofs.Common.{◌≡◌, ◌∙◌, ℕ, arith, length, subst, sym}
use Rattle.bdb_law_turned.proofs.of_form.EndLemmas.{listed_index}
use Rattle.bdb_io.specs.of_format.Terms.{entries_of, offset_of}
use Rattle.bdb_swap.specs.Crossing.{AreRanges}
use Rattle.bdb_swap.proofs.CrossLemmas.{ranges_cross}
use Rattle.bdb_swap.proofs.EndLemmas.{listed_shares, ranges_of}
use Rattle.bdb_swap.proofs.ranged.items_overlap.Goals as goal

pub note_ends-noted-requires-clause-room : goal.note_ends-noted-requires-clause-room
note_ends-noted-requires-clause-room g c = listed_index g.K.PageKind.page_type c.args.order c.args.page.now c.requires.code

pub returns-clause-found : goal.returns-clause-found
returns-clause-found g c =
    let end : ℕ → ℕ = g.K.EndKind.end c.args.order c.args.page.now in
    let begin : ℕ → ℕ = offset_of c.args.order c.args.page.now in
    let long : length c.note_ends-noted.new.ends ≡ length c.args.page.now = omega (arith, c.note_ends-noted.ensures.same, c.requires.size) in
    c.crosses.ensures
    ∙ ranges_cross (entries_of c.args.order c.args.page.now) begin (λ i. end (begin i)) c.note_ends-noted.new.ends
    (subst (λ (size : ℕ). AreRanges (entries_of c.args.order c.args.page.now) size begin (λ i. end (begin i))) (sym long)
    (ranges_of c.args.order c.args.page.now g.K.EndKind.least end c.are_laid.ensures.placed))
    c.note_ends-noted.ensures.ends
    ∙ listed_shares g.K.LaidKind.item_end g.K.PageKind.no_item c.args.order c.args.page.now (g.K.PageKind.item_at c.args.order c.args.page.now)
    (λ i. end (begin i)) c.are_laid.ensures.ends
