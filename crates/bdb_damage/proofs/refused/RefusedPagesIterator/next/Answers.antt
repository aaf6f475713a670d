use Rattle.std.proofs.Common.{◌≡◌, suc, ◌+◌, ◌<◌, ◌∷◌, Some, ap, subst, sym, ◌∙◌, arith, length}
use Rattle.std.specs.Option.{option_map}
use Rattle.bdb_apart.specs.of_format.Terms.{fault_seen, form_row_code}
use Rattle.bdb_apart.specs.of_rescue.Kept.{file_in}
use Rattle.bdb_damage.specs.Pages.{row_at}
use Rattle.bdb_damage.specs.Walks.{refused_from}
use Rattle.bdb_damage.specs.declared.unjudged.Unjudged.{Unjudged}
use Rattle.bdb_damage.proofs.WalkLemmas.{refused_some}
use Rattle.bdb_damage.proofs.refused.RefusedPagesIterator.next.Goals as goal

-- The first that is left is the row of this page.
pub returns-in-Some-clause-steps : goal.returns-in-Some-clause-steps
returns-in-Some-clause-steps c =
    let reading = ap (λ (pages : Unjudged). pages.salvaged.now) c.in_ok-page.ensures.left in
    let there : c.in_ok-page.page < (file_in c.next_page.new.self.salvaged.now).count =
    subst (λ r. c.in_ok-page.page < (file_in r).count) (sym reading) c.in_ok-page.ensures.there.1 in
    let row : Some (form_row_code c.in-Some.row) ≡ row_at c.next_page.new.self.salvaged.now c.in_ok-page.page =
    ap (option_map form_row_code) (sym c.in-Some.is) ∙ c.row_at.ensures in
    sym c.self.view_is
    ∙ (sym c.walk.invariant.left
    ∙ (ap (λ r. refused_from r c.walk.self-inside.pages.page) (sym reading)
    ∙ (ap (refused_from c.next_page.new.self.salvaged.now) (sym c.in_ok-page.ensures.there.0)
    ∙ (refused_some c.next_page.new.self.salvaged.now c.in_ok-page.page c.in-Some.row there row
    ∙ (ap (λ fault. fault ∷ refused_from c.next_page.new.self.salvaged.now (c.in_ok-page.page + 1)) (sym c.form_at.ensures)
    ∙ ap (λ p. fault_seen c.form_at.result ∷ refused_from c.next_page.new.self.salvaged.now p)
    (sym (ap (λ (pages : Unjudged). pages.page) c.in_ok-page.ensures.left)))))))

pub returns-in-Some-clause-goes : goal.returns-in-Some-clause-goes
returns-in-Some-clause-goes c =
    let less : length c.args.self.now ≡ suc (length (refused_from c.next_page.new.self.salvaged.now c.next_page.new.self.page)) =
    ap length (returns-in-Some-clause-steps c) in
    grind (arith, less)
