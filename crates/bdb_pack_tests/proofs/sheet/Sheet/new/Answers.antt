use Rattle.std.proofs.Common.{◌≡◌, length, arith, refl, ap, ◌∙◌}
use Rattle.bdb_form.specs.of_format.Terms.{is_page_size}
use Rattle.bdb_pack.specs.Built.{Built}
use Rattle.bdb_pack.proofs.AddedLemmas.{added_zero}
use Rattle.bdb_pack_tests.proofs.SheetLemmas.{begun_sheet}
use Rattle.bdb_pack_tests.proofs.sheet.Sheet.new.Goals as goal

pub begin-requires-clause-zero : goal.begin-requires-clause-zero
begin-requires-clause-zero c = rw (c.in_ok-number.ensures.ok, c.in_ok-number.ensures.number) (added_zero c.add.new.self)

pub invariant_of-result : goal.invariant_of-result
invariant_of-result c =
    let one : length c.add.new.self.pages ≡ 1 = ap (λ (b : Built). length b.pages) c.in_ok-add.ensures.ok ∙ rw c.new-pages.ensures.pages refl in
    begun_sheet c.add.new.self c.add-2.new.self c.begin.new.self c.in_ok-number.number c.args.header.now one
    (ap (λ (b : Built). is_page_size b.size) c.in_ok-add.ensures.ok ∙ (ap is_page_size c.new-pages.ensures.size ∙ c.requires.legal)) c.requires.takes
    (record { number = omega (arith, c.if-prove.false); previous = omega (arith, c.if-prove-2.false); next = omega (arith, c.if-prove-3.false) })
    c.in_ok-number.ensures.ok c.in_ok-number.ensures.number c.begin.ensures
