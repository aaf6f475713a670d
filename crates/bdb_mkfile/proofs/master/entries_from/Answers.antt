use Rattle.std.proofs.Common.{◌≡◌, ◌+◌, ◌++◌, ◌∷◌, [], sym, ◌∙◌, ap, arith}
use Rattle.bdb_mkfile.specs.Layout.{entry_of}
use Rattle.bdb_mkfile.proofs.NamedMasterLemmas.{entries_more}
use Rattle.bdb_mkfile.proofs.master.entries_from.Goals as goal

pub loop-section-preserved : goal.loop-section-preserved
loop-section-preserved c =
    let section = c.section-item.result in (
      c.in_ok-push_entry.ensures
          ∙ (ap (λ ps. ps ++ (entry_of c.loop-section.number section ∷ [])) c.loop-section.invariant.0
          ∙ sym (entries_more c.args.first c.loop-section.section-index c.loop-section.number c.args.sections.now section c.loop-section-test.true
          c.section-item.is c.loop-section.invariant.1)),
      (let next : c.in_ok-number.number ≡ c.loop-section.number + 1 = grind (arith, c.in_ok-number.ensures, c.checked_add.ensures) in
          omega (arith, next, c.loop-section.invariant.1)),
    )
