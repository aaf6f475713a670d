use Rattle.std.proofs.Common.{◌≡◌, ◌∷◌, ◌++◌, [], append_assoc, sym, ◌∙◌, ap, subst}
use Rattle.bdb_mkfile.proofs.Common.{none_left, AreDatabasesBuilt}
use Rattle.bdb_mkfile.proofs.StandingLemmas.{built_more}
use Rattle.bdb_mkfile.proofs.databases.build_databases.Goals as goal

pub loop-section-preserved : goal.loop-section-preserved
loop-section-preserved c =
    let done = c.loop-section.invariant.0 in
    let section = c.in-Some.section in
    let meta = c.in_ok-build_database.field-0 in (
      section ∷ done,
      c.loop-section.invariant.1
          ∙ (ap (λ ss. ss ++ done) c.in-Some.ensures.others ∙ append_assoc c.pop.new.self (section ∷ []) done),
      subst (AreDatabasesBuilt (section ∷ done) c.args.pages.now c.build_database.new.pages) (sym c.in_ok-push.ensures.items)
          (built_more done section c.args.pages.now c.loop-section.pages c.build_database.new.pages c.loop-section.metas.items meta
          c.loop-section.invariant.2 c.in_ok-build_database.ensures),
    )

pub returns : goal.returns
returns c =
    let empty : c.loop-section.sections ≡ [] = none_left c.loop-section.sections (sym c.pop.ensures.last ∙ c.in_default.is) in
    subst (λ ss. AreDatabasesBuilt ss c.args.pages.now c.loop-section.pages c.loop-section.metas.items)
    (sym (c.loop-section.invariant.1 ∙ ap (λ ss. ss ++ c.loop-section.invariant.0) empty)) c.loop-section.invariant.2
