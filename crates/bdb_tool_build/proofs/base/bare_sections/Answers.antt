use Rattle.std.proofs.Common.{arith, ◌∙◌, ap, map}
use Rattle.std.proofs.lemmas.List.{take_all}
use Rattle.bdb_model.specs.of_format.Terms.{databases, file_of}
use Rattle.bdb_file.specs.of_databases.Named.{database_at}
use Rattle.bdb_onto.specs.Bare.{bare}
use Rattle.bdb_onto.specs.Bases.{base_section}
use Rattle.bdb_tool_build.proofs.BaseLemmas.{more_bare}
use Rattle.bdb_tool_build.proofs.base.bare_sections.Goals as goal

pub loop-i-preserved : goal.loop-i-preserved
loop-i-preserved c =
    c.in_ok-push.ensures.ok
    ∙ more_bare c.args.sound.now c.loop-i.all c.loop-i.i c.in_ok-bare_section.field-0 (omega (arith, c.loop-i-test.true, c.databases-i-end.ensures))
    c.loop-i.invariant
    (c.in_ok-bare_section.ensures ∙ ap (λ i. bare (base_section c.args.sound.now (database_at (file_of c.args.sound.now) i))) c.database.ensures)

pub returns : goal.returns
returns c =
    c.loop-i.invariant
    ∙ ap (λ dbs. map bare (map (base_section c.args.sound.now) dbs))
    (take_all c.loop-i.i (databases (file_of c.args.sound.now)) (omega (arith, c.loop-i-test.false, c.databases-i-end.ensures)))
