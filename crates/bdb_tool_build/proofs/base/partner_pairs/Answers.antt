use Rattle.std.proofs.Common.{[], ◌∙◌, ap, IfOk, map, subst, sym}
use Rattle.bdb_file.specs.of_databases.Named.{database_at}
use Rattle.bdb_model.specs.of_format.Terms.{file_of, list_of}
use Rattle.bdb_onto.specs.Bases.{base_of, text_pair}
use Rattle.bdb_onto.specs.Replaced.{AreEnough}
use Rattle.bdb_onto.proofs.ReplacedLemmas.{all_enough}
use Rattle.bdb_tool_build.proofs.BaseLemmas.{no_partner_here, partner_here, placed_within}
use Rattle.bdb_tool_build.proofs.OntoLemmas.{names_of_bare}
use Rattle.bdb_tool_build.proofs.base.partner_pairs.Goals as goal

pub place_of-requires : goal.place_of-requires
place_of-requires c = names_of_bare (base_of c.args.sound.now) c.args.base.now c.requires.is_base c.requires.bare

pub database_of-requires : goal.database_of-requires
database_of-requires c = placed_within c.args.sound.now c.args.base.now c.in-Some.place c.requires.bare c.in-Some.ensures.within

pub returns-in-Some : goal.returns-in-Some
returns-in-Some c =
    let section = c.args.section.now in
    let within = placed_within c.args.sound.now c.args.base.now c.in-Some.place c.requires.bare c.in-Some.ensures.within in
    subst (λ full. IfOk c.pairs_beside.result (AreEnough section.settings section.pairs full))
    (ap (λ db. map text_pair (list_of (file_of c.args.sound.now) (database_at (file_of c.args.sound.now) db).fields)) c.database_of.ensures
    ∙ partner_here c.args.sound.now c.args.base.now section c.in-Some.place c.requires.is_base c.requires.bare c.in-Some.ensures within)
    c.pairs_beside.ensures

pub returns-in-None : goal.returns-in-None
returns-in-None c =
    let section = c.args.section.now in
    subst (λ full. AreEnough section.settings section.pairs full c.new.result)
    (no_partner_here c.args.sound.now c.args.base.now section c.requires.is_base c.requires.bare c.in-None.ensures)
    (subst (AreEnough section.settings section.pairs []) (sym c.new.ensures) (all_enough section.settings section.pairs []))
