use Rattle.std.proofs.Common.{◌∙◌, map, subst}
use Rattle.std.proofs.lemmas.Result.{IfOk-weaker}
use Rattle.bdb_file.specs.of_databases.Named.{database_at}
use Rattle.bdb_model.specs.of_format.Terms.{file_of, list_of}
use Rattle.bdb_onto.specs.Bases.{text_pair}
use Rattle.bdb_onto.specs.Replaced.{AreEnough}
use Rattle.bdb_tool_build.specs.Gathered.{IsEnough}
use Rattle.bdb_tool_build.proofs.base.pairs_beside.Goals as goal

pub returns : goal.returns
returns c =
    let section = c.args.section.now in
    let beside = c.in_ok-beside.beside in
    let full = map text_pair (list_of (file_of c.args.sound.now) (database_at (file_of c.args.sound.now) c.args.db).fields) in
    IfOk-weaker c.base_pairs.result (IsEnough beside full) (AreEnough section.settings section.pairs full)
    (λ kept enough. subst (λ settings. AreEnough settings section.pairs full kept) c.in_ok-beside.ensures.settings
    (subst (λ text. AreEnough beside.settings text full kept) (c.in_ok-beside.ensures.pairs ∙ c.as_slice.ensures) enough)) c.base_pairs.ensures
