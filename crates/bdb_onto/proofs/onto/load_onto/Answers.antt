use Rattle.std.proofs.Common.{◌≡◌, ◌∙◌, None, ap, map, subst, sym}
use Rattle.std.proofs.lemmas.Result.{IfErr-weaker, IfOk-weaker, on_ok_weaker}
use Rattle.bdb_mkfile.specs.of_settle.LoadErrors.{load_error}
use Rattle.bdb_mkfile.specs.of_settle.Loaded.{loaded_section}
use Rattle.bdb_mkfile.specs.Builds.{Builds}
use Rattle.bdb_mkfile.specs.Loading.{AreLoadable, IsLoadRefusal, loading_error}
use Rattle.bdb_mkfile.specs.Settled.{IsLaidOut}
use Rattle.bdb_onto.specs.Onto.{BuildsOnto, IsOntoRefusal, result_of}
use Rattle.bdb_onto.proofs.BuildLemmas.{joined_build_onto}
use Rattle.bdb_onto.proofs.ErrorLemmas.{joined_load_without_errors}
use Rattle.bdb_onto.proofs.FitLemmas.{joined_are_loadable}
use Rattle.bdb_onto.proofs.JoinLemmas.{joined_result}
use Rattle.bdb_onto.proofs.OntoLemmas.{load_refusal, loadable_onto, none_onto}
use Rattle.bdb_onto.proofs.SearchLemmas.{has_names}
use Rattle.bdb_onto.proofs.onto.load_onto.Goals as goal

pub join-requires-clause-names : goal.join-requires-clause-names
join-requires-clause-names c = has_names c.args.base c.requires.base

pub load_sound-requires-clause-fit : goal.load_sound-requires-clause-fit
load_sound-requires-clause-fit c =
    subst AreLoadable (sym c.in_ok-joined.ensures.joined)
    (joined_are_loadable c.args.base c.args.sections (loadable_onto c.args.base c.args.sections c.requires.base c.requires.fit c.in_ok-joined.ensures.sound))

pub load_sound-requires-clause-none : goal.load_sound-requires-clause-none
load_sound-requires-clause-none c =
    ap load_error c.in_ok-joined.ensures.joined
    ∙ joined_load_without_errors c.args.base c.args.sections
    (loadable_onto c.args.base c.args.sections c.requires.base c.requires.fit c.in_ok-joined.ensures.sound)

pub returns-clause-built : goal.returns-clause-built
returns-clause-built c =
    let loadable = loadable_onto c.args.base c.args.sections c.requires.base c.requires.fit c.in_ok-joined.ensures.sound in
    IfOk-weaker c.load_sound.result (λ image. Builds c.in_ok-joined.joined image) (λ image. BuildsOnto c.args.base c.args.sections image)
    (λ image builds.
    (joined_build_onto c.args.base c.args.sections loadable).built image (subst (λ all. Builds all image) c.in_ok-joined.ensures.joined builds))
    c.load_sound.ensures.built

pub returns-clause-laid_out : goal.returns-clause-laid_out
returns-clause-laid_out c =
    IfOk-weaker c.load_sound.result (λ image. IsLaidOut (map loaded_section c.in_ok-joined.joined) image)
    (λ image. IsLaidOut (result_of c.args.base c.args.sections) image)
    (λ image laid_out.
    subst (λ all. IsLaidOut all image)
    (ap (map loaded_section) c.in_ok-joined.ensures.joined ∙ joined_result c.args.base c.args.sections c.requires.base) laid_out)
    c.load_sound.ensures.laid_out

pub returns-clause-sound : goal.returns-clause-sound
returns-clause-sound c =
    let loadable = loadable_onto c.args.base c.args.sections c.requires.base c.requires.fit c.in_ok-joined.ensures.sound in
    on_ok_weaker c.load_sound.result
    (λ is.
    none_onto c.args.max c.args.base c.args.sections loadable c.in_ok-joined.ensures.sound
    (subst (λ all. loading_error c.args.max all ≡ None) c.in_ok-joined.ensures.joined is))
    c.load_sound.ensures.sound

pub returns-clause-refused : goal.returns-clause-refused
returns-clause-refused c =
    let loadable = loadable_onto c.args.base c.args.sections c.requires.base c.requires.fit c.in_ok-joined.ensures.sound in
    IfErr-weaker c.load_sound.result (IsLoadRefusal c.args.max c.in_ok-joined.joined) (IsOntoRefusal c.args.max c.args.base c.args.sections)
    (λ error is.
    load_refusal c.args.max c.args.base c.args.sections error loadable c.in_ok-joined.ensures.sound
    (subst (λ all. IsLoadRefusal c.args.max all error) c.in_ok-joined.ensures.joined is))
    c.load_sound.ensures.refused
