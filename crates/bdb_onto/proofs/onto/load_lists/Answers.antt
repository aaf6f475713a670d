use Rattle.std.proofs.Common.{◌≡◌, List, None}
use Rattle.std.proofs.lemmas.Result.{IfErr-weaker, IfOk-weaker, on_ok_weaker}
use Rattle.bdb_mkfile.specs.of_text_format.declared.sections.Section.{Section}
use Rattle.bdb_mkfile.specs.Builds.{Builds}
use Rattle.bdb_mkfile.specs.Loading.{IsLoadRefusal}
use Rattle.bdb_onto.specs.declared.base.Base.{Base}
use Rattle.bdb_onto.specs.Lists.{AreListsOnto}
use Rattle.bdb_onto.specs.Onto.{BuildsOnto, IsOntoRefusal, onto_error}
use Rattle.bdb_onto.proofs.ListsLemmas.{lists_are_loadable, lists_build_onto, lists_refused, lists_sound, lists_without_errors}
use Rattle.bdb_onto.proofs.onto.load_lists.Goals as goal

pub load_sound-requires-clause-fit : goal.load_sound-requires-clause-fit
load_sound-requires-clause-fit c = let it = c.requires.lists in lists_are_loadable it.base it.sections c.args.lists it.onto

pub load_sound-requires-clause-none : goal.load_sound-requires-clause-none
load_sound-requires-clause-none c = let it = c.requires.lists in lists_without_errors it.base it.sections c.args.lists it.onto

pub returns-clause-built : goal.returns-clause-built
returns-clause-built c =
    IfOk-weaker c.load_sound.result (λ image. Builds c.args.lists image)
    (λ image. (base : Base) (sections : List Section) → AreListsOnto base sections c.args.lists → BuildsOnto base sections image)
    (λ image builds base sections onto. lists_build_onto base sections c.args.lists image onto builds) c.load_sound.ensures.built

pub returns-clause-sound : goal.returns-clause-sound
returns-clause-sound c =
    on_ok_weaker c.load_sound.result
    (λ is base sections onto none. lists_sound c.args.max base sections c.args.lists onto none is) c.load_sound.ensures.sound

pub returns-clause-refused : goal.returns-clause-refused
returns-clause-refused c =
    IfErr-weaker c.load_sound.result (IsLoadRefusal c.args.max c.args.lists)
    (λ error. (base : Base) (sections : List Section) → AreListsOnto base sections c.args.lists → onto_error base sections ≡ None
    → IsOntoRefusal c.args.max base sections error)
    (λ error is base sections onto none. lists_refused c.args.max base sections c.args.lists error onto none is) c.load_sound.ensures.refused
