use Rattle.std.proofs.Common.{◌≡◌, ◌⊎◌, Some, map, subst, sym}
use Rattle.std.specs.List.{All}
use Rattle.std.proofs.lemmas.Result.{IfErr-weaker, IfOk-weaker, on_ok_weaker}
use Rattle.bdb_onto.specs.of_settle.declared.load_error.LoadError.TheVariants.{Memory}
use Rattle.bdb_onto.specs.declared.base.Base.{Base}
use Rattle.bdb_onto.specs.Bare.{with_partner}
use Rattle.bdb_onto.specs.Bases.{base_of}
use Rattle.bdb_onto.specs.Lists.{IsCountable, IsPartRefusal}
use Rattle.bdb_onto.specs.Onto.{BuildsOnto, joined, loading_error_onto}
use Rattle.bdb_onto.proofs.ListsLemmas.{joined_countable, list_refused}
use Rattle.bdb_tool_build.proofs.OntoLemmas.{all_joined, are_lists_onto, bare_loadable, found_onto, join_refused, names_of_bare, none_on_base, refused_as}
use Rattle.bdb_tool_build.proofs.onto.image_onto.Goals as goal

pub join-requires-clause-names : goal.join-requires-clause-names
join-requires-clause-names c = names_of_bare (base_of c.args.sound.now) c.in_ok-bare.bare c.requires.base c.in_ok-bare.ensures

pub lists_onto-requires-clause-countable : goal.lists_onto-requires-clause-countable
lists_onto-requires-clause-countable c =
    let base = base_of c.args.sound.now in
    let loadable = bare_loadable base c.in_ok-bare.bare c.args.sections c.requires.base c.requires.fit c.in_ok-bare.ensures c.in_ok-joined.ensures.sound in
    let are : map (with_partner base) c.in_ok-joined.joined ≡ joined base c.args.sections =
    all_joined base c.in_ok-bare.bare c.args.sections c.in_ok-joined.joined c.requires.base c.in_ok-bare.ensures c.in_ok-joined.ensures.joined in
    subst (λ (b : Base). All (IsCountable b.page_size) (map (with_partner base) c.in_ok-joined.joined)) (sym c.in_ok-base.ensures)
    (subst (All (IsCountable base.page_size)) (sym are) (joined_countable base c.args.sections loadable))

pub load_lists-requires-clause-lists : goal.load_lists-requires-clause-lists
load_lists-requires-clause-lists c = record {
  base = base_of c.args.sound.now;
  sections = c.args.sections;
  onto = are_lists_onto (base_of c.args.sound.now) c.in_ok-bare.bare c.args.sections c.in_ok-joined.joined c.in_ok-lists.lists c.requires.base
      c.requires.fit c.in_ok-bare.ensures c.in_ok-joined.ensures.joined c.in_ok-joined.ensures.sound c.in_ok-lists.ensures.lists;
}

pub returns-in_err-joined-clause-refused : goal.returns-in_err-joined-clause-refused
returns-in_err-joined-clause-refused c =
    let base = base_of c.args.sound.now in
    let error = c.in_err-joined.field-0.0 in
    refused_as c.from_residual-in_err-joined.result (λ e. (e ≡ Memory) ⊎ (loading_error_onto c.args.max base c.args.sections ≡ Some e)) error
    c.from_residual-in_err-joined.ensures.1
    (join_refused c.args.max base c.in_ok-bare.bare c.args.sections error c.in_ok-bare.ensures c.in_err-joined.ensures.refused)

pub returns-in_err-lists-clause-refused : goal.returns-in_err-lists-clause-refused
returns-in_err-lists-clause-refused c =
    let base = base_of c.args.sound.now in
    let loadable = bare_loadable base c.in_ok-bare.bare c.args.sections c.requires.base c.requires.fit c.in_ok-bare.ensures c.in_ok-joined.ensures.sound in
    let none = none_on_base base c.in_ok-bare.bare c.args.sections c.in_ok-bare.ensures c.in_ok-joined.ensures.sound in
    let error = c.in_err-lists.field-0.0 in
    refused_as c.from_residual-in_err-lists.result (λ e. (e ≡ Memory) ⊎ (loading_error_onto c.args.max base c.args.sections ≡ Some e)) error
    c.from_residual-in_err-lists.ensures.1
    (found_onto c.args.max base c.args.sections error
    (list_refused c.args.max base c.args.sections (map (with_partner base) c.in_ok-joined.joined) error loadable none
    (all_joined base c.in_ok-bare.bare c.args.sections c.in_ok-joined.joined c.requires.base c.in_ok-bare.ensures c.in_ok-joined.ensures.joined)
    (subst (λ (b : Base). IsPartRefusal b.page_size c.args.max (map (with_partner base) c.in_ok-joined.joined) error) c.in_ok-base.ensures
    c.in_err-lists.ensures.refused)))

pub returns-clause-built : goal.returns-clause-built
returns-clause-built c =
    let base = base_of c.args.sound.now in
    IfOk-weaker c.load_lists.result _ (λ image. BuildsOnto base c.args.sections image)
    (λ image built. built base c.args.sections
    (are_lists_onto base c.in_ok-bare.bare c.args.sections c.in_ok-joined.joined c.in_ok-lists.lists c.requires.base c.requires.fit c.in_ok-bare.ensures
    c.in_ok-joined.ensures.joined c.in_ok-joined.ensures.sound c.in_ok-lists.ensures.lists))
    c.load_lists.ensures.built

pub returns-clause-sound : goal.returns-clause-sound
returns-clause-sound c =
    let base = base_of c.args.sound.now in
    on_ok_weaker c.load_lists.result
    (λ sound. sound base c.args.sections
    (are_lists_onto base c.in_ok-bare.bare c.args.sections c.in_ok-joined.joined c.in_ok-lists.lists c.requires.base c.requires.fit c.in_ok-bare.ensures
    c.in_ok-joined.ensures.joined c.in_ok-joined.ensures.sound c.in_ok-lists.ensures.lists)
    (none_on_base base c.in_ok-bare.bare c.args.sections c.in_ok-bare.ensures c.in_ok-joined.ensures.sound))
    c.load_lists.ensures.sound

pub returns-clause-refused : goal.returns-clause-refused
returns-clause-refused c =
    let base = base_of c.args.sound.now in
    IfErr-weaker c.load_lists.result _ (λ error. (error ≡ Memory) ⊎ (loading_error_onto c.args.max base c.args.sections ≡ Some error))
    (λ error refused. found_onto c.args.max base c.args.sections error
    (refused base c.args.sections
    (are_lists_onto base c.in_ok-bare.bare c.args.sections c.in_ok-joined.joined c.in_ok-lists.lists c.requires.base c.requires.fit c.in_ok-bare.ensures
    c.in_ok-joined.ensures.joined c.in_ok-joined.ensures.sound c.in_ok-lists.ensures.lists)
    (none_on_base base c.in_ok-bare.bare c.args.sections c.in_ok-bare.ensures c.in_ok-joined.ensures.sound)))
    c.load_lists.ensures.refused
