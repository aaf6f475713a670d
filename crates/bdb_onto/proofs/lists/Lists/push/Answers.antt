use Rattle.std.proofs.Common.{◌≡◌, ◌∷◌, ◌++◌, ◌<◌, ◌≤◌, ◌+◌, ◌*◌, ◌∙◌, [], ap, List, inr, map, refl, subst, sym}
use Rattle.std.specs.List.{list_all}
use Rattle.bdb_mkfile.specs.Lengths.{is_short_pair}
use Rattle.bdb_mkfile.specs.of_settle.Loaded.{ordered, ordered_section, unnumbered}
use Rattle.bdb_mkfile.specs.of_settle.declared.load_error.LoadError.TheVariants.{TooLarge}
use Rattle.bdb_mkfile.specs.of_text_format.declared.pairs.TextPair.{TextPair}
use Rattle.bdb_mkfile.specs.of_text_format.declared.sections.Section.{Section}
use Rattle.bdb_onto.specs.Bare.{with_before}
use Rattle.bdb_onto.specs.Lists.{IsListRefusal, Listing, list_bytes}
use Rattle.bdb_onto.proofs.ListsLemmas.{list_counted, list_settled}
use Rattle.bdb_onto.proofs.lists.Lists.push.Goals as goal

pub counted-requires : goal.counted-requires
counted-requires c =
    let section : Section = with_before c.args.before c.args.section in
    let list : c.in_ok-own.own ≡ map unnumbered (ordered section.settings section.pairs) =
    c.in_ok-own.ensures.pairs ∙ c.in_ok-list.ensures ∙ ap (λ pairs. map unnumbered (ordered section.settings pairs)) c.in_ok-pairs.ensures in
    list_settled c.args.self.now.page_size section c.in_ok-own.own c.requires list
    (ap (list_all is_short_pair) c.in_ok-own.ensures.pairs ∙ c.in_ok-own.ensures.short)

pub returns-in_default-clause-refused : goal.returns-in_default-clause-refused
returns-in_default-clause-refused c =
    let inside = c.self.inside in
    let section : Section = with_before c.args.before c.args.section in
    let list : c.in_ok-own.own ≡ map unnumbered (ordered section.settings section.pairs) =
    c.in_ok-own.ensures.pairs ∙ c.in_ok-list.ensures ∙ ap (λ pairs. map unnumbered (ordered section.settings pairs)) c.in_ok-pairs.ensures in
    let sized : section.settings.page_size ≡ inside.page_size = c.requires.sized ∙ sym (ap (λ (it : Listing). it.page_size) c.self.view_is) in
    let all : inside.taken + c.in_ok-it.it.pages * inside.page_size ≡ list_bytes inside.page_size (inside.lists ++ ordered_section section ∷ []) =
    list_counted inside.page_size inside.taken c.in_ok-it.it.pages inside.lists section c.in_ok-own.own sized list c.in_ok-it.ensures.pages
    c.self.invariant in
    subst (λ (it : Listing). IsListRefusal it.page_size it.max (it.lists ++ ordered_section section ∷ []) TooLarge) c.self.view_is
    (inr (refl, subst (λ n. inside.max < n) all c.in_default.ensures))

pub returns-clause-within : goal.returns-clause-within
returns-clause-within c =
    let inside = c.self.inside in
    let section : Section = with_before c.args.before c.args.section in
    let list : c.in_ok-own.own ≡ map unnumbered (ordered section.settings section.pairs) =
    c.in_ok-own.ensures.pairs ∙ c.in_ok-list.ensures ∙ ap (λ pairs. map unnumbered (ordered section.settings pairs)) c.in_ok-pairs.ensures in
    let sized : section.settings.page_size ≡ inside.page_size = c.requires.sized ∙ sym (ap (λ (it : Listing). it.page_size) c.self.view_is) in
    let all : inside.taken + c.in_ok-it.it.pages * inside.page_size ≡ list_bytes inside.page_size (inside.lists ++ ordered_section section ∷ []) =
    list_counted inside.page_size inside.taken c.in_ok-it.it.pages inside.lists section c.in_ok-own.own sized list c.in_ok-it.ensures.pages
    c.self.invariant in
    subst (λ (it : Listing). list_bytes it.page_size (it.lists ++ ordered_section section ∷ []) ≤ it.max) c.self.view_is
    (subst (λ n. n ≤ inside.max) (c.in-Some.ensures.0 ∙ all) c.in-Some.ensures.1)

pub invariant_of-self-2 : goal.invariant_of-self-2
invariant_of-self-2 c =
    let inside = c.self.inside in
    let section : Section = with_before c.args.before c.args.section in
    let list : c.in_ok-own.own ≡ map unnumbered (ordered section.settings section.pairs) =
    c.in_ok-own.ensures.pairs ∙ c.in_ok-list.ensures ∙ ap (λ pairs. map unnumbered (ordered section.settings pairs)) c.in_ok-pairs.ensures in
    let sized : section.settings.page_size ≡ inside.page_size = c.requires.sized ∙ sym (ap (λ (it : Listing). it.page_size) c.self.view_is) in
    let all : inside.taken + c.in_ok-it.it.pages * inside.page_size ≡ list_bytes inside.page_size (inside.lists ++ ordered_section section ∷ []) =
    list_counted inside.page_size inside.taken c.in_ok-it.it.pages inside.lists section c.in_ok-own.own sized list c.in_ok-it.ensures.pages
    c.self.invariant in
    c.in-Some.ensures.0
    ∙ all
    ∙ ap (list_bytes inside.page_size)
    (sym (c.in_ok-push.ensures.ok
    ∙ ap (λ (pairs : List TextPair). inside.lists ++ record { name = section.name; settings = section.settings; header_line = 0; pairs = pairs } ∷ [])
    (c.in_ok-it.ensures.pairs ∙ list)))
