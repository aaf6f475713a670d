use Rattle.std.proofs.Common.{◌≡◌, ◌∷◌, ◌++◌, [], sym, ◌∙◌, ap, map, reverse, subst}
use Rattle.std.specs.List.{All}
use Rattle.std.proofs.lemmas.List.Elements.{All-head, All-tail}
use Rattle.bdb_model.specs.of_text_format.declared.sections.Section.{Section}
use Rattle.bdb_onto.specs.Bare.{with_before, with_partner}
use Rattle.bdb_onto.specs.Bases.{base_of}
use Rattle.bdb_onto.specs.Lists.{AreListedTo, IsCountable, IsListRefusal, IsPartRefusal}
use Rattle.bdb_onto.specs.Onto.{pairs_from, partner_of}
use Rattle.bdb_onto.specs.of_settle.Loaded.{ordered_section}
use Rattle.bdb_onto.proofs.ReplacedLemmas.{enough_countable, enough_section}
use Rattle.bdb_onto.proofs.ListsLemmas.{all_listed, next_refused, none_listed, one_listed}
use Rattle.bdb_tool_build.proofs.OntoLemmas.{none_popped, popped, refused_as}
use Rattle.bdb_tool_build.proofs.onto.lists_onto.Goals as goal

-- At first all sections are still to come.
pub loop-section-init : goal.loop-section-init
loop-section-init c =
    let with_its : Section → Section = with_partner (base_of c.args.sound.now) in
    let all = map with_its c.args.sections in
    let are : map with_its (reverse c.in_ok-left.left.items) ≡ all = ap (map with_its) c.in_ok-left.ensures in
    record {
      page_size = ap (λ it. it.page_size) c.new-lists.ensures;
      max = ap (λ it. it.max) c.new-lists.ensures;
      countable = subst (All (IsCountable c.args.base.now.page_size)) (sym are) c.requires.countable;
      to =
          subst (AreListedTo all c.new-lists.result.lists) (sym are)
          (subst (λ lists. AreListedTo all lists all) (sym (ap (λ it. it.lists) c.new-lists.ensures)) (none_listed all));
    }

-- The next one can be counted, behind the pairs of its partner.
pub push-requires : goal.push-requires
push-requires c =
    let with_its : Section → Section = with_partner (base_of c.args.sound.now) in
    let next = popped with_its c.loop-section.left.items c.pop.new.self.items c.in-Some.section c.in-Some.ensures.items in
    subst (λ size. IsCountable size (with_before c.in_ok-before.before c.in-Some.section)) (sym c.loop-section.invariant.page_size)
    (enough_countable c.args.base.now.page_size c.in-Some.section (pairs_from (partner_of (base_of c.args.sound.now) c.in-Some.section)) c.in_ok-before.before
    c.in_ok-before.ensures (All-head (IsCountable c.args.base.now.page_size) (with_its c.in-Some.section) (map with_its (reverse c.pop.new.self.items))
    (subst (All (IsCountable c.args.base.now.page_size)) next c.loop-section.invariant.countable)))

pub loop-section-preserved : goal.loop-section-preserved
loop-section-preserved c =
    let with_its : Section → Section = with_partner (base_of c.args.sound.now) in
    let all = map with_its c.args.sections in
    let rest = map with_its (reverse c.pop.new.self.items) in
    let next = popped with_its c.loop-section.left.items c.pop.new.self.items c.in-Some.section c.in-Some.ensures.items in
    let section : ordered_section (with_before c.in_ok-before.before c.in-Some.section) ≡ ordered_section (with_its c.in-Some.section) =
    enough_section c.in-Some.section (pairs_from (partner_of (base_of c.args.sound.now) c.in-Some.section)) c.in_ok-before.before c.in_ok-before.ensures in
    record {
      page_size = c.push.ensures.page_size ∙ c.loop-section.invariant.page_size;
      max = c.push.ensures.max ∙ c.loop-section.invariant.max;
      countable =
          All-tail (IsCountable c.args.base.now.page_size) (with_its c.in-Some.section) rest
          (subst (All (IsCountable c.args.base.now.page_size)) next c.loop-section.invariant.countable);
      to =
          one_listed all c.loop-section.lists.lists c.push.new.self.lists (with_its c.in-Some.section) rest
          (subst (AreListedTo all c.loop-section.lists.lists) next c.loop-section.invariant.to)
          (c.in_ok-push.ensures.ok ∙ ap (λ s. c.loop-section.lists.lists ++ s ∷ []) section);
    }

pub returns-in_err-push-clause-refused : goal.returns-in_err-push-clause-refused
returns-in_err-push-clause-refused c =
    let with_its : Section → Section = with_partner (base_of c.args.sound.now) in
    let all = map with_its c.args.sections in
    let next = popped with_its c.loop-section.left.items c.pop.new.self.items c.in-Some.section c.in-Some.ensures.items in
    let section : ordered_section (with_before c.in_ok-before.before c.in-Some.section) ≡ ordered_section (with_its c.in-Some.section) =
    enough_section c.in-Some.section (pairs_from (partner_of (base_of c.args.sound.now) c.in-Some.section)) c.in_ok-before.before c.in_ok-before.ensures in
    let lists = c.loop-section.lists.lists in
    let error = c.in_err-push.field-0.0 in
    refused_as c.from_residual-in_err-push.result (IsPartRefusal c.args.base.now.page_size c.args.max all) error c.from_residual-in_err-push.ensures.1
    (next_refused c.args.base.now.page_size c.args.max all lists (with_its c.in-Some.section) (map with_its (reverse c.pop.new.self.items)) error
    (subst (AreListedTo all lists) next c.loop-section.invariant.to)
    (subst (λ s. IsListRefusal c.args.base.now.page_size c.args.max (lists ++ s ∷ []) error) section
    (subst (λ size. IsListRefusal size c.args.max (lists ++ ordered_section (with_before c.in_ok-before.before c.in-Some.section) ∷ []) error)
    c.loop-section.invariant.page_size
    (subst (λ max. IsListRefusal c.loop-section.lists.page_size max (lists ++ ordered_section (with_before c.in_ok-before.before c.in-Some.section) ∷ []) error)
    c.loop-section.invariant.max c.in_err-push.ensures.refused))))

pub returns-clause-lists : goal.returns-clause-lists
returns-clause-lists c =
    let with_its : Section → Section = with_partner (base_of c.args.sound.now) in
    let all = map with_its c.args.sections in
    c.into_sections.ensures
    ∙ all_listed all c.loop-section.lists.lists
    (subst (AreListedTo all c.loop-section.lists.lists)
    (none_popped with_its c.loop-section.left.items (sym c.loop-section.left.ok.0 ∙ c.in_default.ensures.cases.0)) c.loop-section.invariant.to)
