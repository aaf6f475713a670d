use Rattle.std.proofs.Common.{◌≡◌, ◌∷◌, ◌++◌, [], ◌∙◌, ap, map, subst, sym, IfOk}
use Rattle.std.specs.Vec.Iter.{into_iter_items}
use Rattle.std.specs.List.{AllZip}
use Rattle.bdb_onto.specs.Joining.{IsJoinedTo, behind, place_placed, placed_section, taken_at}
use Rattle.bdb_onto.specs.Search.{IsPartnerAt}
use Rattle.bdb_onto.proofs.JoiningLemmas.{all_placed, at_end, at_first, nothing_left, one_more, place_within, zip_long}
use Rattle.bdb_onto.proofs.joining.joined.Goals as goal

pub with_places-requires : goal.with_places-requires
with_places-requires c = zip_long c.args.base c.args.sections c.args.places.items c.requires.places

-- At first all databases stand in their places.
pub loop-placed-init : goal.loop-placed-init
loop-placed-init c =
    let base = c.args.base in
    let items = c.in_ok-sections.sections.items in
    let zip : AllZip (IsPartnerAt base) (map placed_section items) (map place_placed items) =
    subst (AllZip (IsPartnerAt base) (map placed_section items)) (sym c.in_ok-sections.ensures.places)
    (subst (λ ss. AllZip (IsPartnerAt base) ss c.args.places.items) (sym c.in_ok-sections.ensures.sections) c.requires.places) in
    let gives : into_iter_items c.into_iter-placed-iterator.result ≡ items = cc in
    subst (IsJoinedTo base c.args.sections c.in_ok-places.places.items c.new-all.result) (sym gives)
    (subst (λ all. IsJoinedTo base c.args.sections c.in_ok-places.places.items all items) (sym c.new-all.ensures)
    (subst (λ places. IsJoinedTo base c.args.sections places [] items) (sym c.in_ok-places.ensures)
    (at_first base c.args.sections items c.in_ok-sections.ensures.sections (all_placed base items zip))))

pub take_at-partner-requires : goal.take_at-partner-requires
take_at-partner-requires c =
    let places = c.loop-placed.places.items in
    let rest = into_iter_items c.next.new.self in
    place_within c.args.base c.args.sections places c.loop-placed.all c.in-Some.placed rest
    (subst (IsJoinedTo c.args.base c.args.sections places c.loop-placed.all) c.in-Some.ensures.steps.0 c.loop-placed.invariant)

pub loop-placed-preserved : goal.loop-placed-preserved
loop-placed-preserved c =
    let base = c.args.base in
    let places = c.loop-placed.places.items in
    let placed = c.in-Some.placed in
    let rest = into_iter_items c.next.new.self in
    let to : IsJoinedTo base c.args.sections places c.loop-placed.all (placed ∷ rest) =
    subst (IsJoinedTo base c.args.sections places c.loop-placed.all) c.in-Some.ensures.steps.0 c.loop-placed.invariant in
    let more : c.push.new.self ≡ c.loop-placed.all ++ (behind base.page_size base.order (taken_at places placed.place) placed.section ∷ []) =
    c.in_ok-push.ensures.ok
    ∙ ap (λ section. c.loop-placed.all ++ (section ∷ []))
    (c.in_ok-behind.ensures ∙ ap (λ partner. behind base.page_size base.order partner placed.section) c.take_at-partner.ensures.taken) in
    subst (λ all. IsJoinedTo base c.args.sections c.take_at-partner.new.places.items all rest) (sym more)
    (subst (λ left. IsJoinedTo base c.args.sections left (c.loop-placed.all
    ++ (behind base.page_size base.order (taken_at places placed.place) placed.section ∷ [])) rest)
    (sym c.take_at-partner.ensures.left) (one_more base c.args.sections places c.loop-placed.all placed rest c.requires.names c.requires.apart to))

pub returns : goal.returns
returns c =
    let none : into_iter_items c.loop-placed.placed-iterator ≡ [] =
    nothing_left (into_iter_items c.loop-placed.placed-iterator) (sym c.loop-placed.placed-iterator.rest.ok.0 ∙ c.in-None.ensures.steps.0) in
    let to : IsJoinedTo c.args.base c.args.sections c.loop-placed.places.items c.loop-placed.all [] =
    subst (IsJoinedTo c.args.base c.args.sections c.loop-placed.places.items c.loop-placed.all) none c.loop-placed.invariant in
    subst (λ every. IfOk c.with_left.result (λ all. all ≡ every)) (at_end c.args.base c.args.sections c.loop-placed.places.items c.loop-placed.all to)
    c.with_left.ensures
