use Rattle.std.proofs.Common.{◌≡◌, ◌<◌, true, sym, subst, ◌∙◌, nat_lt}
use Rattle.std.proofs.lemmas.List.Elements.{All-from_get_or}
use Rattle.bdb_rescue.specs.Guesses.{chosen}
use Rattle.bdb_rescue.proofs.GuessLemmas.{chosen_legal}
use Rattle.bdb_law_kept.specs.of_text.WrittenLaw.{AreBytes}
use Rattle.bdb_repair.specs.Apart.{IsRepairedApart, sections_in}
use Rattle.bdb_repair.specs.ApartRoom.{apart_room}
use Rattle.bdb_repair.proofs.ApartRoomLemmas.{found_past}
use Rattle.bdb_repair.proofs.ApartLemmas.{found_built, found_loadable, found_may_come, nothing_built}
use Rattle.bdb_repair.proofs.apart.repair_apart.Goals as goal

-- The data alone have too many bytes.
pub returns-then-are_past-clause-repaired : goal.returns-then-are_past-clause-repaired
returns-then-are_past-clause-repaired g c =
    found_past c.args.max (chosen c.args.guess c.args.image.now) c.args.image.now c.in_ok-salvaged.salvaged
    (record {
      guess = c.in_ok-salvaged.ensures.guess;
      image_is = c.in_ok-salvaged.ensures.image;
      legal = chosen_legal c.args.guess c.args.image.now c.in_ok-salvaged.salvaged.guess c.requires.size c.in_ok-salvaged.ensures.guess;
    }) (subst (λ it. nat_lt c.args.max (apart_room it) ≡ true) c.in_ok-apart.ensures.apart (sym c.are_past.ensures ∙ c.if-are_past.true))

-- Nothing is found.
pub returns-then-is_empty-clause-repaired : goal.returns-then-is_empty-clause-repaired
returns-then-is_empty-clause-repaired g c =
    nothing_built c.args.max (chosen c.args.guess c.args.image.now) c.args.image.now c.in_ok-salvaged.salvaged c.in_ok-sections.sections
    (record {
      guess = c.in_ok-salvaged.ensures.guess;
      image_is = c.in_ok-salvaged.ensures.image;
      legal = chosen_legal c.args.guess c.args.image.now c.in_ok-salvaged.salvaged.guess c.requires.size c.in_ok-salvaged.ensures.guess;
    }) (subst (λ it. c.in_ok-sections.sections ≡ sections_in it) c.in_ok-apart.ensures.apart c.in_ok-sections.ensures)
    (sym c.is_empty.ensures ∙ c.if-is_empty.true)

-- The sections can be loaded.
pub load-requires-clause-fit : goal.load-requires-clause-fit
load-requires-clause-fit g c =
    let bytes : AreBytes c.args.image.now = All-from_get_or (λ byte. byte < 256) c.args.image.now 0 (λ i within. (c.type_inv.image i).fits) in
    found_loadable c.in_ok-salvaged.salvaged c.in_ok-sections.sections
    (chosen_legal c.args.guess c.args.image.now c.in_ok-salvaged.salvaged.guess c.requires.size c.in_ok-salvaged.ensures.guess)
    (subst AreBytes (sym c.in_ok-salvaged.ensures.image) bytes)
    (subst (λ it. c.in_ok-sections.sections ≡ sections_in it) c.in_ok-apart.ensures.apart c.in_ok-sections.ensures)
    (sym c.is_empty.ensures ∙ c.if-is_empty.false)

-- No error of their pairs comes.
pub answer_of-requires-clause-causes : goal.answer_of-requires-clause-causes
answer_of-requires-clause-causes g c =
    let bytes : AreBytes c.args.image.now = All-from_get_or (λ byte. byte < 256) c.args.image.now 0 (λ i within. (c.type_inv.image i).fits) in
    found_may_come c.args.max c.in_ok-salvaged.salvaged c.in_ok-sections.sections c.load.result
    (chosen_legal c.args.guess c.args.image.now c.in_ok-salvaged.salvaged.guess c.requires.size c.in_ok-salvaged.ensures.guess)
    (subst AreBytes (sym c.in_ok-salvaged.ensures.image) bytes)
    (subst (λ it. c.in_ok-sections.sections ≡ sections_in it) c.in_ok-apart.ensures.apart c.in_ok-sections.ensures)
    c.load.ensures.refused

-- What loading them answers.
pub returns-clause-repaired : goal.returns-clause-repaired
returns-clause-repaired g c =
    let bytes : AreBytes c.args.image.now = All-from_get_or (λ byte. byte < 256) c.args.image.now 0 (λ i within. (c.type_inv.image i).fits) in
    subst (IsRepairedApart c.args.max (chosen c.args.guess c.args.image.now) c.args.image.now) (sym c.answer_of.ensures.answer)
    (found_built c.args.max (chosen c.args.guess c.args.image.now) c.args.image.now c.in_ok-salvaged.salvaged c.in_ok-sections.sections c.load.result
    (record {
      guess = c.in_ok-salvaged.ensures.guess;
      image_is = c.in_ok-salvaged.ensures.image;
      legal = chosen_legal c.args.guess c.args.image.now c.in_ok-salvaged.salvaged.guess c.requires.size c.in_ok-salvaged.ensures.guess;
    }) (subst AreBytes (sym c.in_ok-salvaged.ensures.image) bytes)
    (subst (λ it. c.in_ok-sections.sections ≡ sections_in it) c.in_ok-apart.ensures.apart c.in_ok-sections.ensures)
    (sym c.is_empty.ensures ∙ c.if-is_empty.false) c.load.ensures.built c.load.ensures.sound c.load.ensures.refused)
