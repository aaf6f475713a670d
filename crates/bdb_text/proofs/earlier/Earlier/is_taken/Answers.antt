-- A search by the order of bytes finds the name exactly where it is one of the names.
use Rattle.std.proofs.Common.{Some, sym, ◌∙◌, ap}
use Rattle.std.specs.List.{list_any}
use Rattle.bdb_spelling.specs.of_format.Terms.{is_name}
use Rattle.bdb_text.specs.SectionTo.{names_of}
use Rattle.bdb_text.proofs.EarlierLemmas.{found_by_order}
use Rattle.bdb_text.proofs.earlier.Earlier.is_taken.Goals as goal

pub returns-in-Some : goal.returns-in-Some
returns-in-Some c =
    c.contains.ensures
    ∙ found_by_order c.as_slice.result.now c.self.inside.names
    ∙ c.self.invariant.named c.as_slice.result.now
    ∙ ap (λ name. list_any (is_name (Some name)) (names_of c.self.inside.sections)) c.as_slice.ensures
    ∙ ap (λ sections. list_any (is_name (Some c.in-Some.name)) (names_of sections)) c.self.view_is
    ∙ ap (λ name. list_any (is_name name) (names_of c.args.self.now)) (sym c.in-Some.is)
