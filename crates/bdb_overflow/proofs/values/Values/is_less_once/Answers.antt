use Rattle.std.proofs.Common.{◌≡◌, ◌∙◌, List, ℕ, ap, subst, sym, option_copied}
use Rattle.bdb_graph.specs.of_format.Terms.{file_of, less}
use Rattle.bdb_overflow.specs.Held.{chain_value}
use Rattle.bdb_overflow.proofs.HeldLemmas.{found_more}
use Rattle.bdb_overflow.proofs.values.Values.is_less_once.Goals as goal

pub returns-in-Some-clause-less : goal.returns-in-Some-clause-less
returns-in-Some-clause-less c =
    c.self.invariant.each c.args.a c.args.b c.in-Some.is'.now (sym c.get.ensures.value ∙ ap option_copied c.in-Some.is)
    ∙ ap (λ image. less (chain_value (file_of image) c.args.a) (chain_value (file_of image) c.args.b)) c.self.view_is

pub invariant_of-self-2 : goal.invariant_of-self-2
invariant_of-self-2 c =
    let inside = c.self.inside in
    found_more inside.forest inside.found c.insert.new.self c.args.a c.args.b c.is_less_by_pages-is.result c.self.invariant
    (subst (λ (image : List ℕ). c.is_less_by_pages-is.result ≡ less (chain_value (file_of image) c.args.a) (chain_value (file_of image) c.args.b))
    (sym c.self.view_is) c.is_less_by_pages-is.ensures)
    c.in_ok-insert.ensures.updates
