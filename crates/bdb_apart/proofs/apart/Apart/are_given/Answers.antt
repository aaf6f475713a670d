use Rattle.std.proofs.Common.{◌≡◌, length, arith, sym, ◌∙◌, ap}
use Rattle.bdb_rescue.specs.Kept.{file_in}
use Rattle.bdb_rescue.specs.of_format.Terms.{page_at}
use Rattle.bdb_apart.specs.Found.{found}
use Rattle.bdb_apart.specs.Given.{above, db_at}
use Rattle.bdb_apart.specs.Kept.{pairs_in}
use Rattle.bdb_apart.specs.Left.{held_at}
use Rattle.bdb_apart.proofs.HeldLemmas.{given_none, given_some}
use Rattle.bdb_apart.proofs.MetaLemmas.{above_at, aboves_len}
use Rattle.bdb_apart.proofs.apart.Apart.are_given.Goals as goal

pub above-requires : goal.above-requires
above-requires c =
    let len : length c.self.inside.rows ≡ (file_in c.args.self.now).count =
    aboves_len (file_in c.self.inside.salvaged.now) c.self.inside.rows c.self.invariant.rows ∙ ap (λ r. (file_in r).count) c.self.view_is in
    omega (arith, c.requires, len)

pub returns-in-Some : goal.returns-in-Some
returns-in-Some c =
    let file = file_in c.args.self.now in
    let page = page_at file c.args.page in
    let at : c.above.result ≡ above file c.args.page =
    c.above.ensures
    ∙ above_at file c.self.inside.rows c.args.page (rw c.self.view_is at c.self.invariant.rows) c.requires in
    c.holds_pairs.ensures
    ∙ (ap (pairs_in c.in-Some.holds) c.kind.ensures
    ∙ given_some page (db_at (found c.args.self.now) (above file c.args.page)) c.in-Some.holds
    (sym (ap (held_at (found c.args.self.now)) at) ∙ (sym c.held_at.ensures ∙ c.in-Some.is)))

pub returns-in-None : goal.returns-in-None
returns-in-None c =
    let file = file_in c.args.self.now in
    let at : c.above.result ≡ above file c.args.page =
    c.above.ensures
    ∙ above_at file c.self.inside.rows c.args.page (rw c.self.view_is at c.self.invariant.rows) c.requires in
    given_none (page_at file c.args.page) (db_at (found c.args.self.now) (above file c.args.page))
    (sym (ap (held_at (found c.args.self.now)) at) ∙ (sym c.held_at.ensures ∙ c.in-None.is))
