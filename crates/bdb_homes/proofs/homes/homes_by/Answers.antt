use Rattle.std.proofs.Common.{◌≡◌, ◌∙◌, None, ap, get_or, length, sym}
use Rattle.bdb_graph.proofs.TallyLemmas.{written_back}
use Rattle.bdb_homes.proofs.homes.homes_by.Goals as goal

pub returns-clause-homes : goal.returns-clause-homes
returns-clause-homes c = λ file p are claimed low.
    let len : length c.spread_both.new.homes ≡ c.in_ok-homes.homes.len =
    c.spread_both.auto.homes ∙ (ap length c.deref_mut.ensures.value ∙ sym c.in_ok-homes.homes.ok.0) in
    let back = written_back c.in_ok-homes.homes.len c.spread_both.new.homes c.in_ok-homes.homes.items len (sym c.in_ok-homes.homes.ok.0) in
    ap (λ xs. get_or xs p None) back
    ∙ c.spread_both.ensures file are
    (λ q below. ap (λ xs. get_or xs q None) c.deref_mut.ensures.value ∙ c.in_ok-homes.ensures.own file q claimed below) p low
