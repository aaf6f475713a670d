use Rattle.std.proofs.Common.{ap, sym, ◌∙◌}
use Rattle.std.specs.List.{count_by}
use Rattle.bdb_apart.specs.of_rescue.Kept.{Reading, file_in, untaken_on}
use Rattle.bdb_damage.specs.Tallies.{is_fit_at}
use Rattle.bdb_damage.proofs.TallyLemmas.{fit_is}
use Rattle.bdb_damage.proofs.record_counts.fit_on.Goals as goal

pub returns-in-Some-clause-count : goal.returns-in-Some-clause-count
returns-in-Some-clause-count c =
    fit_is (file_in c.args.apart.now) c.args.holds c.args.page c.in-Some.start c.fit_from.result (sym c.start_on.ensures ∙ c.in-Some.is)
    (c.fit_from.ensures
    ∙ ap (λ (r : Reading). count_by (is_fit_at (file_in r) c.args.holds c.in-Some.start) (untaken_on (file_in r) c.args.page)) c.salvaged.ensures)
