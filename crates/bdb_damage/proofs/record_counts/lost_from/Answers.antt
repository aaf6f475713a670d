use Rattle.std.proofs.Common.{arith, ap, sym, ◌∙◌}
use Rattle.std.specs.List.{count_by}
use Rattle.bdb_apart.specs.of_format.Terms.{entries_in, page_at}
use Rattle.bdb_apart.specs.of_rescue.Kept.{Reading, file_in, untaken_on}
use Rattle.bdb_damage.specs.Tallies.{is_fit_at, live_slots_in}
use Rattle.bdb_damage.proofs.TallyLemmas.{lost_nowhere, lost_records_are}
use Rattle.bdb_damage.proofs.record_counts.lost_from.Goals as goal

pub overflow_sub-result : goal.overflow_sub-result
overflow_sub-result c =
    omega (
      arith,
      c.live_on.ensures,
      ap (λ (r : Reading). live_slots_in (entries_in (page_at (file_in r) c.args.page))) c.salvaged.ensures,
      c.fit_from.ensures,
      ap (λ (r : Reading). count_by (is_fit_at (file_in r) c.args.holds c.in-Some.start) (untaken_on (file_in r) c.args.page)) c.salvaged-in-Some.ensures,
      lost_records_are (file_in c.args.apart.now) c.args.holds c.args.page c.in-Some.start (sym c.start_on.ensures ∙ c.in-Some.is) c.requires.free,
    )

pub returns-in-Some : goal.returns-in-Some
returns-in-Some c =
    omega (
      arith,
      c.live_on.ensures,
      ap (λ (r : Reading). live_slots_in (entries_in (page_at (file_in r) c.args.page))) c.salvaged.ensures,
      c.fit_from.ensures,
      ap (λ (r : Reading). count_by (is_fit_at (file_in r) c.args.holds c.in-Some.start) (untaken_on (file_in r) c.args.page)) c.salvaged-in-Some.ensures,
      lost_records_are (file_in c.args.apart.now) c.args.holds c.args.page c.in-Some.start (sym c.start_on.ensures ∙ c.in-Some.is) c.requires.free,
    )

pub returns-in-None : goal.returns-in-None
returns-in-None c = sym (lost_nowhere (file_in c.args.apart.now) c.args.holds c.args.page c.requires.free (sym c.start_on.ensures ∙ c.in-None.is))
