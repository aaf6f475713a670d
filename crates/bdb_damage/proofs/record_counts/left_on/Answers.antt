use Rattle.std.proofs.Common.{arith, ap, length, map, refl, sym, ◌∙◌}
use Rattle.std.specs.List.{count_by}
use Rattle.std.proofs.lemmas.List.Sums.{count_by-le-length}
use Rattle.bdb_apart.specs.of_rescue.Kept.{Reading, file_in, numbered_at, untaken_on}
use Rattle.bdb_apart.specs.Found.{found}
use Rattle.bdb_apart.proofs.LeftLemmas.{loose_none, loose_some}
use Rattle.bdb_damage.specs.Tallies.{is_fit_at}
use Rattle.bdb_damage.proofs.TallyLemmas.{loose_all, loose_counted}
use Rattle.bdb_damage.proofs.record_counts.left_on.Goals as goal

pub overflow_sub-result : goal.overflow_sub-result
overflow_sub-result c =
    omega (
      arith,
      c.untaken_on.ensures,
      ap (λ (r : Reading). length (untaken_on (file_in r) c.args.page)) c.salvaged.ensures,
      c.fit_from.ensures,
      ap (λ (r : Reading). count_by (is_fit_at (file_in r) c.in-Some.holds c.in-Some.start) (untaken_on (file_in r) c.args.page)) c.salvaged-in-Some.ensures,
      count_by-le-length (is_fit_at (file_in c.args.apart.now) c.in-Some.holds c.in-Some.start) (untaken_on (file_in c.args.apart.now) c.args.page),
    )

pub returns-in-Some-clause-left : goal.returns-in-Some-clause-left
returns-in-Some-clause-left c =
    omega (
      arith,
      c.untaken_on.ensures,
      ap (λ (r : Reading). length (untaken_on (file_in r) c.args.page)) c.salvaged.ensures,
      c.fit_from.ensures,
      ap (λ (r : Reading). count_by (is_fit_at (file_in r) c.in-Some.holds c.in-Some.start) (untaken_on (file_in r) c.args.page)) c.salvaged-in-Some.ensures,
      loose_counted (file_in c.args.apart.now) c.in-Some.holds c.in-Some.start (untaken_on (file_in c.args.apart.now) c.args.page),
      ap (λ values. length values)
          (loose_some (file_in c.args.apart.now) (found c.args.apart.now) c.args.page c.in-Some.start c.in-Some.holds
          (map (numbered_at (file_in c.args.apart.now) c.in-Some.start) (untaken_on (file_in c.args.apart.now) c.args.page))
          (sym c.start.ensures ∙ c.in-Some.is) refl),
    )

pub returns-in-None-clause-left : goal.returns-in-None-clause-left
returns-in-None-clause-left c =
    omega (
      arith,
      c.untaken_on-in-None.ensures,
      ap (λ (r : Reading). length (untaken_on (file_in r) c.args.page)) c.salvaged-in-None.ensures,
      loose_all (file_in c.args.apart.now) (untaken_on (file_in c.args.apart.now) c.args.page),
      ap (λ values. length values)
          (loose_none (file_in c.args.apart.now) (found c.args.apart.now) c.args.page
          (map (numbered_at (file_in c.args.apart.now) 0) (untaken_on (file_in c.args.apart.now) c.args.page)) (sym c.start.ensures ∙ c.in-None.is) refl),
    )
