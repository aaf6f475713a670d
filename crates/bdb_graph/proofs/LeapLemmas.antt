-- Leaps over full pages, which are made longer on the way.
use Rattle.std.proofs.Common.{◌≡◌, ℕ, ◌<◌, ◌≤◌, Bool, true, List, length, set, arith, inl, inr, get_or, get_or-set_other}
use Rattle.std.proofs.lemmas.Bool.{cases_eq, cases_lt}
use Rattle.std.proofs.lemmas.Grind.{common_steps}
use Rattle.bdb_graph.specs.Leaps.{AllFull, AreLeaps, AreOver}

-- the pages from one on and below another are leapt over, by leaps that are right whatever is full
pub record IsOpening (old leaps : List ℕ) (from at : ℕ) : Type 0 where
  pub on : from ≤ at
  pub within : at < length leaps
  pub are : AreLeaps leaps
  pub over : (full : ℕ → Bool) → AreOver full old → AreOver full leaps
  pub full : (full : ℕ → Bool) → AreOver full old → AllFull full from at

-- the leap from a page, and the leap from there
longer : (leaps : List ℕ) (at : ℕ) → AreLeaps leaps → at < length leaps → at ≤ get_or leaps (get_or leaps at 0) 0
longer leaps at are low = grind arith

-- two leaps in one go over full pages
over_both : (full : ℕ → Bool) (leaps : List ℕ) (at q : ℕ) → AreLeaps leaps → AreOver full leaps → at < length leaps → at ≤ q
    → q < get_or leaps (get_or leaps at 0) 0 → full q ≡ true
over_both full leaps at q are over low on below = grind (arith, cases_lt)

-- the leap from a page goes to another, as far as that is right
pub leaps_set : (leaps : List ℕ) (at to : ℕ) → AreLeaps leaps → at ≤ to → to < length leaps → AreLeaps (set leaps at to)
leaps_set leaps at to are on within = grind (arith, cases_eq, set, common_steps, get_or-set_other)

pub over_set : (full : ℕ → Bool) (leaps : List ℕ) (at to : ℕ) → AreOver full leaps → at < length leaps → ((q : ℕ) → at ≤ q → q < to → full q ≡ true)
    → AreOver full (set leaps at to)
over_set full leaps at to over low here = grind (arith, cases_eq, common_steps, get_or-set_other)

pub opened_more : (old leaps : List ℕ) (from at : ℕ) → IsOpening old leaps from at
    → IsOpening old (set leaps at (get_or leaps (get_or leaps at 0) 0)) from (get_or leaps (get_or leaps at 0) 0)
opened_more old leaps from at is =
    let on : at ≤ get_or leaps (get_or leaps at 0) 0 = longer leaps at is.are is.within in
    let within : get_or leaps (get_or leaps at 0) 0 < length leaps = is.are.within (get_or leaps at 0) (is.are.within at is.within) in
    record {
      on = omega (arith, is.on);
      within = grind (arith, common_steps);
      are = leaps_set leaps at _ is.are on within;
      over = λ full before.
          over_set full leaps at _ (is.over full before) is.within
          (λ q here below. over_both full leaps at q is.are (is.over full before) is.within here below);
      full = λ full before q here below.
          elim (cases_lt q at) [
            | inl passed ↦ is.full full before q here passed
            | inr behind ↦ over_both full leaps at q is.are (is.over full before) is.within behind below
          ];
    }
