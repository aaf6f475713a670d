use Rattle.std.proofs.Common.{rules}
use Rattle.std.proofs.lemmas.Result.{on_ok_weaker}
use Rattle.std.proofs.lemmas.Fn.{always_returns_same}
use Rattle.bdb_settle.specs.Leads.{led_before}
use Rattle.bdb_settle.proofs.LedLemmas.{leads_weakly}
use Rattle.bdb_settle.proofs.leads.sort_led.Goals as goal

-- Each comparison answers by the order of leads and pairs.
pub returns-clause-sorted : goal.returns-clause-sorted
returns-clause-sorted c =
    on_ok_weaker c.sort_by.result
    (λ sorted. sorted (led_before c.args.settings.now c.args.bytes.now) (leads_weakly c.args.settings.now c.args.bytes.now)
    (always_returns_same _ _ _ (λ a r f k. search rules)))
    c.sort_by.ensures.sorted

pub returns-clause-stable : goal.returns-clause-stable
returns-clause-stable c =
    c.sort_by.ensures.stable (led_before c.args.settings.now c.args.bytes.now) (leads_weakly c.args.settings.now c.args.bytes.now)
    (always_returns_same _ _ _ (λ a r f k. search rules))
