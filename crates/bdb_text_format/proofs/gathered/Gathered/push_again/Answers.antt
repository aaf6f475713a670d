use Rattle.std.proofs.Common.{arith, ap, ◌∙◌}
use Rattle.bdb_places.specs.Places.{span_in}
use Rattle.bdb_text_format.specs.Terms.{Gathering, pair_with, placed_key, with_pair}
use Rattle.bdb_text_format.proofs.GatheredLemmas.{again_more}
use Rattle.bdb_text_format.proofs.gathered.Gathered.push_again.Goals as goal

pub loop-i-preserved : goal.loop-i-preserved
loop-i-preserved c =
    c.in_ok-push_one.ensures.ok
    ∙ (ap (λ (it : Gathering). with_pair (pair_with (placed_key it.bytes c.args.key) (span_in c.loop-i.self.bytes c.value_at.result) 0) c.loop-i.self)
    c.loop-i.invariant
    ∙ again_more c.args.self.now c.loop-i.self _ c.args.from c.loop-i.i _ (omega arith) (omega (arith, c.requires.there, c.loop-i-test.true)) c.loop-i.invariant
    c.value_at.ensures.value)
