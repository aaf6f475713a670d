use Rattle.std.proofs.Common.{◌≡◌, None, get_or, length, ◌+◌, arith, ◌∙◌, ap}
use Rattle.std.proofs.lemmas.List.{length_push}
use Rattle.bdb_apart.proofs.NameLemmas.{no_names, none_more}
use Rattle.bdb_apart.proofs.names.no_names.Goals as goal

pub loop-page-preserved : goal.loop-page-preserved
loop-page-preserved c = record {
  len = ap length c.in_ok-push.ensures.items ∙ (length_push c.loop-page.names.items None ∙ ap (λ n. n + 1) c.loop-page.invariant.len);
  none = λ p. ap (λ names. get_or names p None) c.in_ok-push.ensures.items ∙ (none_more c.loop-page.names.items p ∙ c.loop-page.invariant.none p);
}

pub returns : goal.returns
returns c =
    let len : length c.loop-page.names.items ≡ c.args.count = omega (arith, c.loop-page.invariant.len, c.loop-page-test.false) in
    no_names c.args.count c.loop-page.names.items len (λ p there. c.loop-page.invariant.none p)
