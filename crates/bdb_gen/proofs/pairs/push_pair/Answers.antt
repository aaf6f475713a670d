use Rattle.std.proofs.Common.{◌++◌, ◌∷◌, [], ◌%◌, ◌∙◌, ap, arith}
use Rattle.std.proofs.lemmas.Result.{on_ok_weaker}
use Rattle.bdb_text_format.specs.declared.pairs.Pair.{Pair}
use Rattle.bdb_text_format.specs.Terms.{key_seen}
use Rattle.bdb_gen.proofs.PairLemmas.{pair_is, same_bytes}
use Rattle.bdb_gen.proofs.pairs.push_pair.Goals as goal

pub returns : goal.returns
returns c =
    on_ok_weaker c.push_lent.result
    (λ same. same
    ∙ ap (λ (pair : Pair). c.args.list.now ++ pair ∷ [])
    (pair_is c.args.kind c.args.x c.args.i (key_seen c.in_ok-pair_key.field-0) _ c.value_length.result c.in_ok-pair_key.ensures
    (same_bytes c.value_length.result 64 (c.args.i % 256) (omega (arith, c.value_length.ensures.below))) c.value_length.ensures.length))
    c.push_lent.ensures.ok
