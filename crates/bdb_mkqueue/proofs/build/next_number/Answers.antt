use Rattle.std.proofs.Common.{length, ◌-◌, arith, sym, ◌∙◌, ap, ◌+◌, option_map}
use Rattle.bdb_text_format.specs.Terms.{key_seen, number_of, pair_seen, pairs_of, slice_seen}
use Rattle.bdb_mkqueue.proofs.LastLemmas.{IsLastOf, last_key, next_last, none_last}
use Rattle.bdb_mkqueue.proofs.StepLemmas.{no_pair}
use Rattle.bdb_mkqueue.proofs.build.next_number.Goals as goal

pub overflow_add-result : goal.overflow_add-result
overflow_add-result c =
    let list = pairs_of c.args.list in
    let last : IsLastOf list (key_seen c.in-Some.pair.key) =
    last_key (slice_seen c.args.list) (pair_seen c.in-Some.pair) (sym c.last.ensures ∙ ap (option_map pair_seen) c.in-Some.is) in
    let few = c.requires (length list - 1) no_pair (omega (arith, last.some)) in
    omega (arith, few, c.number_of.ensures ∙ ap number_of last.is)

pub returns-in-Some : goal.returns-in-Some
returns-in-Some c =
    let list = pairs_of c.args.list in
    let last : IsLastOf list (key_seen c.in-Some.pair.key) =
    last_key (slice_seen c.args.list) (pair_seen c.in-Some.pair) (sym c.last.ensures ∙ ap (option_map pair_seen) c.in-Some.is) in
    ap (λ n. n + 1) (c.number_of.ensures ∙ ap number_of last.is) ∙ sym (next_last list last.some)

pub returns-in-None : goal.returns-in-None
returns-in-None c = none_last (slice_seen c.args.list) (sym c.last.ensures ∙ ap (option_map pair_seen) c.in-None.is)
