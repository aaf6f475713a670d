use Rattle.std.proofs.Common.{◌+◌, ◌-◌, ◌≡◌, List, ◌∙◌, ap, arith, drop, length, map, subst, sym, take}
use Rattle.bdb_mktree.proofs.Common.{prefix_len, length-drop, key_seen, keys_of, pairs_of, slice_seen, unlined_pairs, TextPair, KeyedUnit, HasBytes, IsRunAt, has_key}
use Rattle.bdb_text_format.specs.of_places.Places.{values_seen}
use Rattle.bdb_mktree.proofs.ListLemmas.{first_has_key, has_bytes_at, is_run, run_long}
use Rattle.bdb_mktree.proofs.runs.run_at.Goals as goal

pub unreachable-requires : goal.unreachable-requires
unreachable-requires c = subst HasBytes (ap key_seen c.in_default.is) (has_bytes_at (slice_seen c.args.list) c.args.start _ c.requires.keys c.at.ensures)

pub run_length-requires : goal.run_length-requires
run_length-requires c =
    first_has_key c.in-Bytes.key.now (slice_seen c.args.list) (slice_seen c.split_at.result.1) c.args.start _ c.at.ensures (ap key_seen c.in-Bytes.is)
    c.split_at.ensures.rest

pub split_at-requires-2 : goal.split_at-requires-2
split_at-requires-2 c = run_long c.in-Bytes.key.now (slice_seen c.split_at.result.1) c.run_length.result c.run_length.ensures

pub returns : goal.returns
returns c =
    let pairs : List TextPair = slice_seen c.args.list in
    let key = c.in-Bytes.key.now in
    let many = c.run_length.result in
    let values : values_seen c.values.result ≡ map (λ (pair : TextPair). pair.value) (take many (drop c.args.start pairs)) =
    c.values.ensures
    ∙ (ap (map (λ (pair : TextPair). pair.value)) c.split_at-2.ensures.before
    ∙ ap (λ ps. map (λ (pair : TextPair). pair.value) (take many ps)) c.split_at.ensures.rest) in
    let long : many ≡ prefix_len (has_key key) (keys_of (unlined_pairs (drop c.args.start pairs))) =
    c.run_length.ensures ∙ ap (λ ps. prefix_len (has_key key) (keys_of (unlined_pairs ps))) c.split_at.ensures.rest in
    let most = run_long key (slice_seen c.split_at.result.1) many c.run_length.ensures in
    let end : c.len.result - c.len-2.result ≡ c.args.start + many =
    omega (
      arith,
      most,
      c.requires.more,
      c.len.ensures,
      c.len-2.ensures,
      ap length c.split_at.ensures.rest,
      ap length c.split_at-2.ensures.rest,
      length-drop c.args.start pairs,
      length-drop many (slice_seen c.split_at.result.1),
    ) in
    subst (IsRunAt (pairs_of c.args.list) c.args.start (KeyedUnit key (values_seen c.values.result))) (sym end)
    (subst (λ vs. IsRunAt (pairs_of c.args.list) c.args.start (KeyedUnit key vs) (c.args.start + many)) (sym values)
    (is_run pairs c.args.start many key _ c.requires.keys c.at.ensures (ap key_seen c.in-Bytes.is) long))
